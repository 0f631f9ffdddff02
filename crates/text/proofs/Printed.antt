-- A number that was printed is read again: `number` of its decimal digits is that number, both of those that std's `{}` writes and of
-- those that the kit's `io::decimal` writes, with zeros before them. Assumes nothing.
use Rattle.std.proofs.Common.{◌≡◌, refl, ap, ◌∙◌, ℕ, zero, suc, ◌+◌, ◌/◌, ◌%◌, ◌^◌, ◌<◌, ◌≤◌, Bool, true, false, cond, ◌&&◌, List, [], ◌∷◌, ◌++◌, decimal, ltb, pow-suc, arith, lt-ltb, le-leb, Some, None, length}
use Rattle.std.proofs.lemmas.Fmt.{decimal_by_steps, decimal_nonempty}
use Rattle.io.specs.Digits.{hex_digit_ascii, last_digits}
use Rattle.std.specs.Prelude.{option_and_then}
use Rattle.text.specs.Words.{is_digit, grown, number_after, number}

-- one digit more at the end
longer : (v : ℕ) (xs : List ℕ) (u b : ℕ) → number_after v xs ≡ Some u → is_digit b ≡ true → grown u b < 2 ^ 64 → number_after v (xs ++ (b ∷ [])) ≡ Some (grown u b)
unfolding number_after
longer v [] u b e d f =
    let same : v ≡ u = cc in
    rw (same, d, lt-ltb (grown u b) (2 ^ 64) f)
longer v (x ∷ xs) u b e d f = split (is_digit x && ltb (grown v x) (2 ^ 64)) (λ h. longer (grown v x) xs u b h d f) e
  where
    split : (t : Bool) → (number_after (grown v x) xs ≡ Some u → number_after (grown v x) (xs ++ (b ∷ [])) ≡ Some (grown u b)) → option_and_then (λ w. number_after w xs) (cond t (Some (grown v x)) None) ≡ Some u → option_and_then (λ w. number_after w (xs ++ (b ∷ []))) (cond t (Some (grown v x)) None) ≡ Some (grown u b)
    split true later h = later h
    split false later h = cc

-- the last digit after the digits before it
last : (n : ℕ) (xs : List ℕ) → n < 2 ^ 64 → number_after 0 xs ≡ Some (n / 10) → number_after 0 (xs ++ ((48 + n % 10) ∷ [])) ≡ Some n
last n xs f e =
    let d : is_digit (48 + n % 10) ≡ true = rw (le-leb 48 (48 + n % 10) (omega arith)) (le-leb (48 + n % 10) 57 (omega arith)) in
    let g : grown (n / 10) (48 + n % 10) ≡ n = omega arith in
    longer 0 xs (n / 10) (48 + n % 10) e d (omega (arith, g)) ∙ ap Some g

-- the glyph of a digit is its digit
glyph_is : (d : ℕ) → d < 10 → hex_digit_ascii d ≡ 48 + d
glyph_is d h = rw (lt-ltb d 10 h)

all_digits : (k n : ℕ) → n < 10 ^ k → n < 2 ^ 64 → number_after 0 (last_digits 10 k n) ≡ Some n
unfolding number_after
all_digits zero n h f = ap Some (omega arith)
all_digits (suc k) n h f =
    let b : hex_digit_ascii (n % 10) ≡ 48 + n % 10 = glyph_is (n % 10) (omega arith) in
    let l : n / 10 < 10 ^ k = omega (arith, rw (pow-suc 10 k) at h) in
    rw b (last n (last_digits 10 k (n / 10)) f (all_digits k (n / 10) l (omega arith)))

pub printed_read : (k n : ℕ) → n < 10 ^ suc k → n < 2 ^ 64 → number (last_digits 10 (suc k) n) ≡ Some n
unfolding number
printed_read k n h f = some (last_digits 10 k (n / 10)) (hex_digit_ascii (n % 10)) ∙ all_digits (suc k) n h f
  where
    some : (xs : List ℕ) (b : ℕ) → number (xs ++ (b ∷ [])) ≡ number_after 0 (xs ++ (b ∷ []))
    some [] b = refl
    some (x ∷ xs) b = refl

-- no digits yet
start : number_after 0 [] ≡ Some 0
unfolding number_after
start = refl

-- a row with a digit
number_some : (digits : List ℕ) → (length digits ≡ 0 → ⊥) → number digits ≡ number_after 0 digits
unfolding number
number_some [] n = absurd (n refl)
number_some (b ∷ bs) n = refl

-- what `{}` writes
pub decimal_read : (n : ℕ) → n < 2 ^ 64 → number (decimal n) ≡ Some n
decimal_read n f = number_some (decimal n) (λ e. let more = decimal_nonempty n f in omega arith) ∙ decimal_by_steps (λ (m : ℕ) (ds : List ℕ). m < 2 ^ 64 → number_after 0 ds ≡ Some m) one more n f f
  where
    one : (m : ℕ) → m < 10 → m < 2 ^ 64 → number_after 0 ((48 + m) ∷ []) ≡ Some m
    one m h g =
        let d : is_digit (48 + m) ≡ true = rw (le-leb 48 (48 + m) (omega arith)) (le-leb (48 + m) 57 (omega arith)) in
        let e : grown 0 (48 + m) ≡ m = omega arith in
        longer 0 [] 0 (48 + m) start d (omega (arith, e)) ∙ ap Some e

    more : (m : ℕ) (ds : List ℕ) → 10 ≤ m → (m / 10 < 2 ^ 64 → number_after 0 ds ≡ Some (m / 10)) → m < 2 ^ 64 → number_after 0 (ds ++ ((48 + m % 10) ∷ [])) ≡ Some m
    more m ds h before g = last m ds g (before (omega arith))
