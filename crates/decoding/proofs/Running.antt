-- The running sums of the order-6 way, over the width W. Every sum is a prefix of a prediction's, in the order of the weights and
-- from the bias, so the two laws of the rule keep it inside the accumulator. Assumes nothing.
use mathlib.Core.Path.{◌≡◌, refl, sym, ap, ◌∙◌}
use mathlib.Core.Bool.{true}
use mathlib.Core.List.{List, [], ◌∷◌, ◌++◌, map}
use Prim.Native.Nat.{ℕ, zero, suc, ◌+◌, ◌-◌, ◌^◌, ◌≤◌, ◌<◌}
use native.Mathlib.Nat.{not-suc-le-zero, le_of_suc-le-suc}
use native.Mathlib.Numerals.{add-one}
use native.Mathlib.Omega.{arith}
use lib.Dec.{lit<}
use lib.IntN.{ℤ, pos, nat_abs, ◌+ℤ◌, ◌*ℤ◌, *ℤ-zero, +ℤ_idr}
use lib.ListN.{length, get_or, take, drop, length-append, length-take, length-drop, length-map}
use lib.Pow.{pow_pos}
use lib.Seq.{get_or_at, take-suc, drop-append-le, drop-drop, get_or-drop}
use Rattle.std.proofs.lemmas.List.{get_or-map}
use Rattle.rule.specs.Numbers.{accumulator}
use Rattle.rule.specs.Prediction.{admitted, sum_at}
use Rattle.rule.proofs.Sums.{prefix_inside, product_inside, sum_next, sum_whole}
use Rattle.sample.proofs.Numbers.{numbers-append, numbers-drop}
use Rattle.decoding.specs.Running.{six, running_sums, Runs, shifted}

-- six elements are the list, whatever stands for one that is missing
pub all_six : {A : Type 0} (l : List A) → length l ≡ 6 → (a b c d e f : A)
    → six (get_or l 0 a) (get_or l 1 b) (get_or l 2 c) (get_or l 3 d) (get_or l 4 e) (get_or l 5 f) ≡ l
all_six [] h = absurd (omega arith)
all_six (a ∷ []) h = absurd (omega arith)
all_six (a ∷ b ∷ []) h = absurd (omega arith)
all_six (a ∷ b ∷ c ∷ []) h = absurd (omega arith)
all_six (a ∷ b ∷ c ∷ d ∷ []) h = absurd (omega arith)
all_six (a ∷ b ∷ c ∷ d ∷ e ∷ []) h = absurd (omega arith)
all_six (a ∷ b ∷ c ∷ d ∷ e ∷ f ∷ []) h = λ u v w x y z. refl
all_six (a ∷ b ∷ c ∷ d ∷ e ∷ f ∷ g ∷ l) h = absurd (omega arith)

pub six_are : {A : Type 0} (d : A) (l : List A) → length l ≡ 6
    → six (get_or l 0 d) (get_or l 1 d) (get_or l 2 d) (get_or l 3 d) (get_or l 4 d) (get_or l 5 d) ≡ l
six_are d l h = all_six l h d d d d d d

-- the oldest of six goes, and y comes
pub shifted_are : {A : Type 0} (l : List A) → length l ≡ 6 → (a b c d e y : A)
    → six (get_or l 1 a) (get_or l 2 b) (get_or l 3 c) (get_or l 4 d) (get_or l 5 e) y ≡ drop 1 l ++ y ∷ []
shifted_are [] h = absurd (omega arith)
shifted_are (a ∷ []) h = absurd (omega arith)
shifted_are (a ∷ b ∷ []) h = absurd (omega arith)
shifted_are (a ∷ b ∷ c ∷ []) h = absurd (omega arith)
shifted_are (a ∷ b ∷ c ∷ d ∷ []) h = absurd (omega arith)
shifted_are (a ∷ b ∷ c ∷ d ∷ e ∷ []) h = absurd (omega arith)
shifted_are (a ∷ b ∷ c ∷ d ∷ e ∷ f ∷ []) h = λ u v w x y z. refl
shifted_are (a ∷ b ∷ c ∷ d ∷ e ∷ f ∷ g ∷ l) h = absurd (omega arith)

-- what it leaves of the numbers
pub numbers_shifted : {A : Type 0} {number : A → ℕ} {numbers : List A → List ℕ} → ((xs : List A) → numbers xs ≡ map number xs)
    → (xs : List A) (x : A) → numbers (drop 1 xs ++ x ∷ []) ≡ shifted (numbers xs) (number x)
numbers_shifted are xs x = rw (numbers-append are (drop 1 xs) (x ∷ []), numbers-drop are 1 xs, are (x ∷ [])) refl

-- samples ys that come one after another
abbrev pub come : List ℕ → List ℕ → List ℕ
come xs [] = xs
come xs (y ∷ ys) = come (shifted xs y) ys

come_more : (xs ys : List ℕ) (y : ℕ) → come xs (ys ++ y ∷ []) ≡ shifted (come xs ys) y
come_more xs [] y = refl
come_more xs (z ∷ ys) y = come_more (shifted xs z) ys y

pub come_next : (xs ys : List ℕ) (i : ℕ) {known next : List ℕ} {y : ℕ} → i < length ys → get_or ys i 0 ≡ y
    → known ≡ come xs (take i ys) → next ≡ shifted known y → next ≡ come xs (take (i + 1) ys)
come_next xs ys i {y = y} h e k n = n ∙ rw (k, add-one, take-suc ys i 0 h, e) (sym (come_more xs (take i ys) y))

pub all_came : (xs : List ℕ) → length xs ≡ 6 → come (six 0 0 0 0 0 0) xs ≡ xs
all_came xs full = ap (come (six 0 0 0 0 0 0)) (sym (six_are 0 xs full)) ∙ six_are 0 xs full

-- samples past the weights count for nothing
sum_front : (s : ℤ) (ws : List ℤ) (xs ys : List ℕ) → length ws ≤ length xs → sum_at s ws (xs ++ ys) ≡ sum_at s ws xs
sum_front s [] xs ys h = refl
sum_front s (w ∷ ws) [] ys h = absurd (not-suc-le-zero h)
sum_front s (w ∷ ws) (x ∷ xs) ys h = sum_front (s +ℤ w *ℤ pos x) ws xs ys (le_of_suc-le-suc h)

below_more : (n : ℕ) (xs : List ℕ) (y : ℕ) → ((i : ℕ) → get_or xs i 0 < n) → y < n → (i : ℕ) → get_or (xs ++ y ∷ []) i 0 < n
below_more n [] y h k zero = k
below_more n [] y h k (suc i) = omega arith
below_more n (x ∷ xs) y h k zero = h 0
below_more n (x ∷ xs) y h k (suc i) = below_more n xs y (λ j. h (suc j)) k i

-- ---- before any sample came
sum_none : (s : ℤ) (ws : List ℤ) (xs : List ℕ) → ((i : ℕ) → get_or xs i 0 ≡ 0) → sum_at s ws xs ≡ s
sum_none s [] xs h = refl
sum_none s (w ∷ ws) [] h = refl
sum_none s (w ∷ ws) (x ∷ xs) h = rw (h 0, *ℤ-zero w, +ℤ_idr s) (sum_none s ws xs (λ i. h (suc i)))

zeros : (i : ℕ) → ◌≡◌ {A = ℕ} (get_or (six 0 0 0 0 0 0) i 0) 0
zeros zero = refl
zeros (suc zero) = refl
zeros (suc (suc zero)) = refl
zeros (suc (suc (suc zero))) = refl
zeros (suc (suc (suc (suc zero)))) = refl
zeros (suc (suc (suc (suc (suc zero))))) = refl
zeros (suc (suc (suc (suc (suc (suc i)))))) = refl

pub none_runs : (W : ℕ) (bias : ℤ) (ws : List ℤ) → length ws ≡ 6 → admitted W bias ws ≡ true
    → Runs W bias ws (six 0 0 0 0 0 0) (six bias bias bias bias bias bias)
none_runs W bias ws six-weights admits =
    record {
      weights = six-weights;
      samples = refl;
      admits = admits;
      below = λ i. rw (zeros i) (pow_pos W);
      sums =
          rw (
            sum_none bias ws (six 0 0 0 0 0 0) zeros,
            sum_none bias (take 5 ws) (drop 1 (six 0 0 0 0 0 0)) (λ i. zeros (suc i)),
            sum_none bias (take 4 ws) (drop 2 (six 0 0 0 0 0 0)) (λ i. zeros (suc (suc i))),
            sum_none bias (take 3 ws) (drop 3 (six 0 0 0 0 0 0)) (λ i. zeros (suc (suc (suc i)))),
            sum_none bias (take 2 ws) (drop 4 (six 0 0 0 0 0 0)) (λ i. zeros (suc (suc (suc (suc i))))),
            sum_none bias (take 1 ws) (drop 5 (six 0 0 0 0 0 0)) (λ i. zeros (suc (suc (suc (suc (suc i)))))),
          );
    }

-- ---- a sample comes
pub sum_at_lem : {W : ℕ} {bias : ℤ} {ws : List ℤ} {xs : List ℕ} {ns : List ℤ} → Runs W bias ws xs ns → (j : ℕ) → get_or ns j (pos 0) ≡ get_or (running_sums bias ws xs) j (pos 0)
sum_at_lem r j = ap (λ (l : List ℤ). get_or l j (pos 0)) r.sums

module _ {W : ℕ} {bias : ℤ} {ws : List ℤ} {xs : List ℕ} {ns : List ℤ} (r : Runs W bias ws xs ns) (y : ℕ) (small : y < 2 ^ W) where
  shifted_below : (i : ℕ) → get_or (shifted xs y) i 0 < 2 ^ W
  shifted_below = below_more (2 ^ W) (drop 1 xs) y (λ i. rw get_or-drop (r.below (1 + i))) small

  -- the samples of a later sum, with y behind them
  later : (i : ℕ) → i < 6 → drop (5 - i) (shifted xs y) ≡ drop (6 - i) xs ++ y ∷ []
  later i h =
      let e : 1 + (5 - i) ≡ 6 - i = omega arith in
      drop-append-le (5 - i) (drop 1 xs) (y ∷ []) (simp length-drop (omega (arith, r.samples))) ∙ rw (drop-drop (5 - i) 1 xs, e)

  as_many : (i : ℕ) → i < 6 → length (drop (6 - i) xs) ≡ i
  as_many i h = length-drop (6 - i) xs ∙ omega (arith, r.samples)

  -- a sum with the term of y more is the next sum
  sum_more : (i : ℕ) → i < 6 → sum_at bias (take (i + 1) ws) (drop (5 - i) (shifted xs y)) ≡ sum_at bias (take i ws) (drop (6 - i) xs) +ℤ get_or ws i (pos 0) *ℤ pos y
  sum_more i h =
      let k : length (take i ws) ≤ length (drop (6 - i) xs) = simp (length-take, as_many i h) (omega arith) in
      rw (
        later i h,
        sum_next bias ws (drop (6 - i) xs ++ y ∷ []) i (omega (arith, r.weights)) (omega (arith, length-append (drop (6 - i) xs) (y ∷ []), as_many i h)),
        sum_front bias (take i ws) (drop (6 - i) xs) (y ∷ []) k,
        get_or_at (drop (6 - i) xs) y [] 0 i (as_many i h),
      )

  -- where a term is added, it lies inside the accumulator, and the sum with it does
  pub asked : (i : ℕ) → i < 6 → {n : ℤ} → n ≡ sum_at bias (take i ws) (drop (6 - i) xs)
      → (nat_abs (get_or ws i (pos 0) *ℤ pos y) < 2 ^ (accumulator W - 1)) × (nat_abs (n +ℤ get_or ws i (pos 0) *ℤ pos y) < 2 ^ (accumulator W - 1))
  asked i h is = (
    product_inside W bias ws r.admits i y small,
    rw (is, ← sum_more i h)
        (prefix_inside W bias ws r.admits (i + 1) (drop (5 - i) (shifted xs y)) (record { below = λ j. rw get_or-drop (shifted_below (5 - i + j)) })),
  )

  -- the sum of i terms is n, and with one more it is v
  one_more : (i : ℕ) → i < 6 → {n v : ℤ} → n ≡ sum_at bias (take i ws) (drop (6 - i) xs) → v ≡ n +ℤ get_or ws i (pos 0) *ℤ pos y
      → v ≡ sum_at bias (take (i + 1) ws) (drop (5 - i) (shifted xs y))
  one_more i h en ev = ev ∙ ap (λ (z : ℤ). z +ℤ get_or ws i (pos 0) *ℤ pos y) en ∙ sym (sum_more i h)

  -- the sample that comes, and the six sums with its terms
  pub next_runs : {a b c d e f : ℤ}
      → a ≡ get_or ns 1 (pos 0) +ℤ get_or ws 5 (pos 0) *ℤ pos y
      → b ≡ get_or ns 2 (pos 0) +ℤ get_or ws 4 (pos 0) *ℤ pos y
      → c ≡ get_or ns 3 (pos 0) +ℤ get_or ws 3 (pos 0) *ℤ pos y
      → d ≡ get_or ns 4 (pos 0) +ℤ get_or ws 2 (pos 0) *ℤ pos y
      → e ≡ get_or ns 5 (pos 0) +ℤ get_or ws 1 (pos 0) *ℤ pos y
      → f ≡ bias +ℤ get_or ws 0 (pos 0) *ℤ pos y
      → Runs W bias ws (shifted xs y) (six a b c d e f)
  next_runs ea eb ec ed ee ef =
      record {
        weights = r.weights;
        samples = length-append (drop 1 xs) (y ∷ []) ∙ omega (arith, length-drop 1 xs, r.samples);
        admits = r.admits;
        below = shifted_below;
        sums =
            rw (
              one_more 5 (lit< tt) (sum_at_lem r 1) ea ∙ sum_whole bias ws (shifted xs y) 6 (omega (arith, r.weights)),
              one_more 4 (lit< tt) (sum_at_lem r 2) eb,
              one_more 3 (lit< tt) (sum_at_lem r 3) ec,
              one_more 2 (lit< tt) (sum_at_lem r 4) ed,
              one_more 1 (lit< tt) (sum_at_lem r 5) ee,
              one_more 0 (lit< tt) refl ef,
            );
      }

-- ---- numbers in a register, each of which stands for an integer
module _ {Z : Type 0} (wide : Z → ℤ) (ws ns : List Z) {W : ℕ} {bias : ℤ} {xs : List ℕ} (r : Runs W bias (map wide ws) xs (map wide ns)) where
  weight_is : (i : ℕ) → i < 6 → (w : Z) → get_or (map wide ws) i (pos 0) ≡ wide (get_or ws i w)
  weight_is i h w = get_or-map wide ws i w (pos 0) (omega (arith, length-map ws wide, r.weights))

  pub sum_is : (j : ℕ) → j < 6 → (n : Z) → get_or (map wide ns) j (pos 0) ≡ wide (get_or ns j n)
  sum_is j h n = get_or-map wide ns j n (pos 0) (omega (arith, length-map ns wide, ap length r.sums))

  -- the sum in place j has a term for each of the first 6 - j weights
  pub asked_at : (j : ℕ) → 1 ≤ j → j < 6 → get_or (map wide ns) j (pos 0) ≡ sum_at bias (take (6 - j) (map wide ws)) (drop (6 - (6 - j)) xs)
      → (n w : Z) (y : ℕ) → y < 2 ^ W
      → (nat_abs (wide (get_or ws (6 - j) w) *ℤ pos y) < 2 ^ (accumulator W - 1)) × (nat_abs (wide (get_or ns j n) +ℤ wide (get_or ws (6 - j) w) *ℤ pos y) < 2 ^ (accumulator W - 1))
  asked_at j some few is n w y small =
      rw (← weight_is (6 - j) (omega arith) w, ← sum_is j few n) (asked r y small (6 - j) (omega arith) is)

  -- and the new sum there
  pub made_at : (j : ℕ) → 1 ≤ j → j < 6 → (n w : Z) {v : ℤ} (y : ℕ) → v ≡ wide (get_or ns j n) +ℤ wide (get_or ws (6 - j) w) *ℤ pos y
      → v ≡ get_or (map wide ns) j (pos 0) +ℤ get_or (map wide ws) (6 - j) (pos 0) *ℤ pos y
  made_at j some few n w y e = rw (weight_is (6 - j) (omega arith) w, sum_is j few n) e

  -- the last sum is new, and has the first weight's term alone
  pub asked_first : (w : Z) (y : ℕ) → y < 2 ^ W
      → (nat_abs (wide (get_or ws 0 w) *ℤ pos y) < 2 ^ (accumulator W - 1)) × (nat_abs (bias +ℤ wide (get_or ws 0 w) *ℤ pos y) < 2 ^ (accumulator W - 1))
  asked_first w y small = rw (← weight_is 0 (lit< tt) w) (asked r y small 0 (lit< tt) refl)

  pub made_first : (w : Z) {v : ℤ} (y : ℕ) → v ≡ bias +ℤ wide (get_or ws 0 w) *ℤ pos y → v ≡ bias +ℤ get_or (map wide ws) 0 (pos 0) *ℤ pos y
  made_first w y e = rw (weight_is 0 (lit< tt) w) e
