-- The sum of a prediction as its loop makes it, over the width W. A sample is known to be one once its term is added.
use Rattle.std.proofs.Common.{◌≡◌, refl, sym, ap, ◌∙◌, true, List, [], ◌∷◌, ◌++◌, ℕ, zero, suc, ◌+◌, ◌-◌, ◌^◌, ◌≤◌, ◌<◌, ℤ, pos, nat_abs, ◌+ℤ◌, ◌*ℤ◌, length, get_or, take, arith}
use Rattle.std.proofs.Math.Nat.{not-suc-le-zero, eq-or-lt_of_le}
use Rattle.std.proofs.lemmas.Bool.{cases_lt}
use Rattle.std.proofs.Math.Logic.{⊎_elim}
use Rattle.std.proofs.Math.Seq.{get_or-append_seam}
use Rattle.std.proofs.lemmas.List.{get_or_append_left, get_or-take, length-take-le, get_or_past, length-append}
use Rattle.rule.specs.Numbers.{accumulator}
use Rattle.rule.specs.Prediction.{admitted, sum_at}
use Rattle.rule.proofs.Sums as sums

-- after i weights s is the sum of those, from the bias b
pub record Summed (W : ℕ) (ws : List ℤ) (xs : List ℕ) (b s : ℤ) (i : ℕ) : Type 0 where
  pub at : i ≤ length ws
  pub sum : s ≡ sum_at b (take i ws) xs
  pub below : (j : ℕ) → j < i → get_or xs j 0 < 2 ^ W

pub begin : (W : ℕ) (ws : List ℤ) (xs : List ℕ) (b : ℤ) → Summed W ws xs b b 0
begin W ws xs b = record { at = omega arith; sum = refl; below = λ j h. omega arith }

pub done : {W : ℕ} {ws : List ℤ} {xs : List ℕ} {b s : ℤ} {i : ℕ} → Summed W ws xs b s i → length ws ≤ i → s ≡ sum_at b ws xs
done {ws = ws} {xs} {b} {i = i} k h = k.sum ∙ sums.sum_whole b ws xs i h

-- the samples past the weights do not matter
sum_at-front : (s : ℤ) (ws : List ℤ) (xs zs : List ℕ) (i : ℕ) → i ≤ length xs → sum_at s (take i ws) (take i xs ++ zs) ≡ sum_at s (take i ws) xs
sum_at-front s ws xs zs zero h = refl
sum_at-front s [] xs zs (suc i) h = refl
sum_at-front s (w ∷ ws) [] zs (suc i) h = absurd (not-suc-le-zero h)
sum_at-front s (w ∷ ws) (x ∷ xs) zs (suc i) h = sum_at-front (s +ℤ w *ℤ pos x) ws xs zs i (omega arith)

-- a turn, from the sum s
module _ {W : ℕ} {ws : List ℤ} {xs : List ℕ} {b s : ℤ} {i : ℕ} (ok : admitted W b ws ≡ true) (in_weights : i < length ws) (in_window : i < length xs)
    (k : Summed W ws xs b s i) where
  -- the samples so far, and any other
  abbrev with_next : ℕ → List ℕ
  with_next x = take i xs ++ x ∷ []

  long : length (take i xs) ≡ i
  long = length-take-le i xs (omega arith)

  next_is : (x : ℕ) → get_or (with_next x) i 0 ≡ x
  next_is x = ap (λ (n : ℕ). get_or (with_next x) n 0) (sym long) ∙ get_or-append_seam (take i xs) x [] 0

  samples : (x : ℕ) → x < 2 ^ W → sums.Samples W (with_next x)
  samples x h = record { below = below }
    where
      below : (j : ℕ) → get_or (with_next x) j 0 < 2 ^ W
      below j =
          ⊎_elim
          (λ (u : j < i). rw (get_or_append_left (take i xs) (x ∷ []) 0 j (omega (arith, long)), get_or-take i xs j 0 u) (k.below j u))
          (λ (v : i ≤ j).
          ⊎_elim
          (λ (e : i ≡ j). rw (sym e, next_is x) h)
          (λ (u : i < j). rw (get_or_past (with_next x) j 0 (omega (arith, long, length-append (take i xs) (x ∷ [])))) (omega (arith, h)))
          (eq-or-lt_of_le v))
          (cases_lt j i)

  -- the next term fits, and so does the sum with it, whatever the next sample is
  pub fits : (x : ℕ) → x < 2 ^ W
      → (nat_abs (get_or ws i (pos 0) *ℤ pos x) < 2 ^ (accumulator W - 1)) × (nat_abs (s +ℤ get_or ws i (pos 0) *ℤ pos x) < 2 ^ (accumulator W - 1))
  fits x h =
      let whole = sums.prefix_inside W b ws ok (i + 1) (with_next x) (samples x h) in
      let step = sums.sum_next b ws (with_next x) i in_weights (omega (arith, long, length-append (take i xs) (x ∷ []))) in
      (sums.product_inside W b ws ok i x h, rw (step, next_is x, sum_at-front b ws xs (x ∷ []) i (omega arith), sym k.sum) at whole)

  pub turn : {x : ℕ} → get_or xs i 0 ≡ x → x < 2 ^ W → Summed W ws xs b (s +ℤ get_or ws i (pos 0) *ℤ pos x) (i + 1)
  turn {x} e h =
      record {
        at = omega arith;
        sum = ap (λ (t : ℤ). t +ℤ get_or ws i (pos 0) *ℤ pos x) k.sum ∙ sym (sums.sum_next b ws xs i in_weights in_window ∙ ap (λ (y : ℕ). sum_at b (take i ws) xs +ℤ get_or ws i (pos 0) *ℤ pos y) e);
        below = λ j u. ⊎_elim (λ (same : j ≡ i). rw (same, e) h) (λ (v : j < i). k.below j v) (eq-or-lt_of_le (omega arith));
      }
