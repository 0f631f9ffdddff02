-- Decoding undoes encoding, in one go: a residual with its prediction added is the sample, and so the residuals after the first k,
-- decoded from the first k samples, give all the samples. Any width W, order k and predictor p with values below 2^W.
-- Assumes nothing.
use mathlib.Core.Path.{◌≡◌, sym, ◌∙◌}
use mathlib.Core.List.{List, [], ◌∷◌}
use Prim.Native.Nat.{ℕ, zero, suc, ◌+◌, ◌-◌, ◌^◌, ◌≤◌, ◌<◌}
use native.Mathlib.Nat.{add-zero, add-suc, mod-eq_of_lt, add-mod_right, mod-add-mod}
use native.Mathlib.Omega.{arith}
use borrow.Author.Tests.{le-ltb}
use lib.ListN.{length, get_or, take, drop, length-drop}
use lib.Seq.{take-suc, get_or-drop, take_all}
use Rattle.rule.specs.Numbers.{centre}
use Rattle.rule.specs.Coding.{window, toggled, residual, coded_at, encoded_buffer, restored, sample_of, extended}
use Rattle.rule.proofs.Filling.{get_d_tabulate, length_encoded}
use Rattle.rule.proofs.Sums.{Samples}
use Rattle.rule.proofs.Wrapping.{centre_twice}
use Rattle.rule.proofs.Extending as extending

-- ---- one sample
pub restored-residual : (W x y : ℕ) → x < 2 ^ W → y < 2 ^ W → restored W (residual W x y) y ≡ x
unfolding restored residual toggled
restored-residual W x y hx hy =
    rw (mod-add-mod (x + (2 ^ W - y) + centre W) (2 ^ W) (centre W), mod-add-mod (x + (2 ^ W - y) + centre W + centre W) (2 ^ W) y, again, centre_twice W (x + 2 ^ W), add-mod_right)
    (mod-eq_of_lt hx)
  where
    again : x + (2 ^ W - y) + centre W + centre W + y ≡ x + 2 ^ W + (centre W + centre W)
    again = omega arith

-- ---- all of them
module _ (W k : ℕ) (p : List ℕ → ℕ) (below : (xs : List ℕ) → p xs < 2 ^ W) (xs : List ℕ) (samples : Samples W xs) where
  sample_encoded : (i : ℕ) → k ≤ i → i < length xs → sample_of W k p (take i xs) (get_or (encoded_buffer W k p xs) i 0) ≡ get_or xs i 0
  unfolding encoded_buffer coded_at
  sample_encoded i h within =
      rw (
        extending.sample_window W k p xs i (get_or (encoded_buffer W k p xs) i 0) h (omega arith),
        get_d_tabulate (length xs) (coded_at W k p xs) i 0 within,
        le-ltb i k h,
      )
      (restored-residual W (get_or xs i 0) (p (window k i xs)) (samples.below i) (below (window k i xs)))

  front_undone : (i : ℕ) → k + i ≤ length xs → extended W k p (take k xs) (take i (drop k (encoded_buffer W k p xs))) ≡ take (k + i) xs
  front_undone zero h = rw add-zero
  front_undone (suc i) h =
      let l : i < length (drop k (encoded_buffer W k p xs)) = simp (length-drop, length_encoded) (omega arith) in
      let e : k + i < length xs = omega arith in
      rw (
        take-suc (drop k (encoded_buffer W k p xs)) i 0 l,
        extending.extended_append W k p (take k xs) (take i (drop k (encoded_buffer W k p xs))) (get_or (drop k (encoded_buffer W k p xs)) i 0 ∷ []),
        front_undone i (omega arith),
        get_or-drop,
        sample_encoded (k + i) (omega arith) e,
        add-suc,
      )
      (sym (take-suc xs (k + i) 0 e))

  pub undone : k ≤ length xs → extended W k p (take k xs) (drop k (encoded_buffer W k p xs)) ≡ xs
  undone h =
      let l : length (drop k (encoded_buffer W k p xs)) ≤ length xs - k = simp (length-drop, length_encoded) (omega arith) in
      rw (← take_all (length xs - k) (drop k (encoded_buffer W k p xs)) l)
      (front_undone (length xs - k) (omega arith) ∙ take_all (k + (length xs - k)) xs (omega arith))
