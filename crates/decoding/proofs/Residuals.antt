-- The loop that turns residuals into samples: at place i, the k samples from i on are those that the next one is predicted from.
-- Over the width W, the order k and any predictor p. Assumes nothing.
use mathlib.Core.Path.{◌≡◌, refl, sym, ap, ◌∙◌}
use mathlib.Core.List.{List, [], ◌∷◌, ◌++◌, map}
use Prim.Native.Nat.{ℕ, zero, suc, ◌+◌, ◌-◌, ◌%◌, ◌^◌, ◌≤◌, ◌<◌}
use native.Mathlib.Nat.{not-suc-le-zero}
use native.Mathlib.Numerals.{add-one}
use native.Mathlib.Omega.{arith}
use lib.ListN.{length, get_or, take, drop, set, length-set, length-map, length-drop}
use lib.Seq.{get_or-take, get_or-drop, drop-cons, drop-set-add, take-suc-set, length-take-le}
use Rattle.rule.specs.Coding.{toggled, decoded_piece, new_state}
use Rattle.decoding.proofs.Batches as batches
use Rattle.decoding.proofs.Turning as turning

-- the k samples from i on, as a sample is written behind them
slid : (k : ℕ) (l : List ℕ) (i y : ℕ) → 1 ≤ k → i + k < length l → take k (drop (i + 1) (set l (i + k) y)) ≡ drop 1 (take k (drop i l)) ++ y ∷ []
slid zero l i y some within = absurd (not-suc-le-zero some)
slid (suc m) l i y some within =
    let e : i + suc m ≡ i + 1 + m = omega arith in
    let h : m < length (drop (i + 1) l) = simp length-drop (omega arith) in
    rw (e, drop-set-add (i + 1) l m y, take-suc-set (drop (i + 1) l) m y h, drop-cons l i 0 (omega arith), add-one)

oldest : (k : ℕ) (l : List ℕ) (i : ℕ) → 1 ≤ k → get_or (take k (drop i l)) 0 0 ≡ get_or l i 0
oldest k l i some =
    let e : i + 0 ≡ i = omega arith in
    get_or-take k (drop i l) 0 0 some ∙ get_or-drop i l 0 0 ∙ ap (λ (n : ℕ). get_or l n 0) e

-- the part between i and i + k, which the prediction is made from
pub part_long : {A : Type 0} (k : ℕ) (l : List A) (i : ℕ) → i + k ≤ length l → length (take (i + k - i) (drop i l)) ≡ k
part_long k l i inside =
    let whole : i + k - i ≡ k = omega arith in
    rw whole (length-take-le k (drop i l) (rw length-drop (omega arith)))

-- the loop's invariant, from the samples s₀ and the residuals l₀
pub record Holds (W k : ℕ) (p : List ℕ → ℕ) (s₀ l₀ s l : List ℕ) (i : ℕ) : Type 0 where
  pub room : length s ≡ length s₀
  pub same : length l ≡ length l₀
  pub going : batches.Going W k p (take k s₀) (map (toggled W) l₀) (take k (drop i s)) (turning.mixed W i l) i

module _ (W k : ℕ) (p : List ℕ → ℕ) (some : 1 ≤ k) (s₀ l₀ : List ℕ) (full₀ : length (take k s₀) ≡ k) where
  pub begun : Holds W k p s₀ l₀ s₀ l₀ 0
  begun = record { room = refl; same = refl; going = batches.begun W k p (take k s₀) (map (toggled W) l₀) full₀ }

  module _ {s l : List ℕ} {i : ℕ} (h : Holds W k p s₀ l₀ s l i) where
    pub inside : k + length l₀ ≤ length s₀ → i < length l → i + k < length s
    inside room within = omega (arith, h.room, h.same)

    -- the prediction is made from the part between i and i + k
    pub turn : i < length l → i + k < length s → (predicted y : ℕ) → predicted ≡ p (take (i + k - i) (drop i s)) → y ≡ (get_or l i 0 + predicted) % 2 ^ W
        → Holds W k p s₀ l₀ (set s (i + k) y) (set l i (get_or s i 0)) (i + 1)
    turn within inside predicted y e f =
        let whole : i + k - i ≡ k = omega arith in
        record {
          room = length-set s (i + k) y ∙ h.room;
          same = length-set l i (get_or s i 0) ∙ h.same;
          going =
              rw (slid k s i y some inside, ← oldest k s i some)
              (turning.turn W k p some (take k s₀) (map (toggled W) l₀) full₀ (take k (drop i s)) l i y h.going within (rw (e, whole) at f));
        }

    pub ended : length l ≤ i → (l ≡ decoded_piece W k p (take k s₀) (map (toggled W) l₀)) × (take k (drop (length l₀) s) ≡ new_state W k p (take k s₀) (map (toggled W) l₀))
    ended past =
        let t = batches.ended W k p (take k s₀) (map (toggled W) l₀) full₀ h.going (omega (arith, turning.mixed_long W i l)) in
        let e : i ≡ length l₀ = omega (arith, h.same, h.going.within, length-map l₀ (toggled W)) in
        (sym (turning.mixed_all W i l past) ∙ t.0, rw (← e) t.1)
