-- A turn of a loop that decodes one residual after another: it is a batch of one, whose output is the oldest of the samples known.
-- Over the width W, the order k and any predictor p. Assumes nothing.
use mathlib.Core.Path.{◌≡◌, sym, ap, ◌∙◌}
use mathlib.Core.List.{List, [], ◌∷◌, ◌++◌, map, append_assoc, append-nil}
use Prim.Native.Nat.{ℕ, suc, ◌+◌, ◌-◌, ◌%◌, ◌^◌, ◌≤◌, ◌<◌}
use native.Mathlib.Numerals.{add-one}
use native.Mathlib.Omega.{arith}
use lib.ListN.{length, get_or, take, drop, set, length-append, length-map, drop_of_length-le, take-append-drop}
use lib.Seq.{set_split, set_at, get_or_at, drop-drop, drop-cons, take-suc, take_all, take-suc-set, drop-set-lt, length-take-le}
use borrow.Rule.Slice.PartMut.{put_mid}
use Rattle.rule.specs.Coding.{toggled, restored}
use Rattle.predict.proofs.Toggling.{restored-toggled}
use Rattle.rule.proofs.Extending as extending
use Rattle.decoding.proofs.Batches as batches

-- a part of one element
module _ (l : List ℕ) (i v : ℕ) (within : i < length l) where
  one_long : i + 1 - i ≡ 1
  one_long = omega arith

  part_one : take (i + 1 - i) (drop i l) ≡ get_or l i 0 ∷ []
  part_one = rw (one_long, drop-cons l i 0 within)

  put_one : put_mid i (i + 1 - i) l (v ∷ []) ≡ set l i v
  put_one = rw (one_long, drop-drop 1 i l, add-one) (sym (set_split l i v within))

-- the places before i as they are, and those from i on, which had MID off, with it
abbrev pub mixed : ℕ → ℕ → List ℕ → List ℕ
mixed W i l = take i l ++ map (toggled W) (drop i l)

module _ (W i : ℕ) (l : List ℕ) where
  pub mixed_long : length (mixed W i l) ≡ length l
  mixed_long =
      length-append (take i l) (map (toggled W) (drop i l))
      ∙ ap (λ (n : ℕ). length (take i l) + n) (length-map (drop i l) (toggled W))
      ∙ sym (length-append (take i l) (drop i l))
      ∙ ap length (take-append-drop i l)

  pub mixed_all : length l ≤ i → mixed W i l ≡ l
  mixed_all past = rw (take_all i l past, drop_of_length-le l past) (append-nil l)

  module _ (within : i < length l) where
    front : length (take i l) ≡ i
    front = length-take-le i l (omega arith)

    mixed_at : mixed W i l ≡ take i l ++ toggled W (get_or l i 0) ∷ map (toggled W) (drop (suc i) l)
    mixed_at = ap (λ (m : List ℕ). take i l ++ map (toggled W) m) (drop-cons l i 0 within)

    mixed_get : get_or (mixed W i l) i 0 ≡ toggled W (get_or l i 0)
    mixed_get = rw mixed_at (get_or_at (take i l) (toggled W (get_or l i 0)) (map (toggled W) (drop (suc i) l)) 0 i front)

    mixed_set : (v : ℕ) → set (mixed W i l) i v ≡ mixed W (i + 1) (set l i v)
    mixed_set v =
        rw (
          mixed_at,
          set_at (take i l) (toggled W (get_or l i 0)) (map (toggled W) (drop (suc i) l)) v i front,
          add-one,
          take-suc-set l i v within,
          drop-set-lt (suc i) l i v (omega arith),
          append_assoc,
        )

module _ (W k : ℕ) (p : List ℕ → ℕ) (some : 1 ≤ k) (state₀ residuals₀ : List ℕ) (full₀ : length state₀ ≡ k) where
  coded_turn : (xs residuals : List ℕ) (i y : ℕ) → batches.Going W k p state₀ residuals₀ xs residuals i
      → i < length residuals → y ≡ restored W (get_or residuals i 0) (p xs)
      → batches.Going W k p state₀ residuals₀ (drop 1 xs ++ y ∷ []) (set residuals i (get_or xs 0 0)) (i + 1)
  coded_turn xs residuals i y g within e =
      let oldest : take 1 xs ≡ get_or xs 0 0 ∷ [] = take-suc xs 0 0 (omega (arith, g.full)) in
      rw (put_one residuals i (get_or xs 0 0) within) at
      (batches.turn W k p state₀ residuals₀ full₀ g (i + 1) (get_or xs 0 0 ∷ []) (drop 1 xs ++ y ∷ []) (omega arith) (omega (arith, g.same))
      (rw (part_one residuals i 0 within) (sym (extending.decoded_one W k p xs (get_or residuals i 0) g.full some ∙ oldest)))
      (rw (part_one residuals i 0 within, e) (sym (extending.state_one W k p xs (get_or residuals i 0) g.full some))))

  -- the residuals stand with MID off
  pub turn : (xs residuals : List ℕ) (i y : ℕ) → batches.Going W k p state₀ residuals₀ xs (mixed W i residuals) i
      → i < length residuals → y ≡ (get_or residuals i 0 + p xs) % 2 ^ W
      → batches.Going W k p state₀ residuals₀ (drop 1 xs ++ y ∷ []) (mixed W (i + 1) (set residuals i (get_or xs 0 0))) (i + 1)
  turn xs residuals i y g within e =
      rw (mixed_set W i residuals within (get_or xs 0 0)) at
      (coded_turn xs (mixed W i residuals) i y g (omega (arith, mixed_long W i residuals))
      (e ∙ rw (mixed_get W i residuals within) (sym (restored-toggled W (get_or residuals i 0) (p xs)))))
