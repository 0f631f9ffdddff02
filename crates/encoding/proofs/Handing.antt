-- What is handed back: the saved state in its array, and the residuals as a part of the slice. Assumes nothing.
use Rattle.std.specs.Prelude.{Err, is_ok}
use mathlib.Core.Path.{◌≡◌, refl, ap, ◌∙◌}
use mathlib.Core.Bool.{Bool, true, false, cond}
use mathlib.Core.List.{List, [], ◌++◌}
use Prim.Native.Nat.{ℕ, ◌-◌, ◌≤◌}
use native.Mathlib.Nat.{le_of_eq, le_refl}
use lib.ListN.{length, take, drop, replicate, take-append-drop, length-drop}
use lib.Seq.{take_all, drop-length, length-take-le}
use Rattle.kinds.specs.declared.Refusal.TheVariants.{BadOrder}
use Rattle.kinds.specs.Answers.{Answer, when_done}
use Rattle.rule.specs.Configuration.{Config}
use Rattle.rule.specs.Prediction.{prediction}
use Rattle.rule.specs.Coding.{encoded_buffer}
use Rattle.rule.specs.Refusals.{order_fits, encoding_refusal}
use Rattle.rule.proofs.Filling.{drop-replicate, take-replicate}
use Rattle.rule.proofs.Passing.{encoding_passed, encoding_order}
use Rattle.calls.specs.Encode.{Encoded, left, encode}
use Rattle.calls.specs.ByValue.{Saved, saved, saved_of, encode_by_value, handed, handed_of, begins}

-- ---- the saved state: the call is lent the first k places of an array of zeros
abbrev zeros : List ℕ
zeros = replicate 32 0

abbrev in_array : ℕ → Encoded → Saved
in_array k e = saved e.said e.samples (e.state ++ drop k zeros) (when_done e.said k 0)

within_array : (k : ℕ) (answer : Answer) (xs ys first : List ℕ) → (is_ok answer ≡ true → length first ≡ k)
    → in_array k (when_done answer (left answer xs first) (left answer ys (take k zeros))) ≡ saved_of (when_done answer (left answer xs first) (left answer ys (take k zeros)))
within_array k answer xs ys first long = go (is_ok answer) refl
  where
    go : (d : Bool) → is_ok answer ≡ d
        → in_array k (cond d (left answer xs first) (left answer ys (take k zeros))) ≡ saved_of (cond d (left answer xs first) (left answer ys (take k zeros)))
    go true e =
        let l = long e in
        rw (e, l, drop-replicate {A = ℕ} 32 k 0)
    go false e = rw (e, take-append-drop k zeros)

module _ (W : ℕ) (c : Config) (samples : List ℕ) where
  pub saved_left : c.order ≤ 32 → {said : Answer} {xs next : List ℕ} → left said xs next ≡ encode W c samples (take c.order zeros)
      → saved said xs (next ++ drop c.order zeros) (when_done said c.order 0) ≡ encode_by_value W c samples
  unfolding encode
  saved_left few h =
      let k = c.order in
      let n = length (take k zeros) in
      let answer = encoding_refusal W c n (length samples) in
      ap (in_array k) h
      ∙ within_array k answer (encoded_buffer W k (prediction W c) samples) samples (take k samples) (λ d. length-take-le k samples (encoding_passed W c n (length samples) d).1)
      ∙ ap (λ (state : List ℕ). saved_of (encode W c samples state)) (take-replicate {A = ℕ} 32 k 0 few)

  -- an order that no array has room for
  pub saved_none : order_fits c.order ≡ false → saved (Err BadOrder) samples zeros 0 ≡ encode_by_value W c samples
  unfolding encode
  saved_none unfit = rw (encoding_order W c (length {A = ℕ} (replicate c.order 0)) (length samples) unfit)

-- ---- the part: the slice at exit is `e.samples`, and the part begins at `from`
module _ (k : ℕ) {all : Encoded} {said : Answer} {xs ys : List ℕ} (h : left said xs ys ≡ all) where
  pub begins_inside : {from : ℕ} → from ≡ when_done said k (length xs) → (is_ok said ≡ true → k ≤ length xs) → from ≤ length xs
  begins_inside is enough = rw is (go (is_ok said) refl)
    where
      go : (d : Bool) → is_ok said ≡ d → cond d k (length xs) ≤ length xs
      go true t = enough t
      go false t = le_refl (length xs)

  pub begins_at : when_done said k (length xs) ≡ begins k all
  begins_at = ap (begins k) h

  part_of : (d : Bool) → take (length xs - cond d k (length xs)) (drop (cond d k (length xs)) xs) ≡ cond d (drop k xs) []
  part_of true = take_all (length xs - k) (drop k xs) (le_of_eq (length-drop k xs))
  part_of false = take_all (length xs - length xs) (drop (length xs) xs) (le_of_eq (length-drop (length xs) xs)) ∙ drop-length xs

  pub handed_left : {from number : ℕ} → from ≡ when_done said k (length xs) → number ≡ (handed_of k (left said xs ys)).number
      → handed (take (length xs - from) (drop from xs)) ys number ≡ handed_of k all
  handed_left {from} {number} is numbered =
      (λ i. handed ((ap (λ (n : ℕ). take (length xs - n) (drop n xs)) is ∙ part_of (is_ok said)) i) ys (numbered i)) ∙ ap (handed_of k) h
