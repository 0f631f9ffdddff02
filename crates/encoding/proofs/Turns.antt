-- A batch of samples, as `Batches` says it of their numbers.
use Rattle.std.proofs.Common.{◌≡◌, refl, sym, ap, ◌∙◌, List, ℕ, ◌++◌, ◌+◌, ◌-◌, ◌≤◌, ◌<◌, min, length, get_or, take, drop, map, replicate}
use borrow.Rule.Slice.PartMut.{put_mid}
use Rattle.rule.specs.Coding.{tabulate, window, residual}
use Rattle.rule.proofs.Filling.{get_or_zeros}
use Rattle.sample.proofs.Numbers.{numbers-length, numbers-append, numbers-drop, numbers-part, numbers-put_mid, numbers-replicate}
use Rattle.encoding.proofs.Batches as batches
use Rattle.encoding.proofs.Batches.{Batched}

module _ {A : Type 0} {number : A → ℕ} {numbers : List A → List ℕ} (are : (xs : List A) → numbers xs ≡ map number xs) where
  module _ (W k : ℕ) (p : List ℕ → ℕ) (o : List A) where
    pub begin : (zero : A) → number zero ≡ 0 → Batched W k p (numbers o) (numbers o) (numbers (replicate 544 zero)) 0
    begin zero is = rw (numbers-replicate are 544 zero, is) (batches.begin W k p (numbers o) (replicate 544 0) refl (get_or_zeros 544))

    pub batch : (l held made coded held₂ : List A) (start count more next : ℕ) → Batched W k p (numbers o) (numbers l) (numbers held) start
        → k ≤ 32 → start < length o → next ≡ start + count → count ≡ min (length o - start) 512 → more ≡ min (length o - start - k) 512
        → numbers made ≡ tabulate (length (take (k + more - k) (drop k held))) (λ i. p (window k (i + k) (numbers (take (length l - start) (drop start l)))))
        → numbers coded
        ≡ tabulate (length (take (start + count - start) (drop start l))) (λ i. residual W (get_or (numbers (take (start + count - start) (drop start l))) i 0) (get_or (numbers (put_mid k (k + more - k) held made)) i 0))
        → held₂ ≡ take k (drop 512 (put_mid k (k + more - k) held made)) ++ drop k (put_mid k (k + more - k) held made)
        → Batched W k p (numbers o) (numbers (put_mid start (start + count - start) l coded)) (numbers held₂) next
    batch l held made coded held₂ start count more next b small left at ec em made-is coded-as held_is =
        rw (at, numbers-put_mid are start (start + count - start) l coded) (
        batches.batch W k p (numbers o) (numbers l) (numbers held) (numbers made) (numbers coded) (numbers held₂) start count more b small
        (rw same left) (rw same ec) (rw same em)
        (rw (numbers-length are l, sym (numbers-part are (k + more - k) k held), sym (numbers-part are (length l - start) start l), numbers-length are (take (k + more - k) (drop k held))) made-is)
        (rw (sym (numbers-part are (start + count - start) start l), sym held₁, numbers-length are (take (start + count - start) (drop start l))) coded-as)
        (rw (sym held₁, sym (numbers-part are k 512 (put_mid k (k + more - k) held made)), sym (numbers-drop are k (put_mid k (k + more - k) held made))) (ap numbers held_is ∙ numbers-append are _ _))
        )
      where
        same : length (numbers o) ≡ length o
        same = numbers-length are o

        held₁ : numbers (put_mid k (k + more - k) held made) ≡ put_mid k (k + more - k) (numbers held) (numbers made)
        held₁ = numbers-put_mid are k (k + more - k) held made
