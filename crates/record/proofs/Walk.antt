-- Going through the reader's definition: what holds of every way that a field or a test can go holds of what is read.
use mathlib.Core.Bool.{Bool, true, false, cond}
use mathlib.Core.List.{List, ◌∷◌}
use mathlib.Core.Path.{◌≡◌, refl}
use Prim.Native.Nat.{ℕ, ◌+◌}
use Rattle.std.specs.Prelude.{Result, Err}
use Rattle.bits.specs.Fields.{field_at, holds}
use Rattle.kinds.specs.Answers.{refuse}
use Rattle.kinds.specs.declared.Refusal.{Refusal}
use Rattle.kinds.specs.declared.Refusal.TheVariants.{BytesEnd}
use Rattle.record.specs.declared.Reading.{Reading}
use Rattle.record.specs.Reading.{reading}

pub by_test : {A : Type 0} (P : A → Type 0) (t : Bool) (a b : A) → (t ≡ true → P a) → (t ≡ false → P b) → P (cond t a b)
by_test P true a b yes_way no_way = yes_way refl
by_test P false a b yes_way no_way = no_way refl

module _ (P : Result Reading Refusal → Type 0) where
  pub by_refusal : (t : Bool) (r : Refusal) (later : Result Reading Refusal) → P (Err r) → (t ≡ false → P later) → P (refuse t r later)
  by_refusal true r later refused passed = refused
  by_refusal false r later refused passed = passed refl

  pub by_reading : (bytes : List ℕ) (at width : ℕ) (fields : List ℕ) (next : ℕ → ℕ → List ℕ → Result Reading Refusal) →
      (holds bytes at width ≡ true → P (next (field_at bytes at width) (at + width) fields)) → P (Err BytesEnd) → P (reading bytes at (width ∷ fields) next)
  unfolding reading
  by_reading bytes at width fields next there missing =
      by_test P (holds bytes at width) (next (field_at bytes at width) (at + width) fields) (Err BytesEnd) there (λ _. missing)
