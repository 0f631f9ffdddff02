-- A field is read as its number where the bytes hold it, and as the refusal 7 where they don't.
use Rattle.std.proofs.Common.{◌≡◌, List, ℕ, ◌+◌, ◌*◌, ◌^◌, ◌<◌, ◌≤◌, length, Bool, true, false, refl, IfOk, IfErr}
use Rattle.std.proofs.lemmas.Bool.{leb-true, leb-false}
use Rattle.std.specs.Option.{ok_or}
use Rattle.bits.specs.Fields.{field_at, found, holds}
use Rattle.bits.proofs.Fields.{found_number, found_missing, field_lt}
use Rattle.kinds.specs.declared.Refusal.TheVariants.{BytesEnd}

module _ (bytes : List ℕ) (at n : ℕ) (narrow : n ≤ 64) where
  pub there : IfOk (ok_or (found bytes at n) BytesEnd) (λ v. (holds bytes at n ≡ true) × (field_at bytes at n ≡ v) × (v < 2 ^ n))
  there = go (holds bytes at n) refl
    where
      go : (t : Bool) → holds bytes at n ≡ t → IfOk (ok_or (found bytes at n) BytesEnd) (λ v. (holds bytes at n ≡ true) × (field_at bytes at n ≡ v) × (v < 2 ^ n))
      go true h = rw (found_number bytes at n narrow (leb-true (at + n) (8 * length bytes) h)) (h, refl, field_lt bytes at n)
      go false h = rw (found_missing bytes at n narrow (leb-false (at + n) (8 * length bytes) h)) tt

  pub missing : IfErr (ok_or (found bytes at n) BytesEnd) (λ r. (holds bytes at n ≡ false) × (r ≡ BytesEnd))
  missing = go (holds bytes at n) refl
    where
      go : (t : Bool) → holds bytes at n ≡ t → IfErr (ok_or (found bytes at n) BytesEnd) (λ r. (holds bytes at n ≡ false) × (r ≡ BytesEnd))
      go true h = rw (found_number bytes at n narrow (leb-true (at + n) (8 * length bytes) h)) tt
      go false h = rw (found_missing bytes at n narrow (leb-false (at + n) (8 * length bytes) h)) (h, refl)
