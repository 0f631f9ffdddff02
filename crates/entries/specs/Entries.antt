-- Little-endian entries of a byte list. An entry is n bytes, the least significant first.
use Rattle.std.specs.Prelude.{Bool, List, [], ◌∷◌, ◌++◌, map, ℕ, zero, suc, ◌+◌, ◌*◌, ◌/◌, ◌%◌, eqb, ℤ, length, take, drop}
use Rattle.std.specs.Int.{Width}
use Rattle.std.proofs.Common.{to_z}
use Rattle.rule.specs.Coding.{tabulate}

-- the number that bytes stand for
abbrev pub value_of : List ℕ → ℕ
value_of [] = 0
value_of (b ∷ bs) = b + 256 * value_of bs

-- the n bytes of a number
abbrev pub bytes_of : ℕ → ℕ → List ℕ
bytes_of zero v = []
bytes_of (suc n) v = v % 256 ∷ bytes_of n (v / 256)

-- the entry in the n bytes from place `at` on
unfoldable pub entry_at : ℕ → List ℕ → ℕ → ℕ
entry_at n bytes at = value_of (take n (drop at bytes))

-- the bytes with an entry written there
unfoldable pub with_entry : ℕ → List ℕ → ℕ → ℕ → List ℕ
with_entry n bytes at v = take at bytes ++ (bytes_of n v ++ drop n (drop at bytes))

-- all entries; bytes past the last whole one belong to none
unfoldable pub entries : ℕ → List ℕ → List ℕ
entries n bytes = tabulate (length bytes / n) (λ i. entry_at n bytes (n * i))

-- the bytes of a list of entries
abbrev pub bytes_of_all : ℕ → List ℕ → List ℕ
bytes_of_all n [] = []
bytes_of_all n (v ∷ vs) = bytes_of n v ++ bytes_of_all n vs

-- entries read as signed numbers of the machine width w
abbrev pub signed_entries : Width → ℕ → List ℕ → List ℤ
signed_entries w n bytes = map (to_z w) (entries n bytes)

-- bytes that divide into entries
abbrev pub is_entire : ℕ → List ℕ → Bool
is_entire n bytes = eqb (length bytes % n) 0
