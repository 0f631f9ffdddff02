-- What lies below its bound: the bytes of entries, and, where 256^n is 2^W, the entries of bytes; then what coding makes, whatever the
-- predictor: residuals, and the samples of a state that decoding leaves. Assumes nothing.
use mathlib.Core.Path.{◌≡◌}
use mathlib.Core.Bool.{Bool, true, false, cond}
use mathlib.Core.List.{List, [], ◌∷◌, ◌++◌}
use Prim.Native.Nat.{ℕ, zero, suc, ◌*◌, ◌/◌, ◌%◌, ◌^◌, ◌<◌}
use native.Mathlib.Nat.{mod-lt}
use native.Mathlib.Omega.{arith}
use lib.Dec.{ltb}
use lib.ListN.{length, get_or, drop}
use lib.Pow.{pow_pos}
use lib.Seq.{get_or-drop}
use Rattle.rule.specs.Coding.{tabulate, toggled, residual, coded_at, encoded_buffer, restored, sample_of, extended, new_state}
use Rattle.rule.proofs.Sums.{Samples}
use Rattle.entries.specs.Entries.{bytes_of, entry_at, entries, bytes_of_all}
use Rattle.entries.proofs.Bytes.{Bytes, entry_below}
use Rattle.byte_coding.specs.Bytes.{samples_in}

-- ---- lists below any bound
module _ (B : ℕ) where
  one_below : {x : ℕ} → x < B → (i : ℕ) → get_or (x ∷ []) i 0 < B
  one_below h zero = h
  one_below h (suc i) = omega arith

  append_below : (xs ys : List ℕ) → ((i : ℕ) → get_or xs i 0 < B) → ((i : ℕ) → get_or ys i 0 < B) → (i : ℕ) → get_or (xs ++ ys) i 0 < B
  append_below [] ys these those i = those i
  append_below (x ∷ xs) ys these those zero = these 0
  append_below (x ∷ xs) ys these those (suc i) = append_below xs ys (λ j. these (suc j)) those i

  table_below : (n : ℕ) (f : ℕ → ℕ) → ((i : ℕ) → f i < B) → (i : ℕ) → get_or (tabulate n f) i 0 < B
  table_below zero f h i = omega (arith, h 0)
  table_below (suc n) f h i = append_below (tabulate n f) (f n ∷ []) (table_below n f h) (one_below (h n)) i

-- ---- bytes
entry_bytes : (n v i : ℕ) → get_or (bytes_of n v) i 0 < 256
entry_bytes zero v i = omega arith
entry_bytes (suc n) v zero = omega arith
entry_bytes (suc n) v (suc i) = entry_bytes n (v / 256) i

pub bytes_below : (n : ℕ) (vs : List ℕ) → Bytes (bytes_of_all n vs)
bytes_below n vs = record { below = go vs }
  where
    go : (vs : List ℕ) (i : ℕ) → get_or (bytes_of_all n vs) i 0 < 256
    go [] i = omega arith
    go (v ∷ vs) i = append_below 256 (bytes_of n v) (bytes_of_all n vs) (entry_bytes n v) (go vs) i

-- ---- samples
module _ (W : ℕ) where
  pub append_samples : (xs ys : List ℕ) → Samples W xs → Samples W ys → Samples W (xs ++ ys)
  append_samples xs ys these those = record { below = append_below (2 ^ W) xs ys these.below those.below }

  pub drop_samples : (n : ℕ) (xs : List ℕ) → Samples W xs → Samples W (drop n xs)
  drop_samples n xs samples = record { below = λ i. rw get_or-drop (samples.below _) }

  pub entries_samples : 256 ^ (W / 8) ≡ 2 ^ W → (bytes : List ℕ) → Bytes bytes → Samples W (samples_in W bytes)
  unfolding entries
  entries_samples bits bytes are =
      let n = W / 8 in
      record { below = rw (← bits) (table_below (256 ^ n) (length bytes / n) (λ i. entry_at n bytes (n * i)) (λ i. entry_below n (n * i) bytes are)) }

  module _ (k : ℕ) (p : List ℕ → ℕ) where
    coded_below : (xs : List ℕ) (i : ℕ) → coded_at W k p xs i < 2 ^ W
    unfolding coded_at toggled residual
    coded_below xs i = go (ltb i k) _ _
      where
        go : (early : Bool) (x y : ℕ) → cond early (x % 2 ^ W) (y % 2 ^ W) < 2 ^ W
        go true x y = mod-lt x (pow_pos W)
        go false x y = mod-lt y (pow_pos W)

    pub encoded_samples : (xs : List ℕ) → Samples W (encoded_buffer W k p xs)
    unfolding encoded_buffer
    encoded_samples xs = record { below = table_below (2 ^ W) (length xs) (coded_at W k p xs) (coded_below xs) }

    sample_below : (known : List ℕ) (r : ℕ) → sample_of W k p known r < 2 ^ W
    unfolding sample_of restored
    sample_below known r = mod-lt _ (pow_pos W)

    extended_samples : (known rs : List ℕ) → Samples W known → Samples W (extended W k p known rs)
    extended_samples known [] samples = samples
    extended_samples known (r ∷ rs) samples =
        extended_samples (known ++ sample_of W k p known r ∷ []) rs
        (append_samples known (sample_of W k p known r ∷ []) samples (record { below = one_below (2 ^ W) (sample_below known r) }))

    pub state_samples : (state piece : List ℕ) → Samples W state → Samples W (new_state W k p state piece)
    unfolding new_state
    state_samples state piece samples = drop_samples (length piece) (extended W k p state piece) (extended_samples state piece samples)
