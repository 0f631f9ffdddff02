-- Encoding chunk by chunk: the coded places of a part, with the k samples before them, are the whole's; so chunks coded from the last
-- to the first, each over samples that are still the original ones, code the whole. Over the width W, the bytes n of an entry, the
-- order k and any predictor p. Assumes nothing.
use mathlib.Core.Path.{◌≡◌, refl, sym, ap, ◌∙◌}
use mathlib.Core.Bool.{Bool, true, false}
use mathlib.Core.List.{List, ◌++◌, append_assoc, append-nil}
use Prim.Native.Nat.{ℕ, ◌+◌, ◌-◌, ◌*◌, ◌/◌, ◌≤◌, ◌<◌}
use native.Mathlib.Nat.{mul-zero, mul-add, mul-le-mul_left, sub-zero}
use native.Mathlib.Omega.{arith}
use borrow.Author.Tests.{ltb-true, ltb-false, lt-ltb, le-ltb}
use borrow.Rule.Slice.PartMut.{put_mid}
use lib.Dec.{ltb}
use lib.ListN.{length, get_or, take, drop, length-append, length-take, length-drop, drop_of_length-le, take-append-drop}
use lib.Seq.{take_at, drop_at, take_all, take-take, drop-drop, drop-append-le, length-take-le, get_or-take, get_or-drop, ext_get_or}
use Rattle.rule.specs.Coding.{window, coded_at, encoded_buffer}
use Rattle.rule.proofs.Filling.{get_d_tabulate, length_encoded}
use Rattle.rule.proofs.Parts.{drop-take}
use Rattle.entries.specs.Entries.{entries, bytes_of_all}
use Rattle.entries.proofs.Bytes.{Bytes}
use Rattle.entries.proofs.Lists as lists

-- the bytes of the first k samples are the first bytes
pub front_entries : (n : ℕ) → 0 < n → (bytes : List ℕ) (k : ℕ) → n * k ≤ length bytes → entries n (take (n * k) bytes) ≡ take k (entries n bytes)
front_entries n some bytes k h =
    let inside : n * 0 + n * k ≤ length bytes = omega (arith, mul-zero n) in
    rw mul-zero at (lists.entries_part n some bytes 0 k inside)

pub first_bytes : (n : ℕ) → 0 < n → (bytes : List ℕ) (k : ℕ) → Bytes (take (n * k) bytes) → n * k ≤ length bytes → take (n * k) bytes ≡ bytes_of_all n (take k (entries n bytes))
first_bytes n some bytes k are h =
    sym (lists.bytes_of_entries n some (take (n * k) bytes) are k (length-take-le (n * k) bytes h))
    ∙ ap (bytes_of_all n) (front_entries n some bytes k h)

-- ---- the samples of a part
module _ (W k : ℕ) (p : List ℕ → ℕ) where
  encoded_at : (xs : List ℕ) (i : ℕ) → i < length xs → get_or (encoded_buffer W k p xs) i 0 ≡ coded_at W k p xs i
  unfolding encoded_buffer
  encoded_at xs i h = get_d_tabulate (length xs) (coded_at W k p xs) i 0 h

module _ (W k : ℕ) (p : List ℕ → ℕ) (xs : List ℕ) where
  module _ (from m : ℕ) (inside : from + m ≤ length xs) where
    abbrev part : List ℕ
    part = take m (drop from xs)

    part_long : length part ≡ m
    part_long = length-take-le m (drop from xs) (omega (arith, length-drop from xs))

    part_at : (j : ℕ) → j < m → get_or part j 0 ≡ get_or xs (from + j) 0
    part_at j h = get_or-take m (drop from xs) j 0 h ∙ get_or-drop from xs j 0

    part_window : (j : ℕ) → k ≤ j → j < m → window k j part ≡ window k (from + j) xs
    unfolding window
    part_window j back h =
        let room : k ≤ m - (j - k) = omega arith in
        let place : from + (j - k) ≡ from + j - k = omega arith in
        rw (drop-take (j - k) m (drop from xs), take-take k (m - (j - k)) (drop (j - k) (drop from xs)) room, drop-drop, place)

    -- a place is coded as in the whole, where its window lies in the part, or where the part is a front of the whole
    coded_part : (j : ℕ) → j < m → (j < k → from ≡ 0) → coded_at W k p part j ≡ coded_at W k p xs (from + j)
    unfolding coded_at
    coded_part j h front = go (ltb j k) refl
      where
        go : (t : Bool) → ltb j k ≡ t → coded_at W k p part j ≡ coded_at W k p xs (from + j)
        go true e =
            let early = ltb-true j k e in
            let none = front early in
            rw (e, lt-ltb (from + j) k (omega arith), part_at j h)
        go false e =
            let late = ltb-false j k e in
            rw (e, le-ltb (from + j) k (omega arith), part_at j h, part_window j late h)

    pub encoded_part : (skip : ℕ) → skip ≤ m → (skip < k → from ≡ 0)
        → drop skip (encoded_buffer W k p part) ≡ take (m - skip) (drop (from + skip) (encoded_buffer W k p xs))
    encoded_part skip near front =
        ext_get_or 0 (drop skip (encoded_buffer W k p part)) (take (m - skip) (drop (from + skip) (encoded_buffer W k p xs)))
        (lefts ∙ sym rights)
        (λ i h.
        let less : i < m - skip = omega (arith, lefts) in
        let within : skip + i < m = omega arith in
        let here : skip + i < length part = omega (arith, part_long) in
        let there : from + (skip + i) < length xs = omega arith in
        let place : from + skip + i ≡ from + (skip + i) = omega arith in
        get_or-drop skip (encoded_buffer W k p part) i 0
        ∙ encoded_at W k p part (skip + i) here
        ∙ coded_part (skip + i) within (λ early. front (omega arith))
        ∙ sym (get_or-take (m - skip) (drop (from + skip) (encoded_buffer W k p xs)) i 0 less ∙ get_or-drop (from + skip) (encoded_buffer W k p xs) i 0 ∙ rw place (encoded_at W k p xs (from + (skip + i)) there)))
      where
        lefts : length (drop skip (encoded_buffer W k p part)) ≡ m - skip
        lefts = rw (length-drop, length_encoded W k p part, part_long)

        rights : length (take (m - skip) (drop (from + skip) (encoded_buffer W k p xs))) ≡ m - skip
        rights = length-take-le (m - skip) (drop (from + skip) (encoded_buffer W k p xs)) (omega (arith, length-drop (from + skip) (encoded_buffer W k p xs), length_encoded W k p xs))

  -- so a front is coded as the front of the whole
  pub encoded_front : (end : ℕ) → end ≤ length xs → encoded_buffer W k p (take end xs) ≡ take end (encoded_buffer W k p xs)
  encoded_front end h =
      let inside : 0 + end ≤ length xs = omega arith in
      rw sub-zero at (encoded_part 0 end inside 0 (omega arith) (λ early. refl))

-- what stands at the front of a room of samples, past the first `skip`
pub past_skip : {A : Type 0} (m skip : ℕ) (out rest : List A) → length out ≡ m
    → take (length (take m (out ++ rest)) - skip) (drop skip (take m (out ++ rest))) ≡ drop skip out
past_skip m skip out rest long = rw (take_at out rest m long) (take_all (length out - skip) (drop skip out) (omega (arith, length-drop skip out)))

-- ---- one chunk: the samples from `from` on are loaded, m of them; all but the first `skip` are coded
pub record Piece (n k : ℕ) (bytes : List ℕ) (from m skip start : ℕ) : Type 0 where
  pub some : 0 < n
  pub whole : length bytes ≡ n * (length bytes / n)
  pub begins : from + skip ≡ start
  pub ends : from + m ≡ length bytes / n
  pub near : skip ≤ m
  pub reaches : skip < k → from ≡ 0

module _ {n k : ℕ} {bytes : List ℕ} {from m skip start : ℕ} (c : Piece n k bytes from m skip start) where
  open c use {some, whole, begins, ends, near, reaches}

  abbrev xs : List ℕ
  xs = entries n bytes

  abbrev ys : List ℕ
  ys = take m (drop from xs)

  abbrev lent : List ℕ
  lent = take (length bytes - n * from) (drop (n * from) bytes)

  abbrev left : List ℕ
  left = take (length bytes - n * start) (drop (n * start) bytes)

  split : n * from + n * m ≡ length bytes
  split = sym (mul-add n from m) ∙ ap (λ (z : ℕ). n * z) ends ∙ sym whole

  lent_is : lent ≡ take (n * m) (drop (n * from) bytes)
  lent_is =
      let size : length bytes - n * from ≡ n * m = omega (arith, split) in
      rw size

  lent_long : length lent ≡ n * m
  lent_long = ap length lent_is ∙ length-take-le (n * m) (drop (n * from) bytes) (omega (arith, length-drop (n * from) bytes, split))

  lent_entries : entries n lent ≡ ys
  lent_entries = rw lent_is (lists.entries_part n some bytes from m (omega (arith, split)))

  ys_long : length ys ≡ m
  ys_long = length-take-le m (drop from xs) (omega (arith, length-drop from xs, lists.length_entries n bytes, ends))

  pub loaded_front : (room zeros : List ℕ) → room ≡ entries n lent ++ drop (length lent / n) zeros → take m room ≡ ys
  loaded_front room zeros e = rw (e, lent_entries) (take_at ys (drop (length lent / n) zeros) m ys_long)

  rest : n * start + n * (m - skip) ≡ length bytes
  rest =
      let count : start + (m - skip) ≡ length bytes / n = omega (arith, begins, ends, near) in
      sym (mul-add n start (m - skip)) ∙ ap (λ (z : ℕ). n * z) count ∙ sym whole

  left_long : length left ≡ n * (m - skip)
  left_long = simp (length-take, length-drop) (omega (arith, rest))

  module _ (W : ℕ) (p : List ℕ → ℕ) where
    coded : drop skip (encoded_buffer W k p ys) ≡ drop start (encoded_buffer W k p xs)
    coded =
        encoded_part W k p xs from m (omega (arith, lists.length_entries n bytes, ends)) skip near reaches
        ∙ rw begins (take_all (m - skip) (drop start (encoded_buffer W k p xs)) (omega (arith, length-drop start (encoded_buffer W k p xs), length_encoded W k p xs, lists.length_entries n bytes, ends, begins)))

    module _ {out : List ℕ} (out-is : out ≡ encoded_buffer W k p ys) where
      pub out_long : length out ≡ m
      out_long = ap length out-is ∙ length_encoded W k p ys ∙ ys_long

      kept_long : length (drop skip out) ≡ m - skip
      kept_long = length-drop skip out ∙ ap (λ (z : ℕ). z - skip) out_long

      -- what is stored: the coded part of the room, over the rest of the bytes
      pub finished : {kept last : List ℕ} → kept ≡ drop skip out → last ≡ bytes_of_all n kept ++ drop (n * length kept) left
          → put_mid (n * start) (length bytes - n * start) bytes last ≡ take (n * start) bytes ++ bytes_of_all n (drop start (encoded_buffer W k p xs))
      finished same e =
          let past : length left ≤ n * length (drop skip out) = rw (kept_long, left_long) (omega arith) in
          let beyond : length (drop (n * start) bytes) ≤ length bytes - n * start = omega (arith, length-drop (n * start) bytes) in
          rw (e, same, drop_of_length-le left past, append-nil, drop_of_length-le (drop (n * start) bytes) beyond, append-nil, out-is, coded)

-- ---- the loop: from `end` on, bytes₀ is coded
pub record Coding (W n k : ℕ) (p : List ℕ → ℕ) (bytes₀ bytes : List ℕ) (end : ℕ) : Type 0 where
  pub within : end ≤ length bytes₀ / n
  pub is : bytes ≡ take (n * end) bytes₀ ++ bytes_of_all n (drop end (encoded_buffer W k p (entries n bytes₀)))

module _ (W n k : ℕ) (p : List ℕ → ℕ) (bytes₀ : List ℕ) (some : 0 < n) (whole : length bytes₀ ≡ n * (length bytes₀ / n)) where
  abbrev all : List ℕ
  all = encoded_buffer W k p (entries n bytes₀)

  all_long : length all ≡ length bytes₀ / n
  all_long = length_encoded W k p (entries n bytes₀) ∙ lists.length_entries n bytes₀

  pub begun : Coding W n k p bytes₀ bytes₀ (length bytes₀ / n)
  begun =
      let past : length all ≤ length bytes₀ / n = omega (arith, all_long) in
      record {
        within = omega arith;
        is = rw (drop_of_length-le all past, append-nil, ← whole) (sym (take_all (length bytes₀) bytes₀ (omega arith)));
      }

  module _ {bytes : List ℕ} {end : ℕ} (g : Coding W n k p bytes₀ bytes end) where
    far : n * end ≤ length bytes₀
    far = rw whole (mul-le-mul_left n g.within)

    front_long : length (take (n * end) bytes₀) ≡ n * end
    front_long = length-take-le (n * end) bytes₀ far

    pub same : length bytes ≡ length bytes₀
    same =
        ap length g.is
        ∙ rw (length-append, front_long, lists.length_bytes_all n (drop end all), length-drop, all_long, ← mul-add)
        (ap (λ (z : ℕ). n * z) to_end ∙ sym whole)
      where
        to_end : end + (length bytes₀ / n - end) ≡ length bytes₀ / n
        to_end = omega (arith, g.within)

    pub front : take (n * end) bytes ≡ take (n * end) bytes₀
    front = rw g.is (take_at (take (n * end) bytes₀) (bytes_of_all n (drop end all)) (n * end) front_long)

    pub turn : (start : ℕ) → start ≤ end → (out : List ℕ)
        → out ≡ take (n * start) (take (n * end) bytes) ++ bytes_of_all n (drop start (encoded_buffer W k p (entries n (take (n * end) bytes))))
        → Coding W n k p bytes₀ (out ++ drop (n * end) bytes) start
    turn start h out e =
        let near : n * start ≤ n * end = mul-le-mul_left n h in
        let past : drop (n * end) bytes ≡ bytes_of_all n (drop end all) = rw g.is (drop_at (take (n * end) bytes₀) (bytes_of_all n (drop end all)) (n * end) front_long) in
        let inside : end ≤ length (entries n bytes₀) = omega (arith, lists.length_entries n bytes₀, g.within) in
        let long : start ≤ length (take end all) = rw (length-take-le end all (omega (arith, all_long, g.within))) h in
        let seam : drop start (take end all) ++ drop end all ≡ drop start all
        = sym (drop-append-le start (take end all) (drop end all) long) ∙ ap (drop start) (take-append-drop end all) in
        record {
          within = omega (arith, g.within);
          is =
              rw (e, past, front, take-take (n * start) (n * end) bytes₀ near, front_entries n some bytes₀ end far, encoded_front W k p (entries n bytes₀) end inside, append_assoc, ← lists.bytes_append n (drop start (take end all)) (drop end all), seam);
        }

  pub ended : {bytes : List ℕ} → Coding W n k p bytes₀ bytes 0 → bytes ≡ bytes_of_all n all
  ended g = g.is ∙ rw mul-zero
