-- Decoding bytes chunk by chunk, with the state between the chunks. Over the width W, the bytes n of an entry, the order k and any
-- predictor p. Assumes nothing.
use mathlib.Core.Path.{◌≡◌, refl, sym, ap, ◌∙◌}
use mathlib.Core.List.{List, [], ◌++◌, append_assoc, append-nil}
use Prim.Native.Nat.{ℕ, ◌+◌, ◌-◌, ◌*◌, ◌/◌, ◌≤◌, ◌<◌, min}
use native.Mathlib.Nat.{mul-zero, mul-add, mul-le-mul_left}
use native.Mathlib.Omega.{arith}
use lib.ListN.{length, take, drop, length-append, length-drop, drop_of_length-le}
use lib.Seq.{take_at, drop_at, take_all, length-take-le, take-add, drop-drop}
use borrow.Rule.Slice.PartMut.{put_mid}
use Rattle.kinds.specs.declared.Width.{Width}
use Rattle.kinds.specs.Widths.{bits_of}
use Rattle.rule.specs.Coding.{decoded_piece, new_state}
use Rattle.sample.proofs.Sizes.{some_bytes}
use Rattle.entries.specs.Entries.{entries, bytes_of_all}
use Rattle.entries.proofs.Lists as lists
use Rattle.rule.proofs.Extending as extending
use Rattle.byte_coding.specs.Lengths.{Entire}

-- ---- one chunk: `piece` is loaded to the front of the room, decoded there, and stored again
pub loaded_front : (n : ℕ) (piece room : List ℕ) {room₁ : List ℕ} → room₁ ≡ entries n piece ++ drop (length piece / n) room
    → take (length piece / n) room₁ ≡ entries n piece
loaded_front n piece room e =
    rw e (take_at (entries n piece) (drop (length piece / n) room) (length piece / n) (lists.length_entries n piece))

-- what stood in the room is stored over all of the piece
pub stored : (n : ℕ) (out piece : List ℕ) → length piece ≡ n * length out → {new : List ℕ} → new ≡ bytes_of_all n out ++ drop (n * length out) piece → new ≡ bytes_of_all n out
stored n out piece whole e =
    let past : length piece ≤ n * length out = omega (arith, whole) in
    rw (e, drop_of_length-le piece past) (append-nil (bytes_of_all n out))

-- ---- the loop, from state₀ and bytes₀: the outputs of the samples before `start`, and then the bytes that are left
pub record Going (W n k : ℕ) (p : List ℕ → ℕ) (state₀ bytes₀ state bytes : List ℕ) (start : ℕ) : Type 0 where
  pub within : start ≤ length bytes₀ / n
  pub same : length bytes ≡ length bytes₀
  pub full : length state ≡ k
  pub outputs : bytes ≡ bytes_of_all n (decoded_piece W k p state₀ (take start (entries n bytes₀))) ++ drop (n * start) bytes₀
  pub next : state ≡ new_state W k p state₀ (take start (entries n bytes₀))

-- what it starts from: k samples, and bytes that are whole entries
pub record Begin (n k : ℕ) (state₀ bytes₀ : List ℕ) : Type 0 where
  pub some : 0 < n
  pub full₀ : length state₀ ≡ k
  pub whole : length bytes₀ ≡ n * (length bytes₀ / n)

pub begin_of : (w : Width) {W k : ℕ} {state bytes : List ℕ} → bits_of w ≡ W → length state ≡ k → Entire W bytes → Begin (W / 8) k state bytes
begin_of w is full lent = record { some = some_bytes w is; full₀ = full; whole = lent.entire }

module _ (W : ℕ) {n k : ℕ} (p : List ℕ → ℕ) {state₀ bytes₀ : List ℕ} (begin : Begin n k state₀ bytes₀) where
  open begin use {some, full₀, whole}

  abbrev xs : List ℕ
  xs = entries n bytes₀

  long : length xs ≡ length bytes₀ / n
  long = lists.length_entries n bytes₀

  pub begun : Going W n k p state₀ bytes₀ state₀ bytes₀ 0
  unfolding decoded_piece new_state
  begun = record { within = omega arith; same = refl; full = full₀; outputs = rw mul-zero; next = refl }

  module _ {state bytes : List ℕ} {start : ℕ} (g : Going W n k p state₀ bytes₀ state bytes start) where
    passed : length (bytes_of_all n (decoded_piece W k p state₀ (take start xs))) ≡ n * start
    passed =
        lists.length_bytes_all n (decoded_piece W k p state₀ (take start xs))
        ∙ ap (λ (m : ℕ). n * m) (extending.length_decoded W k p state₀ (take start xs) full₀ ∙ length-take-le start xs (omega (arith, long, g.within)))

    ahead : drop (n * start) bytes ≡ drop (n * start) bytes₀
    ahead = rw g.outputs (drop_at (bytes_of_all n (decoded_piece W k p state₀ (take start xs))) (drop (n * start) bytes₀) (n * start) passed)

    behind : take (n * start) bytes ≡ bytes_of_all n (decoded_piece W k p state₀ (take start xs))
    behind = rw g.outputs (take_at (bytes_of_all n (decoded_piece W k p state₀ (take start xs))) (drop (n * start) bytes₀) (n * start) passed)

    -- the chunk from `start` to `end`
    module _ (end : ℕ) (h : start ≤ end) (within : end ≤ length bytes₀ / n) where
      to_end : start + (end - start) ≡ end
      to_end = omega arith

      far : n * end ≤ length bytes₀
      far = rw whole (mul-le-mul_left n within)

      wide : n * start + n * (end - start) ≡ n * end
      wide = sym (mul-add n start (end - start)) ∙ ap (λ (m : ℕ). n * m) to_end

      size : n * end - n * start ≡ n * (end - start)
      size = omega (arith, wide)

      chunk_entries : entries n (take (n * end - n * start) (drop (n * start) bytes)) ≡ take (end - start) (drop start xs)
      chunk_entries = rw (size, ahead) (lists.entries_part n some bytes₀ start (end - start) (omega (arith, wide, far)))

      more : take end xs ≡ take start xs ++ take (end - start) (drop start xs)
      more = rw to_end at (take-add start (end - start) xs)

      module _ (out next : List ℕ)
          (out-is : out ≡ bytes_of_all n (decoded_piece W k p state (entries n (take (n * end - n * start) (drop (n * start) bytes)))))
          (next_is : next ≡ new_state W k p state (entries n (take (n * end - n * start) (drop (n * start) bytes))))
        where
          next_more : next ≡ new_state W k p state₀ (take end xs)
          next_more =
              next_is
              ∙ rw (chunk_entries, g.next, more) (sym (extending.state_more W k p state₀ (take start xs) full₀ (take (end - start) (drop start xs))))

          outputs_more : put_mid (n * start) (n * end - n * start) bytes out ≡ bytes_of_all n (decoded_piece W k p state₀ (take end xs)) ++ drop (n * end) bytes₀
          outputs_more =
              rw (
                behind,
                out-is,
                chunk_entries,
                ahead,
                g.next,
                drop-drop,
                size,
                wide,
                more,
                extending.decoded_more W k p state₀ (take start xs) full₀ (take (end - start) (drop start xs)),
                lists.bytes_append n,
              )
              (sym (append_assoc (bytes_of_all n (decoded_piece W k p state₀ (take start xs))) _ (drop (n * end) bytes₀)))

          turn : Going W n k p state₀ bytes₀ next (put_mid (n * start) (n * end - n * start) bytes out) end
          turn =
              record {
                within = within;
                same =
                    rw (outputs_more, length-append, lists.length_bytes_all n (decoded_piece W k p state₀ (take end xs)), extending.length_decoded W k p state₀ (take end xs) full₀, length-take-le end xs (omega (arith, long)), length-drop)
                    (omega (arith, far));
                full = rw next_more (extending.length_state W k p state₀ (take end xs) full₀);
                outputs = outputs_more;
                next = next_more;
              }

    pub ended : length bytes₀ / n ≤ start → (bytes ≡ bytes_of_all n (decoded_piece W k p state₀ xs)) × (state ≡ new_state W k p state₀ xs)
    ended past =
        let e : start ≡ length bytes₀ / n = omega (arith, g.within) in
        let all : take start xs ≡ xs = take_all start xs (omega (arith, long)) in
        let far : length bytes₀ ≤ n * start = rw e (omega (arith, whole)) in
        let none : drop (n * start) bytes₀ ≡ [] = drop_of_length-le bytes₀ far in
        (g.outputs ∙ rw (all, none) (append-nil _), g.next ∙ rw all)

  -- a turn of the loop, up to a start that may lie past the end. The code counts a sample's bytes by a, b and c.
  module _ {a b c : ℕ} (a_is : a ≡ n) (b_is : b ≡ n) (c_is : c ≡ n) {state bytes : List ℕ} {start size : ℕ} (chunk : ℕ) where
    pub step : start < length bytes₀ / c → size ≡ min (length bytes₀ / c - start) chunk → Going W n k p state₀ bytes₀ state bytes (min start (length bytes₀ / n)) → {out next : List ℕ}
        → out ≡ bytes_of_all n (decoded_piece W k p state (entries n (take (b * (start + size) - a * start) (drop (a * start) bytes))))
        → next ≡ new_state W k p state (entries n (take (b * (start + size) - a * start) (drop (a * start) bytes)))
        → Going W n k p state₀ bytes₀ next (put_mid (a * start) (b * (start + size) - a * start) bytes out) (min (start + chunk) (length bytes₀ / n))
    step left size_is g {out} {next} out-is next_is =
        let count : length bytes₀ / c ≡ length bytes₀ / n = rw c_is in
        let here : min start (length bytes₀ / n) ≡ start = omega (arith, count, left) in
        let stop : min (start + chunk) (length bytes₀ / n) ≡ start + size = omega (arith, count, size_is, left) in
        rw (a_is, b_is, stop) (turn (rw here at g) (start + size) (omega arith) (omega (arith, count, size_is, left)) out next (rw (a_is, b_is) at out-is) (rw (a_is, b_is) at next_is))
