-- Reading is local: bytes that have the bits used in common give one answer, and bytes appended to those that did not end too early change nothing.
use mathlib.Core.Bool.{Bool, true, false, cond, not}
use mathlib.Core.List.{List, [], ◌∷◌, ◌++◌, map}
use mathlib.Core.Path.{◌≡◌, refl, sym, ap, ap₂, ◌∙◌}
use Prim.Native.Nat.{ℕ, ◌+◌, ◌*◌, ◌/◌, ◌%◌, ◌≤◌, ◌<◌}
use native.Mathlib.Omega.{arith}
use borrow.Author.Tests.{le-leb, leb-true}
use lib.Dec.{eqb}
use lib.IntN.{ℤ}
use lib.ListN.{length, length-append, get_or-append}
use Rattle.std.specs.Prelude.{Result, Ok, Err, IfOk}
use Rattle.std.proofs.lemmas.Result.{IfOk-at_ok, IfOk-weaker}
use Rattle.bits.specs.Fields.{bit_at, bit_of, field_at, holds}
use Rattle.bits.proofs.Fields.{field_agree}
use Rattle.kinds.specs.Answers.{refuse}
use Rattle.kinds.specs.declared.Refusal.{Refusal}
use Rattle.kinds.specs.declared.Refusal.TheVariants.{BadOrder, BytesEnd, UnknownVariant, BadRecord}
use Rattle.record.specs.declared.DeltaEncoding.{DeltaEncoding}
use Rattle.record.specs.declared.DeltaEncoding.TheVariants.{NoOp}
use Rattle.record.specs.declared.Reading.{Reading}
use Rattle.record.specs.Format.{weight_fields, total_width, logs_malformed}
use Rattle.record.specs.Reading.{in_array, no_weights, given, reading, numbers_at, weights_in, read_weights, read_consecutive, read_lookback, read_conv1, read_variant, read_order, read_record}
use Rattle.record.specs.Records.{Agree}
use Rattle.record.specs.Signed.{lowered}
use Rattle.rule.specs.Refusals.{order_fits}

field_same : (bits at n : ℕ) (xs ys : List ℕ) → Agree bits xs ys → at + n ≤ bits → field_at xs at n ≡ field_at ys at n
field_same bits at n xs ys a h = field_agree xs ys at n (λ i k. a.same (at + i) (omega arith))

numbers_same : (bits : ℕ) (xs ys : List ℕ) (at : ℕ) (fields : List ℕ) → Agree bits xs ys → at + total_width fields ≤ bits → numbers_at xs at fields ≡ numbers_at ys at fields
numbers_same bits xs ys at [] a h = refl
numbers_same bits xs ys at (width ∷ fields) a h =
    ap₂ (λ (n : ℕ) (ns : List ℕ). n ∷ ns) (field_same bits at width xs ys a (omega arith)) (numbers_same bits xs ys (at + width) fields a (omega arith))

-- the bits that decided r, read from xs, are among the first `bits`: it is a record and uses no more, or it is settled and xs has no more
data Within (bits : ℕ) (xs : List ℕ) (r : Result Reading Refusal) : Type 0 where
  used : (x : Reading) → r ≡ Ok x → x.bits ≤ bits → Within bits xs r
  settled : (r ≡ Err BytesEnd → ⊥) → 8 * length xs ≤ bits → Within bits xs r

-- r, read from xs, has used at least n bits where it is a record, and s, read from ys, is r where those bits agree
record Follows (xs ys : List ℕ) (n : ℕ) (r s : Result Reading Refusal) : Type 0 where
  reached : IfOk r (λ x. n ≤ x.bits)
  same : (bits : ℕ) → Agree bits xs ys → Within bits xs r → s ≡ r

inside : (bits n : ℕ) (xs : List ℕ) (r : Result Reading Refusal) → n ≤ 8 * length xs → IfOk r (λ x. n ≤ x.bits) → Within bits xs r → n ≤ bits
inside bits n xs r h reached (used x e l) = omega (arith, IfOk-at_ok (λ (y : Reading). n ≤ y.bits) e reached)
inside bits n xs r h reached (settled e l) = omega arith

never : {A : Type 0} (bits : ℕ) (xs : List ℕ) → Within bits xs (Err BytesEnd) → A
never bits xs (used x e l) = absurd (let z : ◌≡◌ {A = ℕ} 0 1 = cc in omega arith)
never bits xs (settled e l) = absurd (e refl)

module _ (xs ys : List ℕ) where
  -- what is the same for both follows
  follows_given : (n : ℕ) (encoding : DeltaEncoding) (weights : List ℤ) (bits : ℕ) → n ≤ bits → Follows xs ys n (given encoding weights bits) (given encoding weights bits)
  follows_given n encoding weights bits h = record { reached = h; same = λ b a w. refl }

  follows_refused : (n : ℕ) (t : Bool) (a : Refusal) (r s : Result Reading Refusal) → Follows xs ys n r s → Follows xs ys n (refuse t a r) (refuse t a s)
  follows_refused n true a r s f = record { reached = tt; same = λ b g w. refl }
  follows_refused n false a r s f = f

  follows_test : (n : ℕ) (t : Bool) (r s r' s' : Result Reading Refusal) → Follows xs ys n r s → Follows xs ys n r' s' → Follows xs ys n (cond t r r') (cond t s s')
  follows_test n true r s r' s' f g = f
  follows_test n false r s r' s' f g = g

  -- bits that must be there, and what is made of them
  follows_held : (n at width : ℕ) (r s : Result Reading Refusal) → n ≤ at + width →
      IfOk r (λ x. at + width ≤ x.bits) → ((bits : ℕ) → at + width ≤ bits → Agree bits xs ys → Within bits xs r → s ≡ r) →
      Follows xs ys n (cond (holds xs at width) r (Err BytesEnd)) (cond (holds ys at width) s (Err BytesEnd))
  follows_held n at width r s h reached alike = go (holds xs at width) refl
    where
      go : (t : Bool) → holds xs at width ≡ t → Follows xs ys n (cond t r (Err BytesEnd)) (cond (holds ys at width) s (Err BytesEnd))
      go true e =
          let room = leb-true (at + width) (8 * length xs) e in
          record {
            reached = IfOk-weaker r (λ x. at + width ≤ x.bits) (λ x. n ≤ x.bits) (λ x l. omega arith) reached;
            same = λ bits a w.
                let l : at + width ≤ bits = inside bits (at + width) xs r room reached w in
                rw (le-leb (at + width) (8 * length ys) (omega (arith, a.enough))) (alike bits l a w);
          }
      go false e =
          record {
            reached = tt;
            same = λ bits a w. never bits xs w;
          }

  follows_reading : (n at width : ℕ) (fields : List ℕ) (next next' : ℕ → ℕ → List ℕ → Result Reading Refusal) → n ≤ at + width →
      ((v : ℕ) → Follows xs ys (at + width) (next v (at + width) fields) (next' v (at + width) fields)) →
      Follows xs ys n (reading xs at (width ∷ fields) next) (reading ys at (width ∷ fields) next')
  unfolding reading
  follows_reading n at width fields next next' h f =
      let v = field_at xs at width in
      follows_held n at width (next v (at + width) fields) (next' (field_at ys at width) (at + width) fields) h
      (f v).reached
      (λ bits l a w. ap (λ (x : ℕ). next' x (at + width) fields) (sym (field_same bits at width xs ys a l)) ∙ (f v).same bits a w)

  follows_weights : (n at : ℕ) (encoding : DeltaEncoding) (order : ℕ) → n ≤ at → Follows xs ys n (read_weights xs at encoding order) (read_weights ys at encoding order)
  unfolding read_weights
  follows_weights n at encoding order h =
      let fields = weight_fields order in
      let end = at + total_width fields in
      follows_held n at (total_width fields) (given encoding (in_array (weights_in xs at order)) end) (given encoding (in_array (weights_in ys at order)) end) (omega arith)
      (omega arith)
      (λ bits l a w. ap (λ (ns : List ℕ). given encoding (in_array (map (lowered 31) ns)) end) (sym (numbers_same bits xs ys at fields a l)))

  follows_consecutive : (at : ℕ) → Follows xs ys at (read_consecutive xs at) (read_consecutive ys at)
  unfolding read_consecutive
  follows_consecutive at =
      follows_reading at at _ _ _ _ (omega arith) λ order.
      follows_refused _ (eqb order 0) BadRecord _ _
      (follows_reading _ _ _ _ _ _ (omega arith) λ flag.
      follows_given _ _ _ _ (omega arith))

  follows_lookback : (at : ℕ) → Follows xs ys at (read_lookback xs at) (read_lookback ys at)
  unfolding read_lookback
  follows_lookback at =
      follows_reading at at _ _ _ _ (omega arith) λ window.
      follows_reading _ _ _ _ _ _ (omega arith) λ state.
      follows_refused _ (logs_malformed (window + 1) state) BadRecord _ _
      (follows_reading _ _ _ _ _ _ (omega arith) λ flag.
      follows_given _ _ _ _ (omega arith))

  follows_conv1 : (at : ℕ) → Follows xs ys at (read_conv1 xs at) (read_conv1 ys at)
  unfolding read_conv1
  follows_conv1 at =
      follows_reading at at _ _ _ _ (omega arith) λ shift.
      follows_reading _ _ _ _ _ _ (omega arith) λ bias.
      follows_reading _ _ _ _ _ _ (omega arith) λ count.
      follows_refused _ (not (order_fits (count + 1))) BadOrder _ _
      (follows_weights _ _ _ (count + 1) (omega arith))

  unknown : {n : ℕ} → Follows xs ys n (Err UnknownVariant) (Err UnknownVariant)
  unknown = record { reached = tt; same = λ b g w. refl }

  follows_variant : Follows xs ys 0 (read_variant xs) (read_variant ys)
  unfolding read_variant
  follows_variant =
      follows_reading 0 0 _ _ _ _ (omega arith) λ variant.
      follows_test _ (eqb variant 0) _ _ _ _ (follows_given _ NoOp no_weights _ (omega arith))
      (follows_test _ (eqb variant 1) _ _ _ _ (follows_consecutive _)
      (follows_test _ (eqb variant 2) _ _ _ _ (follows_lookback _)
      (follows_test _ (eqb variant 3) _ _ _ _ (follows_conv1 _)
      unknown)))

  follows_order : Follows xs ys 0 (read_order xs) (read_order ys)
  unfolding read_order
  follows_order =
      follows_reading 0 0 _ _ _ _ (omega arith) λ order.
      follows_test _ (eqb order 0) _ _ _ _ (follows_given _ _ _ _ (omega arith)) (follows_given _ _ _ _ (omega arith))

  follows : (variants : Bool) → Follows xs ys 0 (read_record xs variants) (read_record ys variants)
  unfolding read_record
  follows true = follows_variant
  follows false = follows_order

-- bytes that have the bits used in common are read alike
pub local : (xs ys : List ℕ) (variants : Bool) (r : Reading) → read_record xs variants ≡ Ok r → Agree r.bits xs ys → read_record ys variants ≡ read_record xs variants
local xs ys variants r d a = (follows xs ys variants).same r.bits a (used r d (omega arith))

bit_appended : (xs zs : List ℕ) (i : ℕ) → i < 8 * length xs → bit_at xs i ≡ bit_at (xs ++ zs) i
bit_appended xs zs i h = ap (λ (b : ℕ). bit_of b (i % 8)) (sym (get_or-append xs zs 0 (i / 8) (omega arith)))

-- bytes behind change no answer but 7, the refusals among them
pub appended : (xs zs : List ℕ) (variants : Bool) → (read_record xs variants ≡ Err BytesEnd → ⊥) → read_record (xs ++ zs) variants ≡ read_record xs variants
appended xs zs variants e =
    (follows xs (xs ++ zs) variants).same (8 * length xs)
    (record { enough = omega (arith, length-append xs zs); same = bit_appended xs zs })
    (settled e (omega arith))
