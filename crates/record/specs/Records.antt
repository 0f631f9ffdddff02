-- What the theorems on the record say of a record's value.
use Rattle.std.specs.Prelude.{List, ℕ, ◌*◌, ◌^◌, ◌≤◌, ◌<◌, ◌≡◌, ℤ, pos, length, get_or, take}
use Rattle.std.specs.Int.Signed.{mag}
use Rattle.bits.specs.Fields.{bit_at}
use Rattle.record.specs.declared.DeltaEncoding.{DeltaEncoding}
use Rattle.record.specs.declared.DeltaEncoding.TheVariants.{NoOp, Consecutive, Lookback, Conv1}
use Rattle.record.specs.declared.DeltaRecord.{DeltaRecord}
use Rattle.record.specs.Reading.{in_array, no_weights}

-- the weights that the format keeps: the first `order` of Conv1's, then 0; none of any other record
abbrev pub kept_weights : DeltaEncoding → List ℤ → List ℤ
kept_weights NoOp weights = no_weights
kept_weights (Consecutive order flag) weights = no_weights
kept_weights (Lookback window state flag) weights = no_weights
kept_weights (Conv1 shift bias order) weights = in_array (take order.0 weights)

abbrev pub kept : DeltaRecord → DeltaRecord
kept delta = record { encoding = delta.encoding; weights = kept_weights delta.encoding delta.weights }

-- the bias is an i64
abbrev pub BiasFits : DeltaEncoding → Type 0
BiasFits NoOp = Unit {0}
BiasFits (Consecutive order flag) = Unit {0}
BiasFits (Lookback window state flag) = Unit {0}
BiasFits (Conv1 shift bias order) = mag bias < 2 ^ 63

-- what holds of every record that a program can make: 32 weights of 32 bits, a bias of 64
pub record Machine (delta : DeltaRecord) : Type 0 where
  pub long : length delta.weights ≡ 32
  pub weight_fits : (i : ℕ) → mag (get_or delta.weights i (pos 0)) < 2 ^ 31
  pub bias_fits : BiasFits delta.encoding

-- the second byte list has the first's bits below a place
pub record Agree (bits : ℕ) (xs ys : List ℕ) : Type 0 where
  pub enough : bits ≤ 8 * length ys
  pub same : (i : ℕ) → i < bits → bit_at xs i ≡ bit_at ys i
