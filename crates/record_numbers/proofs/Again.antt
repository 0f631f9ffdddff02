-- Numbers out and in again are the encoding, and no test refuses their variant. Assumes nothing.
use mathlib.Core.Path.{◌≡◌, refl}
use Rattle.std.specs.Prelude.{Ok}
use Rattle.record.specs.declared.DeltaEncoding.{DeltaEncoding}
use Rattle.record.specs.declared.DeltaEncoding.TheVariants.{NoOp, Consecutive, Lookback, Conv1}
use Rattle.record_numbers.specs.Numbers.{numbers_of, encoding_of, known_encoding}

pub again : (encoding : DeltaEncoding) → encoding_of (numbers_of encoding) ≡ encoding
again NoOp = refl
again (Consecutive order flag) = refl
again (Lookback window state flag) = refl
again (Conv1 shift bias order) = refl

pub known_again : (encoding : DeltaEncoding) → known_encoding (numbers_of encoding) ≡ Ok encoding
known_again NoOp = refl
known_again (Consecutive order flag) = refl
known_again (Lookback window state flag) = refl
known_again (Conv1 shift bias order) = refl
