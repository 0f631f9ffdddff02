-- A caller's sequence of exported calls, in the terms of their contracts: one call that encodes, and then calls that decode its residuals,
-- cut in any way, each through any function of the width that fits. If encoding gave 0, every later call gives 0, and the outputs and
-- then the last state are the samples again; on samples, and on bytes. The plain and the general functions ask for the way General, which
-- fits every order; the functions of order 6 ask for OrderSix, which fits where the order is 6. Assumes nothing.
use mathlib.Core.Path.{◌≡◌}
use mathlib.Core.List.{List, ◌++◌}
use Prim.Native.Nat.{ℕ, ◌*◌, ◌/◌}
use lib.IntN.{ℤ}
use lib.ListN.{drop}
use Rattle.kinds.specs.declared.Width.{Width}
use Rattle.kinds.specs.Widths.{bits_of}
use Rattle.rule.proofs.Sums.{Samples}
use Rattle.calls.specs.Encode as encoding
use Rattle.calls.specs.Decode as decoding
use Rattle.calls.specs.Pieces.{Asked, joined, Each, AllFit, numbered_decodings, numbered_outputs, numbered_state}
use Rattle.calls.proofs.Whole.{whole_numbered}
use Rattle.entries.proofs.Bytes.{Bytes}
use Rattle.byte_coding.specs.Bytes.{weights_in, ragged}
use Rattle.byte_coding.specs.Calls.{encode_bytes}
use Rattle.byte_coding.specs.Pieces.{numbered_byte_decodings, AllEntire}
use Rattle.byte_coding.proofs.Whole.{bytes_whole_numbered}
use Rattle.boundary.specs.Calls.{given}

pub exported_whole : (W order shift : ℕ) (bias : ℤ) (weights : List ℤ) (samples lent : List ℕ) → Samples W samples
    → (asked : List Asked) → AllFit (given order shift bias weights) asked
    → let c = given order shift bias weights in
    let e = encoding.numbered (encoding.encode W c samples lent) in
    e.number ≡ 0 → joined asked ≡ drop order e.samples
    → let ns = numbered_decodings W c e.state asked in
    Each (λ (n : decoding.Numbered). n.number ≡ 0) ns × (numbered_outputs ns ++ numbered_state e.state ns ≡ samples)
exported_whole W order shift bias weights samples lent below asked fit zero cut =
    whole_numbered W (given order shift bias weights) samples lent below asked fit zero cut

pub exported_bytes_whole : (w : Width) (order shift : ℕ) (bias : ℤ) (weights samples lent : List ℕ) → Bytes samples → Bytes lent
    → (asked : List Asked) → AllFit (given order shift bias (weights_in weights)) asked → AllEntire (bits_of w) asked
    → let W = bits_of w in
    let c = given order shift bias (weights_in weights) in
    let e = encoding.numbered (encode_bytes W c (ragged W weights lent samples) samples lent) in
    e.number ≡ 0 → joined asked ≡ drop (W / 8 * order) e.samples
    → let ns = numbered_byte_decodings W c weights e.state asked in
    Each (λ (n : decoding.Numbered). n.number ≡ 0) ns × (numbered_outputs ns ++ numbered_state e.state ns ≡ samples)
exported_bytes_whole w order shift bias weights samples lent below held asked fit entire zero cut =
    bytes_whole_numbered w (given order shift bias (weights_in weights)) weights samples lent below held asked fit entire zero cut
