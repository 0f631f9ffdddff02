-- Coding calls over bytes: the call on the samples that lie in them. Bytes that do not divide into entries are a case of test 4, which is
-- made after tests 1 and 2 and before all others.
use Rattle.std.specs.Prelude.{Bool, not, List, ℕ, eqb}
use Rattle.kinds.specs.declared.Refusal.TheVariants.{BadOrder, BadShift, BadLength}
use Rattle.kinds.specs.Answers.{Answer, Done, refuse, when_done}
use Rattle.rule.specs.Configuration.{Config}
use Rattle.rule.specs.Refusals.{order_fits, shift_fits}
use Rattle.calls.specs.declared.Way.{Way}
use Rattle.calls.specs.declared.Way.TheVariants.{General, OrderSix}
use Rattle.calls.specs.Encode as encoding
use Rattle.calls.specs.Decode as decoding
use Rattle.byte_coding.specs.Bytes.{samples_in, samples_bytes}

-- tests 1 and 2, and 4 for ragged bytes
unfoldable pub early : ℕ → Config → Bool → Answer
early W c ragged =
    refuse (not (order_fits c.order)) BadOrder
    (refuse (not (shift_fits W c.shift)) BadShift
    (refuse ragged BadLength Done))

unfoldable pub early_by : Way → ℕ → Config → Bool → Answer
early_by General W c ragged = early W c ragged
early_by OrderSix W c ragged = refuse (not (eqb c.order 6)) BadOrder (early W c ragged)

-- ---- encoding, of bytes that divide into entries, and of any
unfoldable pub encode_laid : ℕ → Config → List ℕ → List ℕ → encoding.Encoded
encode_laid W c samples state =
    let e = encoding.encode W c (samples_in W samples) (samples_in W state) in
    when_done e.said
    (encoding.left e.said (samples_bytes W e.samples) (samples_bytes W e.state))
    (encoding.left e.said samples state)

unfoldable pub encode_bytes : ℕ → Config → Bool → List ℕ → List ℕ → encoding.Encoded
encode_bytes W c ragged samples state = when_done (early W c ragged) (encode_laid W c samples state) (encoding.left (early W c ragged) samples state)

-- ---- decoding
unfoldable pub decode_laid : Way → ℕ → Config → List ℕ → List ℕ → decoding.Decoded
decode_laid way W c state piece =
    let d = decoding.decode_by way W c (samples_in W state) (samples_in W piece) in
    when_done d.said
    (decoding.left d.said (samples_bytes W d.state) (samples_bytes W d.piece))
    (decoding.left d.said state piece)

unfoldable pub decode_bytes : Way → ℕ → Config → Bool → List ℕ → List ℕ → decoding.Decoded
decode_bytes way W c ragged state piece =
    when_done (early_by way W c ragged) (decode_laid way W c state piece) (decoding.left (early_by way W c ragged) state piece)
