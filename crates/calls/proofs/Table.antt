-- T1 to T12: the rule computes each row. Assumes nothing.
use mathlib.Core.Path.{refl}
use Rattle.rule.specs.Prediction.{admitted, settle, prediction}
use Rattle.rule.specs.Coding.{window, toggled, residual, restored, sample_of, coded_at, encoded_buffer, decoded_piece, new_state}
use Rattle.rule.specs.Refusals.{coding_refusal, encoding_refusal, order_six_refusal}
use Rattle.calls.specs.Encode.{encode}
use Rattle.calls.specs.Decode.{answered}
use Rattle.calls.specs.Table.{Table}

pub table : Table
unfolding admitted settle prediction window toggled residual restored sample_of coded_at encoded_buffer decoded_piece new_state coding_refusal encoding_refusal order_six_refusal encode answered
table = ((refl, (refl, (refl, (refl, (refl, (refl, (refl, (refl, (refl, (refl, tt)))))))))), (refl, (refl, tt)), (refl, tt))
