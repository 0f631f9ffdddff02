-- putting the weights that are left gives what putting them all at the start would
use Rattle.std.proofs.Common.{◌≡◌, ◌+◌, ◌-◌, ◌*◌, List, ℕ, ℤ, map, drop, length}
use Rattle.record.specs.Format.{weight_fields, weights_at}
use Rattle.record.specs.Signed.{raised}
use Rattle.record.specs.Widths.{weight_bits}
use Rattle.record.specs.Writing.{put_fields}
use Rattle.record_writing.proofs.write_weights.Given as goal

-- of weight i
abbrev pub place : ℕ → ℕ
place i = weights_at + weight_bits * i

-- the weights from i on, put in their places
abbrev pub put_rest : List ℕ → List ℤ → ℕ → List ℕ
put_rest bytes ws i = put_fields bytes (place i) (weight_fields (length ws - i)) (map (raised 31) (drop i ws))

abbrev pub invariant-loop-i : goal.invariant-loop-i
invariant-loop-i l = put_rest l.bytes l.weight-items l.i ≡ put_rest l.initial.bytes l.weight-items 0
