-- A state and what a call gives back have room; the piece lies in the row.
use denote.Param.{layout}
use Rattle.std.proofs.Common.{rules}
use Rattle.decoding.proofs.Room as room
use Rattle.coding_vectors.proofs.coder.call.Goals as goal

pub code-done-requires : goal.code-done-requires
code-done-requires g c =
    let few = room.sample_few g.S.Sample.WIDTH g.met.S.Sample.width_is g.met.S.Sample.size_is in
    (room.state_room (layout g.row.S) few, (room.said_room (layout g.row.S) few, search rules))
