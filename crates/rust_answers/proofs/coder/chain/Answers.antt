-- A state and what a call gives back have room.
use denote.Param.{layout}
use Rattle.decoding.proofs.Room as room
use Rattle.rust_answers.proofs.coder.chain.Goals as goal

pub encode_in_place-said-requires : goal.encode_in_place-said-requires
encode_in_place-said-requires g c =
    let few = room.sample_few g.S.Sample.WIDTH g.met.S.Sample.width_is g.met.S.Sample.size_is in
    room.said_room (layout g.row.S) few

pub decode_in_place-said-requires : goal.decode_in_place-said-requires
decode_in_place-said-requires g c =
    let few = room.sample_few g.S.Sample.WIDTH g.met.S.Sample.width_is g.met.S.Sample.size_is in
    (room.state_room (layout g.row.S) few, room.said_room (layout g.row.S) few)

pub decode_by-said-requires : goal.decode_by-said-requires
decode_by-said-requires g c =
    let few = room.sample_few g.S.Sample.WIDTH g.met.S.Sample.width_is g.met.S.Sample.size_is in
    (room.state_room (layout g.row.S) few, room.said_room (layout g.row.S) few)
