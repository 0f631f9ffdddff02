-- The six weights and the bias, in a register's width, are the configuration.
use denote.Param.{layout}
use Rattle.predict.proofs.Room as config
use Rattle.decoding.proofs.Room as room
use Rattle.decoding.proofs.Starting as starting
use Rattle.decoding.proofs.order_six.decode_in_place_order_6.Goals as goal

pub six_of-requires : goal.six_of-requires
six_of-requires g c =
    let met = g.met.S.Sample in
    (config.room g.S.Sample.WIDTH met.width_is met.conv_size_is met.conv_align_is, (room.six_room (layout g.row.S-Wide) met.wide_size, c.requires.1))

pub decode_residuals-requires : goal.decode_residuals-requires
decode_residuals-requires g c = (room.six_room (layout g.row.S-Wide) g.met.S.Sample.wide_size, starting.startable c.six_of.ensures c.requires.0)

pub returns : goal.returns
returns g c = starting.decodes c.six_of.ensures c.decode_residuals.ensures
