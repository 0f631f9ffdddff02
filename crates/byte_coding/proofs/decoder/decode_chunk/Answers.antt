-- The samples in the piece are loaded, decoded and stored: `Chunks`' first part.
use Rattle.std.proofs.Common.{◌≡◌, ◌∙◌, sym, ap, ℕ, ◌*◌, ◌/◌, length, take, drop}
use Rattle.std.proofs.Math.Seq.{take_at}
use Rattle.rule.specs.Prediction.{prediction}
use Rattle.rule.specs.Coding.{decoded_piece, new_state}
use Rattle.rule.proofs.Extending as extending
use Rattle.sample.proofs.Numbers as numbers
use Rattle.predict.specs.Configuration.{config_of}
use Rattle.entries.proofs.Lists.{length_entries}
use Rattle.byte_coding.specs.Bytes.{samples_in, samples_bytes}
use Rattle.byte_coding.proofs.Chunks as law
use Rattle.byte_coding.proofs.decoder.decode_chunk.Goals as goal

pub returns-clause-piece_after : goal.returns-clause-piece_after
returns-clause-piece_after g c =
    let W = g.S.Sample.W in
    let are = g.met.S.Sample.numbers_are in
    let k = c.args.config.now.order.0 in
    let p = prediction W (config_of g.S.Sample.integer c.args.config.now) in
    let state = g.S.Sample.numbers c.args.state.now in
    let piece = c.args.piece.now in
    let room = c.load.new.to in
    let out = c.decode_samples.new.piece in
    let n = length piece / c.BYTES.result in
    let count : n ≡ length piece / (W / 8) = rw (c.BYTES.ensures, g.met.S.Sample.bytes_are) in
    let loaded : g.S.Sample.numbers (take n room) ≡ samples_in W piece = numbers.numbers-take are n room ∙ rw count (law.loaded_front (W / 8) piece (g.S.Sample.numbers c.args.room.now) c.load.ensures) in
    let out-is = c.decode_samples.ensures.outputs_are ∙ ap (decoded_piece W k p state) loaded in
    let long : length (g.S.Sample.numbers out) ≡ length piece / (W / 8) = ap length out-is ∙ extending.length_decoded W k p state (samples_in W piece) c.requires.startable.0.full ∙ length_entries (W / 8) piece in
    let front = take_at out (drop n room) n (sym (numbers.numbers-length are out) ∙ long ∙ sym count) in
    law.stored (W / 8) (g.S.Sample.numbers out) piece (c.requires.entire.0.entire ∙ ap (λ (m : ℕ). W / 8 * m) (sym long)) (rw (front, ← numbers.numbers-length are out) at c.store.ensures)
    ∙ ap (samples_bytes W) out-is

pub returns-clause-state_after : goal.returns-clause-state_after
returns-clause-state_after g c =
    let W = g.S.Sample.W in
    let are = g.met.S.Sample.numbers_are in
    let p = prediction W (config_of g.S.Sample.integer c.args.config.now) in
    let piece = c.args.piece.now in
    let room = c.load.new.to in
    let n = length piece / c.BYTES.result in
    let count : n ≡ length piece / (W / 8) = rw (c.BYTES.ensures, g.met.S.Sample.bytes_are) in
    let loaded : g.S.Sample.numbers (take n room) ≡ samples_in W piece = numbers.numbers-take are n room ∙ rw count (law.loaded_front (W / 8) piece (g.S.Sample.numbers c.args.room.now) c.load.ensures) in
    c.decode_samples.ensures.next_is ∙ ap (new_state W c.args.config.now.order.0 p (g.S.Sample.numbers c.args.state.now)) loaded
