-- What is loaded, coded and stored is what `Coded` says of one chunk.
use Rattle.std.proofs.Common.{◌≡◌, ◌∙◌, sym, ap, ◌-◌, take, ◌/◌, length, drop, replicate, arith}
use Rattle.rule.specs.Coding.{encoded_buffer}
use Rattle.rule.specs.Prediction.{prediction}
use Rattle.sample.proofs.Numbers as numbers
use Rattle.sample.proofs.Sizes.{some_bytes}
use Rattle.byte_coding.proofs.Coded as law
use Rattle.predict.specs.Configuration.{config_of}
use Rattle.byte_coding.proofs.encoder.encode_chunk.Goals as goal

pub returns : goal.returns
returns g c =
    let W = g.S.Sample.W in
    let are = g.met.S.Sample.numbers_are in
    let bytes_are = g.met.S.Sample.bytes_are in
    let k = c.args.config.now.order.0 in
    let p = prediction W (config_of g.S.Sample.integer c.args.config.now) in
    let bytes = c.args.samples.now in
    let skip = c.min-skip.result in
    let from = c.args.start - skip in
    let m = length bytes / (W / 8) - from in
    let piece : law.Piece (W / 8) k bytes from m skip c.args.start
    = record {
      some = some_bytes g.S.Sample.WIDTH g.met.S.Sample.width_is;
      whole = c.requires.1.entire;
      begins = omega (arith, c.min-skip.ensures);
      ends = omega (arith, c.requires.1.begins);
      near = omega (arith, c.min-skip.ensures, c.requires.1.begins);
      reaches = λ h. omega (arith, c.min-skip.ensures);
    } in
    let room = c.load.new.to in
    let front = law.loaded_front piece (g.S.Sample.numbers room) (g.S.Sample.numbers (replicate 544 c.ZERO-room.result)) (rw (c.BYTES-2.ensures, bytes_are) at c.load.ensures) in
    let coded : g.S.Sample.numbers c.encode_samples.new.samples ≡ encoded_buffer W k p (g.S.Sample.numbers (take m room)) = rw (c.BYTES.ensures, bytes_are) at c.encode_samples.ensures in
    let out-is = coded ∙ ap (encoded_buffer W k p) (numbers.numbers-take are m room ∙ front) in
    let out = c.encode_samples.new.samples in
    let n = length bytes / c.BYTES.result - from in
    let long : length out ≡ n = rw (c.BYTES.ensures, bytes_are) (sym (numbers.numbers-length are out) ∙ law.out_long piece W p out-is) in
    let store = rw (law.past_skip n skip out (drop n room) long, ← numbers.numbers-length are (drop skip out), c.BYTES-3.ensures, bytes_are) at c.store.ensures in
    rw (c.BYTES-3.ensures, bytes_are) (law.finished piece W p out-is (numbers.numbers-drop are skip out) store)
