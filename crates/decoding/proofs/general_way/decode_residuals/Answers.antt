-- The loop is `Residuals`'.
use Rattle.std.proofs.Common.{◌≡◌, ◌∙◌, sym, ap, refl, ℕ, List, length, get_or, set, ◌+◌, ◌-◌, ◌<◌, ◌%◌, ◌^◌, arith}
use Rattle.std.proofs.lemmas.List.{get_or-set_other, length-set}
use Rattle.rule.specs.Prediction.{prediction}
use Rattle.sample.proofs.Numbers as numbers
use Rattle.predict.specs.Configuration.{config_of}
use Rattle.decoding.proofs.Residuals as law
use Rattle.decoding.proofs.general_way.decode_residuals.Goals as goal

pub loop-i-init : goal.loop-i-init
loop-i-init g c =
    let s = c.requires.0 in
    (refl, law.begun g.S.Sample.W _ _ s.ready.some (g.S.Sample.numbers c.args.samples.now) (g.S.Sample.numbers c.args.residuals.now) s.full)

pub loop-i-preserved : goal.loop-i-preserved
loop-i-preserved g c =
    let are = g.met.S.Sample.numbers_are in
    let W = g.S.Sample.W in
    let number = g.S.Sample.number in
    let numbers_of = g.S.Sample.numbers in
    let s = c.requires.0 in
    let l = c.loop-i in
    let k = c.args.config.now.order.0 in
    let samples = numbers_of l.samples in
    let residuals = numbers_of l.residuals in
    let within : l.i < length residuals = omega (arith, numbers.numbers-length are l.residuals) in
    let inside : l.i + k < length samples = omega (arith, numbers.numbers-length are l.samples) in
    let residual = numbers.numbers-at are l.residuals l.i 0 (omega arith) c.index-residuals-i.is in
    let read = numbers.numbers-at are _ l.i 0 (rw length-set (omega arith)) c.index-samples-i.is in
    let written : numbers_of (set l.samples (l.i + k) c.wrapping_add.result) ≡ set samples (l.i + k) (number c.wrapping_add.result) =
    numbers.numbers-set are l.samples (l.i + k) c.wrapping_add.result in
    let oldest : number c.index-samples-i.result ≡ get_or samples l.i 0 =
    sym read ∙ rw written (get_or-set_other samples (l.i + k) l.i (number c.wrapping_add.result) 0 (λ e. omega (arith, s.ready.some))) in
    let predicted = c.predict_one-prediction.ensures ∙ ap (λ (xs : List ℕ). prediction W (config_of g.S.Sample.integer c.args.config.now) xs) (numbers.numbers-part are (l.i + k - l.i) l.i l.samples) in (
      length-set l.samples (l.i + k) c.wrapping_add.result ∙ l.invariant.0,
      rw (numbers.numbers-set are, numbers.numbers-set are, oldest) (
          law.turn W _ _ s.ready.some _ _ s.full l.invariant.1 within inside _ _ predicted
          (c.wrapping_add.ensures ∙ ap (λ (r : ℕ). (r + number c.predict_one-prediction.result) % 2 ^ W) (sym residual))
          ),
    )

pub returns : goal.returns
returns g c =
    let are = g.met.S.Sample.numbers_are in
    let s = c.requires.0 in
    let t = law.ended g.S.Sample.W _ _ s.ready.some _ _ s.full c.loop-i.invariant.1 (omega (arith, numbers.numbers-length are c.loop-i.residuals)) in
    record { outputs_are = t.0; next_is = rw (numbers.numbers-length are c.args.residuals.now) at t.1 }
