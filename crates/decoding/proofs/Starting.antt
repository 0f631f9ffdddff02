-- Between a call's configuration and the numbers that the steps of a way hold. Assumes nothing.
use mathlib.Core.Path.{◌≡◌, subst}
use mathlib.Core.List.{List}
use Prim.Native.Nat.{ℕ}
use Rattle.rule.specs.Configuration.{Config}
use Rattle.decoding.specs.Steps.{Startable, Decodes}

module _ {W : ℕ} {held given : Config} (same : held ≡ given) {state : List ℕ} where
  pub startable : Startable W given state → Startable W held state
  startable s = rw same s

  pub decodes : {residuals outputs next : List ℕ} → Decodes W held state residuals outputs next → Decodes W given state residuals outputs next
  decodes {residuals} {outputs} {next} d = subst (λ (c : Config). Decodes W c state residuals outputs next) same d
