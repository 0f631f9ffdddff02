-- Samples and weights in bytes: little-endian entries of W bits and of 32.
use Rattle.std.specs.Prelude.{Bool, not, ◌&&◌, List, ℕ, ◌/◌, ℤ}
use Rattle.std.specs.Int.{w32}
use Rattle.kinds.specs.declared.Configuration.{Configuration}
use Rattle.rule.specs.Configuration.{Config, config}
use Rattle.entries.specs.Entries.{entries, bytes_of_all, signed_entries, is_entire}

abbrev pub samples_in : ℕ → List ℕ → List ℕ
samples_in W bytes = entries (W / 8) bytes

abbrev pub samples_bytes : ℕ → List ℕ → List ℕ
samples_bytes W samples = bytes_of_all (W / 8) samples

abbrev pub weights_in : List ℕ → List ℤ
weights_in bytes = signed_entries w32 4 bytes

-- the configuration of a call that is given its weights' bytes
abbrev pub laid : Configuration ℕ → Config
laid c = config c.order c.shift c.bias (weights_in c.weights.now)

-- bytes of some slice do not divide into entries
abbrev pub ragged : ℕ → List ℕ → List ℕ → List ℕ → Bool
ragged W weights state samples = not (is_entire 4 weights && (is_entire (W / 8) state && is_entire (W / 8) samples))
