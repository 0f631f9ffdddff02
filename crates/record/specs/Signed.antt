-- A signed number of h + 1 bits as the record stores it, raised by 2^h.
use Rattle.std.specs.Prelude.{ℕ, suc, ◌+◌, ◌-◌, ◌^◌, ℤ, pos, negsuc}
use Rattle.std.proofs.Math.IntN.{sub_ℕ}

-- z + 2^h
abbrev pub raised : ℕ → ℤ → ℕ
raised h (pos n) = 2 ^ h + n
raised h (negsuc n) = 2 ^ h - suc n

-- v - 2^h
abbrev pub lowered : ℕ → ℕ → ℤ
lowered h v = sub_ℕ v (2 ^ h)
