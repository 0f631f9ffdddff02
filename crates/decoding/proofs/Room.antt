-- The running samples and sums, a configuration of order 6, a state, and what a call by value gives back take few bytes. Assumes nothing.
use Rattle.std.proofs.Common.{◌≡◌, sym, ℕ, ◌+◌, ◌*◌, ◌/◌, ◌≤◌, ◌<◌, max, arith}
use Rattle.std.proofs.Math.Nat.{max-le}
use prog.Memory.{up, align, size}
use prog.Align.{align-bytes, align_w}
use mir.Syntax.{Width, Ty, w8, w16, w32, w64, w128}
use mir.Val.{bytes}
use Rattle.kinds.specs.Widths.{bits_of}
use Rattle.kinds.specs.declared.Width as kinds
use Rattle.kinds.specs.declared.Width.TheVariants.{Eight, Sixteen, ThirtyTwo}

bytes_few : (w : Width) → bytes w ≤ 16
bytes_few w8 = omega arith
bytes_few w16 = omega arith
bytes_few w32 = omega arith
bytes_few w64 = omega arith
bytes_few w128 = omega arith

align_few : (τ : Ty) → align τ ≤ 16
align_few τ = rw (align-bytes τ) (bytes_few (align_w τ))

up_few : (k e : ℕ) → k ≤ 16 → up k e ≤ e + 16
up_few k e h = omega arith

pub sample_few : (width : kinds.Width) {W n : ℕ} → bits_of width ≡ W → n ≡ W / 8 → n ≤ 8
sample_few Eight is e = rw (e, sym is) (omega arith)
sample_few Sixteen is e = rw (e, sym is) (omega arith)
sample_few ThirtyTwo is e = rw (e, sym is) (omega arith)

-- `Six`, at numbers of the type τ
pub six_room : (τ : Ty) → size τ ≤ 8 → up (max (align τ) (max (align τ) 4)) (up 4 (up (align τ) (up (align τ) 0 + 6 * size τ) + size τ) + 4) < 9223372036854775808
six_room τ h = few (align τ) (size τ) (align_few τ) h
  where
    few : (a n : ℕ) → a ≤ 16 → n ≤ 8 → up (max a (max a 4)) (up 4 (up a (up a 0 + 6 * n) + n) + 4) < 9223372036854775808
    few a n k h =
        omega (
          arith,
          up_few (max a (max a 4)) (up 4 (up a (up a 0 + 6 * n) + n) + 4) (max-le k (max-le k (omega arith))),
          up_few 4 (up a (up a 0 + 6 * n) + n) (omega arith),
          up_few a (up a 0 + 6 * n) k,
          up_few a 0 k,
        )

-- `Running`, at samples of the type σ and numbers of the type τ
pub running_room : (σ τ : Ty) → size σ ≤ 8 → size τ ≤ 8
    → up (max (align σ) (max (align τ) 1)) (up (align τ) (up (align σ) 0 + 6 * size σ) + 6 * size τ) < 9223372036854775808
running_room σ τ g h = few (align σ) (align τ) (size σ) (size τ) (align_few σ) (align_few τ) g h
  where
    few : (a b n m : ℕ) → a ≤ 16 → b ≤ 16 → n ≤ 8 → m ≤ 8 → up (max a (max b 1)) (up b (up a 0 + 6 * n) + 6 * m) < 9223372036854775808
    few a b n m j k g h =
        omega (
          arith,
          up_few (max a (max b 1)) (up b (up a 0 + 6 * n) + 6 * m) (max-le j (max-le k (omega arith))),
          up_few b (up a 0 + 6 * n) k,
          up_few a 0 j,
        )

-- `State`, at samples of the type σ
pub state_room : (σ : Ty) → size σ ≤ 8 → up (max (align σ) 8) (up 8 (up (align σ) 0 + 32 * size σ) + 8) < 9223372036854775808
state_room σ h = few (align σ) (size σ) (align_few σ) h
  where
    few : (a n : ℕ) → a ≤ 16 → n ≤ 8 → up (max a 8) (up 8 (up a 0 + 32 * n) + 8) < 9223372036854775808
    few a n k h =
        omega (
          arith,
          up_few (max a 8) (up 8 (up a 0 + 32 * n) + 8) (max-le k (omega arith)),
          up_few 8 (up a 0 + 32 * n) (omega arith),
          up_few a 0 k,
        )

-- what a call says, and a state
pub said_room : (σ : Ty) → size σ ≤ 8
    → up (max 1 (max (max (align σ) 8) 1)) (up (max (align σ) 8) 2 + up (max (align σ) 8) (up 8 (up (align σ) 0 + 32 * size σ) + 8)) < 9223372036854775808
said_room σ h = few (align σ) (size σ) (align_few σ) h
  where
    few : (a n : ℕ) → a ≤ 16 → n ≤ 8
        → up (max 1 (max (max a 8) 1)) (up (max a 8) 2 + up (max a 8) (up 8 (up a 0 + 32 * n) + 8)) < 9223372036854775808
    few a n k h =
        omega (
          arith,
          up_few (max 1 (max (max a 8) 1)) (up (max a 8) 2 + up (max a 8) (up 8 (up a 0 + 32 * n) + 8)) (max-le (omega arith) (max-le (max-le k (omega arith)) (omega arith))),
          up_few (max a 8) 2 (max-le k (omega arith)),
          up_few (max a 8) (up 8 (up a 0 + 32 * n) + 8) (max-le k (omega arith)),
          up_few 8 (up a 0 + 32 * n) (omega arith),
          up_few a 0 k,
        )
