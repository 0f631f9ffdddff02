-- A window of k samples as the part of a slice that a call lends.
-- Assumes nothing.
use mathlib.Core.Path.{◌≡◌, sym, ◌∙◌}
use mathlib.Core.List.{List}
use Prim.Native.Nat.{ℕ, ◌+◌, ◌-◌, ◌≤◌}
use native.Mathlib.Omega.{arith}
use lib.ListN.{length, get_or, take, drop, length-take, length-drop}
use lib.Seq.{ext_get_or, get_or-drop}
use Rattle.rule.specs.Coding.{window}

-- the part from i to i + k is the window before place i + k
pub window_part : (k i : ℕ) (xs : List ℕ) → take (i + k - i) (drop i xs) ≡ window k (i + k) xs
unfolding window
window_part k i xs =
    let long : i + k - i ≡ k = omega arith in
    let from : i + k - k ≡ i = omega arith in
    rw (long, from)

pub window-length : (k i : ℕ) (xs : List ℕ) → i + k ≤ length xs → length (window k (i + k) xs) ≡ k
unfolding window
window-length k i xs h = simp (length-take, length-drop) (omega arith)

-- two lists that agree from place a on
pub drop_same : (a : ℕ) (l o : List ℕ) → length l ≡ length o → ((i : ℕ) → a ≤ i → get_or l i 0 ≡ get_or o i 0) → drop a l ≡ drop a o
drop_same a l o e h =
    ext_get_or 0 (drop a l) (drop a o) (omega (arith, length-drop a l, length-drop a o))
    (λ i k. get_or-drop a l i 0 ∙ h (a + i) (omega arith) ∙ sym (get_or-drop a o i 0))
