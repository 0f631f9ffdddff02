-- What it is to add the terms of a sum in any order.
use Rattle.std.specs.Prelude.{List, [], ◌∷◌, ℕ, ℤ, pos, ◌+ℤ◌, ◌*ℤ◌}

-- each weight times its sample
abbrev pub terms : List ℤ → List ℕ → List ℤ
terms [] xs = []
terms (w ∷ ws) [] = []
terms (w ∷ ws) (x ∷ xs) = (w *ℤ pos x) ∷ terms ws xs

-- s plus the terms, one after the other
abbrev pub added : ℤ → List ℤ → ℤ
added s [] = s
added s (t ∷ ts) = added (s +ℤ t) ts

-- the same terms in another order
pub data Reordered : List ℤ → List ℤ → Type 0 where
  none : Reordered [] []
  keep : {t : ℤ} {us vs : List ℤ} → Reordered us vs → Reordered (t ∷ us) (t ∷ vs)
  swap : {t u : ℤ} {us : List ℤ} → Reordered (t ∷ u ∷ us) (u ∷ t ∷ us)
  both : {us vs ws : List ℤ} → Reordered us vs → Reordered vs ws → Reordered us ws
