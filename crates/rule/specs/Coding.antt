-- Encoding and decoding over the width W, the order k and any predictor p, which is handed the k samples before a place.
use Rattle.std.specs.Prelude.{cond, List, [], ◌∷◌, ◌++◌, ℕ, suc, zero, ◌+◌, ◌-◌, ◌%◌, ◌^◌, ltb, length, get_or, take, drop}
use Rattle.rule.specs.Numbers.{centre}

-- f 0, f 1, .. f (n - 1)
abbrev pub tabulate : {A : Type 0} → ℕ → (ℕ → A) → List A
tabulate zero f = []
tabulate (suc n) f = tabulate n f ++ f n ∷ []

-- the k samples before place i
unfoldable pub window : ℕ → ℕ → List ℕ → List ℕ
window k i xs = take k (drop (i - k) xs)

-- MID added, or taken away, which is the same
unfoldable pub toggled : ℕ → ℕ → ℕ
toggled W x = (x + centre W) % 2 ^ W

-- sample - prediction + MID
unfoldable pub residual : ℕ → ℕ → ℕ → ℕ
residual W x y = (x + (2 ^ W - y) + centre W) % 2 ^ W

-- place i of the encoded buffer, from the original samples
unfoldable pub coded_at : ℕ → ℕ → (List ℕ → ℕ) → List ℕ → ℕ → ℕ
coded_at W k p xs i = cond (ltb i k) (toggled W (get_or xs i 0)) (residual W (get_or xs i 0) (p (window k i xs)))

unfoldable pub encoded_buffer : ℕ → ℕ → (List ℕ → ℕ) → List ℕ → List ℕ
encoded_buffer W k p xs = tabulate (length xs) (coded_at W k p xs)

-- MID taken from a residual, then the prediction added
unfoldable pub restored : ℕ → ℕ → ℕ → ℕ
restored W r y = (toggled W r + y) % 2 ^ W

-- the sample that a residual gives, predicted from the last k of the samples known so far
unfoldable pub sample_of : ℕ → ℕ → (List ℕ → ℕ) → List ℕ → ℕ → ℕ
sample_of W k p known r = restored W r (p (drop (length known - k) known))

-- the list "known, then new samples"
abbrev pub extended : ℕ → ℕ → (List ℕ → ℕ) → List ℕ → List ℕ → List ℕ
extended W k p known [] = known
extended W k p known (r ∷ rs) = extended W k p (known ++ sample_of W k p known r ∷ []) rs

-- a piece of m residuals gives way to the first m of that list, from the state on; what is left, k samples, is the new state
unfoldable pub decoded_piece : ℕ → ℕ → (List ℕ → ℕ) → List ℕ → List ℕ → List ℕ
decoded_piece W k p state piece = take (length piece) (extended W k p state piece)

unfoldable pub new_state : ℕ → ℕ → (List ℕ → ℕ) → List ℕ → List ℕ → List ℕ
new_state W k p state piece = drop (length piece) (extended W k p state piece)
