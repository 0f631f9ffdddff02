-- Lines and columns of a text, both counted from 1.
use Rattle.std.specs.Prelude.{cond, not, length, take_while, List, ◌++◌, ℕ, ◌+◌, eqb, codes, decimal}
use Rattle.std.specs.List.{fold}
use Rattle.text.specs.declared.places.Place.{Place}

-- how many bytes stand before the first line end
unfoldable pub line_length : List ℕ → ℕ
line_length text = length (take_while (λ b. not (eqb b 10)) text)

-- the place after one more byte
abbrev pub stepped : Place → ℕ → Place
stepped place b = cond (eqb b 10) (record { line = place.line + 1; column = 1 }) (record { line = place.line; column = place.column + 1 })

-- the place after all of these bytes
unfoldable pub place_after : Place → List ℕ → Place
place_after place text = fold stepped place text

-- what is printed of a place
abbrev pub place_text : Place → List ℕ
place_text place = codes "line " ++ decimal place.line ++ codes ", column " ++ decimal place.column
