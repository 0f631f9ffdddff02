-- Decimal numbers in a text, which is a list of bytes: words between blanks, and the number that a word stands for.
use Rattle.std.specs.Prelude.{Bool, true, false, cond, ◌&&◌, ◌||◌, List, [], ◌∷◌, ℕ, ◌+◌, ◌-◌, ◌*◌, ◌^◌, eqb, leb, ltb, get_or, take, drop, Option, Some, None, option_and_then, length, take_while}
use Rattle.std.specs.Bool.{beq}
use Rattle.text.specs.declared.Word.{Word}

-- what stands between words: tab, line end, carriage return, space
abbrev pub is_blank : ℕ → Bool
is_blank b = eqb b 9 || eqb b 10 || eqb b 13 || eqb b 32

abbrev pub is_digit : ℕ → Bool
is_digit b = leb 48 b && leb b 57

-- how many bytes at the front are blanks, or, for false, are none
unfoldable pub front : Bool → List ℕ → ℕ
front blank bytes = length (take_while (λ b. beq (is_blank b) blank) bytes)

-- the number v and a digit after it
abbrev pub grown : ℕ → ℕ → ℕ
grown v b = v * 10 + (b - 48)

-- that number; nothing at a byte that is no digit, or that takes the number past 64 bits
abbrev pub with_digit : ℕ → ℕ → Option ℕ
with_digit v b = cond (is_digit b && ltb (grown v b) (2 ^ 64)) (Some (grown v b)) None

-- the number v with all these digits after it
unfoldable pub number_after : ℕ → List ℕ → Option ℕ
number_after v [] = Some v
number_after v (b ∷ bs) = option_and_then (λ w. number_after w bs) (with_digit v b)

-- at least one digit
unfoldable pub number : List ℕ → Option ℕ
number [] = None
number (b ∷ bs) = number_after 0 (b ∷ bs)

-- the first byte is a minus
abbrev pub is_negative : List ℕ → Bool
is_negative word = eqb (get_or word 0 0) 45

-- what a word stands for, but for its sign
unfoldable pub meaning : List ℕ → Option ℕ
meaning word = cond (is_negative word) (number (drop 1 word)) (number word)

-- the bytes of a text from a place on, up to another
abbrev pub between : List ℕ → ℕ → ℕ → List ℕ
between text start end = take (end - start) (drop start text)

-- where the first word from a place on starts, and where it ends
abbrev pub start_from : List ℕ → ℕ → ℕ
start_from text from = from + front true (drop from text)

abbrev pub end_from : List ℕ → ℕ → ℕ
end_from text from = start_from text from + front false (drop (start_from text from) text)

-- that word
unfoldable pub word_from : List ℕ → ℕ → Word
word_from text from =
    let word = between text (start_from text from) (end_from text from) in
    record { start = start_from text from; end = end_from text from; negative = is_negative word; found = meaning word }
