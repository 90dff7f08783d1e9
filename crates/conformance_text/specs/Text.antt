-- The text of a line. `sets` of lib.Seq writes it byte by byte, and drops what is past the line's end.
use Rattle.std.specs.Prelude.{ℕ, zero, suc, ◌+◌, ◌/◌, min, ◌≡◌, cond, List, [], ◌∷◌, ◌++◌, map, ltb, length}
use Rattle.std.proofs.lemmas.List.Edits.{sets}
use Rattle.vocabulary.specs.Lists.{joined}
use Rattle.io.specs.Digits.{last_digits}

-- The place after a text that was written at a place of a line.
abbrev pub line_end : List ℕ → ℕ → List ℕ → ℕ
line_end line at text = min (at + length text) (length line)

-- A text was written to a line at a place: what the line then holds, and the place after the text.
abbrev pub HasPut : List ℕ → ℕ → List ℕ → List ℕ → ℕ → Type 0
HasPut before at text line next = (next ≡ line_end before at text) × (line ≡ sets before at text)

-- The number of decimal digits of a number, if that is at most the given number plus one.
abbrev pub figures : ℕ → ℕ → ℕ
figures zero n = 1
figures (suc more) n = cond (ltb n 10) 1 (suc (figures more (n / 10)))

-- A number of 8 bytes in decimal, without leading zeros: at most 20 digits.
unfoldable pub decimal64 : ℕ → List ℕ
decimal64 n = last_digits 10 (figures 19 n) n

-- A number with a space before it.
abbrev pub spaced : ℕ → List ℕ
spaced n = 32 ∷ decimal64 n

unfoldable pub numbers_text : List ℕ → List ℕ
numbers_text numbers = joined (map spaced numbers)

-- Bytes in hexadecimal, two digits each.
unfoldable pub hex_text : List ℕ → List ℕ
hex_text bytes = joined (map (last_digits 16 2) bytes)

abbrev pub newline : List ℕ
newline = 10 ∷ []

-- The end of a line that ends with bytes.
abbrev pub bytes_end : List ℕ → List ℕ
bytes_end bytes = 32 ∷ hex_text bytes ++ newline

-- A line of a word and numbers.
abbrev pub numbers_line : List ℕ → List ℕ → List ℕ
numbers_line word numbers = word ++ numbers_text numbers ++ newline

-- A line of a word, numbers, and bytes in hexadecimal.
abbrev pub bytes_line : List ℕ → List ℕ → List ℕ → List ℕ
bytes_line word numbers bytes = word ++ numbers_text numbers ++ bytes_end bytes
