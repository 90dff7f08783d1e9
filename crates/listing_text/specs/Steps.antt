-- Definitions for the contracts of the private writers.
use Rattle.std.specs.Prelude.{ℕ, ◌+◌, ◌≡◌, List, ◌++◌, length, take}
use Rattle.listing_text.specs.Lines.{ascii, number_line}

-- `xs` was written to a text at a place: up to `next` the text holds what was before that place, and then `xs`.
pub record Put (before : List ℕ) (at : ℕ) (xs text : List ℕ) (next : ℕ) : Type 0 where
  pub place : next ≡ at + length xs
  pub front : take next text ≡ take at before ++ xs

-- The lines of INFO's numbers, in the order of the seven lines.
abbrev pub count_lines : ℕ → ℕ → ℕ → ℕ → ℕ → List ℕ
count_lines instruments samples songs patterns tracks =
    number_line (ascii "instruments ") instruments
    ++ (number_line (ascii "samples ") samples
    ++ (number_line (ascii "songs ") songs
    ++ (number_line (ascii "patterns ") patterns
    ++ number_line (ascii "tracks ") tracks)))
