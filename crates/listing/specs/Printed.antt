-- FORMAT.md, L4 and L5 (document 01, the listing program): the output for an input.
use Rattle.std.specs.Prelude.{ℕ, List, cond, length, ltb}
use Rattle.listing_text.specs.Lines.{ascii, listing}

-- L4: more than 65,536 bytes are too many, whatever they are. Any other input is listed.
abbrev pub printed : List ℕ → List ℕ
printed input = cond (ltb 65536 (length input)) (ascii "input too big\n") (listing input)
