-- FORMAT.md, L1 to L3 (document 01, the listing program): the lines of a module as bytes, the answer of writing them to a lent output, and
-- what the output then holds.
use Rattle.std.specs.Prelude.{ℕ, zero, suc, ◌+◌, ◌/◌, ◌%◌, List, [], ◌∷◌, ◌++◌, cond, length, ltb, Result, Ok, Err}
use Prim.Native.Char.{code}
use Prim.Native.String.{String, [] as []ˢ, ◌∷◌ as ◌∷ˢ◌}
use Rattle.refusal.specs.Lengths.{needed_if, output_written}
use Rattle.refusal.specs.declared.Refusal.{Refusal}
use Rattle.layout.specs.declared.Layout.{Layout}
use Rattle.module.specs.Verdicts.{opened}

-- The byte of a decimal digit: 0 is 48.
abbrev pub digit : ℕ → ℕ
digit d = 48 + d

-- The decimal digits of a number, the highest first, in at most the given number of steps: the digits of its tenth, and then its last
-- digit.
unfoldable pub digits_within : ℕ → ℕ → List ℕ
digits_within zero n = []
digits_within (suc steps) n =
    let tenth : List ℕ = digits_within steps (n / 10) in
    cond (ltb n 10) (digit n ∷ []) (tenth ++ (digit (n % 10) ∷ []))

-- L1: a number in decimal, without leading zeros. There is a step for each digit, so n + 1 steps are always enough. For what this means
-- without steps, see `decimal-value` and `decimal-leading` of proofs/Decimals.antt.
unfoldable pub decimal : ℕ → List ℕ
decimal n = digits_within (suc n) n

-- The bytes of a text, one byte for each character: only ASCII is used here.
abbrev pub ascii : String → List ℕ
ascii []ˢ = []
ascii (c ∷ˢ text) = code c ∷ ascii text

-- L1: the version, which is 2 or 3 (M4), a dot, and the two halves of the revision as one digit each, always both.
abbrev pub version_line : ℕ → ℕ → List ℕ
version_line version revision =
    ascii "version " ++ (decimal version ++ (ascii "." ++ (digit (revision / 16) ∷ digit (revision % 16) ∷ ascii "\n")))

-- L1: a line of a word and a number.
abbrev pub number_line : List ℕ → ℕ → List ℕ
number_line word n = word ++ (decimal n ++ ascii "\n")

-- L1: the seven lines of an accepted module of this length.
abbrev pub accepted_lines : Layout → ℕ → List ℕ
accepted_lines l bytes =
    version_line l.version l.revision
    ++ (number_line (ascii "instruments ") l.instruments
    ++ (number_line (ascii "samples ") l.samples
    ++ (number_line (ascii "songs ") l.songs
    ++ (number_line (ascii "patterns ") l.patterns
    ++ (number_line (ascii "tracks ") l.tracks
    ++ number_line (ascii "accepted ") bytes)))))

-- L2: the line of a refusal's number and place.
abbrev pub refused_line : Refusal → List ℕ
refused_line r = ascii "refused " ++ (decimal r.number ++ (ascii " at " ++ (decimal r.place ++ ascii "\n")))

abbrev pub lines_of : List ℕ → Result Layout Refusal → List ℕ
lines_of m (Ok l) = accepted_lines l (length m)
lines_of m (Err r) = refused_line r

-- L1, L2: the listing of a module.
unfoldable pub listing : List ℕ → List ℕ
listing m = lines_of m (opened m)

-- L3: writing the listing of a module to the given room.
abbrev pub lines_answer : List ℕ → ℕ → Result ℕ Refusal
lines_answer m room = needed_if (length (listing m)) room

abbrev pub lines_output : List ℕ → List ℕ → List ℕ
lines_output m out = output_written (lines_answer m (length out)) (listing m) out
