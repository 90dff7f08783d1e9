-- The rules of a module, first of three statements: what the contracts cite, in the order of the refusals. Here: 1 to 3, the header.
-- FORMAT.md, M2 to M4 and F11 (document 01, "Layout"): the size of a module and its header.
use Rattle.std.specs.Prelude.{ℕ, ◌/◌, ◌%◌, List, [], ◌∷◌, Bool, ◌&&◌, ◌||◌, length, eqb, leb}
use Rattle.refusal.specs.Rules.{Rule, rule}
use Rattle.refusal.specs.declared.Reason.TheVariants.{TooLong, NotAModule, Version}
use Rattle.numbers.specs.Numbers.{byte_at, number32}

-- M3: at least 8 bytes, beginning with DBM0.
abbrev pub header_fits : List ℕ → Bool
header_fits m = leb 8 (length m) && eqb (number32 m 0) 0x44424D30

-- M4: version $02 or $03, and both digits of the revision 0 to 9.
abbrev pub version_fits : ℕ → ℕ → Bool
version_fits version revision = (eqb version 2 || eqb version 3) && (leb (revision / 16) 9 && leb (revision % 16) 9)

-- F11: the rules of the size and the header: 1, 2, 3.
abbrev pub header_rules : List ℕ → List Rule
header_rules m =
    rule (leb (length m) 16777216) TooLong 0
    ∷ rule (header_fits m) NotAModule 0
    ∷ rule (version_fits (byte_at m 4) (byte_at m 5)) Version 4
    ∷ []
