-- The rules of a module, first of three statements: what the contracts cite, in the order of the refusals. Here: 12 and 13, the fields.
-- FORMAT.md, V1 to V5 and F15 (document 01, "Layout"): the checked fields of the blocks.
use Rattle.std.specs.Prelude.{ℕ, ◌+◌, ◌/◌, ◌%◌, List, [], ◌∷◌, ◌++◌, Bool, false, cond, not, ◌&&◌, ◌||◌, eqb, leb, ltb, pos, negsuc}
use Rattle.std.specs.Int.Signed.{le_z}
use Rattle.refusal.specs.Rules.{Rule, rule, rules_of_each}
use Rattle.refusal.specs.declared.Reason.TheVariants.{Reference, FieldRange}
use Rattle.numbers.specs.Numbers.{number16, signed16}
use Rattle.layout.specs.declared.Layout.{Layout}
use Rattle.blocks.specs.StoredFields.{song_length, instrument_sample, instrument_volume, instrument_panning, instrument_flags}
use Rattle.blocks.specs.StoredFields.{envelope_instrument, envelope_flags, envelope_sections}
use Rattle.blocks.specs.StoredFields.{envelope_first_sustain, envelope_loop_first, envelope_loop_last, envelope_second_sustain}
use Rattle.blocks.specs.Sizes.{places_from, song_blocks, instrument_blocks, envelope_blocks}

-- Whether a stored panning, taken as signed, is −128 to 128.
abbrev pub panning_fits : ℕ → Bool
panning_fits v = le_z (negsuc 127) (signed16 v) && le_z (signed16 v) (pos 128)

-- The bits of a flags field.
abbrev pub bit0 : ℕ → Bool
bit0 flags = eqb (flags % 2) 1

abbrev pub bit1 : ℕ → Bool
bit1 flags = eqb (flags / 2 % 2) 1

abbrev pub bit2 : ℕ → Bool
bit2 flags = eqb (flags / 2 / 2 % 2) 1

abbrev pub bit3 : ℕ → Bool
bit3 flags = eqb (flags / 2 / 2 / 2 % 2) 1

-- V1: an entry of a playlist is the number of a pattern, from 0.
abbrev pub entry_rules : List ℕ → ℕ → ℕ → List Rule
entry_rules m patterns at = rule (ltb (number16 m at) patterns) Reference at ∷ []

abbrev pub song_rules : List ℕ → ℕ → ℕ → List Rule
song_rules m patterns at = rules_of_each (entry_rules m patterns) (places_from (λ entry. 2) (song_length m at) (at + 46))

-- V2: an instrument: its sample (from 1; 0 is none), volume 0 to 64, panning −128 to 128, and no flag other than bits 0 and 1. Panning is
-- taken as stored in version 2 too.
abbrev pub instrument_rules : List ℕ → ℕ → ℕ → List Rule
instrument_rules m samples at =
    rule (leb (instrument_sample m at) samples) Reference (at + 30)
    ∷ rule (leb (instrument_volume m at) 64) FieldRange (at + 32)
    ∷ rule (panning_fits (instrument_panning m at)) FieldRange (at + 46)
    ∷ rule (ltb (instrument_flags m at) 4) FieldRange (at + 48)
    ∷ []

-- V3: an envelope: its instrument, from 1; no flag other than bits 0 to 3; sections 0 to 31.
abbrev pub envelope_head_rules : List ℕ → ℕ → ℕ → List Rule
envelope_head_rules m instruments at =
    rule (leb 1 (envelope_instrument m at) && leb (envelope_instrument m at) instruments) Reference at
    ∷ rule (ltb (envelope_flags m at) 16) FieldRange (at + 2)
    ∷ rule (leb (envelope_sections m at) 31) FieldRange (at + 3)
    ∷ []

-- V4: S1 if bit 1 is set, L1 and L2 if bit 2 is, S2 if bit 3 is: each at most sections, and L1 at most L2.
abbrev pub envelope_point_rules : List ℕ → ℕ → ℕ → ℕ → List Rule
envelope_point_rules m flags sections at =
    rule (not (bit1 flags) || leb (envelope_first_sustain m at) sections) FieldRange (at + 4)
    ∷ rule (not (bit2 flags) || leb (envelope_loop_first m at) sections) FieldRange (at + 5)
    ∷ rule (not (bit2 flags) || (leb (envelope_loop_last m at) sections && leb (envelope_loop_first m at) (envelope_loop_last m at))) FieldRange (at + 6)
    ∷ rule (not (bit3 flags) || leb (envelope_second_sustain m at) sections) FieldRange (at + 7)
    ∷ []

-- V5: whether a value is 0 to 64, or −128 to 128 if values are signed.
abbrev pub value_fits : Bool → ℕ → Bool
value_fits signed v = cond signed (panning_fits v) (leb v 64)

abbrev pub value_rules : List ℕ → Bool → ℕ → List Rule
value_rules m signed point = rule (value_fits signed (number16 m (point + 2))) FieldRange (point + 2) ∷ []

-- V5, document 01's "points in use": sections + 1 points, each of position 2 and value 2. Positions are not examined.
abbrev pub values_rules : List ℕ → Bool → ℕ → ℕ → List Rule
values_rules m signed sections at = rules_of_each (value_rules m signed) (places_from (λ point. 4) (sections + 1) (at + 8))

abbrev pub envelope_rules : List ℕ → ℕ → Bool → ℕ → List Rule
envelope_rules m instruments signed at =
    envelope_head_rules m instruments at
    ++ (envelope_point_rules m (envelope_flags m at) (envelope_sections m at) at
    ++ values_rules m signed (envelope_sections m at) at)

-- F15: 12 and 13 by field: SONG, INST, VENV, PENV, by ascending offset (PATT and SMPL have no such field). Panning values are signed in
-- version 3.
abbrev pub field_rules : List ℕ → Layout → List Rule
field_rules m l =
    rules_of_each (song_rules m l.patterns) (song_blocks m l)
    ++ (rules_of_each (instrument_rules m l.samples) (instrument_blocks m l)
    ++ (rules_of_each (envelope_rules m l.instruments false) (envelope_blocks m l.spans.venv)
    ++ rules_of_each (envelope_rules m l.instruments (eqb l.version 3)) (envelope_blocks m l.spans.penv)))
