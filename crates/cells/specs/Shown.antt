-- FORMAT.md, N1 to N4 (document 01, "Packed rows"): notes and cells as they are shown. Key off is from source document 003. The octaves go
-- up to 8 as in document 01 (000 has 1 to 7, 001 has 1 to 8).
use Rattle.std.specs.Prelude.{ℕ, ◌+◌, ◌*◌, ◌/◌, ◌%◌, ◌≤◌, ◌≡◌, List, [], ◌∷◌, Bool, cond, ◌&&◌, get_or, eqb, leb}
use Rattle.cells.specs.declared.Note.{Note}
use Rattle.cells.specs.declared.Note.TheVariants.{None, KeyOff, Pitch, Unknown}
use Rattle.cells.specs.declared.NoteNumbers.{NoteNumbers}
use Rattle.cells.specs.declared.Cell.{Cell}

-- N3, document 01's "pitch": the high half of the byte is an octave from 1 to 8, the low half a semitone from 0 to 11.
abbrev pub is_pitch : ℕ → Bool
is_pitch note = leb 1 (note / 16) && (leb (note / 16) 8 && leb (note % 16) 11)

-- N2 to N4: the note of a byte, document 01's "none", "key off", "pitch" or "unknown".
abbrev pub shown_note : ℕ → Note
shown_note note =
    cond (eqb note 0) None
    (cond (eqb note 31) KeyOff
    (cond (is_pitch note) (Pitch (note / 16) (note % 16))
    (Unknown note)))

-- N3 without the halves of a byte: the number of an octave from 1 to 8 and a semitone from 0 to 11.
abbrev pub PitchNumber : ℕ → ℕ → ℕ → Type 0
PitchNumber number octave semitone = (number ≡ 16 * octave + semitone) × (1 ≤ octave) × (octave ≤ 8) × (semitone ≤ 11)

-- N2 to N4 without the tests: the note that a number is.
pub data NoteOf (number : ℕ) : Note → Type 0 where
  no_note : number ≡ 0 → NoteOf number None
  key_off : number ≡ 31 → NoteOf number KeyOff
  pitch : {octave semitone : ℕ} → PitchNumber number octave semitone → NoteOf number (Pitch octave semitone)
  unknown : (number ≡ 0 → ⊥) → (number ≡ 31 → ⊥) → ((octave semitone : ℕ) → PitchNumber number octave semitone → ⊥) → NoteOf number (Unknown number)

-- The byte of a shown note.
abbrev pub note_byte : Note → ℕ
note_byte None = 0
note_byte KeyOff = 31
note_byte (Pitch octave semitone) = octave * 16 + semitone
note_byte (Unknown note) = note

-- N2 to N4: a note in numbers: its kind, the octave and semitone of a pitch, the byte of an unknown note. What a kind does not have is 0.
abbrev pub note_numbers : Note → NoteNumbers
note_numbers None = record { kind = 0; octave = 0; semitone = 0; unknown = 0 }
note_numbers KeyOff = record { kind = 1; octave = 0; semitone = 0; unknown = 0 }
note_numbers (Pitch octave semitone) = record { kind = 2; octave = octave; semitone = semitone; unknown = 0 }
note_numbers (Unknown byte) = record { kind = 3; octave = 0; semitone = 0; unknown = byte }

-- N1, document 01's "shown cell": the note of the cell, and the other fields as stored.
abbrev pub shown_cell : List ℕ → Cell
shown_cell cell =
    record {
      note = shown_note (get_or cell 0 0);
      instrument = get_or cell 1 0;
      command1 = get_or cell 2 0;
      parameter1 = get_or cell 3 0;
      command2 = get_or cell 4 0;
      parameter2 = get_or cell 5 0;
    }

-- N1: a shown cell in numbers: the four numbers of the note, and the other fields as stored.
abbrev pub cell_values : Cell → List ℕ
cell_values c =
    (note_numbers c.note).kind ∷ (note_numbers c.note).octave ∷ (note_numbers c.note).semitone ∷ (note_numbers c.note).unknown
    ∷ c.instrument ∷ c.command1 ∷ c.parameter1 ∷ c.command2 ∷ c.parameter2 ∷ []
