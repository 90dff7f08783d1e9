-- The theorem about notes. In plain words:
--
-- 26. For every number: it is shown as none exactly when it is 0; as key off exactly when it is 31; as the pitch of an octave and a
--     semitone exactly when it is 16 × the octave + the semitone, the octave is 1 to 8 and the semitone 0 to 11; and as unknown, with
--     itself as the byte, exactly when it is none of these.
use Prim.Native.Nat.{ℕ}
use mathlib.Core.Path.{◌≡◌}
use mathlib.Core.Logic.{◌↔◌}
use Rattle.cells.specs.Shown.{shown_note, NoteOf}
use Rattle.cells.specs.declared.Note.{Note}
use Rattle.cells.proofs.Notes as Notes

-- 26.
pub note-exactly : (number : ℕ) (note : Note) → (shown_note number ≡ note) ↔ NoteOf number note
note-exactly = Notes.note-exactly
