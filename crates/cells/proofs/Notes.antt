-- A shown note loses nothing: its byte is the stored note (N2 to N4). And the note of each number, without the tests.
use Prim.Native.Nat.{ℕ, ◌/◌, ◌%◌}
use mathlib.Core.Path.{◌≡◌, refl, sym, subst, ◌∙◌}
use mathlib.Core.Logic.{◌↔◌}
use mathlib.Core.Bool.{Bool, true, false, cond, true≢false, ◌&&◌}
use native.Mathlib.Nat.{div-add-mod'}
use native.Mathlib.Omega.{arith}
use lib.Dec.{eqb, leb}
use borrow.Author.Tests.{eqb-true, eqb-false, ne_eqb, leb-true, le-leb}
use Rattle.cells.specs.Shown.{is_pitch, shown_note, note_byte, PitchNumber, NoteOf, no_note, key_off, pitch, unknown}
use Rattle.cells.specs.declared.Note.{Note}
use Rattle.cells.specs.declared.Note.TheVariants.{None, KeyOff, Pitch, Unknown}

pub note-kept : (note : ℕ) → note_byte (shown_note note) ≡ note
note-kept note = go (eqb note 0) (eqb note 31) (is_pitch note) refl refl
  where
    go : (a b d : Bool) → eqb note 0 ≡ a → eqb note 31 ≡ b
        → note_byte (cond a None (cond b KeyOff (cond d (Pitch (note / 16) (note % 16)) (Unknown note)))) ≡ note
    go true b d e f = sym (eqb-true note 0 e)
    go false true d e f = sym (eqb-true note 31 f)
    go false false true e f = div-add-mod' note 16
    go false false false e f = refl

-- A pitch's number has the octave as its high half and the semitone as its low half.
halves : (n octave semitone : ℕ) → PitchNumber n octave semitone → (n / 16 ≡ octave) × (n % 16 ≡ semitone)
halves n octave semitone (is, low, high, tone) = (omega arith, omega arith)

pitch-passes : (n octave semitone : ℕ) → PitchNumber n octave semitone → is_pitch n ≡ true
pitch-passes n octave semitone p = let h = halves n octave semitone p in simp (h.0, h.1, le-leb _ _ p.1, le-leb _ _ p.2, le-leb _ _ p.3)

passed-pitch : (n : ℕ) → is_pitch n ≡ true → PitchNumber n (n / 16) (n % 16)
passed-pitch n = go (leb 1 (n / 16)) (leb (n / 16) 8) (leb (n % 16) 11) refl refl refl
  where
    go : (a b d : Bool) → leb 1 (n / 16) ≡ a → leb (n / 16) 8 ≡ b → leb (n % 16) 11 ≡ d → a && (b && d) ≡ true → PitchNumber n (n / 16) (n % 16)
    go true true true e f g h = (omega arith, leb-true _ _ e, leb-true _ _ f, leb-true _ _ g)
    go true true false e f g h = let z : ◌≡◌ {A = ℕ} 0 1 = cc in absurd (omega arith)
    go true false d e f g h = let z : ◌≡◌ {A = ℕ} 0 1 = cc in absurd (omega arith)
    go false b d e f g h = let z : ◌≡◌ {A = ℕ} 0 1 = cc in absurd (omega arith)

no-pitch : {n : ℕ} → is_pitch n ≡ false → (octave semitone : ℕ) → PitchNumber n octave semitone → ⊥
no-pitch {n} fails octave semitone p = true≢false (sym (pitch-passes n octave semitone p) ∙ fails)

shown-is : (n : ℕ) → NoteOf n (shown_note n)
shown-is n = go (eqb n 0) (eqb n 31) (is_pitch n) refl refl refl
  where
    go : (a b d : Bool) → eqb n 0 ≡ a → eqb n 31 ≡ b → is_pitch n ≡ d → NoteOf n (cond a None (cond b KeyOff (cond d (Pitch (n / 16) (n % 16)) (Unknown n))))
    go true b d e f g = no_note (eqb-true n 0 e)
    go false true d e f g = key_off (eqb-true n 31 f)
    go false false true e f g = pitch (passed-pitch n g)
    go false false false e f g = unknown (eqb-false n 0 e) (eqb-false n 31 f) (no-pitch g)

is-shown : (n : ℕ) (note : Note) → NoteOf n note → shown_note n ≡ note
is-shown n None (no_note e) = rw e
is-shown n KeyOff (key_off e) = rw e
is-shown n (Pitch octave semitone) (pitch p) =
    let h = halves n octave semitone p in
    let zero-not : n ≡ 0 → ⊥ = λ e. absurd (omega (arith, p.0, p.1)) in
    let off-not : n ≡ 31 → ⊥ = λ e. absurd (omega (arith, p.0, p.3)) in
    simp (ne_eqb n 0 zero-not, ne_eqb n 31 off-not, h.0, h.1, le-leb _ _ p.1, le-leb _ _ p.2, le-leb _ _ p.3)
is-shown n (Unknown number) (unknown zero-not off-not none-not) =
    go (is_pitch n) refl
  where
    go : (d : Bool) → is_pitch n ≡ d → shown_note n ≡ Unknown n
    go true g = absurd (none-not _ _ (passed-pitch n g))
    go false g = simp (ne_eqb n 0 zero-not, ne_eqb n 31 off-not, g)

pub note-exactly : (n : ℕ) (note : Note) → (shown_note n ≡ note) ↔ NoteOf n note
note-exactly n note = (λ e. subst (NoteOf n) e (shown-is n), is-shown n note)
