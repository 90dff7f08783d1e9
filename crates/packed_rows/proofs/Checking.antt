-- A row end or an entry at a place of a stream, and one iteration of the check's loop.
use Prim.Native.Nat.{ℕ, suc, ◌+◌, ◌-◌, ◌<◌, ◌≤◌}
use Rattle.std.specs.Prelude.{Ok, Err}
use mathlib.Core.Path.{◌≡◌, refl, sym, ap, ◌∙◌}
use mathlib.Core.List.{List, [], ◌∷◌, ◌++◌}
use mathlib.Core.Bool.{true}
use native.Mathlib.Omega.{arith}
use native.Mathlib.Nat.{add-zero}
use lib.ListN.{length, get_or, drop, length-append, length-drop, drop_of_length-le}
use lib.Seq.{drop-append_seam, drop-drop, get_or-drop, drop-cons}
use Rattle.refusal.specs.Numbers.{refusal}
use Rattle.refusal.specs.declared.Reason.TheVariants.{Stream}
use Rattle.packed_rows.specs.Entries.{Entry, entry_bytes, sound_entry}
use Rattle.packed_rows.specs.Stream.{Front, nothing, row_end, entry, fault, front, Reading, broken_at, whole, new_row, add_entry, reading}
use Rattle.packed_rows.specs.Answers.{verdict_of_reading}
use Rattle.packed_rows.specs.Steps.{front_length}
use Rattle.packed_rows.proofs.Reading.{front-of, reading-end, reading-over, reading-nothing, reading-fault, reading-row-end, reading-entry}
use Rattle.packed_rows.proofs.Soundness.{sound-facts}

-- The front of a part is also there in the whole stream.
module _ (s xs rest : List ℕ) (at : ℕ) (splits : drop at s ≡ xs ++ rest) where
  pub after-piece : rest ≡ drop (at + length xs) s
  after-piece = sym (sym (drop-drop (length xs) at s) ∙ rw splits (drop-append_seam xs rest))

  pub piece_inside : 0 < length xs → at + length xs ≤ length s
  piece_inside h =
      let l : length s - at ≡ length xs + length rest = sym (length-drop at s) ∙ ap length splits ∙ length-append xs rest in
      omega arith

  pub piece_byte : (i : ℕ) → get_or s (at + i) 0 ≡ get_or (xs ++ rest) i 0
  piece_byte i = sym (get_or-drop at s i 0) ∙ ap (λ (l : List ℕ). get_or l i 0) splits

pub record RowEndAt (s rest : List ℕ) (at : ℕ) : Type 0 where
  pub rest-is : rest ≡ drop (at + 1) s
  pub byte : get_or s at 0 ≡ 0
  pub inside : at + 1 ≤ length s

pub record EntryAt (tracks : ℕ) (s rest : List ℕ) (at : ℕ) (e : Entry) : Type 0 where
  pub rest-is : rest ≡ drop (at + length (entry_bytes e)) s
  pub track-is : get_or s at 0 ≡ e.track
  pub mask_is : get_or s (at + 1) 0 ≡ e.mask
  pub inside : at + length (entry_bytes e) ≤ length s
  pub sound : sound_entry tracks e ≡ true
  pub splits : drop at s ≡ entry_bytes e ++ rest

module _ (tracks : ℕ) (s rest : List ℕ) (at : ℕ) where
  pub row-end-at : front tracks (drop at s) ≡ row_end rest → RowEndAt s rest at
  row-end-at f =
      let splits : drop at s ≡ (0 ∷ []) ++ rest = front-of tracks (drop at s) f in
      record {
        rest-is = after-piece s (0 ∷ []) rest at splits;
        byte = ap (λ (i : ℕ). get_or s i 0) (sym (add-zero at)) ∙ piece_byte s (0 ∷ []) rest at splits 0;
        inside = piece_inside s (0 ∷ []) rest at splits (omega arith);
      }

  pub entry_at : (e : Entry) → front tracks (drop at s) ≡ entry e rest → EntryAt tracks s rest at e
  entry_at e f =
      let found = front-of tracks (drop at s) f in
      record {
        rest-is = after-piece s (entry_bytes e) rest at found.1;
        track-is = ap (λ (i : ℕ). get_or s i 0) (sym (add-zero at)) ∙ piece_byte s (entry_bytes e) rest at found.1 0;
        mask_is = piece_byte s (entry_bytes e) rest at found.1 1;
        inside = piece_inside s (entry_bytes e) rest at found.1 (omega arith);
        sound = found.0;
        splits = found.1;
      }

verdict-new-row : (r : Reading) → verdict_of_reading (new_row r) ≡ verdict_of_reading r
verdict-new-row (broken_at p) = refl
verdict-new-row (whole rows) = refl

verdict-add-entry : (e : Entry) (r : Reading) → verdict_of_reading (add_entry e r) ≡ verdict_of_reading r
verdict-add-entry e (broken_at p) = refl
verdict-add-entry e (whole []) = refl
verdict-add-entry e (whole (es ∷ rows)) = refl

-- One iteration of the check, with rows left: a fault, a row end, or an entry.
module _ (s : List ℕ) (tracks rows left at n : ℕ) (some : left ≡ suc rows) (is : n ≡ front_length (front tracks (drop at s))) where
  length-of : {f : Front} → front tracks (drop at s) ≡ f → n ≡ front_length f
  length-of e = is ∙ ap front_length e

  pub check-broken : n ≡ 0 → verdict_of_reading (reading tracks left at (drop at s)) ≡ Err (refusal Stream at)
  check-broken z = go (front tracks (drop at s)) refl
    where
      go : (f : Front) → front tracks (drop at s) ≡ f → verdict_of_reading (reading tracks left at (drop at s)) ≡ Err (refusal Stream at)
      go nothing e = rw some (ap verdict_of_reading (reading-nothing tracks rows at (drop at s) e))
      go fault e = rw some (ap verdict_of_reading (reading-fault tracks rows at (drop at s) e))
      go (row_end rest) e = absurd (omega (arith, length-of e))
      go (entry f rest) e = absurd (omega (arith, length-of e))

  pub check-row-end : (n ≡ 0 → ⊥) → get_or s at 0 ≡ 0
      → (verdict_of_reading (reading tracks rows (at + n) (drop (at + n) s)) ≡ verdict_of_reading (reading tracks left at (drop at s))) × (at + n ≤ length s)
  check-row-end p z = go (front tracks (drop at s)) refl
    where
      go : (f : Front) → front tracks (drop at s) ≡ f
          → (verdict_of_reading (reading tracks rows (at + n) (drop (at + n) s))
          ≡ verdict_of_reading (reading tracks left at (drop at s)))
          × (at + n ≤ length s)
      go nothing e = absurd (p (length-of e))
      go fault e = absurd (p (length-of e))
      go (row_end rest) e =
          let found = row-end-at tracks s rest at e in
          rw (length-of e, some, reading-row-end tracks rows at (drop at s) rest e, verdict-new-row, found.rest-is) (refl, found.inside)
      go (entry f rest) e =
          let found = entry_at tracks s rest at f e in
          absurd (omega (arith, found.track-is, z, (sound-facts tracks f found.sound).low))

  pub check-entry : (n ≡ 0 → ⊥) → (get_or s at 0 ≡ 0 → ⊥)
      → (verdict_of_reading (reading tracks left (at + n) (drop (at + n) s)) ≡ verdict_of_reading (reading tracks left at (drop at s))) × (at + n ≤ length s)
  check-entry p z = go (front tracks (drop at s)) refl
    where
      go : (f : Front) → front tracks (drop at s) ≡ f
          → (verdict_of_reading (reading tracks left (at + n) (drop (at + n) s))
          ≡ verdict_of_reading (reading tracks left at (drop at s)))
          × (at + n ≤ length s)
      go nothing e = absurd (p (length-of e))
      go fault e = absurd (p (length-of e))
      go (row_end rest) e = absurd (z (row-end-at tracks s rest at e).byte)
      go (entry f rest) e =
          let found = entry_at tracks s rest at f e in
          rw (length-of e, some, reading-entry tracks rows at (drop at s) f rest e, verdict-add-entry, found.rest-is) (refl, found.inside)

-- With no row left: bytes left over, or the end.
module _ (s : List ℕ) (tracks at : ℕ) where
  pub check-over : at < length s → verdict_of_reading (reading tracks 0 at (drop at s)) ≡ Err (refusal Stream at)
  check-over h = rw (drop-cons s at 0 h) (ap verdict_of_reading (reading-over tracks at (get_or s at 0) (drop (suc at) s)))

  pub check-end : length s ≤ at → verdict_of_reading (reading tracks 0 at (drop at s)) ≡ Ok tt
  check-end h = rw (drop_of_length-le s h) (ap verdict_of_reading (reading-end tracks at))

-- The front is inside the stream.
pub front-inside : (s : List ℕ) (tracks at n : ℕ) → n ≡ front_length (front tracks (drop at s)) → (n ≡ 0 → ⊥) → at + n ≤ length s
front-inside s tracks at n is p = go (front tracks (drop at s)) refl
  where
    go : (f : Front) → front tracks (drop at s) ≡ f → at + n ≤ length s
    go nothing e = absurd (p (is ∙ ap front_length e))
    go fault e = absurd (p (is ∙ ap front_length e))
    go (row_end rest) e = rw (is ∙ ap front_length e) (row-end-at tracks s rest at e).inside
    go (entry f rest) e = rw (is ∙ ap front_length e) (entry_at tracks s rest at f e).inside
