-- Sound entries (R2 to R4): the tests as propositions, and that the packer's entries are sound.
use Prim.Native.Nat.{ℕ, suc, ◌+◌, ◌≤◌, ◌<◌}
use native.Mathlib.Omega.{arith}
use mathlib.Core.Path.{◌≡◌, refl, sym, ◌∙◌}
use mathlib.Core.List.{List, map, Permᴰ}
use mathlib.Core.Bool.{Bool, true, false, ◌&&◌}
use borrow.Author.Tests.{leb-true, eqb-true, le-leb, eq-eqb}
use lib.ListN.{length, length-map}
use Rattle.cells.specs.Cells.{Cell, Row}
use Rattle.packed_rows.specs.Entries.{Entry, named, fields_named, sound_entry}
use Rattle.packed_rows.specs.Packer.{of_bits, non_zero, packed_entry}
use Rattle.packed_rows.specs.Theorems.{every}
use Rattle.packed_rows.proofs.Shapes.{none, one, Blocks}
use Rattle.packed_rows.proofs.PackedRow.{Packs, done, written, passed}
use Rattle.packed_rows.proofs.Reading.{and-true, true-and}
use Rattle.packed_rows.proofs.Bits.{bits_of, of-bits-below}
use Rattle.packed_rows.proofs.Storing.{count-non-zero}

pub record Sound (tracks : ℕ) (e : Entry) : Type 0 where
  pub low : 1 ≤ e.track
  pub high : e.track ≤ tracks
  pub filled : length e.fields ≡ fields_named e.mask

pub sound-facts : (tracks : ℕ) (e : Entry) → sound_entry tracks e ≡ true → Sound tracks e
sound-facts tracks e h =
    let t = and-true _ _ h in
    let u = and-true _ _ t.1 in
    record { low = leb-true 1 e.track t.0; high = leb-true e.track tracks u.0; filled = eqb-true _ _ u.1 }

pub facts-sound : (tracks : ℕ) (e : Entry) → Sound tracks e → sound_entry tracks e ≡ true
facts-sound tracks e s =
    simp (
      le-leb 1 e.track s.low,
      le-leb e.track tracks s.high,
      eq-eqb (length e.fields) (fields_named e.mask) s.filled,
    )

-- The packer's entries.
pub named-packed : (cell : Cell) → length cell ≡ 6 → named (of_bits (map non_zero cell)) ≡ map non_zero cell
named-packed cell l = bits_of 6 (map non_zero cell) (length-map cell non_zero ∙ l)

pub packed-sound : (tracks track : ℕ) (cell : Cell) → 1 ≤ track → track ≤ tracks → length cell ≡ 6 → Sound tracks (packed_entry track cell)
packed-sound tracks track cell low high l = record { low = low; high = high; filled = rw (named-packed cell l) (sym (count-non-zero cell)) }

-- The packer's masks have no upper bits.
pub packed-mask : (track : ℕ) (cell : Cell) → length cell ≡ 6 → (packed_entry track cell).mask < 64
packed-mask track cell l = of-bits-below 6 (map non_zero cell) (length-map cell non_zero ∙ l)

pub entries-sound : (tracks : ℕ) {track n : ℕ} {row : Row} {es : List Entry} → Packs track row es → Blocks n 6 row → 1 ≤ track
    → track + n ≤ suc tracks
    → every (sound_entry tracks) es ≡ true
entries-sound tracks done none low fits = refl
entries-sound tracks (written {track = track} {cell = cell} q p) (one l b) low fits =
    true-and (facts-sound tracks (packed_entry track cell) (packed-sound tracks track cell low (omega arith) l))
    (entries-sound tracks p b (omega arith) (omega arith))
entries-sound tracks (passed q p) (one l b) low fits = entries-sound tracks p b (omega arith) (omega arith)

-- A test that holds for every element holds for them in any order.
pub every-perm : {A : Type 0} (test : A → Bool) {xs ys : List A} → Permᴰ xs ys → every test xs ≡ every test ys
every-perm test Permᴰ.nil = refl
every-perm test (Permᴰ.cons q d) = rw (q, every-perm test d)
every-perm test (Permᴰ.swap {a = a} {b = b} {l = l} q r) = rw (← q, ← r) (swapped (test a) (test b) (every test l))
  where
    swapped : (x y z : Bool) → x && (y && z) ≡ y && (x && z)
    swapped true y z = refl
    swapped false true z = refl
    swapped false false z = refl
every-perm test (Permᴰ.trans d e) = every-perm test d ∙ every-perm test e
