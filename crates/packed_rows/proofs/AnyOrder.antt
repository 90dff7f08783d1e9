-- Entries of different tracks may be carried out in any order, and the packer's entries in any order give their row.
use Prim.Native.Nat.{ℕ, suc, ◌-◌, ◌≤◌, ◌<◌}
use native.Mathlib.Omega.{arith}
use mathlib.Core.Path.{◌≡◌, refl, sym, ap, ◌∙◌, subst}
use mathlib.Core.List.Permᴰ
use mathlib.Core.List.{List, [], ◌∷◌, ◌++◌, Permᴰ}
use borrow.Author.Tests.{ltb-false}
use lib.ListN.{length, length-append}
use lib.Seq.{get_or-set_other, set_comm, set_at, get_or_at, append_snoc}
use Rattle.cells.specs.Cells.{Cell, Row, empty_cell, empty_row, non_zeros}
use Rattle.packed_rows.specs.Entries.{Entry, carry_out, carry_all, row_from}
use Rattle.packed_rows.specs.Packer.{packed_entry, packed_entries}
use Rattle.packed_rows.proofs.Shapes.{Each, none, one, Blocks}
use Rattle.packed_rows.proofs.PackedRow.{Packs, done, written, passed, packs}
use Rattle.packed_rows.proofs.Storing.{all-zeros, store-packed}
use Rattle.packed_rows.proofs.Soundness.{named-packed}

-- Two entries have different cells.
abbrev pub Other : Entry → Entry → Type 0
Other e f = ¬ (e.track - 1 ≡ f.track - 1)

-- No two entries have the same track.
pub data Apart : List Entry → Type 0 where
  alone : Apart []
  apart : {n : ℕ} {e : Entry} {es : List Entry} → Each (Other e) n es → Apart es → Apart (e ∷ es)

carry-swap : (e f : Entry) (row : Row) → Other e f → carry_out f (carry_out e row) ≡ carry_out e (carry_out f row)
carry-swap e f row o =
    rw (get_or-set_other row (e.track - 1) (f.track - 1) _ empty_cell (λ q. o (sym q)), get_or-set_other row (f.track - 1) (e.track - 1) _ empty_cell o)
    (set_comm row (e.track - 1) (f.track - 1) _ _ o)

pub each-perm : {A : Type 0} {P : A → Type 0} {n : ℕ} {xs ys : List A} → Permᴰ xs ys → Each P n xs → Each P n ys
each-perm Permᴰ.nil none = none
each-perm {P = P} (Permᴰ.cons q d) (one p e) = one (subst P q p) (each-perm d e)
each-perm {P = P} (Permᴰ.swap q r) (one p (one p' e)) = one (subst P r p') (one (subst P q p) e)
each-perm (Permᴰ.trans c d) e = each-perm d (each-perm c e)

apart-perm : {es fs : List Entry} → Permᴰ es fs → Apart es → Apart fs
apart-perm Permᴰ.nil alone = alone
apart-perm (Permᴰ.cons q d) (apart o a) = apart (rw q at (each-perm d o)) (apart-perm d a)
apart-perm (Permᴰ.swap q r) (apart (one o os) (apart ps a)) = apart (one (λ t. o (rw (q, r) (sym t))) (rw r at ps)) (apart (rw q at os) a)
apart-perm (Permᴰ.trans c d) a = apart-perm d (apart-perm c a)

pub carry-perm : {es fs : List Entry} → Permᴰ es fs → Apart es → (row : Row) → carry_all es row ≡ carry_all fs row
carry-perm Permᴰ.nil a row = refl
carry-perm (Permᴰ.cons {b = b} q d) (apart o a) row = rw q (carry-perm d a (carry_out b row))
carry-perm (Permᴰ.swap {a = e} {b = f} {l = l} q r) (apart (one o os) a) row = rw (← q, ← r) (ap (carry_all l) (carry-swap e f row o))
carry-perm (Permᴰ.trans c d) a row = carry-perm c a row ∙ carry-perm d (apart-perm c a) row

-- The packer's entries.
entries-above : (e : Entry) {track : ℕ} {row : Row} {es : List Entry} → Packs track row es → 1 ≤ e.track → e.track < track → Each (Other e) (length es) es
entries-above e done low h = none
entries-above e (written {track = track} q p) low h = one (λ (t : e.track - 1 ≡ track - 1). omega arith) (entries-above e p low (omega arith))
entries-above e (passed q p) low h = entries-above e p low (omega arith)

pub entries-apart : {track : ℕ} {row : Row} {es : List Entry} → Packs track row es → 1 ≤ track → Apart es
entries-apart done h = alone
entries-apart (written {track = track} {cell = cell} q p) h = apart (entries-above (packed_entry track cell) p h (omega arith)) (entries-apart p (omega arith))
entries-apart (passed q p) h = entries-apart p (omega arith)

-- The packer's entry for a cell, on a row in which that cell is empty.
carry-packed : (before after : Row) (track : ℕ) (cell : Cell) → length before ≡ track - 1 → length cell ≡ 6
    → carry_out (packed_entry track cell) (before ++ (empty_cell ∷ after)) ≡ before ++ (cell ∷ after)
carry-packed before after track cell here l =
    rw (get_or_at before empty_cell after empty_cell (track - 1) here, named-packed cell l, store-packed 6 cell l)
    (set_at before empty_cell after cell (track - 1) here)

entries-give : (before : Row) {track n : ℕ} {row : Row} {es : List Entry} → Packs track row es → Blocks n 6 row
    → suc (length before) ≡ track
    → carry_all es (before ++ empty_row n) ≡ before ++ row
entries-give before done none t = refl
entries-give before (written {track = track} {cell = cell} {es = es} q p) (one {n = n} l b) t =
    ap (carry_all es) (carry-packed before (empty_row n) track cell (omega arith) l)
    ∙ simp append_snoc at (entries-give (before ++ (cell ∷ [])) p b (omega (arith, length-append before (cell ∷ []))))
entries-give before (passed {cell = cell} {es = es} q p) (one {n = n} l b) t =
    let empty : cell ≡ empty_cell = all-zeros 6 cell l (omega (arith, ltb-false 0 (length (non_zeros cell)) q)) in
    ap (λ (c : Cell). carry_all es (before ++ (c ∷ empty_row n))) (sym empty)
    ∙ simp append_snoc at (entries-give (before ++ (cell ∷ [])) p b (omega (arith, length-append before (cell ∷ []))))

pub any-order-gives : {tracks : ℕ} {row : Row} {es : List Entry} → Blocks tracks 6 row → Permᴰ es (packed_entries row) → row_from tracks es ≡ row
any-order-gives {tracks} {row} {es} b d =
    sym (carry-perm (Permᴰ.symm d) (entries-apart (packs 1 row) (omega arith)) (empty_row tracks)) ∙ entries-give [] (packs 1 row) b refl
