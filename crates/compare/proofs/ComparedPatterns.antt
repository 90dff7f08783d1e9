-- Patterns that are compared cell by cell: equal streams have no differences, and for accepted streams the answer is the number of
-- differences.
use Prim.Native.Nat.{ℕ, zero, suc, ◌+◌, ◌-◌, ◌*◌, ◌/◌, ◌≤◌, min}
use Rattle.std.specs.Prelude.{Result, Ok, is_ok, IsOk}
use mathlib.Core.Path.{◌≡◌, refl, sym, ap, ◌∙◌}
use mathlib.Core.List.{List, [], ◌++◌}
use mathlib.Core.Bool.{Bool, true, false, not, ◌&&◌}
use lib.ListN.{length, get_or}
use lib.Dec.{eqb}
use borrow.Author.Tests.{eq-eqb, ne_eqb}
use borrow.Rule.Slice.PartMut.{mid_of, put_mid}
use Rattle.vocabulary.specs.Lists.{joined}
use Rattle.refusal.specs.declared.Refusal.{Refusal}
use Rattle.cells.specs.Cells.{Cell, Row, empty_cell}
use Rattle.numbers.specs.Numbers.{each_from}
use Rattle.differences.specs.Differences.{whole_difference, difference_if, entries_listed, equal_bytes}
use Rattle.differences.specs.declared.Difference.{Difference}
use Rattle.differences.proofs.EqualBytes.{equal-says}
use Rattle.packed_rows.specs.Entries.{rows_from}
use Rattle.packed_rows.specs.Stream.{read_stream, entries_read}
use Rattle.packed_rows.specs.Answers.{check_answer}
use Rattle.packed_rows.specs.Comparing.{field_difference, cell_differences, row_differences, pattern_differences, stream_differences}
use Rattle.packed_rows.specs.Comparing.{compare_streams_answer, output_compared, compare_streams_output}
use Rattle.layout.specs.declared.Layout.{Layout}
use Rattle.blocks.specs.StoredFields.{pattern_rows, packed_bytes}
use Rattle.blocks.specs.declared.RecordKind.TheVariants.{Pattern}
use Rattle.acceptance.proofs.BlockStreams.{accepted-sizes, holds}
use Rattle.compare.specs.Compared.{kind_of, sizes_same, patterns_differences}
use Rattle.compare.specs.Steps.{BothThere}
use Rattle.compare.proofs.AcceptedBlocks.{pattern-accepted}
use Rattle.compare.proofs.ListedParts.{listed-lent}

-- Nothing, joined.
none-joined : {A : Type 0} (f : ℕ → List A) → ((i : ℕ) → f i ≡ []) → (k n : ℕ) → joined (each_from f k n) ≡ []
none-joined f none k zero = refl
none-joined f none k (suc n) = ap (◌++ joined (each_from f (k + 1) n)) (none k) ∙ none-joined f none (k + 1) n

-- A pattern does not differ from itself.
field-same : (pattern row track : ℕ) (a : Cell) (field : ℕ) → field_difference pattern row track a a field ≡ []
field-same pattern row track a field = simp (eq-eqb (get_or a (field - 1) 0) (get_or a (field - 1) 0) refl)

cell_same : (pattern row track : ℕ) (a : Cell) → cell_differences pattern row track a a ≡ []
cell_same pattern row track a = none-joined (field_difference pattern row track a a) (field-same pattern row track a) 1 6

row_same : (pattern tracks row : ℕ) (a : Row) → row_differences pattern tracks row a a ≡ []
row_same pattern tracks row a =
    none-joined (λ (track : ℕ). cell_differences pattern row track (get_or a (track - 1) empty_cell) (get_or a (track - 1) empty_cell))
    (λ track. cell_same pattern row track (get_or a (track - 1) empty_cell)) 1 tracks

pub pattern-same : (pattern rows tracks : ℕ) (a : List Row) → pattern_differences pattern rows tracks a a ≡ []
pattern-same pattern rows tracks a =
    none-joined (λ (row : ℕ). row_differences pattern tracks row (get_or a row []) (get_or a row []))
    (λ row. row_same pattern tracks row (get_or a row [])) 0 rows

-- Streams that are accepted.
module _ (a b : List ℕ) (rows tracks pattern : ℕ) (sound : check_answer a rows tracks ≡ Ok tt) (sound' : check_answer b rows tracks ≡ Ok tt) where
  pub streams-compared : compare_streams_answer a b rows tracks pattern ≡ Ok (length (stream_differences a b rows tracks pattern))
  streams-compared =
      let fits = accepted-sizes a rows tracks sound in
      let first = (holds a rows tracks sound).read in
      let second = (holds b rows tracks sound').read in
      simp (fits, first, second)

number_in : {a b : ℕ} → ◌≡◌ {A = Result ℕ Refusal} (Ok a) (Ok b) → a ≡ b
number_in e = cc

-- Patterns of one size.
module _ (m : List ℕ) (l : Layout) (k : List ℕ) (j : Layout) (number at to : ℕ) where
  abbrev in_streams : List Difference
  in_streams = stream_differences (packed_bytes m at) (packed_bytes k to) (pattern_rows m at) l.tracks number

  module _ (t : l.tracks ≡ j.tracks) (r : pattern_rows m at ≡ pattern_rows k to) where
    pub one_size : patterns_differences m l k j number at to ≡ in_streams
    one_size = simp (eq-eqb l.tracks j.tracks t, eq-eqb (pattern_rows m at) (pattern_rows k to) r)

    pub cells_same : equal_bytes (packed_bytes m at) (packed_bytes k to) ≡ true → patterns_differences m l k j number at to ≡ []
    cells_same e =
        one_size
        ∙ ap (λ (s : List ℕ). stream_differences (packed_bytes m at) s (pattern_rows m at) l.tracks number)
        (sym (equal-says (packed_bytes m at) (packed_bytes k to) e))
        ∙ pattern-same number (pattern_rows m at) l.tracks (rows_from l.tracks (entries_read (read_stream (pattern_rows m at) l.tracks (packed_bytes m at))))

  -- Patterns of two sizes.
  pub two-sizes : sizes_same m l k j at to ≡ false
      → patterns_differences m l k j number at to ≡ difference_if (not false) (whole_difference (kind_of Pattern) number)
  two-sizes e = simp e

  pub tracks-differ : (l.tracks ≡ j.tracks → ⊥) → sizes_same m l k j at to ≡ false
  tracks-differ h = simp (ne_eqb l.tracks j.tracks h)

  pub rows-differ : (r s : ℕ) → r ≡ pattern_rows m at → s ≡ pattern_rows k to → (r ≡ s → ⊥) → sizes_same m l k j at to ≡ false
  rows-differ r s e f h = go (eqb l.tracks j.tracks)
    where
      go : (b : Bool) → (b && eqb (pattern_rows m at) (pattern_rows k to)) ≡ false
      go true = ne_eqb (pattern_rows m at) (pattern_rows k to) (λ same. h (e ∙ same ∙ sym f))
      go false = refl

  module _ (n : ℕ) (out : List ℕ) where
    abbrev pub PatternListed : ℕ → List ℕ → Type 0
    PatternListed r out' =
        (r ≡ length (patterns_differences m l k j number at to)) × (out' ≡ entries_listed (patterns_differences m l k j number at to) n out)

    -- One entry for patterns of two sizes.
    pub sizes-listed : sizes_same m l k j at to ≡ false → {out' : List ℕ} {r : ℕ}
        → (r ≡ length (difference_if (not false) (whole_difference (kind_of Pattern) number))) × (r ≤ 1)
        × (out' ≡ entries_listed (difference_if (not false) (whole_difference (kind_of Pattern) number)) n out)
        → PatternListed r out'
    sizes-listed e w = rw (two-sizes e) (w.0, w.2)

    module _ (t : l.tracks ≡ j.tracks) (r : pattern_rows m at ≡ pattern_rows k to) (a b : List ℕ) (e : a ≡ packed_bytes m at) (f : b ≡ packed_bytes k to) where
      -- No entries for streams with the same bytes.
      pub none-listed : (same : Bool) → same ≡ equal_bytes a b → same ≡ true → PatternListed 0 out
      none-listed same s taken =
          let none = cells_same t r (sym (rw (e, f) at s) ∙ taken) in
          rw none (refl, refl)

      module _ (both : BothThere m l k j Pattern number at to) (rows : ℕ) (g : rows ≡ pattern_rows m at) (answer : Result ℕ Refusal)
          (is : answer ≡ compare_streams_answer a b rows l.tracks number) where
        answered : compare_streams_answer a b rows l.tracks number ≡ Ok (length in_streams)
        answered =
            rw (e, f, g)
            (streams-compared (packed_bytes m at) (packed_bytes k to) (pattern_rows m at) l.tracks number
            (pattern-accepted m l both.opens.first number at both.first both.here)
            (rw (t, r) (pattern-accepted k j both.opens.second number to both.second both.other)))

        pub never-refused : IsOk answer
        never-refused = ap is_ok (is ∙ answered)

        -- The entries for streams that differ, written to the output from their place on.
        pub cells-listed : (entries start : ℕ) (mid : List ℕ) → answer ≡ Ok entries → start ≡ 10 * min n (length out / 10)
            → mid ≡ compare_streams_output a b rows l.tracks number (mid_of start (length out - start) out)
            → PatternListed entries (put_mid start (length out - start) out mid)
        cells-listed entries start mid h s w =
            let counted : entries ≡ length in_streams = number_in (sym h ∙ is ∙ answered) in
            let part : List ℕ = mid_of start (length out - start) out in
            let written : mid ≡ entries_listed in_streams 0 part =
            w
            ∙ ap (λ (x : Result ℕ Refusal). output_compared x (stream_differences a b rows l.tracks number) part) answered
            ∙ rw (e, f, g) refl in
            rw (one_size t r) (counted, listed-lent in_streams n out start s mid written)
