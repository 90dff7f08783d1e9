-- Marking the groups of eight tracks that the entries of a row belong to; and that a row holds zeros in every group that is not marked.
use Prim.Native.Nat.{ℕ, zero, suc, ◌+◌, ◌-◌, ◌*◌, ◌/◌, ◌%◌, ◌≤◌, ◌<◌}
use mathlib.Core.Path.{◌≡◌, refl, sym, ap, ◌∙◌}
use mathlib.Core.List.{List, [], ◌∷◌}
use mathlib.Core.Bool.{Bool, true, false}
use native.Mathlib.Omega.{arith}
use lib.ListN.{length, get_or, drop, set, get_or-replicate, get_or-eq_default}
use lib.Seq.{get_or-set_same, get_or-set_other}
use lib.Dec.{ltb}
use borrow.Author.Tests.{ltb-true, ltb-false}
use Rattle.vocabulary.specs.Lists.{joined, Every, none, also}
use Rattle.vocabulary.proofs.EveryOne.{every_first, every_rest, every_of}
use Rattle.cells.specs.Cells.{Cell, Row, empty_cell, empty_row}
use Rattle.packed_rows.specs.Entries.{Entry, carry_out, carry_all, row_from}
use Rattle.packed_rows.specs.Stream.{reading, whole}
use Rattle.packed_rows.specs.Steps.{RowAhead, entry_length}
use Rattle.packed_rows.specs.ComparingSteps.{AllMarked}
use Rattle.packed_rows.proofs.Shapes.{get_or-joined, length-joined, row-from-shaped}
use Rattle.packed_rows.proofs.Carrying.{Skipping, at_entry, at-row-end, entry-steps, entry-met}

-- Every entry's group is marked.
abbrev pub Known : List ℕ → List Entry → Type 0
Known marks entries = Every (λ (e : Entry). get_or marks ((e.track - 1) / 8) 0 ≡ 1) entries

-- The marks of one list are kept in another.
abbrev pub Keeps : List ℕ → List ℕ → Type 0
Keeps marks after = (group : ℕ) → get_or marks group 0 ≡ 1 → get_or after group 0 ≡ 1

-- A mark more.
set_keeps : (marks : List ℕ) (k : ℕ) → Keeps marks (set marks k 1)
set_keeps [] k group h = h
set_keeps (m ∷ marks) zero zero h = refl
set_keeps (m ∷ marks) zero (suc group) h = h
set_keeps (m ∷ marks) (suc k) zero h = h
set_keeps (m ∷ marks) (suc k) (suc group) h = set_keeps marks k group h

low-group : (track : ℕ) → track ≤ 256 → (track - 1) / 8 < 32
low-group track high = omega arith

-- The state of the loop over a row's entries: if the entries left are marked as well, and no mark is lost, all of them are.
pub record Marking (s : List ℕ) (start size : ℕ) (ahead : RowAhead s start size) (marks₀ marks : List ℕ) (at : ℕ) : Type 0 where
  pub entries : List Entry
  pub reads : reading ahead.tracks (suc ahead.left) at (drop at s) ≡ whole (entries ∷ ahead.later)
  pub all : (after : List ℕ) → Known after entries → Keeps marks after → Known after ahead.entries
  pub kept : Keeps marks₀ marks

module _ {s : List ℕ} {start size : ℕ} {ahead : RowAhead s start size} {marks₀ : List ℕ} where
  pub marking-first : Marking s start size ahead marks₀ marks₀ start
  marking-first =
      record { entries = ahead.entries; reads = ahead.reads; all = λ after known keeps. known; kept = λ group h. h }

  module _ {marks : List ℕ} {at : ℕ} (state : Marking s start size ahead marks₀ marks at) where
    pub marking-skips : Skipping s start size ahead at
    marking-skips = record { entries = state.entries; reads = state.reads }

    -- The group of the next entry's track has a mark, if the row is no longer than 256 tracks.
    pub marking-inside : (get_or s at 0 ≡ 0 → ⊥) → size ≤ 1536 → length marks ≡ 32 → (track : ℕ) → track ≡ get_or s at 0
        → (track - 1) / 8 < length marks
    marking-inside more small long track t =
        let met = entry-met s ahead.tracks ahead.left at state.entries ahead.later state.reads more in
        let high : track ≤ 256 = omega (arith, met.track-high, ahead.fits, t) in
        omega (arith, low-group track high, long)

    pub marking-turn : (get_or s at 0 ≡ 0 → ⊥) → (track n : ℕ) (marks' : List ℕ) → track ≡ get_or s at 0
        → n ≡ entry_length (get_or s (at + 1) 0)
        → (track - 1) / 8 < length marks
        → marks' ≡ set marks ((track - 1) / 8) 1
        → Marking s start size ahead marks₀ marks' (at + n)
    marking-turn more track n marks' t l inside is =
        let next = at_entry s ahead.tracks ahead.left at state.entries ahead.later state.reads more in
        let l' = entry-steps s ahead.tracks ahead.left at state.entries ahead.later state.reads more next n l in
        let same : track ≡ next.e.track = t ∙ next.found.track-is in
        let here : get_or marks' ((next.e.track - 1) / 8) 0 ≡ 1 =
        ap (λ (k : ℕ). get_or marks' ((k - 1) / 8) 0) (sym same)
        ∙ ap (λ (m : List ℕ). get_or m ((track - 1) / 8) 0) is
        ∙ get_or-set_same marks ((track - 1) / 8) 1 0 inside in
        let keeps : Keeps marks marks' = λ group h. ap (λ (m : List ℕ). get_or m group 0) is ∙ set_keeps marks ((track - 1) / 8) group h in
        record {
          entries = next.rest;
          reads = rw l' next.reads_on;
          all = λ after known kept.
              state.all after (rw next.is (also (kept ((next.e.track - 1) / 8) here) known)) (λ group h. kept group (keeps group h));
          kept = λ group h. keeps group (state.kept group h);
        }

    pub marking-last : get_or s at 0 ≡ 0 → Known marks ahead.entries
    marking-last z =
        let last = at-row-end s ahead.tracks ahead.left at state.entries ahead.later state.reads z in
        state.all marks (rw last.0 none) (λ group h. h)

-- A cell whose track no entry has is unchanged.
untouched : (es : List Entry) (row : Row) (t : ℕ) → Every (λ (e : Entry). t ≡ e.track - 1 → ⊥) es
    → get_or (carry_all es row) t empty_cell ≡ get_or row t empty_cell
untouched [] row t others = refl
untouched (e ∷ es) row t others =
    untouched es (carry_out e row) t (every_rest others)
    ∙ get_or-set_other row (e.track - 1) t _ empty_cell (every_first others)

-- Of a place in a row and its track.
place-parts : (i : ℕ) → i ≡ i / 6 * 6 + i % 6
place-parts i = omega arith

group_of : (i group t : ℕ) → group * 8 * 6 ≤ i → i < (group * 8 + 8) * 6 → t ≡ i / 6 → t / 8 ≡ group
group_of i group t low high is = omega arith

-- A row in which only marked groups have entries.
pub all-marked : (tracks : ℕ) (es : List Entry) (marks : List ℕ) → Known marks es → AllMarked marks (joined (row_from tracks es))
all-marked tracks es marks known group unset i low high = go (ltb i (tracks * 6)) refl
  where
    go : (b : Bool) → ltb i (tracks * 6) ≡ b → get_or (joined (row_from tracks es)) i 0 ≡ 0
    go false e =
        let over = ltb-false i (tracks * 6) e in
        get_or-eq_default (joined (row_from tracks es)) 0 {n = i} (omega (arith, length-joined 6 (row-from-shaped tracks es)))
    go true e =
        let less = ltb-true i (tracks * 6) e in
        let thin : i / 6 < tracks = omega arith in
        let small : i % 6 < 6 = omega arith in
        let here : i / 6 / 8 ≡ group = group_of i group (i / 6) low high refl in
        let others : Every (λ (e : Entry). i / 6 ≡ e.track - 1 → ⊥) es =
        every_of (λ e mark same.
        absurd (zero_one (sym unset ∙ ap (λ (g : ℕ). get_or marks g 0) (sym here ∙ ap (λ (k : ℕ). k / 8) same) ∙ mark))) known in
        ap (λ (k : ℕ). get_or (joined (row_from tracks es)) k 0) (place-parts i)
        ∙ get_or-joined 6 (row-from-shaped tracks es) (i / 6) (i % 6) empty_cell 0 thin small
        ∙ ap (λ (cell : Cell). get_or cell (i % 6) 0)
        (untouched es (empty_row tracks) (i / 6) others ∙ get_or-replicate tracks (i / 6) empty_cell empty_cell thin)
        ∙ get_or-replicate 6 (i % 6) 0 0 small
      where
        zero_one : ◌≡◌ {A = ℕ} 0 1 → ⊥
        zero_one z = omega arith
