use mathlib.Core.Path.{◌≡◌, ◌∙◌, ap, sym}
use mathlib.Core.Bool.{true, false}
use mathlib.Core.List.{◌++◌}
use lib.ListN.{drop}
use lib.Seq.{length-take-le}
use borrow.Author.Tests.{lt-ltb, le-ltb, eq-eqb, ne_eqb}
use native.Mathlib.Omega.{arith}
use Rattle.refusal.proofs.Outcomes.{is-answer-with}
use Rattle.refusal.specs.Lengths.{value_numbers}
use Rattle.cells.specs.Cells.{sizes_fit, rows_of}
use Rattle.packed_rows.proofs.Sizes.{sizes}
use Rattle.packed_rows.proofs.StreamLength.{packed-length}
use Rattle.packed_rows.proofs.pack.Goals as goal

pub returns-then-not-sizes_fit : goal.returns-then-not-sizes_fit
returns-then-not-sizes_fit c =
    let no-fit : sizes_fit c.args.rows c.args.tracks ≡ false =
    sym c.sizes_fit.ensures ∙ c.if-not-sizes_fit.true in
    is-answer-with value_numbers (simp (no-fit, c.refuse.ensures), simp no-fit)

pub overflow_mul-tracks : goal.overflow_mul-tracks
overflow_mul-tracks c =
    let rows = c.args.rows in
    let tracks = c.args.tracks in
    let yes : sizes_fit rows tracks ≡ true = sym c.sizes_fit.ensures ∙ c.if-not-sizes_fit.false in
    let fits = sizes rows tracks yes in
    record { fits = omega arith }

pub overflow_mul-rows : goal.overflow_mul-rows
overflow_mul-rows c =
    let rows = c.args.rows in
    let tracks = c.args.tracks in
    let yes : sizes_fit rows tracks ≡ true = sym c.sizes_fit.ensures ∙ c.if-not-sizes_fit.false in
    let fits = sizes rows tracks yes in
    record { fits = omega arith }

pub returns-then-cells-rows : goal.returns-then-cells-rows
returns-then-cells-rows c =
    let yes : sizes_fit c.args.rows c.args.tracks ≡ true =
    sym c.sizes_fit.ensures ∙ c.if-not-sizes_fit.false in
    is-answer-with value_numbers
    (simp (yes, ne_eqb _ _ c.if-cells-rows.true, c.refuse-then-cells-rows.ensures), simp (yes, ne_eqb _ _ c.if-cells-rows.true))

pub packed_length-needed-requires : goal.packed_length-needed-requires
packed_length-needed-requires c =
    let rows = c.args.rows in
    let tracks = c.args.tracks in
    let yes : sizes_fit rows tracks ≡ true =
    sym c.sizes_fit.ensures ∙ c.if-not-sizes_fit.false in
    let fits = sizes rows tracks yes in
    (c.if-cells-rows.false, omega arith, omega arith)

pub returns-then-out-needed : goal.returns-then-out-needed
returns-then-out-needed c =
    let sizes-fit = c.sizes_fit in
    let packed-length-call = c.packed_length-needed in
    let yes : sizes_fit c.args.rows c.args.tracks ≡ true =
    sym sizes-fit.ensures ∙ c.if-not-sizes_fit.false in
    is-answer-with value_numbers (
      simp (yes, eq-eqb _ _ c.if-cells-rows.false, ← packed-length-call.ensures, lt-ltb _ _ c.if-out-needed.true, c.refuse-then-out-needed.ensures),
      simp (yes, eq-eqb _ _ c.if-cells-rows.false, ← packed-length-call.ensures, lt-ltb _ _ c.if-out-needed.true),
    )

pub slice_bounds-write_rows-end-2 : goal.slice_bounds-write_rows-end-2
slice_bounds-write_rows-end-2 c =
    sym (length-take-le c.packed_length-needed.result c.args.out.now c.if-out-needed.false)

pub write_rows-requires : goal.write_rows-requires
write_rows-requires c =
    let rows = c.args.rows in
    let tracks = c.args.tracks in
    let sizes-fit = c.sizes_fit in
    let packed-length-call = c.packed_length-needed in
    let yes : sizes_fit rows tracks ≡ true = sym sizes-fit.ensures ∙ c.if-not-sizes_fit.false in
    let fits = sizes rows tracks yes in (
      c.if-cells-rows.false,
      omega arith,
      length-take-le packed-length-call.result c.args.out.now c.if-out-needed.false
          ∙ packed-length-call.ensures
          ∙ sym (packed-length (rows_of rows tracks c.args.cells.now)),
    )

pub returns : goal.returns
returns c =
    let sizes-fit = c.sizes_fit in
    let packed-length-call = c.packed_length-needed in
    let yes : sizes_fit c.args.rows c.args.tracks ≡ true =
    sym sizes-fit.ensures ∙ c.if-not-sizes_fit.false in
    is-answer-with value_numbers (
      simp (yes, eq-eqb _ _ c.if-cells-rows.false, ← packed-length-call.ensures, le-ltb _ _ c.if-out-needed.false),
      simp (yes, eq-eqb _ _ c.if-cells-rows.false, ← packed-length-call.ensures, le-ltb _ _ c.if-out-needed.false)
          (ap (◌++ drop packed-length-call.result c.args.out.now) c.write_rows.ensures),
    )
