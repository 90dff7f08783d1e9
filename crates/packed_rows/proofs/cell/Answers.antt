use Prim.Native.Nat.{ℕ, ◌*◌, ◌≤◌}
use Rattle.std.specs.Prelude.{Ok}
use mathlib.Core.Path.{◌∙◌, ap, sym}
use lib.Seq.{length-take-le}
use lib.ListN.{replicate}
use native.Mathlib.Omega.{arith}
use Rattle.refusal.proofs.Outcomes.{is-answer, passed-on}
use Rattle.packed_rows.proofs.Sizes.{sizes}
use Rattle.packed_rows.specs.Stream.{read_stream}
use Rattle.packed_rows.proofs.SkippingRows.{cell-refused, cell-found}
use Rattle.packed_rows.specs.Answers.{cell_numbers}
use Rattle.packed_rows.proofs.cell.Goals as goal

pub returns-then-not-sizes_fit : goal.returns-then-not-sizes_fit
returns-then-not-sizes_fit c = is-answer cell_numbers (simp (← c.sizes_fit.ensures, c.if-not-sizes_fit.true, c.refuse.ensures))

pub returns-then-not-cell_there : goal.returns-then-not-cell_there
returns-then-not-cell_there c =
    let sizes-fit = c.sizes_fit in
    is-answer cell_numbers (simp (
      ← sizes-fit.ensures,
      c.if-not-sizes_fit.false,
      ← c.cell_there.ensures,
      c.if-not-cell_there.true,
      c.refuse-then-not-cell_there.ensures,
    ))

pub returns-in_err-check_stream : goal.returns-in_err-check_stream
returns-in_err-check_stream c =
    let tracks = c.args.tracks in
    let sizes-fit = c.sizes_fit in
    let cell-there = c.cell_there in
    is-answer cell_numbers (simp (← sizes-fit.ensures, c.if-not-sizes_fit.false, ← cell-there.ensures, c.if-not-cell_there.false)
    (passed-on c.from_residual.result c.from_residual.ensures.1
    ∙ cell-refused (read_stream c.args.rows tracks c.args.stream.now) tracks c.args.row
    c.args.track _ (sym c.check_stream.ensures ∙ c.in_err-check_stream.was)))

pub overflow_mul-width : goal.overflow_mul-width
overflow_mul-width c =
    let sizes-fit = c.sizes_fit in
    let fits = sizes c.args.rows c.args.tracks (sym sizes-fit.ensures ∙ c.if-not-sizes_fit.false) in
    omega arith

pub slice_bounds-line-end : goal.slice_bounds-line-end
slice_bounds-line-end c =
    let sizes-fit = c.sizes_fit in
    let fits = sizes c.args.rows c.args.tracks (sym sizes-fit.ensures ∙ c.if-not-sizes_fit.false) in
    omega arith

pub slice_bounds-read_cell-end : goal.slice_bounds-read_cell-end
slice_bounds-read_cell-end c =
    let tracks = c.args.tracks in
    let sizes-fit = c.sizes_fit in
    let fits = sizes c.args.rows tracks (sym sizes-fit.ensures ∙ c.if-not-sizes_fit.false) in
    sym (length-take-le (tracks * 6) (replicate {A = ℕ} 1524 0) (let h : tracks * 6 ≤ 1524 = omega arith in h))

pub read_cell-requires : goal.read_cell-requires
read_cell-requires c =
    let tracks = c.args.tracks in
    let sizes-fit = c.sizes_fit in
    let cell-there = c.cell_there in
    let fits = sizes c.args.rows tracks (sym sizes-fit.ensures ∙ c.if-not-sizes_fit.false) in (
      sym c.check_stream.ensures ∙ c.in_ok-check_stream.was,
      sym cell-there.ensures ∙ c.if-not-cell_there.false,
      length-take-le (tracks * 6) (replicate {A = ℕ} 1524 0) (let h : tracks * 6 ≤ 1524 = omega arith in h),
    )

pub returns : goal.returns
returns c =
    let sizes-fit = c.sizes_fit in
    let cell-there = c.cell_there in
    let check-stream = c.check_stream in
    is-answer cell_numbers (simp (← sizes-fit.ensures, c.if-not-sizes_fit.false, ← cell-there.ensures, c.if-not-cell_there.false)
    (ap Ok c.read_cell.ensures
    ∙ cell-found c.args.stream.now c.args.rows c.args.tracks c.args.row c.args.track
    (sym check-stream.ensures ∙ c.in_ok-check_stream.was)))
