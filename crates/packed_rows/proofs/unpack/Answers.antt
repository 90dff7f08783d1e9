use mathlib.Core.Path.{◌∙◌, ap, sym}
use borrow.Author.Tests.{lt-ltb, le-ltb}
use native.Mathlib.Omega.{arith}
use lib.Seq.{length-take-le}
use mathlib.Core.List.{◌++◌}
use Prim.Native.Nat.{◌*◌}
use lib.ListN.{drop}
use Rattle.refusal.proofs.Outcomes.{is-answer-with, passed-on}
use Rattle.refusal.specs.Lengths.{value_numbers}
use Rattle.packed_rows.proofs.Sizes.{sizes}
use Rattle.packed_rows.proofs.unpack.Goals as goal

pub returns-then-not-sizes_fit : goal.returns-then-not-sizes_fit
returns-then-not-sizes_fit c =
    let sizes-fit = c.sizes_fit in
    is-answer-with value_numbers
    (simp (← sizes-fit.ensures, c.if-not-sizes_fit.true, c.refuse.ensures), simp (← sizes-fit.ensures, c.if-not-sizes_fit.true))

pub overflow_mul-size : goal.overflow_mul-size
overflow_mul-size c =
    let fits =
    sizes c.args.rows c.args.tracks (sym c.sizes_fit.ensures ∙ c.if-not-sizes_fit.false) in
    record { fits = omega arith }

pub overflow_mul-size-2 : goal.overflow_mul-size-2
overflow_mul-size-2 c =
    let fits =
    sizes c.args.rows c.args.tracks (sym c.sizes_fit.ensures ∙ c.if-not-sizes_fit.false) in
    record { fits = omega arith }

pub returns-then-out-size : goal.returns-then-out-size
returns-then-out-size c =
    let sizes-fit = c.sizes_fit in
    is-answer-with value_numbers (
      simp (← sizes-fit.ensures, c.if-not-sizes_fit.false, lt-ltb _ _ c.if-out-size.true, c.refuse-then-out-size.ensures),
      simp (← sizes-fit.ensures, c.if-not-sizes_fit.false, lt-ltb _ _ c.if-out-size.true),
    )

pub returns-in_err-check_stream : goal.returns-in_err-check_stream
returns-in_err-check_stream c =
    let sizes-fit = c.sizes_fit in
    let read = sym c.check_stream.ensures ∙ c.in_err-check_stream.was in
    is-answer-with value_numbers (
      simp (← sizes-fit.ensures, c.if-not-sizes_fit.false, le-ltb _ _ c.if-out-size.false, read)
          (passed-on c.from_residual.result c.from_residual.ensures.1),
      simp (← sizes-fit.ensures, c.if-not-sizes_fit.false, le-ltb _ _ c.if-out-size.false, read),
    )

pub slice_bounds-unpack_rows-end-2 : goal.slice_bounds-unpack_rows-end-2
slice_bounds-unpack_rows-end-2 c =
    sym (length-take-le (c.args.rows * (c.args.tracks * 6)) c.args.out.now c.if-out-size.false)

pub unpack_rows-requires : goal.unpack_rows-requires
unpack_rows-requires c =
    let rows = c.args.rows in
    let tracks = c.args.tracks in
    let sizes-fit = c.sizes_fit in
    let fits = sizes rows tracks (sym sizes-fit.ensures ∙ c.if-not-sizes_fit.false) in (
      sym c.check_stream.ensures ∙ c.in_ok-check_stream.was,
      length-take-le (rows * (tracks * 6)) c.args.out.now c.if-out-size.false,
      omega arith,
    )

pub returns : goal.returns
returns c =
    let sizes-fit = c.sizes_fit in
    let check-stream = c.check_stream in
    let read = sym check-stream.ensures ∙ c.in_ok-check_stream.was in
    is-answer-with value_numbers (
      simp (← sizes-fit.ensures, c.if-not-sizes_fit.false, le-ltb _ _ c.if-out-size.false, read),
      simp (← sizes-fit.ensures, c.if-not-sizes_fit.false, le-ltb _ _ c.if-out-size.false, read)
          (ap (◌++ drop (c.args.rows * (c.args.tracks * 6)) c.args.out.now) c.unpack_rows.ensures),
    )
