use Prim.Native.Nat.{ℕ, ◌*◌, ◌≤◌}
use mathlib.Core.Path.{◌∙◌, ap, sym}
use lib.ListN.{length, replicate}
use lib.Seq.{length-take-le}
use native.Mathlib.Omega.{arith}
use Rattle.refusal.proofs.Outcomes.{is-answer-with, passed-on}
use Rattle.refusal.specs.Lengths.{value_numbers}
use Rattle.cells.specs.Cells.{sizes_fit}
use Rattle.packed_rows.specs.Stream.{read_stream}
use Rattle.packed_rows.specs.Comparing.{stream_differences}
use Rattle.packed_rows.specs.Answers.{verdict_of_reading}
use Rattle.packed_rows.specs.Comparing.{output_compared}
use Rattle.std.specs.Prelude.{Result}
use Rattle.refusal.specs.declared.Refusal.{Refusal}
use Rattle.packed_rows.proofs.Checked.{check-accepted, check-refused}
use Rattle.packed_rows.proofs.Sizes.{sizes}
use Rattle.packed_rows.proofs.ListingRows.{take-zeros, first-refused, second-refused, both_read}
use Rattle.packed_rows.proofs.compare.Goals as goal

pub returns-in_err-check : goal.returns-in_err-check
returns-in_err-check c =
    let rows = c.args.rows in
    let tracks = c.args.tracks in
    let a = c.args.a.now in
    let b = c.args.b.now in
    let differences = stream_differences a b rows tracks c.args.pattern in
    let refused =
    check-refused (sizes_fit rows tracks) (verdict_of_reading (read_stream rows tracks a)) _ _
    (first-refused (read_stream rows tracks a) (read_stream rows tracks b) (length differences))
    (sym c.check.ensures.0 ∙ c.in_err-check.was) in
    is-answer-with value_numbers (
      passed-on c.from_residual.result c.from_residual.ensures.1 ∙ refused,
      ap (λ (answer : Result ℕ Refusal). output_compared answer differences c.args.out.now) refused,
    )

pub returns-in_err-check_stream : goal.returns-in_err-check_stream
returns-in_err-check_stream c =
    let rows = c.args.rows in
    let tracks = c.args.tracks in
    let a = c.args.a.now in
    let b = c.args.b.now in
    let checked = check-accepted (sizes_fit rows tracks) _ (sym c.check.ensures.0 ∙ c.in_ok-check.was) in
    let yes = checked.0 in
    let refused =
    second-refused (read_stream rows tracks a) (read_stream rows tracks b)
    (length (stream_differences a b rows tracks c.args.pattern)) _ checked.1
    (sym c.check_stream.ensures ∙ c.in_err-check_stream.was) in
    is-answer-with value_numbers (
      simp (yes, ← refused)
          (passed-on c.from_residual-in_err-check_stream.result c.from_residual-in_err-check_stream.ensures.1),
      simp (yes, ← refused),
    )

pub overflow_mul-width : goal.overflow_mul-width
overflow_mul-width c =
    let rows = c.args.rows in
    let tracks = c.args.tracks in
    let checked = check-accepted (sizes_fit rows tracks) _ (sym c.check.ensures.0 ∙ c.in_ok-check.was) in
    let yes = checked.0 in
    let fits = sizes rows tracks yes in
    omega arith

pub slice_bounds-first-end : goal.slice_bounds-first-end
slice_bounds-first-end c =
    let rows = c.args.rows in
    let tracks = c.args.tracks in
    let checked = check-accepted (sizes_fit rows tracks) _ (sym c.check.ensures.0 ∙ c.in_ok-check.was) in
    let yes = checked.0 in
    let fits = sizes rows tracks yes in
    omega arith

pub slice_bounds-list_rows-end : goal.slice_bounds-list_rows-end
slice_bounds-list_rows-end c =
    let rows = c.args.rows in
    let tracks = c.args.tracks in
    let checked = check-accepted (sizes_fit rows tracks) _ (sym c.check.ensures.0 ∙ c.in_ok-check.was) in
    let yes = checked.0 in
    let fits = sizes rows tracks yes in
    sym (length-take-le (tracks * 6) (replicate {A = ℕ} 1524 0) (let h : tracks * 6 ≤ 1524 = omega arith in h))

pub slice_bounds-second-end : goal.slice_bounds-second-end
slice_bounds-second-end c =
    let rows = c.args.rows in
    let tracks = c.args.tracks in
    let checked = check-accepted (sizes_fit rows tracks) _ (sym c.check.ensures.0 ∙ c.in_ok-check.was) in
    let yes = checked.0 in
    let fits = sizes rows tracks yes in
    omega arith

pub slice_bounds-list_rows-end-2 : goal.slice_bounds-list_rows-end-2
slice_bounds-list_rows-end-2 c =
    let rows = c.args.rows in
    let tracks = c.args.tracks in
    let checked = check-accepted (sizes_fit rows tracks) _ (sym c.check.ensures.0 ∙ c.in_ok-check.was) in
    let yes = checked.0 in
    let fits = sizes rows tracks yes in
    sym (length-take-le (tracks * 6) (replicate {A = ℕ} 1524 0) (let h : tracks * 6 ≤ 1524 = omega arith in h))

pub list_rows-requires : goal.list_rows-requires
list_rows-requires c =
    let rows = c.args.rows in
    let tracks = c.args.tracks in
    let checked = check-accepted (sizes_fit rows tracks) _ (sym c.check.ensures.0 ∙ c.in_ok-check.was) in
    let yes = checked.0 in
    let fits = sizes rows tracks yes in (
      checked.1,
      sym c.check_stream.ensures ∙ c.in_ok-check_stream.was,
      take-zeros (tracks * 6) 1524 (let h : tracks * 6 ≤ 1524 = omega arith in h),
      take-zeros (tracks * 6) 1524 (let h : tracks * 6 ≤ 1524 = omega arith in h),
      omega arith,
      omega arith,
    )

pub returns : goal.returns
returns c =
    let rows = c.args.rows in
    let tracks = c.args.tracks in
    let a = c.args.a.now in
    let b = c.args.b.now in
    let list-rows = c.list_rows in
    let checked = check-accepted (sizes_fit rows tracks) _ (sym c.check.ensures.0 ∙ c.in_ok-check.was) in
    let yes = checked.0 in
    let found =
    both_read (read_stream rows tracks a) (read_stream rows tracks b)
    (length (stream_differences a b rows tracks c.args.pattern))
    checked.1 (sym c.check_stream.ensures ∙ c.in_ok-check_stream.was)
    list-rows.result list-rows.ensures.0 in
    is-answer-with value_numbers (simp (yes, ← found), simp (yes, ← found) list-rows.ensures.1)
