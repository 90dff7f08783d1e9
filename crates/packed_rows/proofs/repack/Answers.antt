use Prim.Native.Nat.{ℕ, ◌*◌, ◌≤◌}
use Rattle.std.specs.Prelude.{Result}
use Rattle.refusal.specs.declared.Refusal.{Refusal}
use Rattle.refusal.specs.Lengths.{output_written, value_numbers}
use mathlib.Core.Path.{◌∙◌, ap, sym}
use lib.ListN.{length, replicate}
use lib.Seq.{length-take-le}
use native.Mathlib.Omega.{arith}
use Rattle.refusal.proofs.Outcomes.{is-answer-with, passed-on}
use Rattle.cells.specs.Cells.{sizes_fit}
use Rattle.packed_rows.specs.Stream.{read_stream}
use Rattle.packed_rows.specs.Packer.{packed_stream}
use Rattle.packed_rows.specs.Steps.{rows_read}
use Rattle.packed_rows.specs.Answers.{verdict_of_reading}
use Rattle.packed_rows.specs.Entries.{rows_from}
use Rattle.packed_rows.specs.Stream.{entries_read}
use Rattle.packed_rows.proofs.Checked.{check-accepted, check-refused}
use Rattle.packed_rows.proofs.Sizes.{sizes}
use Rattle.packed_rows.proofs.Repacking.{repack-refused, repack-found}
use Rattle.packed_rows.proofs.repack.Goals as goal

pub returns-in_err-check : goal.returns-in_err-check
returns-in_err-check c =
    let rows = c.args.rows in
    let tracks = c.args.tracks in
    let reading = read_stream rows tracks c.args.stream.now in
    let out = c.args.out.now in
    let refused =
    check-refused (sizes_fit rows tracks) (verdict_of_reading reading) _ _
    (repack-refused reading tracks (length out)) (sym c.check.ensures.0 ∙ c.in_err-check.was) in
    is-answer-with value_numbers (
      passed-on c.from_residual.result c.from_residual.ensures.1 ∙ refused,
      ap (λ (a : Result ℕ Refusal). output_written a (packed_stream (rows_from tracks (entries_read reading))) out) refused,
    )

pub overflow_mul-width : goal.overflow_mul-width
overflow_mul-width c =
    let rows = c.args.rows in
    let tracks = c.args.tracks in
    let checked = check-accepted (sizes_fit rows tracks) _ (sym c.check.ensures.0 ∙ c.in_ok-check.was) in
    let yes = checked.0 in
    let fits = sizes rows tracks yes in
    omega arith

pub slice_bounds-line-end : goal.slice_bounds-line-end
slice_bounds-line-end c =
    let rows = c.args.rows in
    let tracks = c.args.tracks in
    let checked = check-accepted (sizes_fit rows tracks) _ (sym c.check.ensures.0 ∙ c.in_ok-check.was) in
    let yes = checked.0 in
    let fits = sizes rows tracks yes in
    omega arith

pub slice_bounds-repack_accepted-end : goal.slice_bounds-repack_accepted-end
slice_bounds-repack_accepted-end c =
    let rows = c.args.rows in
    let tracks = c.args.tracks in
    let checked = check-accepted (sizes_fit rows tracks) _ (sym c.check.ensures.0 ∙ c.in_ok-check.was) in
    let yes = checked.0 in
    let fits = sizes rows tracks yes in
    sym (length-take-le (tracks * 6) (replicate {A = ℕ} 1524 0) (let h : tracks * 6 ≤ 1524 = omega arith in h))

pub repack_accepted-requires : goal.repack_accepted-requires
repack_accepted-requires c =
    let rows = c.args.rows in
    let tracks = c.args.tracks in
    let checked = check-accepted (sizes_fit rows tracks) _ (sym c.check.ensures.0 ∙ c.in_ok-check.was) in
    let yes = checked.0 in
    let fits = sizes rows tracks yes in (
      checked.1,
      length-take-le (tracks * 6) (replicate {A = ℕ} 1524 0) (let h : tracks * 6 ≤ 1524 = omega arith in h),
      omega arith,
      omega arith,
    )

pub returns : goal.returns
returns c =
    let rows = c.args.rows in
    let tracks = c.args.tracks in
    let stream = c.args.stream.now in
    let out = c.args.out.now in
    let repack-accepted = c.repack_accepted in
    let checked = check-accepted (sizes_fit rows tracks) _ (sym c.check.ensures.0 ∙ c.in_ok-check.was) in
    let yes = checked.0 in
    let found =
    repack-found (read_stream rows tracks stream) tracks (length out) (checked.1) in
    is-answer-with value_numbers (
      simp (yes, ← found) repack-accepted.ensures.0,
      simp (yes, ← found) (repack-accepted.ensures.1
          ∙ ap (λ (a : Result ℕ Refusal). output_written a (packed_stream (rows_read stream rows tracks)) out) repack-accepted.ensures.0),
    )
