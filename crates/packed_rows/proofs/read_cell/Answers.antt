use Prim.Native.Nat.{◌*◌}
use mathlib.Core.Path.{◌∙◌, ap}
use native.Mathlib.Omega.{arith}
use lib.ListN.{length}
use Rattle.cells.specs.Shown.{shown_cell}
use Rattle.packed_rows.proofs.CarryingRows.{ahead_of}
use Rattle.packed_rows.proofs.SkippingRows.{all_read, cell-ahead, cell-shown, track-there}
use Rattle.packed_rows.proofs.read_cell.Goals as goal

pub skip_rows-at-requires : goal.skip_rows-at-requires
skip_rows-at-requires c =
    all_read c.args.stream.now c.args.rows c.args.tracks c.args.row c.args.track
    c.requires.0 c.requires.1

pub load_row-requires : goal.load_row-requires
load_row-requires c =
    let tracks = c.args.tracks in
    let skip-rows = c.skip_rows-at in
    ahead_of _ _ (tracks * 6) c.args.line.now c.requires.2
    (cell-ahead c.args.stream.now c.args.rows tracks c.args.row c.args.track c.requires.0
    c.requires.1 skip-rows.result skip-rows.ensures)

pub overflow_sub-track : goal.overflow_sub-track
overflow_sub-track c =
    omega (
      arith,
      track-there c.args.stream.now c.args.rows c.args.tracks c.args.row c.args.track
          c.requires.0 c.requires.1,
    )

pub overflow_mul-track : goal.overflow_mul-track
overflow_mul-track c =
    let there = track-there c.args.stream.now c.args.rows c.args.tracks c.args.row
    c.args.track c.requires.0 c.requires.1 in
    omega (arith, c.requires.2)

pub shown_at-requires : goal.shown_at-requires
shown_at-requires c =
    let there = track-there c.args.stream.now c.args.rows c.args.tracks c.args.row
    c.args.track c.requires.0 c.requires.1 in
    omega (arith, c.requires.2, c.load_row.auto.row)

pub returns : goal.returns
returns c =
    let skip-rows = c.skip_rows-at in
    c.shown_at.ensures
    ∙ ap shown_cell (cell-shown c.args.stream.now c.args.rows c.args.tracks c.args.row
    c.args.track c.requires.0 c.requires.1 skip-rows.result skip-rows.ensures
    (length c.args.line.now) c.load_row.result c.load_row.new.row c.requires.2 c.load_row.ensures)
