use native.Mathlib.Omega.{arith}
use Rattle.packed_rows.proofs.Writing.{tracks-listed, row_room, row_written}
use Rattle.packed_rows.proofs.packer.write_row.Goals as goal

pub write_entries-end-requires : goal.write_entries-end-requires
write_entries-end-requires c =
    let list-filled = c.list_filled-n in (
      omega arith,
      rw list-filled.ensures.0 (tracks-listed c.args.row.now c.args.tracks 0 (omega arith)),
      (row_room c.args.row.now c.args.tracks c.args.out.now c.args.to
          c.list_filled-n.ensures.0 c.requires.3),
    )

pub bounds-out-end : goal.bounds-out-end
bounds-out-end c = omega (
  arith,
  (row_room c.args.row.now c.args.tracks c.args.out.now c.args.to
      c.list_filled-n.ensures.0 c.requires.3),
)

pub returns : goal.returns
returns c =
    let list-filled = c.list_filled-n in
    row_written c.args.row.now c.args.tracks c.args.out.now c.args.to
    list-filled.ensures.0 _ _ c.write_entries-end.auto.out
    (omega (
      arith,
      (row_room c.args.row.now c.args.tracks c.args.out.now c.args.to
          c.list_filled-n.ensures.0 c.requires.3),
    )) c.write_entries-end.ensures.0
    c.write_entries-end.ensures.1
