use Prim.Native.Nat.{◌*◌}
use lib.ListN.{length-set}
use native.Mathlib.Omega.{arith}
use Rattle.packed_rows.proofs.Writing.{entries_fit}
use Rattle.packed_rows.proofs.packer.write_entries.Goals as goal

pub overflow_add-out : goal.overflow_add-out
overflow_add-out c =
    let loop = c.loop-track in
    let fits = entries_fit c.args.row.now c.args.listed.now loop.track-index (c.from-from.result * 6) (omega arith) (omega arith)
    c.requires.1 c.requires.2 loop.invariant in
    omega arith

pub mask_of-requires : goal.mask_of-requires
mask_of-requires c =
    (entries_fit _ _ c.loop-track.track-index (c.from-from.result * 6) (omega arith) (omega arith) c.requires.1 c.requires.2 c.loop-track.invariant).0

pub write_fields-at-requires : goal.write_fields-at-requires
write_fields-at-requires c =
    let fits = entries_fit _ _ c.loop-track.track-index (c.from-from.result * 6) (omega arith) (omega arith) c.requires.1 c.requires.2 c.loop-track.invariant in
    (fits.0, simp length-set fits.1)
