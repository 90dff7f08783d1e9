use native.Mathlib.Omega.{arith}
use Rattle.packed_rows.proofs.Counting.{one-le, byte_one}
use Rattle.packed_rows.proofs.Writing.{writing-last, tracks-turn, tracks-past}
use Rattle.packed_rows.proofs.packer.list_filled.Goals as goal

pub loop-track-preserved : goal.loop-track-preserved
loop-track-preserved c =
    let loop = c.loop-track in
    let filled = c.filled in (
      omega (arith, byte_one filled.result, one-le filled.result),
      tracks-turn c.args.row.now c.args.tracks loop.track (omega arith) loop.invariant.1 (omega arith)
          (rw (byte_one filled.result, filled.ensures)),
    )

pub returns : goal.returns
returns c =
    let loop = c.loop-track in (
      (writing-last _ _ _ _ loop.invariant.1
          (tracks-past c.args.row.now c.args.tracks loop.track (omega arith))).1,
      omega arith,
    )
