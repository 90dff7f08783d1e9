use mathlib.Core.Path.{refl, sym}
use lib.Seq.{length-take-le}
use native.Mathlib.Omega.{arith}
use Rattle.numbers.proofs.AllBytes.{slice-bytes}
use Rattle.records.proofs.WritingRecords.{head-points}
use Rattle.records.proofs.write_envelope.Goals as goal

pub slice_bounds-copy-end-2 : goal.slice_bounds-copy-end-2
slice_bounds-copy-end-2 c =
    sym (length-take-le 8 c.args.out.now (omega (arith, c.requires.1)))

pub returns : goal.returns
returns c =
    let m = c.args.m.now in (
      refl,
      head-points m (slice-bytes m c.type_inv.m) c.args.kind c.args.version c.args.at
          c.args.out.now _ _ c.copy.ensures c.requires.1 c.write_points.ensures,
    )
