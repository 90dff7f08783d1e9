use mathlib.Core.Path.{refl, sym}
use lib.Seq.{length-take-le}
use Rattle.records.proofs.WritingRecords.{stored-written}
use Rattle.records.proofs.write_stored.Goals as goal

pub slice_bounds-copy-end-2 : goal.slice_bounds-copy-end-2
slice_bounds-copy-end-2 c = sym (length-take-le _ c.args.out.now c.requires)

pub returns : goal.returns
returns c = (
  refl,
  stored-written c.args.m.now c.args.at c.args.n c.args.out.now _
      c.copy.ensures c.requires,
)
