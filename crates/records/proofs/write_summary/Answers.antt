use native.Mathlib.Omega.{arith}
use mathlib.Core.Path.{◌∙◌}
use lib.ListN.{length-set}
use Rattle.records.proofs.WritingRecords.{name-inside, name-part, numbers-room, summary-written}
use Rattle.byte_copy.proofs.Copying.{copied-in}
use Rattle.records.proofs.write_summary.Goals as goal

pub bounds-out-1 : goal.bounds-out-1
bounds-out-1 c = simp length-set (omega (arith, c.requires))

pub slice_bounds-copy-count : goal.slice_bounds-copy-count
slice_bounds-copy-count c =
    let args = c.args in
    let name = c.name_of-name in
    name-inside args.m.now args.l args.out.now name.result c.requires name.ensures

pub write_counts-requires : goal.write_counts-requires
write_counts-requires c =
    let args = c.args in
    let name = c.name_of-name in
    numbers-room args.m.now args.l args.out.now name.result c.requires name.ensures _
    (copied-in _ _ _ c.copy.ensures (let args = c.args in
    let name = c.name_of-name in
    name-part args.m.now args.l args.out.now name.result c.requires name.ensures))

pub returns : goal.returns
returns c =
    let args = c.args in
    let name = c.name_of-name in
    c.write_counts.ensures
    ∙ summary-written args.m.now args.l args.out.now name.result c.requires name.ensures _ (copied-in _ _ _ c.copy.ensures (let args = c.args in
    let name = c.name_of-name in
    name-part args.m.now args.l args.out.now name.result c.requires name.ensures))
