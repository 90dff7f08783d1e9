use mathlib.Core.Path.{ap, ◌∙◌}
use Rattle.numbers.specs.Numbers.{put_at}
use Rattle.records.proofs.WritingRecords.{counts-written}
use Rattle.records.proofs.write_counts.Goals as goal

pub returns : goal.returns
returns c =
    c.put16-7.ensures
    ∙ ap (put_at _ 58) (c.put16-6.ensures
    ∙ ap (put_at _ 56) (c.put16-5.ensures
    ∙ ap (put_at _ 54) (c.put16-4.ensures
    ∙ ap (put_at _ 52) (c.put16-3.ensures ∙ ap (put_at _ 50) (c.put16-2.ensures ∙ ap (put_at _ 48) c.put16.ensures)))))
    ∙ counts-written c.args.m.now c.args.l c.args.out.now _ _
    c.envelope_count-volume.ensures c.envelope_count-panning.ensures c.requires
