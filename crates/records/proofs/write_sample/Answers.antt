use mathlib.Core.Path.{refl, ap, ◌∙◌}
use Rattle.numbers.specs.Numbers.{put_at}
use Rattle.records.proofs.WritingRecords.{bits-frames}
use Rattle.records.proofs.write_sample.Goals as goal

pub returns : goal.returns
returns c =
    let width = rw c.sample_flags.ensures at c.width-bits.ensures.0 in
    let written = bits-frames c.args.m.now c.args.at c.width-bits.result c.sample_frames.result
    c.args.out.now in (
      refl,
      c.put32.ensures
          ∙ ap (put_at _ 2) c.put16.ensures
          ∙ written width c.sample_frames.ensures c.requires,
    )
