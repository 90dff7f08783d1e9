use native.Mathlib.Omega.{arith}
use Rattle.records.proofs.Accepting.{all-lengths}
use Rattle.records.proofs.all_length.Goals as goal

pub returns : goal.returns
returns c =
    let records-length = c.records_length-songs in
    let records-length2 = c.records_length-instruments in
    omega (
      arith,
      all-lengths c.args.m.now c.args.l,
      records-length.ensures.0,
      records-length2.ensures.0,
      c.records_length-patterns.ensures.0,
      c.records_length-samples.ensures.0,
      c.records_length-volume.ensures.0,
      c.records_length-panning.ensures.0,
    )
