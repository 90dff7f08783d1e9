use Rattle.replace.proofs.loop_cleared.Goals as goal

pub returns : goal.returns
returns c =
    let instrument-loop-length = c.instrument_loop_length-length in
    simp (
      ← instrument-loop-length.ensures,
      ← c.instrument_flags.ensures,
      ← c.is_looped.ensures,
      ← c.instrument_sample.ensures,
      ← c.instrument_loop_start.ensures,
    )
