use native.Mathlib.Omega.{arith}
use Rattle.repack.proofs.Rewritten.{block_size}
use Rattle.repack.proofs.block_length.Goals as goal

pub returns : goal.returns
returns c =
    let inside = c.requires.0 in
    omega (
      arith,
      c.repack_stream-n.ensures.0,
      block_size c.args.m.now c.args.tracks c.args.at c.requires.1 (omega arith),
    )
