use mathlib.Core.Path.{sym}
use native.Mathlib.Omega.{arith}
use Rattle.replace.proofs.WritingSample.{front-size, front-written}
use Rattle.byte_copy.proofs.Copying.{copied-in}
use Rattle.replace.proofs.write_front.Goals as goal

pub slice_bounds-copy-end : goal.slice_bounds-copy-end
slice_bounds-copy-end c =
    sym (front-size c.args.m.now c.args.smpl c.args.at c.args.content c.requires.0)

pub copy-requires : goal.copy-requires
copy-requires c =
    omega (
      arith,
      front-size c.args.m.now c.args.smpl c.args.at c.args.content c.requires.0,
      c.requires.1,
    )

pub returns : goal.returns
returns c =
    front-written c.args.m.now c.args.smpl c.args.at c.args.content c.requires.0
    c.args.out.now (copied-in _ _ _ c.copy.ensures (omega (
      arith,
      front-size c.args.m.now c.args.smpl c.args.at c.args.content c.requires.0,
      c.requires.1,
    ))) c.put32.ensures
