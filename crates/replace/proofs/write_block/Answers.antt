use native.Mathlib.Omega.{arith}
use Rattle.byte_copy.proofs.Copying.{copied-in}
use Rattle.replace.proofs.WritingSample.{block_written}
use Rattle.replace.proofs.write_block.Goals as goal

pub returns : goal.returns
returns c =
    block_written c.args.new.now c.args.out.now c.requires.1 c.put32.ensures c.put32-2.ensures
    (copied-in _ _ _ c.copy.ensures (omega arith))
