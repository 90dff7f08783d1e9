use Rattle.numbers.proofs.Each.{filling-first, filling-turn, filling-last, bytes_cut}
use mathlib.Core.Path.{◌∙◌}
use lib.ListN.{length}
use native.Mathlib.Omega.{arith}
use Rattle.numbers.proofs.copy.Goals as goal

pub loop-i-init : goal.loop-i-init
loop-i-init c = filling-first _ _ _

pub loop-i-preserved : goal.loop-i-preserved
loop-i-preserved c = filling-turn _ _ _ _ _ _ c.loop-i.invariant (omega arith) c.byte.ensures

pub returns : goal.returns
returns c =
    filling-last _ _ _ _ _ c.loop-i.invariant (omega arith)
    ∙ bytes_cut c.args.m.now c.args.at (length c.args.out.now) _ c.min-first.ensures
