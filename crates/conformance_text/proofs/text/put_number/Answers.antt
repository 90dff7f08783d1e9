use mathlib.Core.Path.{◌∙◌}
use native.Mathlib.Omega.{arith}
use Rattle.conformance_text.proofs.Figures.{fewest-decimal}
use Rattle.conformance_text.proofs.Lines.{both-put}
use Rattle.conformance_text.proofs.text.put_number.Goals as goal

pub returns : goal.returns
returns c =
    let args = c.args in
    let d = c.decimal-k.ensures.digits ∙ fewest-decimal c.decimal-k.result args.number c.decimal-k.ensures.len (omega arith) in
    rw (← d) (both-put args.line.now args.at args.word.now _ c.put-next.ensures c.put.ensures)
