use native.Mathlib.Omega.{arith}
use Rattle.conformance_text.proofs.Lines.{copied}
use Rattle.conformance_text.proofs.text.put.Goals as goal

pub returns : goal.returns
returns c =
    let args = c.args in
    let start = c.min-start in
    let n = c.min-n in
    (omega arith, copied args.line.now args.at args.text.now start.result n.result _ _ start.ensures n.ensures (omega arith) c.copy_from_slice.ensures.after)
