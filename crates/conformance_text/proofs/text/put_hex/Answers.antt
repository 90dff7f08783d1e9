use native.Mathlib.Omega.{arith}
use Rattle.io.specs.Digits.{last_digits}
use Rattle.conformance_text.specs.Text.{hex_text}
use Rattle.conformance_text.proofs.Lines.{going-first, going-turn}
use Rattle.conformance_text.proofs.text.put_hex.Goals as goal

pub loop-x-init : goal.loop-x-init
unfolding hex_text
loop-x-init c = let args = c.args in going-first args.line.now args.at (hex_text args.bytes.now) c.requires

pub loop-x-preserved : goal.loop-x-preserved
loop-x-preserved c =
    let args = c.args in
    let loop = c.loop-x in
    let bytes = args.bytes.now in
    going-turn args.line.now args.at (hex_text bytes) (last_digits 16 2) bytes loop.x-index (omega arith) loop.invariant
    c.put_byte-next.ensures
