use Rattle.io.specs.Digits.{last_digits}
use Rattle.conformance_text.specs.Text.{hex_text}
use Rattle.conformance_text.proofs.Lines.{Going, texts}
use Rattle.conformance_text.proofs.text.put_hex.Given as goal

abbrev pub invariant-loop-x : goal.invariant-loop-x
invariant-loop-x l = Going l.initial.line l.at (hex_text l.bytes) l.line l.next (texts (last_digits 16 2) l.bytes l.x-index)
