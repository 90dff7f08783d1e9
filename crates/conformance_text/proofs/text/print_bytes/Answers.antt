use mathlib.Core.List.{◌++◌}
use mathlib.Core.Path.{◌∙◌}
use Rattle.conformance_text.proofs.Lines.{going_on}
use Rattle.conformance_text.specs.Text.{numbers_text, bytes_end}
use Rattle.conformance_text.proofs.text.print_bytes.Goals as goal

pub returns : goal.returns
returns c =
    let args = c.args in
    let begin = c.begin-at in
    let finish-bytes = c.finish_bytes in
    let front = args.word.now ++ numbers_text args.numbers.now in
    finish-bytes.ensures ∙ (going_on args.line.now 0 front (bytes_end args.bytes.now) begin.ensures).same
