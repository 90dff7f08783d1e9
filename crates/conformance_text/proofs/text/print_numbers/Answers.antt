use mathlib.Core.List.{◌++◌}
use mathlib.Core.Path.{◌∙◌}
use Rattle.conformance_text.proofs.Lines.{going_on}
use Rattle.conformance_text.specs.Text.{numbers_text, newline}
use Rattle.conformance_text.proofs.text.print_numbers.Goals as goal

pub returns : goal.returns
returns c =
    let args = c.args in
    let begin = c.begin-at in
    let finish = c.finish in
    let front = args.word.now ++ numbers_text args.numbers.now in
    finish.ensures ∙ (going_on args.line.now 0 front newline begin.ensures).same
