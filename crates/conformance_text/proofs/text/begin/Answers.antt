use Rattle.conformance_text.proofs.Lines.{both-put}
use Rattle.conformance_text.specs.Text.{numbers_text}
use Rattle.conformance_text.proofs.text.begin.Goals as goal

pub returns : goal.returns
returns c =
    let args = c.args in
    let put = c.put-at in
    let put-numbers = c.put_numbers in
    both-put args.line.now 0 args.word.now (numbers_text args.numbers.now) put.ensures put-numbers.ensures
