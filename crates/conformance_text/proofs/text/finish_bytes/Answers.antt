use mathlib.Core.List.{[], ◌∷◌}
use mathlib.Core.Path.{◌∙◌}
use Rattle.conformance_text.specs.Text.{hex_text, newline}
use Rattle.conformance_text.proofs.Lines.{both-put, going_on}
use Rattle.conformance_text.proofs.text.finish_bytes.Goals as goal

pub returns : goal.returns
returns c =
    let args = c.args in
    let both = both-put args.line.now args.at (32 ∷ []) (hex_text args.bytes.now) c.put-start.ensures c.put_hex-end.ensures in
    c.finish.ensures ∙ (going_on args.line.now args.at (32 ∷ hex_text args.bytes.now) newline both).same
