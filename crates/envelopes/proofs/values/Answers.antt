use Rattle.std.proofs.Common.{rules}
use Rattle.envelopes.specs.Shown.{value_shown}
use Rattle.envelopes.proofs.AllPoints.{each-made}
use Rattle.envelopes.proofs.values.Goals as goal

pub returns : goal.returns
returns c =
    each-made _ (value_shown c.args.m.now c.args.kind c.args.version c.args.at c.args.sections) _ 32
    (λ i y q less call. search rules) _ c.from_fn.ensures.items
