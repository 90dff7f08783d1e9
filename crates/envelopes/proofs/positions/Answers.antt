use Rattle.std.proofs.Common.{rules}
use Rattle.envelopes.specs.Shown.{position_shown}
use Rattle.envelopes.proofs.AllPoints.{each-made}
use Rattle.envelopes.proofs.positions.Goals as goal

pub returns : goal.returns
returns c =
    each-made _ (position_shown c.args.m.now c.args.at c.args.sections) _ 32 (λ i y q less call. search rules) _
    c.from_fn.ensures.items
