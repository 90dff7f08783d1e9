use Rattle.envelopes.proofs.Records.{fields-shown}
use Rattle.envelopes.proofs.envelope_at.Goals as goal

pub returns : goal.returns
returns c =
    let envelope-sections = c.envelope_sections-sections in
    let outcome-of = c.from in
    let envelope-instrument = c.envelope_instrument in
    let envelope-flags = c.envelope_flags in
    let envelope-first-sustain = c.envelope_first_sustain in
    let envelope-loop-first = c.envelope_loop_first in
    fields-shown c.args.m.now c.args.kind c.args.version c.args.at
    envelope-sections.ensures outcome-of.ensures envelope-instrument.ensures envelope-flags.ensures
    envelope-first-sustain.ensures envelope-loop-first.ensures c.envelope_loop_last.ensures
    c.envelope_second_sustain.ensures c.positions.ensures c.values.ensures
