use mir.Syntax.{w16}
use mir.ValLaws.{to_z-of_z}
use mathlib.Core.Path.{◌∙◌}
use Rattle.instruments.proofs.Records.{fields-shown}
use Rattle.instruments.proofs.instrument_at.Goals as goal

pub returns : goal.returns
returns c =
    let outcome-of = c.from in
    let name = c.name in
    let instrument-sample = c.instrument_sample in
    let instrument-volume = c.instrument_volume in
    let instrument-panning = c.instrument_panning in
    let signed = c.signed in
    fields-shown _ _ outcome-of.ensures name.ensures instrument-sample.ensures instrument-volume.ensures
    instrument-panning.ensures (to_z-of_z w16 _ (record { sfits = signed.type_inv }) ∙ signed.ensures)
    c.instrument_flags.ensures c.instrument_rate.ensures
    c.instrument_loop_start.ensures c.instrument_loop_length.ensures
