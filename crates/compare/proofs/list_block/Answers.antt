use mathlib.Core.Path.{refl}
use Rattle.numbers.proofs.AllBytes.{slice-bytes}
use Rattle.blocks.specs.declared.RecordKind.TheVariants.{VolumeEnvelope, PanningEnvelope}
use Rattle.envelopes.specs.declared.EnvelopeKind.TheVariants.{Volume, Panning}
use Rattle.compare.proofs.SameBlocks.{whole-listed, song-listed, instrument-listed, sample-listed, pattern-listed, envelopes-ready}
use Rattle.compare.proofs.list_block.Goals as goal

pub list_pattern-requires : goal.list_pattern-requires
list_pattern-requires c =
    (rw c.in-Pattern.is at c.requires.0, c.requires.1)

pub same_envelope-requires : goal.same_envelope-requires
same_envelope-requires c =
    envelopes-ready c.args.m.now c.args.l c.args.k.now c.args.j c.args.kind
    c.args.number c.args.at c.args.to c.requires.0 Volume c.in-VolumeEnvelope.is

pub same_envelope-requires-in-PanningEnvelope : goal.same_envelope-requires-in-PanningEnvelope
same_envelope-requires-in-PanningEnvelope c =
    envelopes-ready c.args.m.now c.args.l c.args.k.now c.args.j c.args.kind
    c.args.number c.args.at c.args.to c.requires.0 Panning c.in-PanningEnvelope.is

pub returns-in-Song : goal.returns-in-Song
returns-in-Song c =
    let m = c.args.m.now in
    let k = c.args.k.now in
    let same_block = c.same_block in
    song-listed m c.args.l k c.args.j c.args.kind c.args.number c.args.at
    c.args.to c.args.n c.args.out.now (slice-bytes m c.type_inv.m)
    (slice-bytes k c.type_inv.k) c.requires.0 c.in-Song.is same_block.result
    same_block.ensures c.list_whole.ensures

pub returns-in-Instrument : goal.returns-in-Instrument
returns-in-Instrument c =
    let m = c.args.m.now in
    let k = c.args.k.now in
    let same-block2 = c.same_block-in-Instrument in
    instrument-listed m c.args.l k c.args.j c.args.kind c.args.number c.args.at
    c.args.to c.args.n c.args.out.now (slice-bytes m c.type_inv.m)
    (slice-bytes k c.type_inv.k) c.requires.0 c.in-Instrument.is same-block2.result
    same-block2.ensures c.list_whole-in-Instrument.ensures

pub returns-in-Pattern : goal.returns-in-Pattern
returns-in-Pattern c =
    pattern-listed c.args.m.now c.args.l c.args.k.now c.args.j c.args.kind
    c.args.number c.args.at c.args.to c.args.n c.args.out.now c.in-Pattern.is
    c.list_pattern.ensures

pub returns-in-Sample : goal.returns-in-Sample
returns-in-Sample c =
    let m = c.args.m.now in
    let k = c.args.k.now in
    let same-block3 = c.same_block-in-Sample in
    sample-listed m c.args.l k c.args.j c.args.kind c.args.number c.args.at
    c.args.to c.args.n c.args.out.now (slice-bytes m c.type_inv.m)
    (slice-bytes k c.type_inv.k) c.requires.0 c.in-Sample.is same-block3.result
    same-block3.ensures c.list_whole-in-Sample.ensures

pub returns-in-VolumeEnvelope : goal.returns-in-VolumeEnvelope
returns-in-VolumeEnvelope c =
    let same-envelope = c.same_envelope in
    whole-listed c.args.m.now c.args.l c.args.k.now c.args.j c.args.kind
    c.args.number c.args.at c.args.to c.args.n c.args.out.now VolumeEnvelope
    c.in-VolumeEnvelope.is refl same-envelope.result same-envelope.ensures c.list_whole-in-VolumeEnvelope.ensures

pub returns-in-PanningEnvelope : goal.returns-in-PanningEnvelope
returns-in-PanningEnvelope c =
    let same-envelope2 = c.same_envelope-in-PanningEnvelope in
    whole-listed c.args.m.now c.args.l c.args.k.now c.args.j c.args.kind
    c.args.number c.args.at c.args.to c.args.n c.args.out.now PanningEnvelope
    c.in-PanningEnvelope.is refl same-envelope2.result same-envelope2.ensures c.list_whole-in-PanningEnvelope.ensures
