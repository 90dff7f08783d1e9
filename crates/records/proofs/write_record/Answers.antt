use Rattle.blocks.specs.declared.RecordKind.TheVariants.{Song, Instrument, Pattern, Sample, VolumeEnvelope, PanningEnvelope}
use mathlib.Core.Path.{◌∙◌, sym}
use Rattle.numbers.proofs.AllBytes.{slice-bytes}
use Rattle.records.proofs.RecordLengths.{record-length}
use Rattle.records.proofs.WritingRecords.{room_of, song-written, instrument-written, pattern-written, sample-written, envelope-written}
use Rattle.records.proofs.write_record.Goals as goal

pub write_stored-requires : goal.write_stored-requires
write_stored-requires c =
    let m = c.args.m.now in
    let version = c.args.version in
    let place = c.args.at in
    room_of m version place c.args.kind c.in-Song.is
    (record-length m version Song place ∙ sym c.size.ensures.0) c.requires.1

pub write_stored-requires-in-Instrument : goal.write_stored-requires-in-Instrument
write_stored-requires-in-Instrument c =
    let m = c.args.m.now in
    let version = c.args.version in
    let place = c.args.at in
    room_of m version place c.args.kind c.in-Instrument.is (record-length m version Instrument place)
    c.requires.1

pub write_stored-requires-in-Pattern : goal.write_stored-requires-in-Pattern
write_stored-requires-in-Pattern c =
    let m = c.args.m.now in
    let version = c.args.version in
    let place = c.args.at in
    room_of m version place c.args.kind c.in-Pattern.is (record-length m version Pattern place)
    c.requires.1

pub write_sample-requires : goal.write_sample-requires
write_sample-requires c =
    let m = c.args.m.now in
    let version = c.args.version in
    let place = c.args.at in
    (room_of m version place c.args.kind c.in-Sample.is (record-length m version Sample place)
    c.requires.1)

pub write_envelope-requires : goal.write_envelope-requires
write_envelope-requires c =
    let m = c.args.m.now in
    let version = c.args.version in
    let place = c.args.at in (
      rw c.in-VolumeEnvelope.is at c.requires.0,
      room_of m version place c.args.kind c.in-VolumeEnvelope.is (record-length m version VolumeEnvelope place)
          c.requires.1,
    )

pub write_envelope-requires-in-PanningEnvelope : goal.write_envelope-requires-in-PanningEnvelope
write_envelope-requires-in-PanningEnvelope c =
    let m = c.args.m.now in
    let version = c.args.version in
    let place = c.args.at in (
      rw c.in-PanningEnvelope.is at c.requires.0,
      room_of m version place c.args.kind c.in-PanningEnvelope.is (record-length m version PanningEnvelope place)
          c.requires.1,
    )

pub returns-in-Song : goal.returns-in-Song
returns-in-Song c =
    let m = c.args.m.now in
    let size = c.size in
    song-written m (slice-bytes m c.type_inv.m) c.args.version c.args.at c.args.kind
    c.args.out.now c.in-Song.is size.ensures.0 c.write_stored.ensures

pub returns-in-Instrument : goal.returns-in-Instrument
returns-in-Instrument c =
    let m = c.args.m.now in
    instrument-written m (slice-bytes m c.type_inv.m) c.args.version c.args.at
    c.args.kind c.args.out.now c.in-Instrument.is c.write_stored-in-Instrument.ensures

pub returns-in-Pattern : goal.returns-in-Pattern
returns-in-Pattern c =
    let m = c.args.m.now in
    pattern-written m (slice-bytes m c.type_inv.m) c.args.version c.args.at
    c.args.kind c.args.out.now c.in-Pattern.is c.write_stored-in-Pattern.ensures

pub returns-in-Sample : goal.returns-in-Sample
returns-in-Sample c =
    let m = c.args.m.now in
    sample-written m (slice-bytes m c.type_inv.m) c.args.version c.args.at c.args.kind
    c.args.out.now c.in-Sample.is c.write_sample.ensures

pub returns-in-VolumeEnvelope : goal.returns-in-VolumeEnvelope
returns-in-VolumeEnvelope c =
    let m = c.args.m.now in
    let version = c.args.version in
    let place = c.args.at in
    envelope-written m (slice-bytes m c.type_inv.m) version place c.args.kind c.args.out.now
    c.in-VolumeEnvelope.is (record-length m version VolumeEnvelope place) c.write_envelope.ensures

pub returns-in-PanningEnvelope : goal.returns-in-PanningEnvelope
returns-in-PanningEnvelope c =
    let m = c.args.m.now in
    let version = c.args.version in
    let place = c.args.at in
    envelope-written m (slice-bytes m c.type_inv.m) version place c.args.kind c.args.out.now
    c.in-PanningEnvelope.is (record-length m version PanningEnvelope place) c.write_envelope-in-PanningEnvelope.ensures
