use borrow.Author.Rules.{rules}
use native.Mathlib.Omega.{arith}
use Rattle.blocks.specs.declared.RecordKind.TheVariants.{Instrument, Pattern, Sample, VolumeEnvelope, PanningEnvelope}
use Rattle.records.proofs.Accepting.{songs-reported, reported, instruments-length, patterns-length, samples-length, volumes-length, pannings-length}
use Rattle.records.proofs.records_length.Goals as goal

pub returns-in-Song : goal.returns-in-Song
returns-in-Song c =
    let Chunk-of = c.chunk_of in (
      songs-reported c.args.m.now c.args.l c.requires c.args.kind Chunk-of.result
          c.in-Song.is Chunk-of.ensures,
      search rules,
    )

pub returns-in-Instrument : goal.returns-in-Instrument
returns-in-Instrument c =
    let m = c.args.m.now in
    let l = c.args.l in
    let count_of = c.count_of-count in (
      reported m l c.args.kind Instrument count_of.result 50 c.in-Instrument.is (instruments-length m l)
          count_of.ensures,
      omega (arith, count_of.type_inv),
    )

pub returns-in-Pattern : goal.returns-in-Pattern
returns-in-Pattern c =
    let m = c.args.m.now in
    let l = c.args.l in
    let count_of = c.count_of-count in (
      reported m l c.args.kind Pattern count_of.result 2 c.in-Pattern.is (patterns-length m l)
          count_of.ensures,
      omega (arith, count_of.type_inv),
    )

pub returns-in-Sample : goal.returns-in-Sample
returns-in-Sample c =
    let m = c.args.m.now in
    let l = c.args.l in
    let count_of = c.count_of-count in (
      reported m l c.args.kind Sample count_of.result 6 c.in-Sample.is (samples-length m l)
          count_of.ensures,
      omega (arith, count_of.type_inv),
    )

pub returns-in-VolumeEnvelope : goal.returns-in-VolumeEnvelope
returns-in-VolumeEnvelope c =
    let m = c.args.m.now in
    let l = c.args.l in
    let count_of = c.count_of-count in (
      reported m l c.args.kind VolumeEnvelope count_of.result 136 c.in-VolumeEnvelope.is (volumes-length m l)
          count_of.ensures,
      omega (arith, count_of.type_inv),
    )

pub returns-in-PanningEnvelope : goal.returns-in-PanningEnvelope
returns-in-PanningEnvelope c =
    let m = c.args.m.now in
    let l = c.args.l in
    let count_of = c.count_of-count in (
      reported m l c.args.kind PanningEnvelope count_of.result 136 c.in-PanningEnvelope.is (pannings-length m l)
          count_of.ensures,
      omega (arith, count_of.type_inv),
    )
