use Rattle.numbers.proofs.AllBytes.{slice-bytes}
use Rattle.replace.proofs.Accepting.{instruments-in}
use Rattle.replace.proofs.Placing.{sample-there, moves, start-inside, start-room, all-written}
use Rattle.replace.proofs.write_result.Goals as goal

pub write_samples-requires : goal.write_samples-requires
write_samples-requires c =
    let m = c.args.m.now in
    sample-there m (slice-bytes m c.type_inv.m) c.args.l c.requires.0 c.args.sample
    c.requires.1 c.args.new.now c.requires.2 c.requires.3 c.requires.4

pub place_afterwards-start-requires : goal.place_afterwards-start-requires
place_afterwards-start-requires c =
    let m = c.args.m.now in
    let size = c.size-old in
    moves m (slice-bytes m c.type_inv.m) c.args.l c.requires.0 c.args.sample c.requires.1
    c.args.new.now c.requires.2 size.ensures.0 c.requires.3

pub slice_bounds-write_instruments-count : goal.slice_bounds-write_instruments-count
slice_bounds-write_instruments-count c =
    let m = c.args.m.now in
    let size = c.size-old in
    start-inside m (slice-bytes m c.type_inv.m) c.args.l c.requires.0 c.args.sample
    c.requires.1 c.args.new.now c.requires.2 size.ensures.0 c.args.out.now c.requires.4
    c.write_samples.ensures c.place_afterwards-start.ensures

pub slice_bounds-write_instruments-start : goal.slice_bounds-write_instruments-start
slice_bounds-write_instruments-start c =
    let m = c.args.m.now in
    let size = c.size-old in
    start-inside m (slice-bytes m c.type_inv.m) c.args.l c.requires.0 c.args.sample
    c.requires.1 c.args.new.now c.requires.2 size.ensures.0 c.args.out.now c.requires.4
    c.write_samples.ensures c.place_afterwards-start.ensures

pub write_instruments-requires : goal.write_instruments-requires
write_instruments-requires c =
    let m = c.args.m.now in
    let l = c.args.l in
    let size = c.size-old in
    let write-samples = c.write_samples in (
      instruments-in m (slice-bytes m c.type_inv.m) l c.requires.0,
      start-room m (slice-bytes m c.type_inv.m) l c.requires.0 c.args.sample c.requires.1
          c.args.new.now c.requires.2 size.ensures.0 c.args.out.now c.requires.4
          write-samples.ensures c.place_afterwards-start.ensures,
    )

pub returns : goal.returns
returns c =
    let m = c.args.m.now in
    let size = c.size-old in
    let write-samples = c.write_samples in
    let place-afterwards = c.place_afterwards-start in
    let write-instruments = c.write_instruments in (
      write-instruments.ensures.0,
      all-written m (slice-bytes m c.type_inv.m) c.args.l c.requires.0 c.args.sample
          c.requires.1 c.args.new.now c.requires.2 size.ensures.0 c.args.out.now c.requires.4
          write-samples.ensures place-afterwards.ensures write-instruments.ensures.1,
    )
