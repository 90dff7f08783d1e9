use mathlib.Core.Path.{ap, ◌∙◌}
use Rattle.numbers.specs.Numbers.{put_at}
use Rattle.numbers.proofs.AllBytes.{slice-bytes}
use Rattle.records.proofs.Points.{passed-mag, point-written}
use Rattle.records.proofs.write_point.Goals as goal

pub unsigned-requires : goal.unsigned-requires
unsigned-requires c =
    let args = c.args in
    let value = c.value-v in
    let bytes = slice-bytes args.m.now c.type_inv.m in
    passed-mag args.m.now args.kind args.version args.at args.point args.sections value.result
    c.requires.0 (record { sfits = value.type_inv }) value.ensures bytes c.requires.1

pub returns : goal.returns
returns c =
    let unsigned = c.unsigned in
    let args = c.args in
    let value = c.value-v in
    c.put16-2.ensures
    ∙ ap (put_at _ 2) c.put16.ensures
    ∙ point-written args.m.now args.kind args.version args.at args.point args.sections value.result
    c.requires.0 (record { sfits = value.type_inv }) value.ensures _ _ args.out.now
    c.position-p.ensures unsigned.ensures c.requires.2
