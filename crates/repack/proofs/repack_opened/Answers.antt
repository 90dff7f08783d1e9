use native.Mathlib.Omega.{arith}
use Rattle.numbers.proofs.AllBytes.{slice-bytes}
use Rattle.repack.proofs.Accepting.{patterns-in, module-lacks, module-done}
use mathlib.Core.Path.{◌∙◌, ap}
use Rattle.refusal.specs.declared.Refusal.{Refusal}
use Rattle.refusal.specs.Lengths.{refused_length}
use Rattle.repack.proofs.repack_opened.Goals as goal

pub room_needed-needed-requires : goal.room_needed-needed-requires
room_needed-needed-requires c =
    let m = c.args.m.now in
    patterns-in m (slice-bytes m c.type_inv.m) c.args.l c.requires

pub returns-then-out-needed : goal.returns-then-out-needed
returns-then-out-needed c =
    let m = c.args.m.now in
    let room-needed = c.room_needed-needed in
    module-lacks m (slice-bytes m c.type_inv.m) c.args.l c.requires c.args.out.now
    room-needed.result c.if-out-needed.true room-needed.ensures.1 _
    (c.from.ensures ∙ ap (λ (r : Refusal). refused_length r) c.refuse.ensures)

pub write_module-requires : goal.write_module-requires
write_module-requires c =
    let m = c.args.m.now in (
      patterns-in m (slice-bytes m c.type_inv.m) c.args.l c.requires,
      omega (arith, c.room_needed-needed.ensures.0, c.if-out-needed.false),
    )

pub returns : goal.returns
returns c =
    let m = c.args.m.now in
    let room-needed = c.room_needed-needed in
    let write-module = c.write_module in
    module-done m (slice-bytes m c.type_inv.m) c.args.l c.requires c.args.out.now
    (omega (arith, room-needed.ensures.0, c.if-out-needed.false)) write-module.result _ _ c.from-2.ensures
    write-module.ensures
