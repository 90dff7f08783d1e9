use mathlib.Core.Path.{ap, ◌∙◌}
use native.Mathlib.Omega.{arith}
use Rattle.refusal.specs.declared.Refusal.{Refusal}
use Rattle.numbers.proofs.AllBytes.{slice-bytes}
use Rattle.replace.specs.Replaced.{refused_replace}
use Rattle.replace.proofs.Placing.{size-eight, size-inside, kept-limit, result-counted, result-short, result-long}
use Rattle.replace.proofs.Answering.{odd-frames, too-long, lacks-room, replaced}
use Rattle.replace.proofs.replace_at.Goals as goal

pub returns-then-new-ne0 : goal.returns-then-new-ne0
returns-then-new-ne0 c =
    odd-frames c.args.m.now c.args.l c.args.sample c.args.new.now c.args.out.now
    c.requires.1 c.if-new-ne0.true
    (c.refused.ensures ∙ ap (λ (r : Refusal). refused_replace r) c.refuse.ensures)

pub overflow_sub-kept : goal.overflow_sub-kept
overflow_sub-kept c =
    let m = c.args.m.now in
    size-eight m (slice-bytes m c.type_inv.m) c.args.l c.requires.0 c.args.sample
    c.requires.1 c.args.new.now c.requires.2 c.size.ensures.0

pub overflow_sub-kept-2 : goal.overflow_sub-kept-2
overflow_sub-kept-2 c =
    let m = c.args.m.now in
    size-inside m (slice-bytes m c.type_inv.m) c.args.l c.requires.0 c.args.sample
    c.requires.1 c.args.new.now c.requires.2 c.size.ensures.0

pub overflow_sub-kept-3 : goal.overflow_sub-kept-3
overflow_sub-kept-3 c =
    let m = c.args.m.now in
    kept-limit m (slice-bytes m c.type_inv.m) c.args.l c.requires.0 c.args.sample
    c.requires.1 c.args.new.now c.requires.2 c.size.ensures.0

pub returns-then-kept-new : goal.returns-then-kept-new
returns-then-kept-new c =
    let m = c.args.m.now in
    let l = c.args.l in
    let sample = c.args.sample in
    let new = c.args.new.now in
    too-long m l sample new c.args.out.now c.requires.1 c.if-new-ne0.false
    (result-long m (slice-bytes m c.type_inv.m) l c.requires.0 sample c.requires.1 new c.requires.2
    c.size.ensures.0 c.if-kept-new.true)
    (c.refused-then-kept-new.ensures ∙ ap (λ (r : Refusal). refused_replace r) c.refuse-then-kept-new.ensures)

pub overflow_add-length : goal.overflow_add-length
overflow_add-length c = omega (arith, c.if-kept-new.false)

pub returns-then-out-length : goal.returns-then-out-length
returns-then-out-length c =
    let m = c.args.m.now in
    let l = c.args.l in
    let sample = c.args.sample in
    let new = c.args.new.now in
    let size = c.size in
    lacks-room m l sample new c.args.out.now c.requires.1 c.if-new-ne0.false
    (result-short m (slice-bytes m c.type_inv.m) l c.requires.0 sample c.requires.1 new c.requires.2
    size.ensures.0 c.if-kept-new.false)
    (omega (
      arith,
      c.if-out-length.true,
      result-counted m (slice-bytes m c.type_inv.m) l c.requires.0 sample c.requires.1 new
          c.requires.2 size.ensures.0,
    ))
    (result-counted m (slice-bytes m c.type_inv.m) l c.requires.0 sample c.requires.1 new c.requires.2
    size.ensures.0) (c.refused-then-out-length.ensures ∙ ap (λ (r : Refusal). refused_replace r) c.refuse-then-out-length.ensures)

pub write_result-cleared-requires : goal.write_result-cleared-requires
write_result-cleared-requires c =
    let m = c.args.m.now in (
      c.requires.0,
      c.requires.1,
      c.requires.2,
      omega (arith, c.if-kept-new.false),
      omega (
        arith,
        c.if-out-length.false,
        result-counted m (slice-bytes m c.type_inv.m) c.args.l c.requires.0 c.args.sample
            c.requires.1 c.args.new.now c.requires.2 c.size.ensures.0,
      ),
    )

pub returns : goal.returns
returns c =
    let m = c.args.m.now in
    let l = c.args.l in
    let sample = c.args.sample in
    let new = c.args.new.now in
    let size = c.size in
    let write-result = c.write_result-cleared in
    replaced m l sample new c.args.out.now c.requires.1 c.if-new-ne0.false
    (result-short m (slice-bytes m c.type_inv.m) l c.requires.0 sample c.requires.1 new c.requires.2
    size.ensures.0 c.if-kept-new.false)
    (omega (
      arith,
      c.if-out-length.false,
      result-counted m (slice-bytes m c.type_inv.m) l c.requires.0 sample c.requires.1 new
          c.requires.2 size.ensures.0,
    ))
    (result-counted m (slice-bytes m c.type_inv.m) l c.requires.0 sample c.requires.1 new c.requires.2
    size.ensures.0) write-result.ensures.0 c.from.ensures write-result.ensures.1
