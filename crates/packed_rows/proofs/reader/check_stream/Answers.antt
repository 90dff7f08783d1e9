use Prim.Native.Nat.{suc, ◌-◌}
use Rattle.std.specs.Prelude.{Err}
use mathlib.Core.Path.{◌≡◌, ◌∙◌, sym, refl, ap}
use borrow.Author.Rules.{rules}
use native.Mathlib.Omega.{arith}
use Rattle.packed_rows.proofs.Checking.{check-broken, check-row-end, check-entry, check-over, check-end, front-inside}
use Rattle.packed_rows.proofs.reader.check_stream.Goals as goal

pub loop-left-init : goal.loop-left-init
loop-left-init c = (search rules, refl)

pub returns-then-length-eq0 : goal.returns-then-length-eq0
returns-then-length-eq0 c =
    let loop = c.loop-left in
    let front_length = c.front_length-length in
    let some : loop.left ≡ suc (loop.left - 1) = omega arith in
    ap Err c.refuse.ensures
    ∙ sym (check-broken c.args.s.now c.args.tracks (loop.left - 1) loop.left loop.at
    front_length.result some front_length.ensures c.if-length-eq0.true)
    ∙ loop.invariant.1

pub bounds-s-at : goal.bounds-s-at
bounds-s-at c =
    let loop = c.loop-left in
    let front_length = c.front_length-length in
    omega (
      arith,
      front-inside c.args.s.now c.args.tracks loop.at front_length.result front_length.ensures
          c.if-length-eq0.false,
    )

pub overflow_add-at : goal.overflow_add-at
overflow_add-at c =
    let loop = c.loop-left in
    let front_length = c.front_length-length in
    omega (
      arith,
      front-inside c.args.s.now c.args.tracks loop.at front_length.result front_length.ensures
          c.if-length-eq0.false,
    )

pub loop-left-smaller-then-s-at-eq0 : goal.loop-left-smaller-then-s-at-eq0
loop-left-smaller-then-s-at-eq0 c =
    let loop = c.loop-left in
    let front_length = c.front_length-length in
    omega (
      arith,
      front-inside c.args.s.now c.args.tracks loop.at front_length.result front_length.ensures
          c.if-length-eq0.false,
    )

pub loop-left-preserved-then-s-at-eq0 : goal.loop-left-preserved-then-s-at-eq0
loop-left-preserved-then-s-at-eq0 c =
    let loop = c.loop-left in
    let front_length = c.front_length-length in
    let some : loop.left ≡ suc (loop.left - 1) = omega arith in
    let turn = check-row-end c.args.s.now c.args.tracks (loop.left - 1) loop.left loop.at
    front_length.result some front_length.ensures c.if-length-eq0.false c.if-s-at-eq0.true in
    (turn.1, turn.0 ∙ loop.invariant.1)

pub overflow_add-at-else-s-at-eq0 : goal.overflow_add-at-else-s-at-eq0
overflow_add-at-else-s-at-eq0 c =
    let loop = c.loop-left in
    let front_length = c.front_length-length in
    omega (
      arith,
      front-inside c.args.s.now c.args.tracks loop.at front_length.result front_length.ensures
          c.if-length-eq0.false,
    )

pub loop-left-smaller : goal.loop-left-smaller
loop-left-smaller c =
    let loop = c.loop-left in
    let front_length = c.front_length-length in
    omega (
      arith,
      front-inside c.args.s.now c.args.tracks loop.at front_length.result front_length.ensures
          c.if-length-eq0.false,
    )

pub loop-left-preserved : goal.loop-left-preserved
loop-left-preserved c =
    let loop = c.loop-left in
    let front_length = c.front_length-length in
    let some : loop.left ≡ suc (loop.left - 1) = omega arith in
    let turn = check-entry c.args.s.now c.args.tracks (loop.left - 1) loop.left loop.at
    front_length.result some front_length.ensures c.if-length-eq0.false c.if-s-at-eq0.false in
    (turn.1, turn.0 ∙ loop.invariant.1)

pub returns-then-at-s : goal.returns-then-at-s
returns-then-at-s c =
    let loop = c.loop-left in
    let none : loop.left ≡ 0 = omega arith in
    let same = rw none at loop.invariant.1 in
    ap Err c.refuse-then-at-s.ensures
    ∙ sym (check-over c.args.s.now c.args.tracks loop.at c.if-at-s.true)
    ∙ same

pub returns : goal.returns
returns c =
    let loop = c.loop-left in
    let none : loop.left ≡ 0 = omega arith in
    let same = rw none at loop.invariant.1 in
    sym (check-end c.args.s.now c.args.tracks loop.at c.if-at-s.false) ∙ same
