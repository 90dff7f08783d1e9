use Prim.Native.Nat.{◌+◌, ◌*◌}
use mathlib.Core.Path.{sym, ap, ◌∙◌}
use Rattle.numbers.specs.Numbers.{bytes16, put_at}
use native.Mathlib.Omega.{arith}
use Rattle.differences.specs.Differences.{difference_bytes}
use Rattle.numbers.proofs.PutBytes.{put-over}
use Rattle.differences.proofs.PutDifference.{difference-put}
use Rattle.differences.proofs.put.Goals as goal

pub returns-then-out-n : goal.returns-then-out-n
returns-then-out-n c = sym (put-over (difference_bytes c.args.d) _ c.args.out.now (omega (arith, c.if-out-n.true)))

pub returns : goal.returns
returns c =
    let room = c.if-out-n.false in
    let d = c.args.d in
    let at = 10 * c.args.n in
    let first = c.put16 in
    let second = c.put16-2 in
    let third = c.put16-3 in
    let fourth = c.put16-4 in
    c.put16-5.ensures
    ∙ ap (put_at (bytes16 d.field) (at + 8)) (fourth.ensures
    ∙ ap (put_at (bytes16 d.track) (at + 6)) (third.ensures
    ∙ ap (put_at (bytes16 d.row) (at + 4)) (second.ensures
    ∙ ap (put_at (bytes16 d.number) (at + 2)) first.ensures)))
    ∙ difference-put d at c.args.out.now (omega (arith, room))
