use borrow.Author.Tests.{eq-eqb, ne_eqb}
use Rattle.samples.proofs.SixteenBits.{times-256, rounds-down}
use Rattle.samples.proofs.at_16_bits.Goals as goal

pub returns-then-bytes-eq1 : goal.returns-then-bytes-eq1
returns-then-bytes-eq1 c = simp (eq-eqb _ _ c.if-bytes-eq1.true, ← c.byte.ensures) (times-256 _ c.byte.type-inv)

pub returns-then-bytes-eq2 : goal.returns-then-bytes-eq2
returns-then-bytes-eq2 c = simp (ne_eqb _ _ c.if-bytes-eq1.false, eq-eqb _ _ c.if-bytes-eq2.true, c.number16.ensures)

pub returns : goal.returns
returns c =
    let number32 = c.number32 in
    simp (ne_eqb _ _ c.if-bytes-eq1.false, ne_eqb _ _ c.if-bytes-eq2.false, c.rounded_down.ensures, ← number32.ensures)
    (rounds-down _ number32.type-inv)
