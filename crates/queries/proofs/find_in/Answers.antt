use borrow.Author.Rules.{rules}
use borrow.Author.Tests.{lt-ltb, le-ltb, le-leb, lt-leb}
use Rattle.refusal.proofs.Outcomes.{is-answer-with}
use Rattle.queries.specs.Finding.{found_numbers}
use Rattle.queries.proofs.find_in.Goals as goal

pub returns-then-number-first : goal.returns-then-number-first
returns-then-number-first c =
    is-answer-with found_numbers
    (simp (← c.first_of-first.ensures, lt-leb _ _ c.if-number-first.true, c.refuse.ensures), search rules)

pub returns-then-count_of-index : goal.returns-then-count_of-index
returns-then-count_of-index c =
    let first_of = c.first_of-first in
    is-answer-with found_numbers (
      simp (
        ← first_of.ensures,
        le-leb _ _ c.if-number-first.false,
        ← c.count_of.ensures,
        le-ltb _ _ c.if-count_of-index.true,
        c.refuse-then-count_of-index.ensures,
      ),
      search rules,
    )

pub returns : goal.returns
returns c =
    let first_of = c.first_of-first in
    let count_of = c.count_of in
    is-answer-with found_numbers (
      simp (
        ← first_of.ensures,
        le-leb _ _ c.if-number-first.false,
        ← count_of.ensures,
        lt-ltb _ _ c.if-count_of-index.false,
        c.block_at.ensures.0,
        c.from.ensures,
        c.chunk_of.ensures,
      ),
      search rules,
    )
