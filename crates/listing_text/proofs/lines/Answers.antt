use mathlib.Core.Path.{◌≡◌, ◌∙◌, sym}
use lib.ListN.{take}
use lib.Seq.{length-take-le}
use native.Mathlib.Omega.{arith}
use Rattle.refusal.proofs.Outcomes.{is-answer}
use Rattle.refusal.specs.Lengths.{value_numbers}
use Rattle.listing_text.specs.Lines.{listing}
use Rattle.listing_text.proofs.lines.Goals as goal

pub slice_bounds-text-end : goal.slice_bounds-text-end
slice_bounds-text-end c = omega (arith, c.put_listing-n.auto.text, c.put_listing-n.ensures.1)

pub slice_bounds-hand_out-end : goal.slice_bounds-hand_out-end
slice_bounds-hand_out-end c =
    sym (length-take-le c.put_listing-n.result c.put_listing-n.new.text (omega (arith, c.put_listing-n.auto.text, c.put_listing-n.ensures.1)))

pub returns : goal.returns
returns c =
    let hand-out = c.hand_out in
    let front : take c.put_listing-n.result c.put_listing-n.new.text ≡ listing c.args.m.now = c.put_listing-n.ensures.0.front in (
      is-answer value_numbers (hand-out.ensures.0 ∙ rw front),
      hand-out.ensures.1 ∙ rw (hand-out.ensures.0, front),
      omega (arith, c.put_listing-n.ensures.0.place, c.put_listing-n.ensures.1),
    )
