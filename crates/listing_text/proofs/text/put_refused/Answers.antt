use native.Mathlib.Omega.{arith}
use Rattle.listing_text.specs.Lines.{decimal, ascii}
use Rattle.listing_text.proofs.Putting.{put_both}
use Rattle.listing_text.proofs.text.put_refused.Goals as goal

pub returns : goal.returns
returns c =
    let r = c.args.r in
    let put_word = c.put_word-at in
    let put-decimal = c.put_decimal-at in
    let put-word2 = c.put_word-at-2 in
    let put-decimal2 = c.put_decimal-at-2 in (
      put_both (ascii "refused ") _ put_word.ensures
          (put_both (decimal r.number) _ put-decimal.ensures.0
          (put_both (ascii " at ") _ put-word2.ensures
          (put_both (decimal r.place) _ put-decimal2.ensures.0 c.put_word.ensures))),
      omega arith,
    )
