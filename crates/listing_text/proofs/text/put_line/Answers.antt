use native.Mathlib.Omega.{arith}
use Rattle.listing_text.specs.Lines.{decimal}
use Rattle.listing_text.proofs.Putting.{put_both}
use Rattle.listing_text.proofs.text.put_line.Goals as goal

pub returns : goal.returns
returns c =
    let put_word = c.put_word-next in
    let put-decimal = c.put_decimal-next in (
      put_both c.args.word.now _ put_word.ensures
          (put_both (decimal c.args.n) _ put-decimal.ensures.0 c.put_word.ensures),
      omega arith,
    )
