use native.Mathlib.Omega.{arith}
use Rattle.listing_text.specs.Lines.{decimal, ascii}
use Rattle.listing_text.proofs.Putting.{put_both}
use Rattle.listing_text.proofs.text.put_version.Goals as goal

pub returns : goal.returns
returns c =
    let put_word = c.put_word-next in
    let put-decimal = c.put_decimal-next in
    let digit = c.digit-tens in
    let digit2 = c.digit-ones in (
      put_both (ascii "version ") _ put_word.ensures
          (put_both (decimal c.args.version) _ put-decimal.ensures.0
          (rw (digit.ensures, digit2.ensures) at c.put_word.ensures)),
      omega arith,
    )
