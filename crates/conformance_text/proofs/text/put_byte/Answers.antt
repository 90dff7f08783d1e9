use Prim.Native.Nat.{ℕ}
use mathlib.Core.List.{List}
use mathlib.Core.Path.{◌∙◌, ap, subst}
use native.Mathlib.Omega.{arith}
use Rattle.io.specs.Digits.{last_digits}
use Rattle.conformance_text.specs.Text.{HasPut}
use Rattle.conformance_text.proofs.Figures.{fewest-byte}
use Rattle.conformance_text.proofs.text.put_byte.Goals as goal

pub returns : goal.returns
returns c =
    let args = c.args in
    let two = fewest-byte c.hex-k.result args.x c.hex-k.ensures.len (omega arith) in
    let d = c.hex-k.ensures.digits ∙ ap (λ (k : ℕ). last_digits 16 k args.x) two in
    subst (λ (text : List ℕ). HasPut args.line.now args.at text c.put.new.line c.put.result) d c.put.ensures
