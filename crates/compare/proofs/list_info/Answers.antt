use native.Mathlib.Omega.{arith}
use Rattle.compare.specs.Compared.{number_differences}
use Rattle.compare.proofs.ListingAll.{five-listed}
use Rattle.compare.proofs.list_info.Goals as goal

pub returns : goal.returns
returns c =
    let l = c.args.l in
    let j = c.args.j in
    let list-number = c.list_number-instruments in
    let list-number2 = c.list_number in
    let list-number3 = c.list_number-2 in
    let list-number4 = c.list_number-3 in
    let list-number5 = c.list_number-4 in
    let all =
    five-listed (number_differences l.instruments j.instruments 0) (number_differences l.samples j.samples 1)
    (number_differences l.songs j.songs 2) (number_differences l.patterns j.patterns 3)
    (number_differences l.tracks j.tracks 4) c.args.n c.args.out.now
    (list-number.ensures.0, list-number.ensures.2) (list-number2.ensures.0, list-number2.ensures.2)
    (list-number3.ensures.0, list-number3.ensures.2) (list-number4.ensures.0, list-number4.ensures.2)
    (list-number5.ensures.0, list-number5.ensures.2) in (
      all.0,
      omega (
        arith,
        list-number.ensures.1,
        list-number2.ensures.1,
        list-number3.ensures.1,
        list-number4.ensures.1,
        list-number5.ensures.1,
      ),
      all.1,
    )
