use borrow.Author.Rules.{rules}
use borrow.Author.Tests.{tests}
use mathlib.Core.Path.{refl, ◌∙◌}
use Rattle.std.proofs.lemmas.Iterator.{YieldsList-from_range}
use Rattle.std.proofs.lemmas.Iterator.Search.{all_from_yields_List}
use Rattle.compare.proofs.SameEnvelopes.{point_same, each-same}
use Rattle.compare.proofs.same_points.Goals as goal

pub returns : goal.returns
returns c =
    let args = c.args in
    let same = point_same args.m.now args.k.now args.kind args.version args.other args.at args.to in
    all_from_yields_List same _ _ c.all.result c.all.ensures.ran (YieldsList-from_range 0 32 32 refl refl) (λ x b q k. search (rules, tests))
    ∙ each-same args.m.now args.k.now args.kind args.version args.other args.at args.to 32 0
