-- Laws that several queries use: the place of a block that was found.
use mathlib.Core.Path.{◌≡◌, subst}
use Rattle.std.specs.Prelude.{Result, Ok}
use Rattle.refusal.specs.declared.Refusal.{Refusal}
use Rattle.numbers.specs.Numbers.{SmallPlace}
use Rattle.queries.specs.Finding.{place_in}
use Rattle.queries.specs.declared.Block.{Block}

pub placed : (f : Result Block Refusal) (b : Block) → f ≡ Ok b → SmallPlace (place_in f) → SmallPlace b.at
placed f b e h = subst (λ (g : Result Block Refusal). SmallPlace (place_in g)) e h
