use mathlib.Core.Path.{refl}
use Rattle.conformance_text.proofs.Spaces.{zeros-long}
use Rattle.conformance_text.proofs.input_space.Goals as goal

pub returns : goal.returns
returns c = zeros-long 524288 _ refl
