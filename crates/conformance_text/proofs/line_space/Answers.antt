use mathlib.Core.Path.{refl}
use Rattle.conformance_text.proofs.Spaces.{zeros-long}
use Rattle.conformance_text.proofs.line_space.Goals as goal

pub returns : goal.returns
returns c = zeros-long 131200 _ refl
