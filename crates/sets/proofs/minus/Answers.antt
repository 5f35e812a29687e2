-- `minus`: what both sets have, taken from the first.
use Rattle.std.proofs.Common.{refl}
use Rattle.rules.specs.Sets.{without}
use Rattle.sets.proofs.minus.Goals as goal

pub returns : goal.returns
unfolding without
returns c = refl
