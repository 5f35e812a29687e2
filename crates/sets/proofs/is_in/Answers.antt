-- `is_in`: a digit of the set.
use Rattle.std.proofs.Common.{refl}
use Rattle.rules.specs.Sets.{mem}
use Rattle.sets.proofs.is_in.Goals as goal

pub returns : goal.returns
unfolding mem
returns c = refl
