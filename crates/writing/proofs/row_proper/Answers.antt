-- `row_proper` meets its contract: what the chain found, in the words of the rules. Assumes nothing.
use Rattle.std.proofs.Common.{◌≡◌, ℕ, Bool, true, false, rules, refl}
use borrow.Author.Tests.{tests}
use Rattle.std.proofs.lemmas.Iterator.{cases_from_all, YieldsList-from_range}
use Rattle.writing.specs.Writing.{link_proper}
use Rattle.writing.proofs.LoopLaws.{all_cases}
use Rattle.writing.proofs.row_proper.Goals as goal

abbrev passes : goal.After-all → ℕ → Bool
passes c = link_proper c.args.n c.args.t.now c.args.i

pub returns : goal.returns
returns c =
    all_cases 16 (passes c) _
    (cases_from_all _ _ _ (λ x. passes c x ≡ true) (λ x. passes c x ≡ false) c.all.ensures.ran (YieldsList-from_range 0 16 16 refl refl) (λ x q k. search (rules, tests)) (λ x q k. search (rules, tests)))
