-- `links_of` meets its contract: what the rows have, added, in the words of the rules. Assumes nothing.
use Rattle.std.proofs.Common.{ℕ, List, ◌∙◌, rules, refl, arith}
use borrow.Author.Tests.{tests}
use Rattle.std.specs.List.{range_with_len}
use Rattle.std.proofs.lemmas.Iterator.{YieldsList-from_range, YieldsList-from_map}
use Rattle.std.proofs.lemmas.Iterator.Consumers.{sum_by_from_yields_List, fits_by_from_yields_list}
use Rattle.rules.specs.Sets.{count}
use Rattle.rules.specs.Sheet.{link_count}
use Rattle.writing.specs.Writing.{is_link}
use Rattle.writing.proofs.WriteLaws.{links_most}
use Rattle.writing.proofs.CountLaws.{range_sum}
use Rattle.writing.proofs.links_of.Goals as goal

-- the links of row i
abbrev row : List ℕ → ℕ → ℕ
row t i = count 16 (is_link t i)

pub sum-requires-clause-fits : goal.sum-requires-clause-fits
unfolding link_count
sum-requires-clause-fits c =
    fits_by_from_yields_list (row c.args.t.now) (range_with_len 0 16) c.map.result _
    (YieldsList-from_map _ (row c.args.t.now) (YieldsList-from_range 0 16 16 c.map.ensures.source refl) c.map.ensures.closure (λ x r q k. search (rules, tests)))
    (omega (arith, range_sum 16 (row c.args.t.now), links_most c.args.t.now))

pub returns : goal.returns
unfolding link_count
returns c =
    let e =
    sum_by_from_yields_List (row c.args.t.now) (range_with_len 0 16) c.map.result _ c.sum.ensures.ran
    (YieldsList-from_map _ (row c.args.t.now) (YieldsList-from_range 0 16 16 c.map.ensures.source refl) c.map.ensures.closure (λ x r q k. search (rules, tests)))
    ∙ range_sum 16 (row c.args.t.now) in
    (e, rw e (links_most c.args.t.now))
