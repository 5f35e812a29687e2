-- `row_links` meets its contract: how many pass, in the words of the rules. Assumes nothing.
use Rattle.std.proofs.Common.{◌∙◌, rules, refl}
use borrow.Author.Tests.{tests}
use Rattle.std.specs.List.{range_with_len}
use Rattle.std.proofs.lemmas.Iterator.{YieldsList-from_range}
use Rattle.std.proofs.lemmas.Iterator.Consumers.{YieldsList-from_filter, count_from_yields_List}
use Rattle.std.proofs.lemmas.List.Sums.{length-filter}
use Rattle.writing.specs.Writing.{is_link}
use Rattle.writing.proofs.CountLaws.{range_count}
use Rattle.writing.proofs.row_links.Goals as goal

pub returns : goal.returns
returns c =
    count_from_yields_List c.filter.result _ c.count.ensures.ran (YieldsList-from_filter _ (is_link c.args.t.now c.args.i) (YieldsList-from_range 0 16 16 c.filter.ensures.source refl) c.filter.ensures.closure (λ x b q k. search (rules, tests)))
    ∙ length-filter (is_link c.args.t.now c.args.i) (range_with_len 0 16)
    ∙ range_count 16 (is_link c.args.t.now c.args.i)
