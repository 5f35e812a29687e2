-- `boxes::without_each` meets its contract: after j turns the entries below j are filled in. Assumes nothing.
use borrow.Author.Rules.{rules}
use native.Mathlib.Omega.{arith}
use native.Mathlib.Numerals.{add-one}
use mathlib.Core.Path.{◌≡◌, sym, ◌∙◌}
use lib.ListN.{length-set}
use lib.Seq.{take_all}
use Rattle.rules.specs.Sets.{words, each}
use Rattle.boxes.specs.Step.{without_each}
use Rattle.boxes.specs.Tables.{words_more}
use Rattle.boxes.proofs.without_each.Goals as goal

pub loop-j-init : goal.loop-j-init
unfolding words each
loop-j-init c = search rules

pub loop-j-preserved : goal.loop-j-preserved
loop-j-preserved c =
    let a = c.loop-j in
    (search rules, simp length-set a.invariant.1, rw (add-one, c.minus.ensures) (words_more _ _ _ (omega arith) a.invariant.2))

pub returns : goal.returns
unfolding without_each
returns c =
    let a = c.loop-j in
    let e : a.j ≡ 16 = omega arith in
    sym (take_all 16 a.out (omega arith)) ∙ rw e at a.invariant.2
