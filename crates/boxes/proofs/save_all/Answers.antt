-- `boxes::save_all` meets its contract: after k turns the listed entries below k are saved; where none is listed there is nothing to do. Assumes nothing.
use Rattle.std.proofs.Common.{arith, sym, refl, ◌∙◌, ◌≡◌, cond}
use native.Mathlib.Numerals.{add-one}
use Rattle.rules.specs.Sets.{mem, word, for_each}
use Rattle.sets.specs.Loops.{for_each_empty}
use Rattle.boxes.specs.Step.{save_all}
use Rattle.boxes.specs.Tables.{save_next}
use Rattle.boxes.proofs.save_all.Goals as goal
use Rattle.boxes.proofs.save_all.Goals.{then-is_in, else-is_in}

pub returns-then-listed-eq0 : goal.returns-then-listed-eq0
unfolding save_all
returns-then-listed-eq0 c = rw c.if-listed-eq0.true (sym (for_each_empty _ 16 _))

pub loop-k-init : goal.loop-k-init
unfolding for_each
loop-k-init c = refl

pub loop-k-preserved : goal.loop-k-preserved
loop-k-preserved c =
    let a = c.loop-k in
    let x = c.args in
    let picked : c.if-is_in.t ≡ cond (mem a.k x.listed) (word x.lists.now a.k) (word a.t a.k) = elim c.if-is_in.branch [
      | then-is_in w ↦ w.t-is ∙ rw (← c.is_in.ensures) (rw w.if-is_in.true refl)
      | else-is_in w ↦ w.t-is ∙ rw (← c.is_in.ensures) (rw w.if-is_in.false refl)
    ] in
    rw add-one (save_next x.listed x.lists.now x.t.now a.t a.k c.if-is_in.t a.invariant picked)

pub returns : goal.returns
unfolding save_all
returns c = let e : c.loop-k.k ≡ 16 = omega arith in rw (← e) c.loop-k.invariant
