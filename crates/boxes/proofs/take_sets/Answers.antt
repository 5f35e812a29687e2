-- `boxes::take_sets` meets its contract: while links remain, the tables, what is known and what was gained are as Taking says. Assumes nothing.
use Rattle.std.proofs.Common.{◌≡◌, ℕ, ◌+◌, ◌≤◌, suc, refl, ◌∙◌, subst, arith, rules}
use Rattle.rules.specs.Sets.{join_at}
use Rattle.boxes.specs.Record.{shown}
use Rattle.boxes.specs.Taking.{Mid, taken_from, mid_first, mid_next, mid_last, gained_in, gained_past}
use Rattle.boxes.proofs.take_sets.Goals as goal

pub loop-j-init : goal.loop-j-init
loop-j-init c =
    let x = c.args in
    let first = mid_first x.links x.heads.now (shown x.r.now) c.union_of-known.result (search rules) c.union_of-known.ensures (search rules) (search rules) in
    subst (λ (rest : ℕ). Mid x.links x.heads.now (shown x.r.now) rest c.union_of-known.result 0 (shown x.r.now)) (search rules) first

pub loop-j-preserved : goal.loop-j-preserved
unfolding taken_from join_at
loop-j-preserved c =
    let x = c.args in
    let l = c.in-Some.ensures.steps in
    mid_next x.links x.heads.now (shown x.r.now) _ _ _ (shown c.loop-j.r) c.loop-j.invariant l.lowest.0 _ _ _ l.lowest.1.0 refl l.rest _ _ refl c.minus-new.ensures

pub returns-then-next-lt16 : goal.returns-then-next-lt16
unfolding join_at
returns-then-next-lt16 c =
    let a = c.loop-j in
    let x = c.args in
    let h : x.r.now.hop + 1 ≡ suc a.r.hop = omega (arith, a.invariant.hop_is) in
    gained_in a.gained (x.r.now.hop + 1) (shown a.r) h ∙ mid_last x.links x.heads.now (shown x.r.now) _ _ a.gained (shown a.r) c.in-None.ensures.steps a.invariant

pub returns-else-next-lt16 : goal.returns-else-next-lt16
returns-else-next-lt16 c =
    let a = c.loop-j in
    let x = c.args in
    let h : 16 ≤ suc a.r.hop = omega (arith, a.invariant.hop_is) in
    gained_past a.gained (shown a.r) a.invariant.nodes_size h ∙ mid_last x.links x.heads.now (shown x.r.now) _ _ a.gained (shown a.r) c.in-None.ensures.steps a.invariant
