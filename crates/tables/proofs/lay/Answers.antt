-- `tables::lay` meets its contract: after b turns the first b entries are laid. Assumes nothing.
use native.Mathlib.Omega.{arith}
use native.Mathlib.Numerals.{add-one}
use mathlib.Core.Path.{◌≡◌, ap, ◌∙◌}
use Prim.Native.Nat.{ℕ, ◌+◌}
use Rattle.rules.specs.Sets.{word}
use Rattle.tables.specs.Tables.{with_entry, lay_to, laid}
use Rattle.tables.proofs.lay.Goals as goal

pub loop-b-init : goal.loop-b-init
unfolding lay_to
loop-b-init c = c.new-store.ensures.words

pub loop-b-preserved : goal.loop-b-preserved
unfolding lay_to
loop-b-preserved c =
    let l = c.loop-b in
    let t = c.args.links in
    let e : 0 + l.b ≡ l.b = omega arith in
    rw (add-one, ← l.invariant) (c.set.ensures.words ∙ ap (λ (k : ℕ). with_entry l.store.words k (word t l.b)) e)

pub returns : goal.returns
unfolding laid
returns c = let e : c.loop-b.b ≡ 16 = omega (arith, c.loop-b-test.false, c.loop-b.auto.b-end) in rw (← e) c.loop-b.invariant
