-- `turns::run_turns` meets its contract: each turn of the loop is a turn of the run, and those that pass after it are too. Assumes nothing.
use Rattle.std.proofs.Common.{◌≡◌, ℕ, suc, ◌-◌, sym, ap, ◌∙◌, length, arith, rules}
use Rattle.boxes.specs.Record.{shown_row}
use Rattle.turn.specs.Code.{flat}
use Rattle.turns.specs.Turns.{turns_def}
use Rattle.turns.specs.Parts.{going_with}
use Rattle.turns.proofs.Laws.{turns_over}
use Rattle.turns.proofs.PassLaws.{turns_go_on, on_less}
use Rattle.turns.proofs.run_turns.Goals as goal

pub loop-c-smaller : goal.loop-c-smaller
loop-c-smaller c =
    let l = c.loop-c in
    let list = c.args.list.now in
    omega (arith, on_less (l.c.left - 1) (flat list) (going_with (shown_row l.row) l.store.words l.c (length list)) _ (omega arith) c.one_turn.ensures)

pub loop-c-preserved : goal.loop-c-preserved
loop-c-preserved c =
    let l = c.loop-c in
    let list = flat c.args.list.now in
    let g = going_with (shown_row l.row) l.store.words l.c (length c.args.list.now) in
    let one = c.one_turn in
    let (t, (few, run)) = l.invariant in
    let e : t ≡ suc (t - 1) = omega arith in (
      t - 1,
      (
        on_less (t - 1) list g _ (omega arith) one.ensures,
        sym (turns_go_on (t - 1) list g _ (omega arith) (omega arith) one.ensures) ∙ ap (λ (n : ℕ). turns_def n list g) (sym e) ∙ run,
      ),
    )

pub returns : goal.returns
returns c =
    let (t, (few, run)) = c.loop-c.invariant in
    sym (turns_over t _ _ (omega arith)) ∙ run
