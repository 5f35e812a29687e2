-- A turn that touches no record is a turn: with nothing for the record the step changes nothing and sends nothing. So a run in which such turns pass by themselves
-- is the run. Assumes nothing.
use Prim.Native.Nat.{ℕ, zero, suc, ◌-◌, ◌%◌, ◌^◌, ◌<◌, ◌≤◌}
use native.Mathlib.Omega.{arith}
use native.Mathlib.Nat.{mod-eq_of_lt}
use mathlib.Core.Path.{◌≡◌, refl, sym, ap, ◌∙◌, subst}
use mathlib.Core.Bool.{true, false, ◌&&◌, ◌||◌, and-false}
use mathlib.Core.List.{List}
use lib.Dec.{eqb, ltb}
use lib.ListN.{get_or, set}
use lib.Seq.{set-get_or}
use borrow.Author.Tests.{eqb-true, ltb-true}
use Rattle.rules.specs.Sets.{mem, without, word, least, any}
use Rattle.sets.specs.Loops.{by_bool, least_hit, least_ok, any_out, pick}
use Rattle.sets.specs.Tables.{set_if_lem}
use Rattle.wires.specs.Wires.{sixteen, under_way}
use Rattle.boxes.specs.Arrival.{Arrival}
use Rattle.boxes.specs.Departure.{Departure}
use Rattle.boxes.specs.Record.{Record, blank, box_of, record_of, record_box}
use Rattle.boxes.specs.Step.{step_def, settled, no_sets}
use Rattle.boxes.specs.Laws.{step_still, woken_no, saved_none}
use Rattle.mail.specs.Post.{Posted}
use Rattle.mail.specs.Gather.{wire_of}
use Rattle.turn.specs.declared.Carried.{Carried}
use Rattle.turn.specs.Turn.{Turn, Pair, less_of, kept_tables, searched, next_pair, took_pair, took_def, Took, less_busy, more_busy, ends, Put, next_turn, put_def}
use Rattle.turn.specs.Parts.{took, receiver_of, quiet_to}
use Rattle.turn.specs.Code.{turn_with, counted}
use Rattle.pass.specs.Code.{carried_with}
use Rattle.pass.specs.Pass.{Glance, Glanced, glance_pair, kept, glance_at, quiet_turn, quiet_store, pass_one, pass_to, pass_all}
use Rattle.tables.proofs.Laws.{Same}
use Rattle.turn.proofs.Tables.{turn_same, took_same}
use Rattle.sends.proofs.Laws.{nothing_goes}
use Rattle.pass.proofs.Laws.{pair_took, pass_less, left_some}
use Rattle.turns.specs.Turns.{Going, turn_def, turns_def}
use Rattle.turns.specs.Parts.{going, going_with, on_def}
use Rattle.turns.proofs.Laws.{turns_over, turns_on, turn_less}

-- ---- the step, and what goes out

module _ (r : Record) (h : Arrival) (w : h.wakes ≡ false) (o : h.round ≡ false) (l : h.listed ≡ 0) where
  quiet_settled : step_def r h ≡ settled h no_sets no_sets (box_of r)
  quiet_settled = step_still r h o ∙ ap (settled h no_sets no_sets) (woken_no r h w)

  quiet_record : (step_def r h).«record» ≡ r
  unfolding settled
  quiet_record = ap (λ q. q.«record») quiet_settled ∙ ap record_of (saved_none h (box_of r) l) ∙ record_box r

module _ (s : List ℕ) (o : Departure) (c : Turn) (p : Pair) (k : Glance) (w : o.wakes ≡ false) (r : o.round ≡ false) (eb : o.own % 16 ≡ p.to) (ea : o.«from» % 16 ≡ p.«from»)
    (em : o.moved ≡ k.moved) (eh : o.heard ≡ k.heard) where
  says_nothing : o.wakes || o.round ≡ false
  says_nothing = rw (w, r)

  ends_not : ends o ≡ false
  unfolding ends
  ends_not = rw says_nothing (and-false o.stops)

  abbrev unsent : Posted
  unsent = record { store = s; sent = c.sent; full = c.full }

  quiet_next : next_turn c o s unsent ≡ quiet_turn c p k s
  unfolding next_turn more_busy less_busy quiet_turn
  quiet_next =
      let a : ℕ = o.«from» % 16 in
      let b : ℕ = o.own % 16 in
      rw (ends_not, says_nothing, w, set_if_lem (o.moved && eqb (under_way sixteen s (wire_of a b)) 0) c.busy a (without (word c.busy a) (2 ^ b)), eb, ea, em, eh)

  quiet_tables : kept_tables o (word c.links (o.own % 16)) (less_of s o.moved (o.«from» % 16) (o.own % 16) (word c.busy (o.«from» % 16))) s ≡ quiet_store c p k s
  unfolding kept_tables quiet_store
  quiet_tables = rw (says_nothing, ends_not, eb, ea, em, eh)

  quiet_put : put_def s o c ≡ kept (quiet_store c p k s) (quiet_turn c p k s)
  unfolding put_def
  quiet_put =
      let links : ℕ = word c.links (o.own % 16) in
      let to : ℕ = less_of s o.moved (o.«from» % 16) (o.own % 16) (word c.busy (o.«from» % 16)) in
      rw ends_not (ap (λ (z : Posted). kept (kept_tables o links to z.store) (next_turn c o s z)) (sym (nothing_goes o links unsent says_nothing))
      ∙ ap (kept (kept_tables o links to s)) quiet_next ∙ ap (λ (z : List ℕ). kept z (quiet_turn c p k s)) quiet_tables)

-- ---- a turn

-- the turn's definition from what was taken on
turn_from : List Record → Turn → Took → Going
turn_from row c k =
    let b = k.arrival.own in
    let q = step_def (get_or row b blank) k.arrival in
    let p = put_def k.store q.out c in
    record { row = set row b q.«record»; store = p.store; turn = p.turn }

turn_from_lem : (list : List ℕ) (row : List Record) (s : List ℕ) (c : Turn) → turn_def list (going row s c) ≡ turn_from row c (took_pair c (next_pair list c) s)
unfolding turn_def turn_from took_def
turn_from_lem list row s c = refl

searched_below : (busy : List ℕ) → ((searched busy).«from» < 16) × ((searched busy).to < 16)
unfolding searched
searched_below busy =
    let a : ℕ = least 16 (λ a. any 16 (λ b. mem b (word busy a))) in
    by_bool (ltb a 16)
    (λ e.
    let l : a < 16 = ltb-true a 16 e in
    let (k, m, t) = any_out 16 (λ b. mem b (word busy a)) (least_ok 16 (λ a. any 16 (λ b. mem b (word busy a))) l) in
    (rw e l, rw e (omega (arith, m, (least_hit 16 (λ b. mem b (word busy a)) k m t).0))))
    (λ e. (rw e (omega arith), rw e (omega arith)))

pair_below : (list : List ℕ) (c : Turn) → ((next_pair list c).«from» < 16) × ((next_pair list c).to < 16)
unfolding next_pair
pair_below list c =
    by_bool (ltb c.at c.pairs)
    (λ e. (rw e (omega arith), rw e (omega arith)))
    (λ e. (rw e (searched_below c.busy).0, rw e (searched_below c.busy).1))

-- what was taken is nothing for the record
module _ (row : List Record) (c : Turn) (p : Pair) (s : List ℕ) (k : Glance) (la : p.«from» < 16) (lb : p.to < 16) where
  abbrev come : Arrival
  come = quiet_to (receiver_of c p.to) p.«from» k.moved false k.heard

  stays : (r : Record) → (step_def r come).«record» ≡ r
  unfolding quiet_to
  stays r = quiet_record r come refl refl refl

  out : (r : Record) → (step_def r come).out ≡ (settled come no_sets no_sets (box_of r)).out
  unfolding quiet_to
  out r = ap (λ q. q.out) (quiet_settled r come refl refl refl)

  goes : (r : Record) → put_def s (step_def r come).out c ≡ kept (quiet_store c p k s) (quiet_turn c p k s)
  unfolding settled quiet_to receiver_of
  goes r = ap (λ (o : Departure). put_def s o c) (out r) ∙ quiet_put s (settled come no_sets no_sets (box_of r)).out c p k refl refl (mod-eq_of_lt lb) (mod-eq_of_lt la) refl refl

  from_quiet : turn_from row c (took s come) ≡ going row (quiet_store c p k s) (quiet_turn c p k s)
  unfolding turn_from
  from_quiet = rw (stays, goes, set-get_or)

pub pass_turn : (list : List ℕ) (row : List Record) (q : Put) → (glance_at list q).glance.quiet ≡ true
    → turn_def list (going row q.store q.turn) ≡ going row (pass_one list q).store (pass_one list q).turn
unfolding glance_at pass_one
pass_turn list row q e =
    let p : Pair = next_pair list q.turn in
    let g : Glanced = glance_pair p (receiver_of q.turn p.to) q.store in
    turn_from_lem list row q.store q.turn
    ∙ ap (turn_from row q.turn) (pair_took q.turn p q.store _ _ refl refl e)
    ∙ from_quiet row q.turn p g.store g.glance (pair_below list q.turn).0 (pair_below list q.turn).1

-- ---- and the run

-- more room for turns than are left changes nothing
turns_more : (t : ℕ) (list : List ℕ) (g : Going) → g.turn.left ≤ t → turns_def (suc t) list g ≡ turns_def t list g
turns_more zero list g l = turns_over 1 list g (omega arith) ∙ sym (turns_over 0 list g (omega arith))
turns_more (suc t) list g l =
    by_bool (eqb g.turn.left 0)
    (λ e. turns_over (suc (suc t)) list g (eqb-true _ _ e) ∙ sym (turns_over (suc t) list g (eqb-true _ _ e)))
    (λ e.
    let h : Going = turn_def list g in
    let some = left_some (kept g.store g.turn) e in
    turns_on (suc t) list g h some refl ∙ turns_more t list h (turn_less t list g h l refl) ∙ sym (turns_on t list g h some refl))

-- a turn that passes is a turn of the run
turns_pass_one : (t : ℕ) (list : List ℕ) (row : List Record) (q : Put) → 1 ≤ q.turn.left → q.turn.left ≤ suc t → (glance_at list q).glance.quiet ≡ true
    → turns_def (suc t) list (going row q.store q.turn) ≡ turns_def (suc t) list (going row (pass_one list q).store (pass_one list q).turn)
turns_pass_one t list row q some l e =
    let g : Going = going row q.store q.turn in
    let h : Going = going row (pass_one list q).store (pass_one list q).turn in
    let is : h ≡ turn_def list g = sym (pass_turn list row q e) in
    turns_on t list g h some is ∙ sym (turns_more t list h (turn_less t list g h l is))

-- and so are all of them
turns_pass : (n t : ℕ) (list : List ℕ) (row : List Record) (q : Put) → q.turn.left ≤ t
    → turns_def t list (going row q.store q.turn) ≡ turns_def t list (going row (pass_to n list q).store (pass_to n list q).turn)
unfolding pass_to
turns_pass zero t list row q l = refl
turns_pass (suc n) t list row q l =
    by_bool (eqb q.turn.left 0)
    (λ e. rw e)
    (λ e. rw e (by_bool (glance_at list q).glance.quiet
    (λ y.
    let some = left_some q e in
    let et : t ≡ suc (t - 1) = omega (arith, some) in
    let less = pass_less list q some in
    rw y (ap (λ (z : ℕ). turns_def z list (going row q.store q.turn)) et
    ∙ turns_pass_one (t - 1) list row q some (omega (arith, some)) y
    ∙ ap (λ (z : ℕ). turns_def z list (going row (pass_one list q).store (pass_one list q).turn)) (sym et)
    ∙ turns_pass n t list row (pass_one list q) (omega (arith, less))))
    (λ y. rw y)))

pass_left : (n : ℕ) (list : List ℕ) (q : Put) → (pass_to n list q).turn.left ≤ q.turn.left
unfolding pass_to
pass_left zero list q = omega arith
pass_left (suc n) list q =
    by_bool (eqb q.turn.left 0)
    (λ e. rw e (omega arith))
    (λ e. rw e (pick (λ (z : Put). z.turn.left ≤ q.turn.left) (glance_at list q).glance.quiet
    (omega (arith, pass_less list q (left_some q e), pass_left n list (pass_one list q))) (omega arith)))

-- ---- a turn and those that pass after it

pub on_is : (ls : List ℕ) (pairs : ℕ) (rs rs' : List Record) (ss ss' ss'' : List ℕ) (c r : Carried) (h : Arrival) (o : Departure)
    → h ≡ (took_def ls ss (turn_with c pairs ss)).arrival → ss' ≡ (took_def ls ss (turn_with c pairs ss)).store
    → rs' ≡ set rs h.own (step_def (get_or rs h.own blank) h).«record» → o ≡ (step_def (get_or rs h.own blank) h).out
    → carried_with ss'' r pairs ≡ pass_all ls (put_def ss' o (turn_with c pairs ss'))
    → going_with rs' ss'' r pairs ≡ on_def ls (going_with rs ss c pairs)
unfolding turn_def
on_is ls pairs rs rs' ss ss' ss'' c r h o eh e' er eo et =
    let t : Turn = turn_with c pairs ss in
    let same : turn_with c pairs ss' ≡ t = turn_same (counted c pairs) ss ss' (subst (Same ss) (sym e') (took_same ls ss t)) in
    ap (λ (q : Put). going rs' q.store q.turn) (et ∙ ap (λ (z : Turn). pass_all ls (put_def ss' o z)) same) ∙ rw (er, eo, e', eh)

pub turns_go_on : (t : ℕ) (ls : List ℕ) (g h : Going) → 1 ≤ g.turn.left → g.turn.left ≤ suc t → h ≡ on_def ls g → turns_def (suc t) ls g ≡ turns_def t ls h
turns_go_on t ls g h some l e =
    let y : Going = turn_def ls g in
    turns_on t ls g y some refl ∙ turns_pass y.turn.left t ls y.row (kept y.store y.turn) (turn_less t ls g y l refl) ∙ ap (turns_def t ls) (sym e)

pub on_less : (t : ℕ) (ls : List ℕ) (g h : Going) → g.turn.left ≤ suc t → h ≡ on_def ls g → h.turn.left ≤ t
on_less t ls g h l e =
    let y : Going = turn_def ls g in
    omega (arith, ap (λ (z : Going). z.turn.left) e, pass_left y.turn.left ls (kept y.store y.turn), turn_less t ls g y l refl)
