-- "Five idle programs have to be caught." Each is told by what all its answers would have in common, and the answers of the calls do not have it. The inputs
-- are sample hubs of document 01, whose answers the theorem of the crate rules has. Assumes nothing.
use Rattle.std.specs.Prelude.{ℕ, ◌+◌, ◌≤◌, ◌<◌, ◌≡◌, refl, List, [], ◌∷◌, map, ◌≢◌, length, get_or, replicate}
use Rattle.std.proofs.Common.{sym, ap, ◌∙◌, arith}
use Rattle.rules.specs.Sets.{mem, without, set_of, least, any, all, count, sum, each, words, members, for_each, word, join_at, union, upd}
use Rattle.rules.specs.Outcome.{refuse, and_then}
use Rattle.rules.specs.Sheet.{link, above, pairs, pair_bytes, read_sheet}
use Rattle.rules.specs.Box.{started, start_sends, lists, behind, save_lists, save_heads, save, is_set, head_set, tail, all_sets, take_set, take_sets, before, round_sends, stops, next_hop, round, work, receive}
use Rattle.rules.specs.Hub.{send, send_list, send_all, settle, start, popped, hand_over, deliver, run, holds, sender, receiver, drain, start_all}
use Rattle.rules.specs.Calls.{reading, read_answer, read_call}
use Rattle.rules.specs.Samples.{rows, answer as told, ran_row, span, samples}
use Rattle.sheet_laws.specs.Conditions.{N}
use Rattle.promises.specs.Said.{Call, listed, drained, answer, after, table_of, hub_of, state_at, hop_at}
use Rattle.promises.proofs.Demands.{counts, sent_logs, way_left}

-- the line 0-1-2
abbrev line : List ℕ
line = 0 ∷ 1 ∷ 1 ∷ 2 ∷ 8 ∷ 2 ∷ 3 ∷ 1 ∷ []

-- word k of row r of the sample hubs: the number, four counts, then the places of the board that the row reads off
sample : (r k : ℕ) → word (get_or (map (λ x. told x.ask) rows) r []) k ≡ word (get_or (map (λ x. x.want) rows) r []) k
sample r k = ap (λ (l : List (List ℕ)). word (get_or l r []) k) samples

-- "Refusing everything: demand 1"
pub not_all_refused : ((sheet : List ℕ) (call : Call) (board : List ℕ) → (answer sheet call board).number ≢ 0) → ⊥
unfolding rows told ran_row
not_all_refused f = f line (drained 7 4560) (replicate 265 9) (sample 3 0)

-- "One fixed board: demand 2"
pub not_one_board : (fixed : List ℕ) → ((sheet : List ℕ) (call : Call) (board : List ℕ) → (answer sheet call board).number ≡ 0 → after sheet call board ≡ fixed) → ⊥
unfolding rows told ran_row span
not_one_board fixed f =
    let a : word fixed 1 ≡ 0 = sym (ap (λ (b : List ℕ). word b 1) (f line (listed []) (replicate 199 9) (sample 15 0))) ∙ sample 15 6 in
    let b : word fixed 1 ≡ 1 = sym (ap (λ (b : List ℕ). word b 1) (f line (listed (0 ∷ 0 ∷ 0 ∷ 1 ∷ 1 ∷ 0 ∷ [])) (replicate 199 9) (sample 14 0))) ∙ sample 14 5 in
    omega arith

-- "Leaving every box asleep: demand 3, stopped boxes"
pub not_all_asleep : ((sheet : List ℕ) (call : Call) (board : List ℕ) → (answer sheet call board).number ≡ 0
    → (i : ℕ) → i < N sheet → state_at i (after sheet call board) ≡ 0) → ⊥
unfolding rows told ran_row span
not_all_asleep f =
    let a : state_at 1 (after line (drained 1 4560) (replicate 265 9)) ≡ 2 = sample 5 5 in
    omega (arith, f line (drained 1 4560) (replicate 265 9) (sample 5 0) 1 (omega arith))

-- "Doing round 0 and then copying: the HOP and wire lists of demands 2 and 3"
pub not_round_zero : ((sheet : List ℕ) (call : Call) (board : List ℕ) → (answer sheet call board).number ≡ 0
    → (i : ℕ) → i < N sheet → hop_at i (after sheet call board) ≤ 1) → ⊥
unfolding rows told ran_row
not_round_zero f =
    let a : hop_at 1 (after line (drained 7 4560) (replicate 265 9)) ≡ 3 = sample 3 6 in
    omega (arith, f line (drained 7 4560) (replicate 265 9) (sample 3 0) 1 (omega arith))

-- such a program sends at most two messages on a wire: what is said at the start, and in round 0
six_sent : length ((hub_of line (drained 7 4560)).wires 1 0).log ≡ 6
unfolding table_of mem without set_of least any all count sum each words members for_each join_at union upd refuse and_then link above pairs pair_bytes read_sheet started start_sends lists behind save_lists save_heads save is_set head_set tail all_sets take_set take_sets before round_sends stops next_hop round work receive send send_list send_all settle start popped hand_over deliver run holds sender receiver drain start_all reading read_answer read_call
six_sent = refl

pub not_round_zero_wires : ((sheet : List ℕ) (call : Call) (board : List ℕ) → (answer sheet call board).number ≡ 0
    → (a b : ℕ) → length ((hub_of sheet call).wires a b).log ≤ 2) → ⊥
unfolding rows told ran_row
not_round_zero_wires f = omega (arith, six_sent, f line (drained 7 4560) (replicate 265 9) (sample 3 0) 1 0)

-- "Invented counts: demand 3, since sent is the total length of its wire lists and under way what is left on the wires"
pub not_invented : (sheet : List ℕ) (call : Call) (board : List ℕ) → (answer sheet call board).number ≡ 0
    → (sent moved way : ℕ) → sent ≡ sum 16 (λ a. sum 16 (λ b. length ((hub_of sheet call).wires a b).log))
    → way ≡ sum 16 (λ a. sum 16 (λ b. length ((hub_of sheet call).wires a b).way)) → sent ≡ moved + way
    → (sent ≡ (answer sheet call board).sent) × (moved ≡ (answer sheet call board).moved) × (way ≡ (answer sheet call board).under_way)
not_invented sheet call board ok sent moved way p q e =
    let a : sent ≡ (answer sheet call board).sent = p ∙ sym (sent_logs sheet call board ok) in
    let b : way ≡ (answer sheet call board).under_way = q ∙ sym (way_left sheet call board ok) in
    (a, omega (arith, counts sheet call board ok), b)
