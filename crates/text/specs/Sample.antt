-- What document 01 says of the printed text, computed from the definitions. Assumes nothing.
use Rattle.std.specs.Prelude.{ℕ, ◌≡◌, refl, List, [], ◌∷◌, map}
use Rattle.rules.specs.Sets.{mem, without, set_of, least, any, all, count, sum, each, words, members, for_each, join_at, union, upd}
use Rattle.rules.specs.Outcome.{refuse, and_then}
use Rattle.rules.specs.Sheet.{link, above, pairs, pair_bytes, read_sheet}
use Rattle.rules.specs.Box.{started, start_sends, lists, behind, save_lists, save_heads, save, is_set, head_set, tail, all_sets, take_set, take_sets, before, round_sends, stops, next_hop, round, work, receive}
use Rattle.rules.specs.Hub.{send, send_list, send_all, settle, start, popped, hand_over, deliver, act, run, under_way, holds, sender, receiver, drain, start_all, block, board_of}
use Rattle.rules.specs.Calls.{hub_answer, fitting, draining, on_sheet, drain_call}
use Rattle.lines.specs.Lines.{decimal, field, heading, line, refusal}
use Rattle.text.specs.Text.{first_with, route, routes, boxes_of, links_of, answered, printed}

pub record Row : Type 0 where
  pub sheet : List ℕ
  pub text : List ℕ

unfoldable pub rows : List Row
rows =
    -- The bytes 0 1 1 2 8 2 3 1 of document 01, and its output
    record { sheet = 0 ∷ 1 ∷ 1 ∷ 2 ∷ 8 ∷ 2 ∷ 3 ∷ 1 ∷ []; text = 98 ∷ 111 ∷ 120 ∷ 101 ∷ 115 ∷ 32 ∷ 51 ∷ 32 ∷ 108 ∷ 105 ∷ 110 ∷ 107 ∷ 115 ∷ 32 ∷ 50 ∷ 32 ∷ 109 ∷ 111 ∷ 118 ∷ 101 ∷ 100 ∷ 32 ∷ 50 ∷ 52 ∷ 10 ∷ 48 ∷ 32 ∷ 49 ∷ 32 ∷ 49 ∷ 32 ∷ 49 ∷ 10 ∷ 48 ∷ 32 ∷ 50 ∷ 32 ∷ 50 ∷ 32 ∷ 49 ∷ 10 ∷ 49 ∷ 32 ∷ 48 ∷ 32 ∷ 49 ∷ 32 ∷ 48 ∷ 10 ∷ 49 ∷ 32 ∷ 50 ∷ 32 ∷ 49 ∷ 32 ∷ 50 ∷ 10 ∷ 50 ∷ 32 ∷ 48 ∷ 32 ∷ 50 ∷ 32 ∷ 49 ∷ 10 ∷ 50 ∷ 32 ∷ 49 ∷ 32 ∷ 49 ∷ 32 ∷ 49 ∷ 10 ∷ [] }
    -- "A refusal prints one line, as `refused 8 pair`": the sheet of p10
    ∷ record { sheet = 0 ∷ 1 ∷ 0 ∷ 1 ∷ 8 ∷ 2 ∷ 2 ∷ 1 ∷ []; text = 114 ∷ 101 ∷ 102 ∷ 117 ∷ 115 ∷ 101 ∷ 100 ∷ 32 ∷ 56 ∷ 32 ∷ 112 ∷ 97 ∷ 105 ∷ 114 ∷ 10 ∷ [] }
    -- an empty sheet: refused 1 sheet
    ∷ record { sheet = []; text = 114 ∷ 101 ∷ 102 ∷ 117 ∷ 115 ∷ 101 ∷ 100 ∷ 32 ∷ 49 ∷ 32 ∷ 115 ∷ 104 ∷ 101 ∷ 101 ∷ 116 ∷ 10 ∷ [] }
    ∷ []

pub samples : map (λ r. printed r.sheet) rows ≡ map (λ r. r.text) rows
unfolding rows mem without set_of least any all count sum each words members for_each join_at union upd refuse and_then link above pairs pair_bytes read_sheet started start_sends lists behind save_lists save_heads save is_set head_set tail all_sets take_set take_sets before round_sends stops next_hop round work receive send send_list send_all settle start popped hand_over deliver act run under_way holds sender receiver drain start_all block board_of hub_answer fitting draining on_sheet drain_call decimal field heading line refusal first_with route routes boxes_of links_of answered printed
samples = refl
