-- `sends::keep_tables` meets its contract. Assumes nothing.
use Rattle.std.proofs.Common.{◌≡◌, ℕ, ◌%◌, ◌<◌, true, ◌||◌, List, sym, refl, ap, ◌∙◌, subst, rules}
use lib.Bits.{bit_or, or_lt}
use Rattle.rules.specs.Sets.{word}
use Rattle.boxes.specs.Departure.{shown_departure}
use Rattle.tables.specs.Tables.{busy_of, with_busy}
use Rattle.turn.specs.Parts.{Kept}
use Rattle.sends.proofs.Laws.{keeps_still, keeps_sent}
use Rattle.sends.proofs.keep_tables.Goals as goal

pub returns-then-sends : goal.returns-then-sends
returns-then-sends c =
    let x = c.args in
    let o = shown_departure x.o in
    let k = o.own % 16 in
    let ev = c.set-2.ensures.words ∙ ap (λ (z : List ℕ). with_busy z (o.«from» % 16) x.to) c.set.ensures.words in
    let ly : bit_or c.of.result x.links < 65536 = or_lt 16 c.of.result x.links (search rules) (search rules) in
    subst (Kept o x.links x.to x.store.now.words) (sym (c.set-then-sends.ensures.words ∙ ap (λ (z : List ℕ). with_busy z k (bit_or c.of.result x.links)) ev))
    (keeps_sent o x.links x.to x.store.now.words x.store.now.size x.heard c.requires (search rules) (search rules) _ _ (sym c.sends.ensures ∙ c.if-sends.true) (c.of.ensures ∙ ap (λ (z : List ℕ). word (busy_of z) k) ev) refl ly)

pub returns-else-sends : goal.returns-else-sends
returns-else-sends c =
    let x = c.args in
    let o = shown_departure x.o in
    let ev = c.set-2.ensures.words ∙ ap (λ (z : List ℕ). with_busy z (o.«from» % 16) x.to) c.set.ensures.words in
    subst (Kept o x.links x.to x.store.now.words) (sym ev) (keeps_still o x.links x.to x.store.now.words x.store.now.size x.heard c.requires (search rules) (search rules) (sym c.sends.ensures ∙ c.if-sends.false))
