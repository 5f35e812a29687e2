-- `sends::post_one` meets its contract. Assumes nothing.
use Rattle.std.proofs.Common.{◌≡◌, ◌∙◌, rules, Option, Some, None, refl, sym, ap}
use Rattle.boxes.specs.declared.Sent.{Sent}
use Rattle.sends.proofs.Laws.{round_for, letter_for}
use Rattle.sends.proofs.post_one.Goals as goal

pub returns : goal.returns
returns c =
    let o = c.args.o.now in
    let round : c.map.result ≡ round_for c.args.j o.round = search rules in
    (rw (c.between.ensures, c.then_some.ensures, c.only.ensures, round) at c.post_link.ensures) ∙ letter_for o.round _ _ _ _ _ o.wakes
