-- `text::put_text` meets its contract: what the drain of the sheet answers, in the words of the text; and 4,096 bytes hold it. Assumes nothing.
use Rattle.std.proofs.Common.{◌∙◌, sym, ap, length, arith, rules, length-append}
use Rattle.lines.specs.Lines.{heading, refusal}
use Rattle.lines.proofs.PutLaws.{put_none, put_then, put_left, put_counts, put_page}
use Rattle.lines.proofs.LineLaws.{refusal_most, heading_most}
use Rattle.text.specs.Text.{routes}
use Rattle.text.proofs.TextLaws.{routes_most, printed_short, printed_fits}
use Rattle.text.proofs.put_text.Goals as goal

pub returns-then-text-lt4096-clause-put : goal.returns-then-text-lt4096-clause-put
returns-then-text-lt4096-clause-put c = rw (printed_short c.args.sheet.now c.args.text.now c.if-text-lt4096.true) (put_none _ _)

-- ---- a refusal

pub put_refusal-requires : goal.put_refusal-requires
put_refusal-requires c = rw (c.new-page.ensures.text, c.new-page.ensures.at) (omega (arith, refusal_most c.from.result))

pub returns-in-Err-clause-put : goal.returns-in-Err-clause-put
returns-in-Err-clause-put c =
    let page = c.new-page.ensures in
    let e = printed_fits _ _ c.if-text-lt4096.false ∙ c.in-Err.ensures.told ∙ ap refusal (sym c.from.ensures) in
    put_page c.put_refusal.ensures.put _ _ _ page.text page.at e (search rules)

pub returns-in-Err-clause-upper_bound : goal.returns-in-Err-clause-upper_bound
returns-in-Err-clause-upper_bound c =
    let page = c.new-page.ensures in
    let e = printed_fits _ _ c.if-text-lt4096.false ∙ c.in-Err.ensures.told ∙ ap refusal (sym c.from.ensures) in
    put_counts (put_page c.put_refusal.ensures.put _ _ _ page.text page.at e (search rules)) (omega (arith, ap length e, refusal_most c.from.result))

-- ---- the routes

pub put_heading-requires : goal.put_heading-requires
put_heading-requires c =
    let d = c.in-Ok.drained in
    rw (c.new-page.ensures.text, c.new-page.ensures.at) (omega (arith, heading_most d.sheet.boxes d.sheet.links d.moved))

pub put_routes-requires : goal.put_routes-requires
put_routes-requires c =
    let d = c.in-Ok.drained in
    let n = d.sheet.boxes in
    let most = c.in-Ok.ensures.boxes_most in
    let h = heading_most n d.sheet.links d.moved in
    let r = routes_most d.board n most in
    (most, put_left c.put_heading.ensures.put _ (omega (arith, ap length c.new-page.ensures.text, c.new-page.ensures.at, h, r)))

pub returns-clause-put : goal.returns-clause-put
returns-clause-put c =
    let page = c.new-page.ensures in
    let e = printed_fits _ _ c.if-text-lt4096.false ∙ c.in-Ok.ensures.told in
    put_page (put_then c.put_heading.ensures.put c.put_routes.ensures.put) _ _ _ page.text page.at e (search rules)

pub returns-clause-upper_bound : goal.returns-clause-upper_bound
returns-clause-upper_bound c =
    let page = c.new-page.ensures in
    let d = c.in-Ok.drained in
    let n = d.sheet.boxes in
    let e = printed_fits _ _ c.if-text-lt4096.false ∙ c.in-Ok.ensures.told in
    let r = routes_most d.board n c.in-Ok.ensures.boxes_most in
    let l = length-append (heading n d.sheet.links d.moved) (routes d.board n) in
    put_counts (put_page (put_then c.put_heading.ensures.put c.put_routes.ensures.put) _ _ _ page.text page.at e (search rules))
    (omega (arith, ap length e, l, r, heading_most n d.sheet.links d.moved))
