-- `parse` meets its contract, from what `check_trailer` and `read_pairs` ensure. Assumes nothing.
use Rattle.std.proofs.Common.{◌≡◌, Err, rules, arith, refl}
use Rattle.refusals.proofs.NumberLaws.{number_some}
use Rattle.sheet.proofs.SheetLaws.{trailer_of, refusing, short, refuses_trailer, refuses_pair, accepts}
use Rattle.sheet.proofs.parse.Goals as goal

pub returns-in_default : goal.returns-in_default
returns-in_default c = refusing _ _ 1 0 refl (omega arith) (short _ c.in_default.ensures.cases)

pub returns-in_err-check_trailer : goal.returns-in_err-check_trailer
returns-in_err-check_trailer c =
    let e : c.from_residual.result ≡ Err c.in_err-check_trailer.field-0.0 = search rules in
    let s = c.in-Some.ensures in
    let t = trailer_of _ _ _ _ _ _ (s.variant.0 refl) s.cases.1 c.from-b.ensures c.from-links.ensures c.from-boxes.ensures refl in
    rw e (refuses_trailer t c.in_err-check_trailer.ensures.0 _ refl (number_some c.in_err-check_trailer.field-0.0))

pub returns-in_err-table : goal.returns-in_err-table
returns-in_err-table c =
    let e : c.from_residual-in_err-table.result ≡ Err c.in_err-table.field-0.0 = search rules in
    let s = c.in-Some.ensures in
    let t = trailer_of _ _ _ _ _ _ (s.variant.0 refl) s.cases.1 c.from-b.ensures c.from-links.ensures c.from-boxes.ensures refl in
    let h = c.in_ok-check_trailer.ensures in
    rw e (refuses_pair t h.0 refl h.1 _ _ s.cases.0 refl _ c.in_err-table.ensures _ refl (number_some c.in_err-table.field-0.0))

pub returns : goal.returns
returns c =
    let s = c.in-Some.ensures in
    let t = trailer_of _ _ _ _ _ _ (s.variant.0 refl) s.cases.1 c.from-b.ensures c.from-links.ensures c.from-boxes.ensures refl in
    let h = c.in_ok-check_trailer.ensures in
    accepts t h.0 refl h.1 _ _ s.cases.0 refl _ c.in_ok-table.ensures refl
