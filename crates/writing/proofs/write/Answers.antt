-- `write` meets its contract: at each `return` the tests on the way decide those of `write_sheet`; the bytes are what `put_links` and `put_trailer`
-- ensure. Assumes nothing.
use Rattle.std.proofs.Common.{rules, ◌≡◌, ◌∙◌, sym, ap, zero-add, arith, length}
use Rattle.std.proofs.Math.Seq.{length-sets}
use Rattle.rules.specs.Sheet.{link_bytes}
use mathlib.Core.Logic.{⊎_elim}
use Rattle.writing.proofs.WriteLaws.{bytes_length}
use Rattle.writing.proofs.WriteCallLaws.{Writable, write_none, write_many, write_size, write_improper, write_no_room, write_done}
use Rattle.writing.proofs.write.Goals as goal

pub returns-then-boxes-eq0 : goal.returns-then-boxes-eq0
returns-then-boxes-eq0 c = ⊎_elim (λ e. write_none _ _ _ e) (λ e. write_many _ _ _ e.0 e.1) c.then-boxes-eq0.either

pub returns-in_default : goal.returns-in_default
returns-in_default c = write_size _ _ _ c.if-boxes-eq0.false c.if-boxes-gt16.false c.in_default.ensures.cases

pub returns-then-not-table_proper : goal.returns-then-not-table_proper
returns-then-not-table_proper c =
    let t : c.in-Some.table.now ≡ c.args.table.now = search rules in
    let l : length c.in-Some.table.now ≡ 16 = search rules in
    rw (← t) (write_improper _ _ _ c.if-boxes-eq0.false c.if-boxes-gt16.false l (sym c.if-not-table_proper.ensures))

pub returns-then-buffer-size : goal.returns-then-buffer-size
returns-then-buffer-size c =
    let t : c.in-Some.table.now ≡ c.args.table.now = search rules in
    let l : length c.in-Some.table.now ≡ 16 = search rules in
    let h : Writable c.args.boxes c.in-Some.table.now = record {
      boxes_some = c.if-boxes-eq0.false;
      boxes_most_lem = c.if-boxes-gt16.false;
      words = l;
      links_proper = sym c.if-not-table_proper.ensures;
    } in
    rw (← t) (write_no_room _ h _ c.links_of-p.ensures.0 c.if-buffer-size.true)

pub put_links-requires : goal.put_links-requires
put_links-requires c = omega (arith, bytes_length c.in-Some.table.now, c.links_of-p.ensures.0, c.if-buffer-size.false)

pub put_trailer-requires : goal.put_trailer-requires
put_trailer-requires c =
    let l = c.links_of-p.ensures in
    let s = c.put_links.ensures in
    (omega (arith, bytes_length c.in-Some.table.now, l.0, s.next, ap length s.holds, length-sets c.args.buffer.now 0 (link_bytes 16 c.in-Some.table.now), c.if-buffer-size.false), l.1, c.if-boxes-gt16.false)

pub returns : goal.returns
returns c =
    let t : c.in-Some.table.now ≡ c.args.table.now = search rules in
    let l : length c.in-Some.table.now ≡ 16 = search rules in
    let h : Writable c.args.boxes c.in-Some.table.now = record {
      boxes_some = c.if-boxes-eq0.false;
      boxes_most_lem = c.if-boxes-gt16.false;
      words = l;
      links_proper = sym c.if-not-table_proper.ensures;
    } in
    let s = c.put_links.ensures in
    rw (← t) (write_done _ h _ c.links_of-p.ensures.0 c.if-buffer-size.false _ _ _ (s.next ∙ zero-add _) s.holds (search rules ∙ c.put_trailer.ensures.holds))
