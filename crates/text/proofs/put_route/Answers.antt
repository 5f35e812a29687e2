-- `text::put_route` meets its contract: the tests on the way are those of `route`. Assumes nothing.
use Rattle.std.proofs.Common.{◌≡◌, refl, length, arith, rules}
use Rattle.lines.proofs.PutLaws.{put_none}
use Rattle.text.proofs.TextLaws.{route_self, route_none, route_some}
use Rattle.text.proofs.put_route.Goals as goal

pub returns-then-i-j : goal.returns-then-i-j
returns-then-i-j c = record { put = rw (route_self _ _ _ c.if-i-j.true) (put_none _ _); same_text = refl }

pub returns-in_default : goal.returns-in_default
returns-in_default c =
    let l : length c.args.board.now ≡ 1056 = search rules in
    let e = route_none _ _ _ _ l c.requires.0 (omega arith) c.if-i-j.false _ c.first_with.ensures c.in_default.is in
    record { put = rw e (put_none _ _); same_text = refl }

-- the line is that of the numbers found
pub put_line-requires : goal.put_line-requires
put_line-requires c =
    let l : length c.args.board.now ≡ 1056 = search rules in
    let found = route_some _ _ _ _ l c.requires.0 (omega arith) c.if-i-j.false _ c.first_with.ensures in
    let e = found _ _ _ _ c.in-Some.is (omega arith) c.first_with-2.ensures c.unwrap_or-from.ensures in
    rw e at c.requires.1.1

pub returns : goal.returns
returns c =
    let l : length c.args.board.now ≡ 1056 = search rules in
    let found = route_some _ _ _ _ l c.requires.0 (omega arith) c.if-i-j.false _ c.first_with.ensures in
    let e = found _ _ _ _ c.in-Some.is (omega arith) c.first_with-2.ensures c.unwrap_or-from.ensures in
    record { put = rw e c.put_line.ensures.put; same_text = search rules }
