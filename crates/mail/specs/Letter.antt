-- What goes to one link in a turn, and the counts of the code beside the store that they belong to. Definitions alone.
use Rattle.std.specs.Prelude.{ℕ, Bool, true, false, cond, List, Option, Some, None}
use Rattle.mail.specs.declared.Counts.{Counts}
use Rattle.mail.specs.declared.Letter.{Letter as CodeLetter}
use Rattle.mail.specs.declared.Round.{Round}
use Rattle.mail.specs.Post.{Posted, post_lists, post_if}

abbrev pub posted : List ℕ → Counts → Posted
posted s c = record { store = s; sent = c.sent; full = c.full }

-- all that goes to one link: NOTSPT {own} where the box wakes; the lists of the origins and NOTSPT with the set where it does a round
pub record Letter : Type 0 where
  pub wakes : Bool
  pub own : ℕ
  pub round : Bool
  pub origins : ℕ
  pub «set» : ℕ

-- the code's letter says so by what is there; what is not is 0
abbrev pub with_round : Bool → ℕ → Option Round → Letter
with_round wakes own None = record { wakes = wakes; own = own; round = false; origins = 0; «set» = 0 }
with_round wakes own (Some r) = record { wakes = wakes; own = own; round = true; origins = r.origins; «set» = r.«set» }

abbrev pub with_own : Option ℕ → Option Round → Letter
with_own None r = with_round false 0 r
with_own (Some s) r = with_round true s r

abbrev pub letter_of : CodeLetter → Letter
letter_of l = with_own l.own l.round

-- NOTSPT {own} where the box wakes; the lists and the set where it does a round
unfoldable pub post_link : ℕ → Letter → List ℕ → Posted → Posted
post_link i l known p =
    let q = post_if l.wakes i l.own p in
    cond l.round (post_if true i l.«set» (post_lists i l.origins known 16 q)) q
