-- The store holds the hub's waiting messages: what each wire's words say is what waits on it in the rules. Definitions, and how it is kept.
-- Assumes nothing.
use Rattle.std.specs.Prelude.{ℕ, ◌+◌, ◌%◌, ◌<◌, ◌≡◌, cond, ◌||◌, List, map, ◌⊎◌, ◌≢◌, length}
use Rattle.std.proofs.Common.{sym, ap, ◌∙◌, inl, inr, ⊎_elim, arith}
use Rattle.std.proofs.Math.Decide.{ℕ_discrete}
use Rattle.std.proofs.lemmas.List.{length-map}
use Rattle.sets.specs.Loops.{pick}
use Rattle.rules.specs.Box.{Msg}
use Rattle.rules.specs.Hub.{Wire}
use Rattle.wires.specs.Wires.{sixteen, Waiting, waiting, Formed, Others}
use Rattle.wires.specs.Words.{word_of}
use Rattle.tables.specs.Tables.{with_entry, with_heard, with_busy}
use Rattle.tables.proofs.Laws.{put_waits, put_formed}
use Rattle.boxes.specs.Departure.{Departure}
use Rattle.mail.specs.Gather.{wire_of}
use Rattle.turn.specs.Turn.{kept_tables, ends}

-- the words of a wire's queue and way
abbrev pub words_of : List Msg → List ℕ
words_of l = map word_of l

abbrev pub holds_both : List ℕ → List ℕ → Waiting
holds_both q l = record { queue = q; way = l }

abbrev pub held_of : Wire → Waiting
held_of x = record { queue = words_of x.queue; way = words_of x.way }

pub record Held (s : List ℕ) (f : ℕ → ℕ → Wire) : Type 0 where
  pub formed : Formed sixteen s
  pub at : (a b : ℕ) → a < 16 → b < 16 → waiting sixteen s (wire_of a b) ≡ held_of (f a b)

-- ---- a wire's number tells its ends

pub wire_lt : (a b : ℕ) → a < 16 → b < 16 → wire_of a b < 256
wire_lt a b ha hb = omega arith

pub wire_ends : (a b c d : ℕ) → b < 16 → d < 16 → wire_of a b ≡ wire_of c d → (a ≡ c) × (b ≡ d)
wire_ends a b c d hb hd e = (omega arith, omega arith)

pub wire_other : (a b c d : ℕ) → b < 16 → d < 16 → (a ≢ c) ⊎ (b ≢ d) → wire_of a b ≢ wire_of c d
wire_other a b c d hb hd z e = let (x, y) = wire_ends a b c d hb hd e in ⊎_elim (λ u. u x) (λ u. u y) z

-- ---- one wire changes

-- wire (a, b) becomes x, in the store and in the hub; every other wire is as it was
pub held_one : (s s' : List ℕ) (f g : ℕ → ℕ → Wire) (a b : ℕ) → a < 16 → b < 16
    → Held s f → Formed sixteen s' → waiting sixteen s' (wire_of a b) ≡ held_of (g a b) → Others sixteen s (wire_of a b) s'
    → ((c d : ℕ) → (c ≢ a) ⊎ (d ≢ b) → g c d ≡ f c d) → Held s' g
held_one s s' f g a b ha hb H F e o k = record {
  formed = F;
  at = λ c d hc hd. elim (ℕ_discrete c a) [
    | yes p ↦ elim (ℕ_discrete d b) [
      | yes q ↦ rw (p, q) e
      | no q ↦ o (wire_of c d) (wire_other c d a b hd hb (inr q)) ∙ H.at c d hc hd ∙ ap held_of (sym (k c d (inr q)))
    ]
    | no p ↦ o (wire_of c d) (wire_other c d a b hd hb (inl p)) ∙ H.at c d hc hd ∙ ap held_of (sym (k c d (inl p)))
  ];
}

-- the hub's wires may be told by another function that says the same
pub held_same : (s : List ℕ) (f g : ℕ → ℕ → Wire) → Held s f → ((a b : ℕ) → a < 16 → b < 16 → held_of (g a b) ≡ held_of (f a b)) → Held s g
held_same s f g H e = record { formed = H.formed; at = λ a b ha hb. H.at a b ha hb ∙ sym (e a b ha hb) }

pub length_words : (l : List Msg) → length (words_of l) ≡ length l
length_words l = length-map l word_of

-- ---- a table changes, and every wire is as it was

held_put : (s : List ℕ) (f : ℕ → ℕ → Wire) (k x : ℕ) → k < 48 → Held s f → Held (with_entry s k x) f
held_put s f k x l H = record { formed = put_formed s k x l H.formed; at = λ a b ha hb. put_waits s k x (wire_of a b) l ∙ H.at a b ha hb }

pub held_tables : (o : Departure) (links to : ℕ) (s : List ℕ) (f : ℕ → ℕ → Wire) → Held s f → Held (kept_tables o links to s) f
unfolding kept_tables
held_tables o links to s f H =
    let b = o.own % 16 in
    let u = with_heard s b (cond (ends o) 0 o.heard) in
    let v = with_busy u (o.«from» % 16) to in
    let K : Held v f = held_put u f (32 + o.«from» % 16) to (omega arith) (held_put s f (16 + b) _ (omega arith) H) in
    pick (λ (z : List ℕ). Held z f) (o.wakes || o.round) (held_put v f (32 + b) _ (omega arith) K) K
