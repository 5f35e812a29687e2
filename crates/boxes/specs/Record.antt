-- A box's record as the six fields of the board, its state a number; the record of the rules has the same, so that the rules' definitions speak of records.
-- The code's record shows as one. Proved: each of the two is the other's inverse, and records of the code that show the same are the same. Assumes nothing.
use Rattle.std.specs.Prelude.{ℕ, ◌≡◌, refl, List, [], map}
use Rattle.std.proofs.Math.Path.{ap, sym, ◌∙◌}
use Rattle.rules.specs.Box.{Box}
use Rattle.boxes.specs.declared.State.{State}
use Rattle.boxes.specs.declared.State.TheVariants.{Asleep, Awake, Stopped}
use Rattle.boxes.specs.declared.Record.{Record as Kept}

pub record Record : Type 0 where
  pub state : ℕ
  pub hop : ℕ
  pub nodes : List ℕ
  pub in_spt : List ℕ
  pub not_spt : List ℕ
  pub neighbors : List ℕ

unfoldable pub box_of : Record → Box
box_of r = record {
  state = r.state;
  hop = r.hop;
  nodes = r.nodes;
  in_spt = r.in_spt;
  not_spt = r.not_spt;
  neighbors = r.neighbors;
}

unfoldable pub record_of : Box → Record
record_of b = record {
  state = b.state;
  hop = b.hop;
  nodes = b.nodes;
  in_spt = b.in_spt;
  not_spt = b.not_spt;
  neighbors = b.neighbors;
}

pub box_record : (b : Box) → box_of (record_of b) ≡ b
unfolding box_of record_of
box_record b = refl

pub record_box : (r : Record) → record_of (box_of r) ≡ r
unfolding box_of record_of
record_box r = refl

-- what a row reads past its end
abbrev pub blank : Record
blank = record { state = 0; hop = 0; nodes = []; in_spt = []; not_spt = []; neighbors = [] }

-- ---- the record as the code has it

-- "state (0 asleep, 1 awake, 2 stopped)"
abbrev pub state_number : State → ℕ
state_number Asleep = 0
state_number Awake = 1
state_number Stopped = 2

abbrev pub shown : Kept → Record
shown r = record {
  state = r.state;
  hop = r.hop;
  nodes = r.nodes;
  in_spt = r.in_spt;
  not_spt = r.not_spt;
  neighbors = r.neighbors;
}

-- a row of them
abbrev pub shown_row : List Kept → List Record
shown_row = map shown

kept : Record → Kept
kept r = record {
  state = r.state;
  hop = r.hop;
  nodes = r.nodes;
  in_spt = r.in_spt;
  not_spt = r.not_spt;
  neighbors = r.neighbors;
}

shown_kept : (r : Kept) → kept (shown r) ≡ r
unfolding kept
shown_kept r = refl

-- nothing of the code's record is lost
pub shown_same : (r q : Kept) → shown r ≡ shown q → r ≡ q
shown_same r q e = sym (shown_kept r) ∙ ap kept e ∙ shown_kept q
