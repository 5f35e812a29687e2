-- A round's first half as the code does it: what is known and what was gained are kept beside the tables, and Nodes(HOP+1) is written once, after the
-- last link. Proved: what that comes to is the rules' take_sets. Assumes nothing.
use Rattle.std.specs.Prelude.{ℕ, suc, ◌^◌, ◌<◌, ◌≤◌, ◌≡◌, refl, ◌≢◌, List, length}
use Rattle.std.proofs.Common.{arith, ◌∙◌, length-set}
use Rattle.std.proofs.Math.Path.{ap}
use Rattle.std.specs.Int.Bits.{bit_or}
use Rattle.std.proofs.Math.Seq.{set_out}
use Rattle.rules.specs.Sets.{mem, without, word, least, union, join_at, for_each}
use Rattle.sets.specs.Loops.{lowest_lt, rest_less, rest_small, rest_done, none_left}
use Rattle.rules.specs.Box.{Box, take_set, take_sets}
use Rattle.boxes.specs.Record.{Record, box_of, record_of}
use Rattle.boxes.specs.Tables.{join_none, join_join, union_join}

-- the box that q is once Nodes(HOP+1) has what was gained
unfoldable pub with_gained : ℕ → Record → Box
with_gained gained q = record {
  state = q.state;
  hop = q.hop;
  nodes = join_at q.nodes (suc q.hop) gained;
  in_spt = q.in_spt;
  not_spt = q.not_spt;
  neighbors = q.neighbors;
}

-- the set s is taken from link j, of which new is new
unfoldable pub taken_from : ℕ → ℕ → ℕ → Record → Record
taken_from j s new q = record {
  state = q.state;
  hop = q.hop;
  nodes = q.nodes;
  in_spt = join_at q.in_spt j new;
  not_spt = join_at q.not_spt j s;
  neighbors = q.neighbors;
}

take_gained : (j s gained : ℕ) (q : Record)
    → with_gained (bit_or gained (without s (union 16 q.in_spt))) (taken_from j s (without s (union 16 q.in_spt)) q) ≡ take_set 16 j s (with_gained gained q)
unfolding take_set with_gained taken_from
take_gained j s gained q = rw (join_join q.nodes (suc q.hop) gained (without s (union 16 q.in_spt)))

known_next : (j s new known : ℕ) (q : Record) → j < 16 → j < length q.in_spt → known ≡ union 16 q.in_spt
    → bit_or known new ≡ union 16 (taken_from j s new q).in_spt
unfolding taken_from
known_next j s new known q l m e = rw (union_join 16 q.in_spt j new l m, e)

in_next : (j s new : ℕ) (q : Record) → length (taken_from j s new q).in_spt ≡ length q.in_spt
unfolding taken_from join_at
in_next j s new q = simp length-set

nodes_next : (j s new : ℕ) (q : Record) → (taken_from j s new q).nodes ≡ q.nodes
unfolding taken_from
nodes_next j s new q = refl

hop_next : (j s new : ℕ) (q : Record) → (taken_from j s new q).hop ≡ q.hop
unfolding taken_from
hop_next j s new q = refl

-- the set at a link's head is taken
abbrev pub take_head : List ℕ → ℕ → Box → Box
take_head heads k = take_set 16 k (word heads k)

-- while the links `rest` remain
pub record Mid (links : ℕ) (heads : List ℕ) (r : Record) (rest known gained : ℕ) (q : Record) : Type 0 where
  pub rest_is : rest < 65536
  pub hop_is : q.hop ≡ r.hop
  pub known_is : known ≡ union 16 q.in_spt
  pub in_size : length q.in_spt ≡ 16
  pub nodes_size : length q.nodes ≡ 16
  pub box_is : for_each rest (take_head heads) 16 (with_gained gained q) ≡ for_each links (take_head heads) 16 (box_of r)

module _ (links : ℕ) (heads : List ℕ) (r : Record) where
  pub mid_first : (known : ℕ) → links < 65536 → known ≡ union 16 r.in_spt → length r.in_spt ≡ 16 → length r.nodes ≡ 16 → Mid links heads r links known 0 r
  unfolding with_gained box_of
  mid_first known k e l m = record { rest_is = k; hop_is = refl; known_is = e; in_size = l; nodes_size = m; box_is = rw join_none }

  -- link j is the lowest that remains
  module _ (rest known gained : ℕ) (q : Record) (m : Mid links heads r rest known gained q) (some : rest ≢ 0) (j o rest' : ℕ) (ej : j ≡ least 16 (λ k. mem k rest)) (eo : o ≡ 2 ^ j)
      (er : rest' ≡ without rest o) where
    pub mid_below : j < 16
    mid_below = lowest_lt 16 m.rest_is some ej

    pub mid_less : rest' < rest
    mid_less = rest_less 16 m.rest_is some ej eo er

    pub mid_next : (s new : ℕ) → s ≡ word heads j → new ≡ without s known → Mid links heads r rest' (bit_or known new) (bit_or gained new) (taken_from j s new q)
    mid_next s new es en =
        let ek = m.known_is in
        let li : j < length q.in_spt = rw m.in_size mid_below in
        let e : new ≡ without s (union 16 q.in_spt) = rw ek at en in
        let one : with_gained (bit_or gained new) (taken_from j s new q) ≡ take_head heads j (with_gained gained q) = rw e (take_gained j s gained q ∙ ap (λ (z : ℕ). take_set 16 j z (with_gained gained q)) es) in
        record {
          rest_is = rest_small 16 m.rest_is some ej eo er;
          hop_is = hop_next j s new q ∙ m.hop_is;
          known_is = known_next j s new known q mid_below li ek;
          in_size = in_next j s new q ∙ m.in_size;
          nodes_size = ap length (nodes_next j s new q) ∙ m.nodes_size;
          box_is = rest_done 16 m.rest_is some ej eo er (take_head heads) (with_gained gained q) one ∙ m.box_is;
        }

  -- after the last link
  pub mid_last : (rest known gained : ℕ) (q : Record) → rest ≡ 0 → Mid links heads r rest known gained q → record_of (with_gained gained q) ≡ record_of (take_sets 16 links (word heads) (box_of r))
  unfolding take_sets
  mid_last rest known gained q z m = ap record_of (none_left (take_head heads) 16 z m.box_is)

-- nothing is stored past the end of Nodes
pub gained_past : (gained : ℕ) (q : Record) → length q.nodes ≡ 16 → 16 ≤ suc q.hop → q ≡ record_of (with_gained gained q)
unfolding record_of with_gained join_at
gained_past gained q e l = let h : length q.nodes ≤ suc q.hop = omega arith in rw (set_out q.nodes (suc q.hop) (bit_or (word q.nodes (suc q.hop)) gained) h)

pub gained_in : (gained next : ℕ) (q : Record) → next ≡ suc q.hop
    → (record {
      state = q.state;
      hop = q.hop;
      nodes = join_at q.nodes next gained;
      in_spt = q.in_spt;
      not_spt = q.not_spt;
      neighbors = q.neighbors;
    }) ≡ record_of (with_gained gained q)
unfolding record_of with_gained
gained_in gained next q e = rw e
