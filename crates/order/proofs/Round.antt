-- "All queues have a NOTSPT message at their heads: do a round." The invariant of the box afterwards, stopped or not, and what it has sent. Assumes nothing.
use Rattle.std.specs.Prelude.{ℕ, suc, ◌-◌, ◌≤◌, ◌<◌, ◌≡◌, refl, Bool, true, false, not, ◌||◌, cond, List, [], ◌∷◌, ◌++◌, map, length}
use Rattle.std.proofs.Common.{sym, ap, ap₂, ◌∙◌, true≢false, append_assoc, ⊎_elim, arith}
use Rattle.std.proofs.lemmas.Bool.{false≢true}
use Rattle.std.proofs.Math.Decide.{dec_lt, ℕ_discrete}
use borrow.Author.Tests.{eqb-true, ne_eqb, eqb-false}
use Rattle.rules.specs.Sets.{mem, without, word, members}
use Rattle.rules.specs.Box.{Msg, notspt, neighbors, Box, Desk, is_set, head_set, tail, all_sets, take_sets, before, round_sends, stops, next_hop, round}
use Rattle.rules.specs.Rest.{Table, hops, layer, from, said_set}
use Rattle.sets.specs.Loops.{some_member, all_out, all_not}
use Rattle.hops.specs.Hops.{hops_gap, hops_between}
use Rattle.hops.specs.Rest.{in_layer, layer_lt, none_layer, from_ok, from_member, far_lt, far_most, far_there}
use Rattle.order.specs.Rounds.{in_cut, heard_to, said_next, cur_none, cur_all, link_lt}
use Rattle.order.specs.Messages.{In, sets, sets_append, one_set, says_split, carry_same}
use Rattle.order.specs.Wire.{wire, next, carried, origin_is, At, at, has_come}
use Rattle.order.specs.Invariant.{Tables, Flow, Spent, Half, Stopped}
use Rattle.order.proofs.Save.{used}
use Rattle.order.proofs.Take.{Mid, all_taken, lists_out}

-- a queue with a set at its head is that set and its tail
pub has_head : (q : List Msg) → is_set q ≡ true → q ≡ notspt (head_set q) ∷ tail q
unfolding is_set head_set tail
has_head [] h = absurd (false≢true h)
has_head (notspt s ∷ q) h = refl
has_head (neighbors k s ∷ q) h = absurd (false≢true h)

or_not : (x y : Bool) → x ≡ true → not x || y ≡ true → y ≡ true
or_not true y e h = h
or_not false y e h = absurd (false≢true e)

not_or : (x y : Bool) → not x || y ≡ false → (x ≡ true) × (y ≡ false)
not_or true y h = (refl, h)
not_or false y h = absurd (true≢false h)

pub sets_all : (w n : ℕ) (q : ℕ → List Msg) → all_sets w n q ≡ true → (j : ℕ) → j < w → mem j n ≡ true → is_set (q j) ≡ true
unfolding all_sets
sets_all w n q h j l m = or_not (mem j n) (is_set (q j)) m (all_out w (λ j. not (mem j n) || is_set (q j)) h j l)

pub sets_not : (w n : ℕ) (q : ℕ → List Msg) → all_sets w n q ≡ false → (j : ℕ) × (j < w) × (mem j n ≡ true) × (is_set (q j) ≡ false)
unfolding all_sets
sets_not w n q h =
    let (j, l, e) = all_not w (λ j. not (mem j n) || is_set (q j)) h in
    let (a, b) = not_or (mem j n) (is_set (q j)) e in (j, l, a, b)

-- the box once the sets are taken, and the desk after the round, stopped or not
abbrev pub with_sets : ℕ → ℕ → Desk → Box
with_sets w n d = take_sets w n (λ j. head_set (d.queues j)) d.box

abbrev pub turned : ℕ → ℕ → Desk → Bool → Desk
turned w n d x = record {
  box = record {
    state = cond x 2 1;
    hop = suc (with_sets w n d).hop;
    nodes = (with_sets w n d).nodes;
    in_spt = (with_sets w n d).in_spt;
    not_spt = (with_sets w n d).not_spt;
    neighbors = (with_sets w n d).neighbors;
  };
  queues = λ j. cond x [] (cond (mem j n) (tail (d.queues j)) (d.queues j));
  sends = λ j. d.sends j ++ round_sends w n (with_sets w n d) j;
  taken = λ j. d.taken j ++ cond (mem j n) (notspt (head_set (d.queues j)) ∷ []) [];
}

pub round_is : (w n : ℕ) (d : Desk) (x : Bool) → stops (with_sets w n d) ≡ x → round w n d ≡ turned w n d x
unfolding round next_hop
round_is w n d x e = ap (turned w n d) e

-- once the sets are taken: Nodes(HOP-1) without Not_SPT(J) are the boxes whose lists are due, and Nodes(HOP+1) without In_SPT(J) is the set that is due
sends_at : (w : ℕ) (t : List ℕ) (s : Table w t) (j : ℕ) → j < w → (h : ℕ) (l : List ℕ) (b : Box) (m : Mid w t j h l w b) → word b.nodes (suc h) ≡ layer w t j (suc h)
    → (i : ℕ) → mem i (word t j) ≡ true → ((k : ℕ) → In k (members w (carried w t j i (suc h))) → word b.neighbors k ≡ word t k)
    → round_sends w (word t j) b i ≡ next w t j i (suc h)
unfolding round_sends
sends_at w t s j hj h l b m c i v here =
    rw (v, m.hop) (
    ap₂ (λ (a x : ℕ). map (λ k. neighbors k (word b.neighbors k)) (members w a) ++ (notspt x ∷ []))
    (ap (without (before h b.nodes)) (m.heard i (link_lt w t s j i v) v) ∙ lists_out w t s j i h b.nodes hj v m.old)
    (ap₂ without c (m.done i (link_lt w t s j i v)) ∙ said_next w t j i h)
    ∙ ap (λ (x : List Msg). x ++ (notspt (said_set w t j i (suc h)) ∷ [])) (carry_same (word b.neighbors) (word t) (members w (carried w t j i (suc h))) here))

module _ (w : ℕ) (t : List ℕ) (s : Table w t) (j : ℕ) (hj : j < w) (n : ℕ → ℕ) (past rest : ℕ → List Msg) (d : Desk) (p : Half w t j n (used past d) d.queues rest d.box) (r : all_sets w (word t j) d.queues ≡ true) where
  hop_le : d.box.hop ≤ w
  hop_le = omega (arith, p.early, far_lt w t s j hj)

  pub head : (i : ℕ) → mem i (word t j) ≡ true → d.queues i ≡ notspt (head_set (d.queues i)) ∷ tail (d.queues i)
  head i v = has_head (d.queues i) (sets_all w (word t j) d.queues r i (link_lt w t s j i v) v)

  head_at_lem : (i : ℕ) (v : mem i (word t j) ≡ true) → At w t i j (n i) (used past d i) (head_set (d.queues i))
  head_at_lem i v =
      at w t i j (n i) (used past d i) (head_set (d.queues i)) (tail (d.queues i) ++ rest i)
      ((p.flows i v).all ∙ ap (λ (x : List Msg). used past d i ++ (x ++ rest i)) (head i v))

  head_due : (i : ℕ) → mem i (word t j) ≡ true → head_set (d.queues i) ≡ said_set w t i j d.box.hop
  head_due i v = (head_at_lem i v).this ∙ ap (said_set w t i j) (p.flows i v).num

  -- "before round h every list of a box at most h - 1 hops away is saved"
  known : (k : ℕ) → k < w → hops w t j k < w → hops w t j k < d.box.hop → word d.box.neighbors k ≡ word t k
  known k hk g h =
      elim (ℕ_discrete j k) [
        | yes z ↦ rw (← z) p.tables.own
        | no z ↦
            let i : ℕ = from w t j k in
            let hi : i < w = from_member w t s j k hj g z in
            let v : mem i (word t j) ≡ true = (from_ok w t j k hi).linked in
            (p.flows i v).kept k (has_come w t s i j (n i) (used past d i) (head_set (d.queues i)) hi hj (head_at_lem i v) k hk refl (omega (arith, (p.flows i v).num)))
      ]

  pub mid : Mid w t j d.box.hop d.box.neighbors w (with_sets w (word t j) d)
  mid =
      all_taken w t s j d.box.hop d.box.neighbors hj hop_le (λ i. head_set (d.queues i)) head_due d.box
      (record {
        hop = refl;
        lists = refl;
        nodes_size = p.tables.nodes_size;
        in_size = p.tables.in_size;
        not_size = p.tables.not_size;
        old = p.tables.old;
        cur = p.tables.new (suc d.box.hop) (omega arith) ∙ sym (cur_none w t s j d.box.hop);
        new = λ e h. p.tables.new e (omega arith);
        done = λ i h. absurd (omega arith);
        todo = λ i h l. p.tables.ins i l;
        heard = λ i h. absurd (omega arith);
        unheard = λ i h v. p.tables.heard i v;
        deaf = p.tables.deaf;
      })

  cur_is : word (with_sets w (word t j) d).nodes (suc d.box.hop) ≡ layer w t j (suc d.box.hop)
  cur_is = mid.cur ∙ cur_all w t s j d.box.hop hj hop_le

  pub after_hop : (with_sets w (word t j) d).hop ≡ d.box.hop
  after_hop = mid.hop

  pub new_tables : (x : Bool) → Tables w t j (turned w (word t j) d x).box
  new_tables x =
      let e : suc d.box.hop ≡ suc (with_sets w (word t j) d).hop = ap suc (sym after_hop) in
      record {
        nodes_size = mid.nodes_size;
        in_size = mid.in_size;
        not_size = mid.not_size;
        list_size = ap length mid.lists ∙ p.tables.list_size;
        old = λ k h. elim (ℕ_discrete k (suc d.box.hop)) [
          | yes z ↦ rw z cur_is
          | no z ↦ mid.old k (omega (arith, after_hop))
        ];
        new = λ k h. mid.new k (omega (arith, after_hop));
        ins = λ i h. mid.done i h ∙ ap (in_cut w t j i) e;
        heard = λ i v. mid.heard i (link_lt w t s j i v) v ∙ ap (heard_to w t j i) e;
        deaf = mid.deaf;
        own = ap (λ (l : List ℕ). word l j) mid.lists ∙ p.tables.own;
        only = λ k hk g. ap (λ (l : List ℕ). word l k) mid.lists ∙ p.tables.only k hk g;
      }

  -- ---- what goes out is the next part of the wire's list

  pub sends_next : (i : ℕ) → mem i (word t j) ≡ true → round_sends w (word t j) (with_sets w (word t j) d) i ≡ next w t j i (suc d.box.hop)
  sends_next i v =
      sends_at w t s j hj d.box.hop d.box.neighbors (with_sets w (word t j) d) mid cur_is i v
      (λ k u. let (a, x, y) = origin_is w t j i (suc d.box.hop) k u in ap (λ (l : List ℕ). word l k) mid.lists ∙ known k a (omega (arith, hop_le)) (omega arith))

  pub sends_none : (i : ℕ) → mem i (word t j) ≡ false → round_sends w (word t j) (with_sets w (word t j) d) i ≡ []
  unfolding round_sends
  sends_none i v = rw v

  -- ---- the wires

  used_now : (x : Bool) (i : ℕ) → mem i (word t j) ≡ true → used past (turned w (word t j) d x) i ≡ used past d i ++ (notspt (head_set (d.queues i)) ∷ [])
  used_now x i v = rw v (sym (append_assoc (past i) (d.taken i) (notspt (head_set (d.queues i)) ∷ [])))

  all_now : (i : ℕ) → mem i (word t j) ≡ true → wire w t i j (n i) ≡ (used past d i ++ (notspt (head_set (d.queues i)) ∷ [])) ++ (tail (d.queues i) ++ rest i)
  all_now i v =
      (p.flows i v).all ∙ ap (λ (x : List Msg). used past d i ++ (x ++ rest i)) (head i v)
      ∙ sym (append_assoc (used past d i) (notspt (head_set (d.queues i)) ∷ []) (tail (d.queues i) ++ rest i))

  num_now : (i : ℕ) → mem i (word t j) ≡ true → sets (used past d i ++ (notspt (head_set (d.queues i)) ∷ [])) ≡ suc (with_sets w (word t j) d).hop
  num_now i v = omega (arith, sets_append (used past d i) (notspt (head_set (d.queues i)) ∷ []), one_set (head_set (d.queues i)), (p.flows i v).num, after_hop)

  new_flow : (i : ℕ) → mem i (word t j) ≡ true
      → Flow w t i j (n i) (used past (turned w (word t j) d false) i) ((turned w (word t j) d false).queues i) (rest i) (turned w (word t j) d false).box
  new_flow i v = rw (used_now false i v, v) (record {
    all = all_now i v;
    num = num_now i v;
    kept = λ k u. ap (λ (l : List ℕ). word l k) mid.lists
        ∙ ⊎_elim (λ z. (p.flows i v).kept k z) (λ z. absurd z) (says_split k (used past d i) (notspt (head_set (d.queues i)) ∷ []) u);
  })

  new_spent : (i : ℕ) → mem i (word t j) ≡ true → Spent w t i j (n i) (used past (turned w (word t j) d true) i) (rest i) (turned w (word t j) d true).box
  new_spent i v = rw (used_now true i v) (record { dropped = tail (d.queues i); all = all_now i v; num = num_now i v })

  -- ---- it goes on, or stops

  nodes_now : word (with_sets w (word t j) d).nodes (with_sets w (word t j) d).hop ≡ layer w t j d.box.hop
  nodes_now = ap (word (with_sets w (word t j) d).nodes) after_hop ∙ mid.old d.box.hop (omega arith)

  -- Nodes(HOP) is not empty: the box goes on
  pub goes_on : stops (with_sets w (word t j) d) ≡ false
      → Half w t j n (used past (turned w (word t j) d false)) (turned w (word t j) d false).queues rest (turned w (word t j) d false).box
  unfolding stops
  goes_on e =
      let (k, hk, m) = some_member w (layer w t j d.box.hop) (layer_lt w t j d.box.hop) (λ u. eqb-false _ 0 e (nodes_now ∙ u)) in
      let y : hops w t j k ≡ d.box.hop = in_layer w t j d.box.hop k m in
      record {
        state = refl;
        tables = new_tables false;
        early = omega (arith, after_hop, far_most w t s j hj k hk (hops_gap w t s j k hj (omega (arith, hop_le))));
        linked = p.linked;
        flows = new_flow;
        mute = λ i v. rw v (p.mute i v);
      }

  -- Nodes(HOP) is empty: every member of the group is nearer than HOP
  nearer : stops (with_sets w (word t j) d) ≡ true → (k : ℕ) → k < w → hops w t j k < w → hops w t j k < d.box.hop
  unfolding stops
  nearer e k hk g =
      elim (dec_lt (hops w t j k) d.box.hop) [
        | yes u ↦ u
        | no u ↦
            let (c, hc, z) = hops_between w t s d.box.hop (hops w t j k - d.box.hop) j k hj (omega arith) (omega arith) in
            absurd (none_layer w t j d.box.hop c (sym nodes_now ∙ eqb-true _ 0 e) hc z)
      ]

  pub comes_to_rest : stops (with_sets w (word t j) d) ≡ true
      → Stopped w t j n (used past (turned w (word t j) d true)) (turned w (word t j) d true).queues rest (turned w (word t j) d true).box
  comes_to_rest e =
      let (c, hc, z) = far_there w t s j hj in
      let a : hops w t j c < d.box.hop = nearer e c hc (omega (arith, far_lt w t s j hj)) in
      record {
        state = refl;
        tables = new_tables true;
        last = rw (ne_eqb (word t j) 0 p.linked) (omega (arith, after_hop, p.early));
        empty = λ i. refl;
        full = λ k hk g. ap (λ (l : List ℕ). word l k) mid.lists ∙ known k hk g (nearer e k hk g);
        spent = new_spent;
      }
