-- A sleeping box starts: its invariant, and that it has sent the first NOTSPT on each wire. Assumes nothing.
use Rattle.std.specs.Prelude.{ℕ, ◌^◌, ◌<◌, ◌≡◌, true, ◌≢◌, eqb, set, replicate}
use Rattle.std.proofs.Math.Path.{refl, sym, ap}
use Rattle.std.proofs.Common.{ap₂, ◌∙◌, eqb-true, eq-eqb}
use mathlib.Core.List.{List, [], ◌++◌, append-nil}
use native.Mathlib.Omega.{arith}
use Rattle.std.proofs.Math.Decide.{dec_lt, ℕ_discrete}
use Rattle.std.proofs.Math.ListN.{length, length-set, get_or-eq_default}
use Rattle.std.proofs.lemmas.List.{length-replicate, get_or-replicate}
use Rattle.std.proofs.Math.Seq.{get_or-set_same, get_or-set_other}
use Rattle.std.proofs.lemmas.Bool.{eqb-false}
use Rattle.rules.specs.Sets.{mem, word}
use Rattle.rules.specs.Box.{Msg, Box, Desk, started, start_sends}
use Rattle.rules.specs.Rest.{Table, hops}
use Rattle.sets.specs.Loops.{by_bool, some_member}
use Rattle.hops.specs.Hops.{hops_self, hops_zero, hops_near}
use Rattle.order.specs.Rounds.{heard_to, layer_first, in_first, no_link}
use Rattle.order.specs.Messages.{no_sets_lem}
use Rattle.order.specs.Wire.{wire, wire_none, wire_first}
use Rattle.order.specs.Invariant.{Tables, Awake, Stopped, Seat, wakes, rests, spoken}
use Rattle.order.proofs.Save.{behind_none}
use Rattle.order.proofs.Work.{Done, spoken_up, spoken_none, two_or_one}

-- an empty table reads 0 everywhere
abbrev pub none : ℕ → List ℕ
none w = replicate w 0

pub none_length : (w : ℕ) → length (none w) ≡ w
none_length w = length-replicate {A = ℕ} w 0

pub word_none : (w k : ℕ) → word (none w) k ≡ 0
word_none w k = elim (dec_lt k w) [ yes p ↦ get_or-replicate w k 0 0 p | no p ↦ get_or-eq_default (none w) 0 (omega (arith, none_length w)) ]

-- the box that starts, in the state x
abbrev begun : ℕ → ℕ → ℕ → ℕ → Box
begun w i n x = record {
  state = x;
  hop = 0;
  nodes = set (none w) 0 (2 ^ i);
  in_spt = none w;
  not_spt = none w;
  neighbors = set (none w) i n;
}

pub started_up : (w i n : ℕ) → (started w i n).state ≢ 0
unfolding started
started_up w i n = two_or_one (eqb n 0)

module _ (w : ℕ) (t : List ℕ) (s : Table w t) (j : ℕ) (hj : j < w) (n : ℕ → ℕ) (past rest : ℕ → List Msg)
    (used_none : (i : ℕ) → mem i (word t j) ≡ true → past i ≡ [])
    (waiting : (i : ℕ) → mem i (word t j) ≡ true → wire w t i j (n i) ≡ rest i) where
  first_tables : (x : ℕ) → Tables w t j (begun w j (word t j) x)
  unfolding heard_to
  first_tables x =
      let z : length (none w) ≡ w = none_length w in
      record {
        nodes_size = length-set (none w) 0 (2 ^ j) ∙ z;
        in_size = z;
        not_size = z;
        list_size = length-set (none w) j (word t j) ∙ z;
        old = λ d h. let e : d ≡ 0 = omega arith in rw e (get_or-set_same (none w) 0 (2 ^ j) 0 (omega arith) ∙ sym (layer_first w t s j hj));
        new = λ d h. get_or-set_other (none w) 0 d (2 ^ j) 0 (omega arith) ∙ word_none w d;
        ins = λ i hi. word_none w i ∙ sym (in_first w t s j i hi);
        heard = λ i v. word_none w i;
        deaf = λ i v. word_none w i;
        own = get_or-set_same (none w) j (word t j) 0 (omega arith);
        only = λ k hk g. get_or-set_other (none w) j k (word t j) 0 (λ e. g (rw e (omega (arith, hops_self w t s j hj)))) ∙ word_none w k;
      }

  first_awake : word t j ≢ 0 → Awake w t j n (λ i. past i ++ []) (λ i. []) rest (begun w j (word t j) 1)
  first_awake z = record {
    half = record {
      state = refl;
      tables = first_tables 1;
      early = omega arith;
      linked = z;
      flows = λ i v. rw (append-nil (past i), used_none i v) (record { all = waiting i v; num = no_sets_lem; kept = λ k u. absurd u });
      mute = λ i v. refl;
    };
    calm = λ i. behind_none;
    waits = let (i, h, m) = some_member w (word t j) (s.small j) z in (i, m, refl);
  }

  -- a box without links is alone in its group
  alone : word t j ≡ 0 → (k : ℕ) → k < w → hops w t j k < w → k ≡ j
  alone z k hk g =
      elim (ℕ_discrete (hops w t j k) 0) [
        | yes e ↦ sym (hops_zero w t s j k hj e)
        | no e ↦ let (i, l, f) = hops_near w t s j k hj g e in absurd (no_link w t s j i z l)
      ]

  first_stopped : word t j ≡ 0 → Stopped w t j n (λ i. past i ++ []) (λ i. []) rest (begun w j (word t j) 2)
  first_stopped z = record {
    state = refl;
    tables = first_tables 2;
    last = rw (eq-eqb (word t j) 0 z);
    empty = λ i. refl;
    full = λ k hk g. rw (alone z k hk g) (get_or-set_same (none w) j (word t j) 0 (omega (arith, none_length w)));
    spent = λ i v. absurd (no_link w t s j i z v);
  }

  abbrev pub first : Desk
  first = record { box = started w j (word t j); queues = λ a. []; sends = start_sends j (word t j); taken = λ a. [] }

  first_said : (b : Box) → b.state ≡ 0 → (i : ℕ) → mem i (word t j) ≡ true → wire w t j i (spoken (started w j (word t j))) ≡ wire w t j i (spoken b) ++ start_sends j (word t j) i
  unfolding started start_sends
  first_said b e i v =
      ap (wire w t j i) (spoken_up (started w j (word t j)) (started_up w j (word t j))) ∙ wire_first w t s j i hj v
      ∙ sym (ap₂ ◌++◌ (ap (wire w t j i) (spoken_none b e) ∙ wire_none w t j i) (rw v))

  first_seat : Seat w t j n (λ i. past i ++ []) (λ i. []) rest (started w j (word t j))
  unfolding started
  first_seat =
      by_bool (eqb (word t j) 0)
      (λ e. rw e (rests (first_stopped (eqb-true (word t j) 0 e))))
      (λ e. rw e (wakes (first_awake (eqb-false (word t j) 0 e))))

  pub begins : (b : Box) → b.state ≡ 0 → Done w t j n past rest b first
  unfolding start_sends
  begins b e = record { seat = first_seat; said = first_said b e; mute = λ i v. (rw v, refl, refl) }
