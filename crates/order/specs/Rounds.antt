-- What each box is to know and to say, round by round, from hops alone; and what joins and leaves its sets in a round. Assumes nothing.
use Prim.Native.Nat.{ℕ, zero, suc, ◌+◌, ◌^◌, ◌≤◌, ◌<◌}
use Rattle.std.specs.Prelude.{◌≡◌, Bool, true, false, ◌&&◌, ◌⊎◌, ◌≢◌, List}
use Rattle.std.proofs.Math.Path.{refl}
use Rattle.std.proofs.Common.{sym, ap, ◌∙◌, true≢false, pow_pos}
use Rattle.std.proofs.Math.Bool.{not}
use Rattle.std.proofs.Math.Logic.{inl, inr, ⊎_elim}
use Rattle.std.proofs.Math.Logic.Dec.{and as dec_and, not as dec_not}
use native.Mathlib.Omega.{arith}
use Rattle.std.proofs.Math.Decide.{dec_le, dec_lt, ℕ_discrete}
use borrow.Author.Tests.{not-true, eqb-true, eq-eqb, ne_eqb, eqb-false}
use Rattle.std.specs.Int.Bits.{bit_or}
use Rattle.std.proofs.Math.Dec.{eqb}
use Rattle.std.proofs.Math.Pow.{pow-lt}
use Rattle.rules.specs.Sets.{mem, without, set_of, word}
use Rattle.rules.specs.Rest.{Table, hops, together, layer, from, in_at_rest, not_at_rest, said_set}
use Rattle.sets.specs.Mem.{mem_set_of, set_of_lt, Is, sel, sel_is, same, or_is, without_is, and_both, and_true, not_both, in_lt, mem_empty, in_one, one_in}
use Rattle.sets.specs.Loops.{by_bool}
use Rattle.hops.specs.Hops.{hops_gap, hops_self, hops_zero, hops_step}
use Rattle.hops.specs.Rest.{in_layer, layer_in, layer_lt, from_ok, from_le, from_member, from_group}

-- ---- small cases

pub lt_suc : (a n : ℕ) → a < suc n → (a < n) ⊎ (a ≡ n)
lt_suc a n h = elim (dec_le n a) [ yes p ↦ inr (omega arith) | no q ↦ inl (omega arith) ]

pub le_suc : (a n : ℕ) → a ≤ suc n → (a ≤ n) ⊎ (a ≡ suc n)
le_suc a n h = elim (dec_le a n) [ yes p ↦ inl p | no q ↦ inr (omega arith) ]

pub not_false : (x : Bool) → x ≡ false → not x ≡ true
not_false x e = rw e

-- ---- sets by what is in them

pub set_of_is : (w : ℕ) (f : ℕ → Bool) (P : ℕ → Type 0) → ((k : ℕ) → f k ≡ true → P k) → ((k : ℕ) → P k → f k ≡ true) → Is w (set_of w f) P
set_of_is w f P get put = record {
  small = set_of_lt w f;
  get = λ k m. get k (sym (mem_set_of w f k (in_lt w (set_of w f) k (set_of_lt w f) m)) ∙ m);
  put = λ k h p. mem_set_of w f k h ∙ put k p;
}

pub zero_is : (w : ℕ) → Is w 0 (λ k. ⊥)
zero_is w = record { small = pow_pos w; get = λ k m. not_both k 0 m (mem_empty k); put = λ k l x. absurd x }

pub one_is : (w i : ℕ) → i < w → Is w (2 ^ i) (λ k. k ≡ i)
one_is w i h = record { small = pow-lt h; get = λ k m. in_one k i m; put = λ k l x. rw x (one_in i) }

module _ (w : ℕ) (t : List ℕ) where
  pub layer_is : (i d : ℕ) → Is w (layer w t i d) (λ k. hops w t i k ≡ d)
  layer_is i d = record { small = layer_lt w t i d; get = in_layer w t i d; put = layer_in w t i d }

  -- set number r on the wire from i to j
  pub said_is : (i j r : ℕ) → Is w (said_set w t i j r) (λ k. (hops w t i k ≡ r) × (¬ (from w t i k ≡ j)))
  unfolding said_set
  said_is i j r =
      set_of_is w (λ k. eqb (hops w t i k) r && not (eqb (from w t i k) j)) (λ k. (hops w t i k ≡ r) × (¬ (from w t i k ≡ j)))
      (λ k e. let (a, b) = and_both _ _ e in (eqb-true _ _ a, eqb-false _ _ (not-true _ b)))
      (λ k p. and_true _ _ (eq-eqb _ _ p.0) (not_false _ (ne_eqb _ _ p.1)))

  -- the boxes of Nodes(d) whose lists i hands to j: those that j takes from i
  unfoldable pub passed : ℕ → ℕ → ℕ → ℕ
  passed i j d = set_of w (λ k. eqb (hops w t i k) d && eqb (from w t j k) i)

  pub passed_is : (i j d : ℕ) → Is w (passed i j d) (λ k. (hops w t i k ≡ d) × (from w t j k ≡ i))
  unfolding passed
  passed_is i j d =
      set_of_is w (λ k. eqb (hops w t i k) d && eqb (from w t j k) i) (λ k. (hops w t i k ≡ d) × (from w t j k ≡ i))
      (λ k e. let (a, b) = and_both _ _ e in (eqb-true _ _ a, eqb-true _ _ b))
      (λ k p. and_true _ _ (eq-eqb _ _ p.0) (eq-eqb _ _ p.1))

  -- In_SPT(j) and Not_SPT(j) of the tables at rest
  pub in_rest_is : (i j : ℕ) → Is w (in_at_rest w t i j) (λ k. from w t i k ≡ j)
  unfolding in_at_rest
  in_rest_is i j = set_of_is w (λ k. eqb (from w t i k) j) (λ k. from w t i k ≡ j) (λ k e. eqb-true _ _ e) (λ k e. eq-eqb _ _ e)

  pub not_rest_is : (i j : ℕ) → mem j (word t i) ≡ true → Is w (not_at_rest w t i j) (λ k. (together w t i k ≡ true) × (¬ (from w t j k ≡ i)))
  unfolding not_at_rest
  not_rest_is i j v = rw v (
      set_of_is w (λ k. together w t i k && not (eqb (from w t j k) i)) (λ k. (together w t i k ≡ true) × (¬ (from w t j k ≡ i)))
      (λ k e. let (a, b) = and_both _ _ e in (a, eqb-false _ _ (not-true _ b)))
      (λ k p. and_true _ _ p.0 (not_false _ (ne_eqb _ _ p.1))))

  pub not_rest_off : (i j : ℕ) → mem j (word t i) ≡ false → not_at_rest w t i j ≡ 0
  unfolding not_at_rest
  not_rest_off i j v = rw v

  -- In_SPT(j) at i: what has come over j from at most c hops
  unfoldable pub in_cut : ℕ → ℕ → ℕ → ℕ
  in_cut i j c = sel w (λ k. dec_and (ℕ_discrete (from w t i k) j) (dec_le (hops w t i k) c))

  pub in_cut_is : (i j c : ℕ) → Is w (in_cut i j c) (λ k. (from w t i k ≡ j) × (hops w t i k ≤ c))
  unfolding in_cut
  in_cut_is i j c = sel_is w _

  -- what of Nodes(h + 1) has come over the links below n, and what comes over n itself
  unfoldable pub cur_at : ℕ → ℕ → ℕ → ℕ
  cur_at i h n = sel w (λ k. dec_and (ℕ_discrete (hops w t i k) (suc h)) (dec_lt (from w t i k) n))

  pub cur_at_is : (i h n : ℕ) → Is w (cur_at i h n) (λ k. (hops w t i k ≡ suc h) × (from w t i k < n))
  unfolding cur_at
  cur_at_is i h n = sel_is w _

  unfoldable pub fresh : ℕ → ℕ → ℕ → ℕ
  fresh i n h = sel w (λ k. dec_and (ℕ_discrete (hops w t i k) (suc h)) (ℕ_discrete (from w t i k) n))

  pub fresh_is : (i n h : ℕ) → Is w (fresh i n h) (λ k. (hops w t i k ≡ suc h) × (from w t i k ≡ n))
  unfolding fresh
  fresh_is i n h = sel_is w _

  -- Not_SPT(j) at i after round h: what j has said in the rounds up to h
  unfoldable pub heard : ℕ → ℕ → ℕ → ℕ
  heard i j h = sel w (λ k. dec_and (dec_le (hops w t j k) h) (dec_not (ℕ_discrete (from w t j k) i)))

  pub heard_is : (i j h : ℕ) → Is w (heard i j h) (λ k. (hops w t j k ≤ h) × (¬ (from w t j k ≡ i)))
  unfolding heard
  heard_is i j h = sel_is w _

  -- the same with HOP h: what j has said in the rounds before h
  unfoldable pub heard_to : ℕ → ℕ → ℕ → ℕ
  heard_to i j zero = 0
  heard_to i j (suc h) = heard i j h

  pub heard_last : (i j h : ℕ) → heard_to i j (suc h) ≡ heard i j h
  unfolding heard_to
  heard_last i j h = refl

  -- ---- what joins in a round

  pub cur_step : (i h n : ℕ) → bit_or (cur_at i h n) (fresh i n h) ≡ cur_at i h (suc n)
  cur_step i h n =
      same (or_is (cur_at_is i h n) (fresh_is i n h)) (cur_at_is i h (suc n))
      (λ k l. ⊎_elim (λ p. (p.0, omega arith)) (λ p. (p.0, omega arith)))
      (λ k l p. ⊎_elim (λ z. inl (p.0, z)) (λ z. inr (p.0, z)) (lt_suc (from w t i k) n p.1))

  pub in_step : (i h n : ℕ) → bit_or (in_cut i n h) (fresh i n h) ≡ in_cut i n (suc h)
  in_step i h n =
      same (or_is (in_cut_is i n h) (fresh_is i n h)) (in_cut_is i n (suc h))
      (λ k l. ⊎_elim (λ p. (p.0, omega arith)) (λ p. (p.1, omega arith)))
      (λ k l p. ⊎_elim (λ z. inl (p.0, z)) (λ z. inr (z, p.0)) (le_suc (hops w t i k) h p.1))

  pub heard_more : (i j h : ℕ) → bit_or (heard_to i j h) (said_set w t j i h) ≡ heard_to i j (suc h)
  unfolding heard_to
  heard_more i j zero =
      same (or_is (zero_is w) (said_is j i 0)) (heard_is i j 0)
      (λ k l. ⊎_elim (λ p. absurd p) (λ p. (omega arith, p.1))) (λ k l p. inr (omega arith, p.1))
  heard_more i j (suc h) =
      same (or_is (heard_is i j h) (said_is j i (suc h))) (heard_is i j (suc h))
      (λ k l. ⊎_elim (λ p. (omega arith, p.1)) (λ p. (omega arith, p.1)))
      (λ k l p. ⊎_elim (λ z. inl (z, p.1)) (λ z. inr (z, p.1)) (le_suc (hops w t j k) h p.0))

  -- "NOTSPT = Nodes(HOP+1) without In_SPT(J)" is set number HOP + 1
  pub said_next : (i j h : ℕ) → without (layer w t i (suc h)) (in_cut i j (suc h)) ≡ said_set w t i j (suc h)
  said_next i j h =
      same (without_is (layer_is i (suc h)) (in_cut_is i j (suc h))) (said_is i j (suc h))
      (λ k l p. (p.0, λ v. p.1 (v, omega arith))) (λ k l p. (p.0, λ q. p.1 q.0))

module _ (w : ℕ) (t : List ℕ) (s : Table w t) where
  pub link_lt : (i j : ℕ) → mem j (word t i) ≡ true → j < w
  link_lt i j v = in_lt w (word t i) j (s.small i) v

  -- the sender of a link is a box too
  pub links_lt : (i j : ℕ) → mem j (word t i) ≡ true → i < w
  links_lt i j v = link_lt j i (s.both i j v)

  pub link_ne : (i j : ℕ) → mem i (word t j) ≡ true → i ≢ j
  link_ne i j v e = not_both j (word t j) (rw e at v) (s.apart j)

  pub no_link : (i j : ℕ) → word t i ≡ 0 → mem j (word t i) ≡ true → ⊥
  no_link i j z v = true≢false (sym v ∙ ap (mem j) z ∙ mem_empty j)

  -- what is no link is none the other way
  pub no_link_back : (i j : ℕ) → mem j (word t i) ≡ false → mem i (word t j) ≡ false
  no_link_back i j v = by_bool (mem i (word t j)) (λ u. absurd (true≢false (sym (s.both j i u) ∙ v))) (λ u. u)

  -- ---- what j takes from i is one hop nearer, and in both groups

  pub taken_near : (i j k : ℕ) → i < w → from w t j k ≡ i → suc (hops w t i k) ≡ hops w t j k
  taken_near i j k hi v = rw v at (from_ok w t j k (omega arith)).near

  pub taken_group : (i j k : ℕ) → i < w → j < w → from w t j k ≡ i → (suc (hops w t i k) ≡ hops w t j k) × (hops w t j k < w)
  taken_group i j k hi hj v = (taken_near i j k hi v, (from_group w t s j k hj (omega arith)).0)

  -- nothing comes over what is no link
  pub not_from : (i n k : ℕ) → n < w → mem n (word t i) ≡ false → from w t i k ≡ n → ⊥
  not_from i n k h m e = not_both n (word t i) (rw e at (from_ok w t i k (omega arith)).linked) m

  -- what a neighbour chose i for is not farther from i
  core_back : (i j k h : ℕ) → j < w → i < w → hops w t i k ≡ suc h → from w t i k ≡ j → (hops w t j k ≡ h) × (from w t j k ≢ i)
  core_back i j k h hj hi d v =
      let e : suc (hops w t j k) ≡ hops w t i k = taken_near j i k hj v in
      (omega arith, λ u. let e2 : suc (hops w t i k) ≡ hops w t j k = taken_near i j k hi u in omega arith)

  -- "Its own name never comes back": j takes i from i
  from_self : (i j : ℕ) → i < w → mem j (word t i) ≡ true → hops w t j i < w → from w t j i ≡ i
  from_self i j hi l h =
      let hj : j < w = link_lt i j l in
      let v : from w t j i < w = from_member w t s j i hj h (λ e. link_ne j i l e) in
      hops_zero w t s (from w t j i) i v (omega (arith, (from_ok w t j i v).near, hops_step w t s j i i hj (s.both i j l), hops_self w t s i hi))

  -- what j says in round h, and i has not met, is one hop farther from i than from j, and comes over j
  core_forth : (i j k h : ℕ) → i < w → h < w + 2 → mem j (word t i) ≡ true → hops w t j k ≡ h → from w t j k ≢ i
      → (from w t i k < w → hops w t i k ≤ h → ⊥) → (hops w t i k ≡ suc h → from w t i k < j → ⊥)
      → (hops w t i k ≡ suc h) × (from w t i k ≡ j)
  core_forth i j k h hi hw l d v old low =
      elim (ℕ_discrete (hops w t i k) 0) [
        | yes e ↦
            let ik : i ≡ k = hops_zero w t s i k hi e in
            let lt : hops w t j i < w = rw ik (hops_gap w t s j k (link_lt i j l) (omega arith)) in
            absurd (v (rw (← ik) (from_self i j hi l lt)))
        | no z ↦
            elim (dec_le (hops w t i k) h) [
              | yes p ↦ absurd (old (from_member w t s i k hi (hops_gap w t s i k hi (omega arith)) (λ e. z (rw (← e) (hops_self w t s i hi)))) p)
              | no p ↦
                  let e : hops w t i k ≡ suc h = omega (arith, hops_step w t s i j k hi l) in
                  elim (dec_lt (from w t i k) j) [ yes q ↦ absurd (low e q) | no q ↦ (e, omega (arith, from_le w t s i j k l (omega arith))) ]
            ]
      ]

  pub in_skip : (i h n : ℕ) → n < w → mem n (word t i) ≡ false → in_cut w t i n h ≡ in_cut w t i n (suc h)
  in_skip i h n hn m =
      same (in_cut_is w t i n h) (in_cut_is w t i n (suc h)) (λ k l p. (p.0, omega arith)) (λ k l p. absurd (not_from i n k hn m p.0))

  pub cur_skip : (i h n : ℕ) → n < w → mem n (word t i) ≡ false → cur_at w t i h n ≡ cur_at w t i h (suc n)
  cur_skip i h n hn m =
      same (cur_at_is w t i h n) (cur_at_is w t i h (suc n)) (λ k l p. (p.0, omega arith))
      (λ k l p. ⊎_elim (λ z. (p.0, z)) (λ z. absurd (not_from i n k hn m z)) (lt_suc (from w t i k) n p.1))

  -- what n says, less what is known after the links below n, is what comes over n
  pub new_is : (i h n x : ℕ) → i < w → h < w + 2 → mem n (word t i) ≡ true
      → Is w x (λ k. (j : ℕ) × (j < w) × (from w t i k ≡ j) × ((hops w t i k ≤ h) ⊎ ((hops w t i k ≡ suc h) × (j < n))))
      → without (said_set w t n i h) x ≡ fresh w t i n h
  new_is i h n x hi hh m known =
      same (without_is (said_is w t n i h) known) (fresh_is w t i n h)
      (λ k l p. core_forth i n k h hi hh m p.0.0 p.0.1
      (λ v u. p.1 (from w t i k, v, refl, inl u))
      (λ e u. p.1 (from w t i k, omega (arith, link_lt i n m), refl, inr (e, u))))
      (λ k l p. (
        core_back i n k h (link_lt i n m) hi p.0 p.1,
        λ q. ⊎_elim (λ u. omega arith) (λ u. omega arith) q.3,
      ))

  -- the lists of round h + 1: "K in Nodes(HOP-1) without Not_SPT(J)"
  pub passed_next : (i j h : ℕ) → i < w → mem j (word t i) ≡ true → without (layer w t i h) (heard w t i j (suc h)) ≡ passed w t i j h
  passed_next i j h hi m =
      same (without_is (layer_is w t i h) (heard_is w t i j (suc h))) (passed_is w t i j h)
      (λ k l p. (p.0, elim (ℕ_discrete (from w t j k) i) [ yes v ↦ v | no v ↦ absurd (p.1 (omega (arith, hops_step w t s j i k (link_lt i j m) (s.both i j m)), v)) ]))
      (λ k l p. (p.0, λ q. q.1 p.1))

  -- ---- round 0, and the end of a round

  pub said_first : (i j : ℕ) → i < w → mem j (word t i) ≡ true → said_set w t i j 0 ≡ 2 ^ i
  said_first i j hi l =
      same (said_is w t i j 0) (one_is w i hi)
      (λ k h p. sym (hops_zero w t s i k hi p.0))
      (λ k h p. (rw p (hops_self w t s i hi), λ v. omega (arith, taken_near j i k (link_lt i j l) v, hops_self w t s i hi, ap (hops w t i) p)))

  pub layer_first : (i : ℕ) → i < w → layer w t i 0 ≡ 2 ^ i
  layer_first i hi = same (layer_is w t i 0) (one_is w i hi) (λ k l p. sym (hops_zero w t s i k hi p)) (λ k l p. rw p (hops_self w t s i hi))

  pub in_first : (i j : ℕ) → j < w → in_cut w t i j 0 ≡ 0
  in_first i j hj = same (in_cut_is w t i j 0) (zero_is w) (λ k l p. omega (arith, taken_near j i k hj p.0, p.1)) (λ k l p. absurd p)

  pub cur_none : (i h : ℕ) → cur_at w t i h 0 ≡ 0
  cur_none i h = same (cur_at_is w t i h 0) (zero_is w) (λ k l p. omega arith) (λ k l p. absurd p)

  pub cur_all : (i h : ℕ) → i < w → h ≤ w → cur_at w t i h w ≡ layer w t i (suc h)
  cur_all i h hi hh =
      same (cur_at_is w t i h w) (layer_is w t i (suc h)) (λ k l p. p.0)
      (λ k l p. (p, from_member w t s i k hi (hops_gap w t s i k hi (omega arith)) (λ e. omega (arith, hops_self w t s i hi, ap (hops w t i) e))))

  -- "Nodes(16) and beyond are always empty": no box is w or w + 1 hops away
  pub cur_far : (i h n : ℕ) → i < w → h ≤ w → w ≤ suc h → cur_at w t i h n ≡ 0
  cur_far i h n hi hh far = same (cur_at_is w t i h n) (zero_is w) (λ k l p. omega (arith, hops_gap w t s i k hi (omega (arith, p.0)), p.0)) (λ k l p. absurd p)
