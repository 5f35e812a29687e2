-- A wire's list of messages: NOTSPT number h for each h in turn, the lists of round h - 1 before it. Where it is cut in two in front of a message,
-- the number of NOTSPT before the cut says what stands before it and which message comes next. Assumes nothing.
use Prim.Native.Nat.{ℕ, zero, suc, ◌+◌, ◌≤◌}
use Rattle.std.specs.Prelude.{◌≡◌, ◌⊎◌}
use Rattle.std.proofs.Math.Path.{refl, sym, ap, ap₂}
use Rattle.std.proofs.Common.{◌∙◌}
use mathlib.Core.List.{List, [], ◌∷◌, ◌++◌}
use Rattle.std.proofs.Math.Logic.{inl, inr, ⊎_elim}
use native.Mathlib.Omega.{arith}
use Rattle.std.proofs.Math.Decide.{ℕ_discrete}
use Rattle.rules.specs.Box.{Msg, notspt, neighbors}
use Rattle.order.specs.Messages.{In, sets, Says, Every, carry, says_carry, carry_says, every_carry, sets_carry}

cons_head : {a b : Msg} {l m : List Msg} → a ∷ l ≡ b ∷ m → a ≡ b
cons_head e = cc

cons_tail : {a b : Msg} {l m : List Msg} → a ∷ l ≡ b ∷ m → l ≡ m
cons_tail e = cc

set_of_lem : {a b : ℕ} → notspt a ≡ notspt b → a ≡ b
set_of_lem e = cc

box_of_lem : {j k x s : ℕ} → neighbors j x ≡ neighbors k s → k ≡ j
box_of_lem e = cc

apart : {k x s : ℕ} → neighbors k x ≡ notspt s → ⊥
apart e = let z : ◌≡◌ {A = ℕ} 0 1 = cc in omega arith

not_nil : {a : Msg} {l : List Msg} → [] ≡ a ∷ l → ⊥
not_nil e = let z : ◌≡◌ {A = ℕ} 0 1 = cc in omega arith

pub not_end : (c : List Msg) (a : Msg) (l : List Msg) → [] ≡ c ++ (a ∷ l) → ⊥
not_end [] a l e = not_nil e
not_end (b ∷ c) a l e = not_nil e

module _ (f : ℕ → ℕ) (ks : ℕ → List ℕ) (said : ℕ → ℕ) where
  -- n blocks from number h on, the lists js before the first of them
  unfoldable pub stream : ℕ → List ℕ → ℕ → List Msg
  stream zero js h = []
  stream (suc n) js h = carry f js (notspt (said h) ∷ stream n (ks (suc h)) (suc h))

  -- what stands before NOTSPT number h + m
  unfoldable pub before : ℕ → List ℕ → ℕ → List Msg
  before zero js h = carry f js []
  before (suc m) js h = carry f js (notspt (said h) ∷ before m (ks (suc h)) (suc h))

  before_cons : (m j : ℕ) (js : List ℕ) (h : ℕ) → before m (j ∷ js) h ≡ neighbors j (f j) ∷ before m js h
  unfolding before
  before_cons zero j js h = refl
  before_cons (suc m) j js h = refl

  -- the cut stands before NOTSPT number `num`, and `left` blocks follow that one
  pub record Cut (n : ℕ) (js : List ℕ) (h : ℕ) (c : List Msg) (s : ℕ) (q : List Msg) : Type 0 where
    pub num : ℕ
    pub num_is : num ≡ h + sets c
    pub left : ℕ
    pub left_is : left + suc (sets c) ≡ n
    pub this : s ≡ said num
    pub front : c ≡ before (sets c) js h
    pub rest : q ≡ stream left (ks (suc num)) (suc num)

  cut_in : (n h : ℕ) (s : ℕ) (q : List Msg)
      → ((c : List Msg) → stream n (ks (suc h)) (suc h) ≡ c ++ (notspt s ∷ q) → Cut n (ks (suc h)) (suc h) c s q)
      → (js : List ℕ) (c : List Msg) → stream (suc n) js h ≡ c ++ (notspt s ∷ q) → Cut (suc n) js h c s q
  unfolding stream before sets
  cut_in n h s q ih [] [] e = record {
    num = h;
    num_is = omega arith;
    left = n;
    left_is = omega arith;
    this = sym (set_of_lem (cons_head e));
    front = refl;
    rest = sym (cons_tail e);
  }
  cut_in n h s q ih [] (notspt x ∷ c) e =
      let i : Cut n (ks (suc h)) (suc h) c s q = ih c (cons_tail e) in
      record {
        num = i.num;
        num_is = omega (arith, i.num_is);
        left = i.left;
        left_is = omega (arith, i.left_is);
        this = i.this;
        front = ap₂ ◌∷◌ (sym (cons_head e)) i.front;
        rest = i.rest;
      }
  cut_in n h s q ih [] (neighbors k x ∷ c) e = absurd (apart (sym (cons_head e)))
  cut_in n h s q ih (j ∷ js) [] e = absurd (apart (cons_head e))
  cut_in n h s q ih (j ∷ js) (notspt x ∷ c) e = absurd (apart (cons_head e))
  cut_in n h s q ih (j ∷ js) (neighbors k x ∷ c) e =
      let i : Cut (suc n) js h c s q = cut_in n h s q ih js c (cons_tail e) in
      record {
        num = i.num;
        num_is = i.num_is;
        left = i.left;
        left_is = i.left_is;
        this = i.this;
        front = ap₂ ◌∷◌ (sym (cons_head e)) i.front ∙ sym (before_cons (sets c) j js h);
        rest = i.rest;
      }

  pub cut : (n : ℕ) (js : List ℕ) (h : ℕ) (c : List Msg) (s : ℕ) (q : List Msg) → stream n js h ≡ c ++ (notspt s ∷ q) → Cut n js h c s q
  unfolding stream
  cut zero js h c s q e = absurd (not_end c (notspt s) q e)
  cut (suc n) js h c s q e = cut_in n h s q (λ c'. cut n (ks (suc h)) (suc h) c' s q) js c e

  -- a list stands where it belongs: the number of NOTSPT before it says in which block
  abbrev Place : (js : List ℕ) (h k : ℕ) (c : List Msg) → Type 0
  Place js h k c = ((In k js) × (sets c ≡ 0)) ⊎ ((r : ℕ) × (r ≡ h + sets c) × In k (ks r))

  place_in : (n h k s : ℕ) (q : List Msg) → ((c : List Msg) → stream n (ks (suc h)) (suc h) ≡ c ++ (neighbors k s ∷ q) → Place (ks (suc h)) (suc h) k c)
      → (js : List ℕ) (c : List Msg) → stream (suc n) js h ≡ c ++ (neighbors k s ∷ q) → Place js h k c
  unfolding stream sets
  place_in n h k s q ih [] [] e = absurd (apart (sym (cons_head e)))
  place_in n h k s q ih [] (notspt x ∷ c) e =
      ⊎_elim (λ p. inr (suc h, omega (arith, p.1), p.0)) (λ p. let (r, z, u) = p in inr (r, omega arith, u)) (ih c (cons_tail e))
  place_in n h k s q ih [] (neighbors y x ∷ c) e = absurd (apart (sym (cons_head e)))
  place_in n h k s q ih (j ∷ js) [] e = inl (inl (box_of_lem (cons_head e)), refl)
  place_in n h k s q ih (j ∷ js) (notspt x ∷ c) e = absurd (apart (cons_head e))
  place_in n h k s q ih (j ∷ js) (neighbors y x ∷ c) e =
      ⊎_elim (λ p. inl (inr p.0, p.1)) (λ p. inr p) (place_in n h k s q ih js c (cons_tail e))

  place_at : (n : ℕ) (js : List ℕ) (h : ℕ) (c : List Msg) (k s : ℕ) (q : List Msg) → stream n js h ≡ c ++ (neighbors k s ∷ q) → Place js h k c
  unfolding stream
  place_at zero js h c k s q e = absurd (not_end c (neighbors k s) q e)
  place_at (suc n) js h c k s q e = place_in n h k s q (λ d. place_at n (ks (suc h)) (suc h) d k s q) js c e

  pub place : (n : ℕ) (c : List Msg) (k s : ℕ) (q : List Msg) → stream n (ks 0) 0 ≡ c ++ (neighbors k s ∷ q) → In k (ks (sets c))
  place n c k s q e =
      ⊎_elim (λ p. rw p.1 p.0) (λ p. let (r, z, u) = p in let x : r ≡ sets c = omega arith in rw x at u) (place_at n (ks 0) 0 c k s q e)

  abbrev pub block : ℕ → List Msg
  block r = carry f (ks r) (notspt (said r) ∷ [])

  carry_append : (js : List ℕ) (a b : List Msg) → carry f js (a ++ b) ≡ carry f js a ++ b
  carry_append [] a b = refl
  carry_append (j ∷ js) a b = ap (λ (x : List Msg). neighbors j (f j) ∷ x) (carry_append js a b)

  -- one block more stands at the end
  pub stream_more : (n h : ℕ) → stream (suc n) (ks h) h ≡ stream n (ks h) h ++ block (n + h)
  unfolding stream
  stream_more zero h = let e : h ≡ 0 + h = omega arith in ap block e
  stream_more (suc n) h =
      let e : n + suc h ≡ suc n + h = omega arith in
      ap (λ (x : List Msg). carry f (ks h) (notspt (said h) ∷ x)) (stream_more n (suc h) ∙ ap (λ (r : ℕ). stream n (ks (suc h)) (suc h) ++ block r) e)
      ∙ carry_append (ks h) (notspt (said h) ∷ stream n (ks (suc h)) (suc h)) (block (suc n + h))

  pub every_stream : (P : ℕ → ℕ → Type 0) → ((r k : ℕ) → In k (ks r) → P k (f k)) → (n h : ℕ) → Every P (stream n (ks h) h)
  unfolding stream
  every_stream P g zero h = tt
  every_stream P g (suc n) h = every_carry P f (ks h) _ (g h) (every_stream P g n (suc h))

  pub says_before : (k r m h : ℕ) → In k (ks r) → h ≤ r → r ≤ m + h → Says k (before m (ks h) h)
  unfolding before
  says_before k r zero h i p q = let e : r ≡ h = omega arith in rw e at (says_carry f (ks r) [] k i)
  says_before k r (suc m) h i p q =
      elim (ℕ_discrete r h) [
        | yes e ↦ says_carry f (ks h) _ k (rw e at i)
        | no e ↦ carry_says f (ks h) (notspt (said h) ∷ before m (ks (suc h)) (suc h)) k (says_before k r m (suc h) i (omega arith) (omega arith))
      ]

  pub sets_stream : (n : ℕ) (js : List ℕ) (h : ℕ) → sets (stream n js h) ≡ n
  unfolding stream sets
  sets_stream zero js h = refl
  sets_stream (suc n) js h = sets_carry f js _ ∙ ap suc (sets_stream n (ks (suc h)) (suc h))
