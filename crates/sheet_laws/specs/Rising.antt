-- Lists whose entries rise by an order: they are told by their members (`rising_same`), and joined where each entry of the first is below each of the second.
-- Assumes nothing.
use Prim.Native.Nat.{ℕ, zero, suc, ◌<◌}
use Rattle.std.specs.Prelude.{◌≡◌, refl, List, [], ◌∷◌, ◌++◌, ◌⊎◌}
use Rattle.std.proofs.Common.{sym, ap₂, ◌∙◌, inl, inr}
use Rattle.std.proofs.Math.Logic.{⊎_elim}
use native.Mathlib.Omega.{arith}
use Rattle.std.proofs.Math.Decide.{ℕ_discrete}
use Rattle.rules.specs.Sets.{each}

module _ {A : Type 0} where
  -- y is an entry of the list
  abbrev pub In : A → List A → Type 0
  In y [] = ⊥
  In y (x ∷ l) = (y ≡ x) ⊎ In y l

  pub in_append : (y : A) (l m : List A) → In y (l ++ m) → In y l ⊎ In y m
  in_append y [] m = λ h. inr h
  in_append y (x ∷ l) m = ⊎_elim (λ e. inl (inl e)) (λ h. ⊎_elim (λ u. inl (inr u)) (λ u. inr u) (in_append y l m h))

  pub in_left : (y : A) (l m : List A) → In y l → In y (l ++ m)
  in_left y [] m = λ h. absurd h
  in_left y (x ∷ l) m = ⊎_elim (λ e. inl e) (λ h. inr (in_left y l m h))

  pub in_right : (y : A) (l m : List A) → In y m → In y (l ++ m)
  in_right y [] m h = h
  in_right y (x ∷ l) m h = inr (in_right y l m h)

  pub in_each : (y : A) (n : ℕ) (f : ℕ → List A) → In y (each n f) → (k : ℕ) × (k < n) × In y (f k)
  unfolding each
  in_each y zero f h = absurd h
  in_each y (suc n) f h =
      ⊎_elim (λ u. let (k, l, v) = in_each y n f u in (k, omega arith, v)) (λ u. (n, omega arith, u)) (in_append y (each n f) (f n) h)

  pub each_in : (y : A) (n : ℕ) (f : ℕ → List A) (k : ℕ) → k < n → In y (f k) → In y (each n f)
  unfolding each
  each_in y zero f k h u = absurd (omega arith)
  each_in y (suc n) f k h u =
      elim (ℕ_discrete k n) [
        | yes e ↦ in_right y (each n f) (f n) (rw e at u)
        | no e ↦ in_left y (each n f) (f n) (each_in y n f k (omega arith) u)
      ]

  module _ (R : A → A → Type 0) where
    -- each entry is below all that follow
    abbrev pub Rising : List A → Type 0
    Rising [] = Unit {0}
    Rising (x ∷ l) = ((y : A) → In y l → R x y) × Rising l

    -- each entry is below the next, and x below the first
    abbrev pub Chain : A → List A → Type 0
    Chain x [] = Unit {0}
    Chain x (y ∷ l) = R x y × Chain y l

    pub chain_below : ((x y z : A) → R x y → R y z → R x z) → (x : A) (l : List A) → Chain x l → (y : A) → In y l → R x y
    chain_below tran x [] c y = λ h. absurd h
    chain_below tran x (z ∷ l) c y = ⊎_elim (λ e. rw e c.0) (λ h. tran x z y c.0 (chain_below tran z l c.1 y h))

    pub chain_rising : ((x y z : A) → R x y → R y z → R x z) → (x : A) (l : List A) → Chain x l → Rising l
    chain_rising tran x [] c = tt
    chain_rising tran x (z ∷ l) c = (chain_below tran z l c.1, chain_rising tran z l c.1)

    pub rising_chain : (x : A) (l : List A) → ((y : A) → In y l → R x y) → Rising l → Chain x l
    rising_chain x [] h r = tt
    rising_chain x (z ∷ l) h r = (h z (inl refl), rising_chain z l r.0 r.1)

    pub rising_append : (l m : List A) → Rising l → Rising m → ((x y : A) → In x l → In y m → R x y) → Rising (l ++ m)
    rising_append [] m r q h = q
    rising_append (x ∷ l) m r q h = (
      (λ y u. ⊎_elim (λ v. r.0 y v) (λ v. h x y (inl refl) v) (in_append y l m u)),
      rising_append l m r.1 q (λ a b u v. h a b (inr u) v),
    )

    pub rising_each : (n : ℕ) (f : ℕ → List A) → ((k : ℕ) → k < n → Rising (f k))
        → ((i j : ℕ) → i < j → (x y : A) → In x (f i) → In y (f j) → R x y) → Rising (each n f)
    unfolding each
    rising_each zero f r h = tt
    rising_each (suc n) f r h =
        rising_append (each n f) (f n) (rising_each n f (λ k l. r k (omega arith)) h) (r n (omega arith))
        (λ x y u v. let (k, l, i) = in_each x n f u in h k n l x y i v)

    -- two rising lists with the same entries are one
    pub rising_same : ((x y : A) → R x y → R y x → ⊥) → (l m : List A) → Rising l → Rising m
        → ((y : A) → In y l → In y m) → ((y : A) → In y m → In y l) → l ≡ m
    rising_same no-turn [] [] r q f g = refl
    rising_same no-turn [] (y ∷ m) r q f g = absurd (g y (inl refl))
    rising_same no-turn (x ∷ l) [] r q f g = absurd (f x (inl refl))
    rising_same no-turn (x ∷ l) (y ∷ m) r q f g =
        let e : x ≡ y =
        ⊎_elim (λ p. p)
        (λ u. ⊎_elim (λ p. sym p) (λ v. absurd (no-turn x y (r.0 y v) (q.0 x u))) (g y (inl refl)))
        (f x (inl refl))
        in
        ap₂ ◌∷◌ e
        (rising_same no-turn l m r.1 q.1
        (λ z u. ⊎_elim (λ p. absurd (self x z (p ∙ sym e) (r.0 z u))) (λ v. v) (f z (inr u)))
        (λ z u. ⊎_elim (λ p. absurd (self y z (p ∙ e) (q.0 z u))) (λ v. v) (g z (inr u))))
      where
        self : (a b : A) → b ≡ a → R a b → ⊥
        self a b p h = no-turn a b h (let d : R a a = rw p at h in rw p d)
