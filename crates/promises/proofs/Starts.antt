-- The set of the boxes that a list starts: "a = b starts box a". Assumes nothing.
use Rattle.std.specs.Prelude.{ℕ, zero, suc, ◌+◌, ◌*◌, ◌<◌, ◌≡◌, true, ◌&&◌, List, [], ◌∷◌, ◌↔◌, eqb, length}
use Rattle.std.proofs.Common.{sym, ◌∙◌, true≢false, arith, eqb-true, eq-eqb}
use Rattle.rules.specs.Sets.{mem}
use Rattle.sets.specs.Mem.{and_both}
use Rattle.sets.specs.Loops.{by_bool}
use Rattle.order.specs.Terms.{asks, starts_of}
use Rattle.order.proofs.Started.{starts_is}
use Rattle.promises.specs.Conditions.{first_of, second_of}

asked_pair : (k : ℕ) (l : List ℕ) → asks k l ≡ true → (i : ℕ) × (2 * i + 1 < length l) × (first_of l i ≡ k) × (second_of l i ≡ k)
unfolding asks
asked_pair k [] e = absurd (true≢false (sym e))
asked_pair k (a ∷ []) e = absurd (true≢false (sym e))
asked_pair k (a ∷ b ∷ l) e =
    by_bool (eqb a b && eqb a k)
    (λ u.
    let (x, y) = and_both (eqb a b) (eqb a k) u in
    (0, omega arith, eqb-true a k y, sym (eqb-true a b x) ∙ eqb-true a k y))
    (λ u.
    let (i, h, x, y) = asked_pair k l (rw u at e) in
    let f : 2 * suc i ≡ suc (suc (2 * i)) = omega arith in
    let g : suc (suc (2 * i)) + 1 ≡ suc (suc (2 * i + 1)) = omega arith in
    (suc i, omega arith, rw f x, rw (f, g) y))

pair_asked : (k : ℕ) (l : List ℕ) (i : ℕ) → 2 * i + 1 < length l → first_of l i ≡ k → second_of l i ≡ k → asks k l ≡ true
unfolding asks
pair_asked k [] i h x y = absurd (omega arith)
pair_asked k (a ∷ []) i h x y = absurd (omega arith)
pair_asked k (a ∷ b ∷ l) zero h x y = rw (eq-eqb a b (x ∙ sym y), eq-eqb a k x)
pair_asked k (a ∷ b ∷ l) (suc i) h x y =
    let f : 2 * suc i ≡ suc (suc (2 * i)) = omega arith in
    let g : suc (suc (2 * i)) + 1 ≡ suc (suc (2 * i + 1)) = omega arith in
    by_bool (eqb a b && eqb a k) (λ u. rw u) (λ u. rw u (pair_asked k l i (omega arith) (rw f at x) (rw (f, g) at y)))

pub list_starts : (l : List ℕ) (k : ℕ) → k < 16 → (mem k (starts_of 16 l) ≡ true) ↔ ((i : ℕ) × (2 * i + 1 < length l) × (first_of l i ≡ k) × (second_of l i ≡ k))
list_starts l k hk = (
  λ m. asked_pair k l ((starts_is 16 l).get k m),
  λ u. let (i, h, x, y) = u in (starts_is 16 l).put k hk (pair_asked k l i h x y),
)
