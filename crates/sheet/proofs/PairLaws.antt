-- The pair reader's turns: what `pairs` of the rules gives where two more bytes stand at place i of the part, and where fewer do.
-- Assumes nothing.
use Prim.Native.Nat.{ℕ, ◌+◌, ◌*◌, ◌<◌, ◌≤◌}
use native.Mathlib.Omega.{arith}
use native.Mathlib.Numerals.{add-one}
use mathlib.Core.Path.{◌≡◌, refl, sym, ap, ◌∙◌}
use mathlib.Core.Bool.{Bool, true, false, not, ◌||◌, cond}
use mathlib.Core.List.{List, [], ◌∷◌}
use lib.Dec.{leb}
use lib.ListN.{length, drop, length-drop}
use borrow.Author.Tests.{leb-false}
use Rattle.rules.specs.Outcome.{Outcome, refused, accepted, refuse}
use Rattle.rules.specs.Sheet.{above, link, pairs}
use Rattle.calls.specs.Refused.{Numbered}
use Rattle.sheet.specs.Answers.{Pairs, pair_number, pairs_answer}
use Rattle.sheet.proofs.RefusalLaws.{passes, stays}

-- ---- three tests in a row

abbrev number : Bool → Bool → Bool → ℕ
number x y z = cond x 6 (cond y 7 (cond z 8 0))

module _ {A : Type 0} (i : ℕ) (o : Outcome A) (x y z : Bool) where
  none : number x y z ≡ 0 → refuse x 6 i (refuse y 7 i (refuse z 8 i o)) ≡ o
  none = passes i x 6 (cond y 7 (cond z 8 0)) o _ (omega arith) (passes i y 7 (cond z 8 0) o _ (omega arith) (passes i z 8 0 o o (omega arith) (λ e. refl)))

  some : (number x y z ≡ 0 → ⊥) → refuse x 6 i (refuse y 7 i (refuse z 8 i o)) ≡ refused (number x y z) i
  some = stays i x 6 (cond y 7 (cond z 8 0)) _ (stays i y 7 (cond z 8 0) _ (stays i z 8 0 o (λ f. absurd (f refl))))

below : (n c d : ℕ) (y z : Bool) → number (leb n c || leb n d) y z ≡ 0 → (c < n) × (d < n)
below n c d y z e = go (leb n c) (leb n d) refl refl e
  where
    go : (p q : Bool) → leb n c ≡ p → leb n d ≡ q → number (p || q) y z ≡ 0 → (c < n) × (d < n)
    go true q u v w = absurd (omega arith)
    go false true u v w = absurd (omega arith)
    go false false u v w = (leb-false n c u, leb-false n d v)

-- ---- one pair

module _ (n a b c d : ℕ) where
  -- a pair that is not refused names boxes below n
  pub in_range : pair_number n a b c d ≡ 0 → (c < n) × (d < n)
  unfolding pair_number
  in_range e = below n c d (leb d c) (not (above a b c d)) e

-- ---- a turn of the reader: the pair (c, d) at place k, and the number r that it is refused with

module _ (n a b c d k r : ℕ) (left rest t : List ℕ) (e : left ≡ c ∷ d ∷ rest) (er : r ≡ pair_number n a b c d) where
  pub goes_on : r ≡ 0 → pairs n k a b left t ≡ pairs n (k + 1) c d rest (link c d t)
  unfolding pair_number pairs
  goes_on z = rw (e, add-one) (none k _ _ _ _ (sym er ∙ z))

  pub stops : (r ≡ 0 → ⊥) → pairs n k a b left t ≡ refused r k
  unfolding pair_number pairs
  stops f = rw (e, er) (some k _ _ _ _ (λ z. f (er ∙ z)))

-- fewer than two bytes: no pair is left
short : (n k a b : ℕ) (l t : List ℕ) → length l ≤ 1 → pairs n k a b l t ≡ accepted t
unfolding pairs
short n k a b [] t h = refl
short n k a b (c ∷ []) t h = refl
short n k a b (c ∷ d ∷ l) t h = absurd (omega arith)

pub ends : (n k a b : ℕ) (part t : List ℕ) → length part ≤ 2 * k + 1 → pairs n k a b (drop (2 * k) part) t ≡ accepted t
ends n k a b part t h = short n k a b (drop (2 * k) part) t (omega (arith, length-drop (2 * k) part))

-- ---- back from the reader's answer to the rules' outcome: no refusal has the number 0

module _ (q : Pairs) where
  pub was_accepted : (o : Outcome (List ℕ)) → Numbered o → q ≡ pairs_answer o → q.number ≡ 0 → o ≡ accepted q.table
  unfolding pairs_answer
  was_accepted (refused k p) m e z = let y : k ≡ 0 = sym (ap (λ (x : Pairs). x.number) e) ∙ z in absurd (omega (arith, m.0))
  was_accepted (accepted t) m e z = rw e

  pub was_refused : (o : Outcome (List ℕ)) → q ≡ pairs_answer o → (q.number ≡ 0 → ⊥) → (p : ℕ) × (o ≡ refused q.number p)
  unfolding pairs_answer
  was_refused (refused k p) e f = (p, rw e)
  was_refused (accepted t) e f = absurd (f (ap (λ (x : Pairs). x.number) e))
