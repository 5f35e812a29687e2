-- Laws that docs/PORT.md names. Assumes nothing.
use Prim.Native.Nat.{ℕ, suc, ◌+◌, ◌≤◌, ◌<◌}
use mathlib.Core.Path.{◌≡◌, sym, ap, ◌∙◌}
use mathlib.Core.Bool.{Bool, true, false, cond}
use mathlib.Core.List.{List, [], ◌∷◌, ◌++◌, append_assoc, append-nil}
use mathlib.Core.Logic.{◌≢◌}
use native.Mathlib.Omega.{arith}
use lib.ListN.{length, take, set, length-set}
use lib.Seq.{take-suc-set}
use borrow.Author.Tests.{le-leb, lt-leb, eq-eqb, ne_eqb}
use Rattle.rules.specs.Sets.{mem, word}
use Rattle.lists.specs.Checks.{pair_number}

-- ---- one pair

module _ (n : ℕ) (t : List ℕ) (a b : ℕ) where
  pub high_first : n ≤ a → 10 ≡ pair_number n t a b
  unfolding pair_number
  high_first l = rw (le-leb n a l)

  pub high_second : a < n → n ≤ b → 10 ≡ pair_number n t a b
  unfolding pair_number
  high_second k l = rw (lt-leb n a k, le-leb n b l)

  pub a_start : a < n → b < n → a ≡ b → 0 ≡ pair_number n t a b
  unfolding pair_number
  a_start k l e = rw (lt-leb n a k, lt-leb n b l, eq-eqb a b e)

  pub a_link : a < n → b < n → a ≢ b → mem b (word t a) ≡ true → 0 ≡ pair_number n t a b
  unfolding pair_number
  a_link k l e v = rw (lt-leb n a k, lt-leb n b l, ne_eqb a b e, v)

  pub no_link : a < n → b < n → a ≢ b → mem b (word t a) ≡ false → 11 ≡ pair_number n t a b
  unfolding pair_number
  no_link k l e v = rw (lt-leb n a k, lt-leb n b l, ne_eqb a b e, v)

-- ---- a set of boxes to start

pub two_more : (p : List ℕ) (at x y : ℕ) → at + 1 < length p → take (at + 2) (set (set p at x) (at + 1) y) ≡ take at p ++ (x ∷ y ∷ [])
two_more p at x y h =
    let two : at + 2 ≡ suc (at + 1) = omega arith in
    let one : at + 1 ≡ suc at = omega arith in
    ap (λ (n : ℕ). take n (set (set p at x) (at + 1) y)) two
    ∙ take-suc-set (set p at x) (at + 1) y (omega (arith, length-set p at x))
    ∙ ap (λ (l : List ℕ). l ++ (y ∷ [])) (ap (λ (n : ℕ). take n (set p at x)) one ∙ take-suc-set p at x (omega arith))
    ∙ append_assoc (take at p) (x ∷ []) (y ∷ [])

pub starts_yes : (s i at : ℕ) (p : List ℕ) → mem i s ≡ true → at + 1 < length p → take (at + 2) (set (set p at i) (at + 1) i) ≡ take at p ++ cond (mem i s) (i ∷ i ∷ []) []
starts_yes s i at p m h = two_more p at i i h ∙ ap (λ (b : Bool). take at p ++ cond b (i ∷ i ∷ []) []) (sym m)

pub starts_no : (s i : ℕ) (l : List ℕ) → mem i s ≡ false → l ≡ l ++ cond (mem i s) (i ∷ i ∷ []) []
starts_no s i l m = sym (append-nil l) ∙ ap (λ (b : Bool). l ++ cond b (i ∷ i ∷ []) []) (sym m)
