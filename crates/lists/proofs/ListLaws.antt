-- The steps of the list's check, and of the list that a start set becomes. Assumes nothing.
use Prim.Native.Nat.{ℕ, zero, suc, ◌+◌, ◌*◌, ◌%◌, ◌≤◌, ◌<◌}
use mathlib.Core.Path.{◌≡◌, refl, ap, ◌∙◌}
use mathlib.Core.List.{List, [], ◌∷◌, ◌++◌, append-nil}
use mathlib.Core.Logic.{◌≢◌}
use native.Mathlib.Omega.{arith}
use lib.ListN.{length, drop, length-drop, length-append}
use borrow.Author.Tests.{le-ltb, lt-ltb, eq-eqb, ne_eqb}
use Rattle.rules.specs.Sets.{mem, each, for_each}
use Rattle.sets.specs.Loops.{by_bool, for_each_keeps}
use Rattle.sets.specs.Members.{Lowest, turn_done}
use Rattle.lists.specs.Checks.{pair_number, pairs_number, list_number, start_pairs}

-- ---- the pairs from a place on

pub pairs_end : (n : ℕ) (t l : List ℕ) (i : ℕ) → length l ≤ i + 1 → pairs_number n t (drop i l) ≡ 0
unfolding pairs_number
pairs_end n t l i h = go (drop i l) (omega (arith, length-drop i l))
  where
    go : (k : List ℕ) → length k ≤ 1 → pairs_number n t k ≡ 0
    go [] e = refl
    go (x ∷ []) e = refl
    go (x ∷ y ∷ k) e = absurd (omega arith)

-- where the pair (a, b) comes next
module _ (n : ℕ) (t left rest : List ℕ) (a b : ℕ) (e : left ≡ a ∷ b ∷ rest) where
  pub pairs_more : 0 ≡ pair_number n t a b → pairs_number n t rest ≡ pairs_number n t left
  unfolding pairs_number
  pairs_more z = rw (e, ← z) refl

  pub pairs_refused : (k : ℕ) → k ≡ pair_number n t a b → k ≢ 0 → k ≡ pairs_number n t left
  unfolding pairs_number
  pairs_refused k q z = rw (e, ← q, ne_eqb k 0 z) refl

-- ---- the whole list

pub odd_list : (n : ℕ) (t l : List ℕ) → length l % 2 ≡ 1 → 9 ≡ list_number n t l
unfolding list_number
odd_list n t l e = rw (eq-eqb (length l % 2) 1 e) refl

pub long_list : (n : ℕ) (t l : List ℕ) → length l % 2 ≢ 1 → 60000 < length l → 9 ≡ list_number n t l
unfolding list_number
long_list n t l e h = rw (ne_eqb (length l % 2) 1 e, lt-ltb 60000 (length l) h) refl

pub fair_list : (n : ℕ) (t l : List ℕ) → length l % 2 ≢ 1 → length l ≤ 60000 → list_number n t l ≡ pairs_number n t l
unfolding list_number
fair_list n t l e h = rw (ne_eqb (length l % 2) 1 e, le-ltb 60000 (length l) h)

-- ---- a set of boxes to start

-- the pair that starts box i comes last
abbrev pub with_start : ℕ → List ℕ → List ℕ
with_start i l = l ++ (i ∷ i ∷ [])

pub starts_done : (n s : ℕ) → for_each s with_start n [] ≡ start_pairs n s
unfolding start_pairs each for_each
starts_done zero s = refl
starts_done (suc n) s =
    by_bool (mem n s)
    (λ m. rw m (ap (with_start n) (starts_done n s)))
    (λ m. rw (m, append-nil) (starts_done n s))

starts_short : (n s : ℕ) → length (start_pairs n s) ≤ 2 * n
unfolding start_pairs each
starts_short zero s = omega arith
starts_short (suc n) s =
    by_bool (mem n s)
    (λ m. rw m (omega (arith, starts_short n s, length-append (start_pairs n s) (n ∷ n ∷ []))))
    (λ m. rw (m, append-nil) (omega (arith, starts_short n s)))

-- while boxes are left to start, there is room for the next one's pair
pub starts_room : {s j t : ℕ} (starts : ℕ) (l : List ℕ) → Lowest s j t → for_each s with_start 16 l ≡ start_pairs 16 starts → length l + 2 ≤ 32
starts_room {s} {j} {t} starts l b e =
    omega (arith, starts_short 16 starts, ap length (turn_done b with_start l refl ∙ e), length-append l (j ∷ j ∷ []), grows)
  where
    grows : length (with_start j l) ≤ length (for_each t with_start 16 (with_start j l))
    grows = for_each_keeps t with_start (λ k x. length (with_start j l) ≤ length x) 16 (with_start j l) (omega arith) (λ k x h m y. omega (arith, y, length-append x (k ∷ k ∷ []))) (λ k x h m y. y)
