-- The list's check as one number is the check of the rules, and a start set run as a list starts each of its boxes. Assumes nothing.
use Prim.Native.Nat.{ℕ, zero, suc, ◌*◌, ◌%◌, ◌≤◌, ◌<◌}
use mathlib.Core.Path.{◌≡◌, refl, sym, ap, ◌∙◌, subst}
use mathlib.Core.Bool.{Bool, true, false, not, ◌&&◌, ◌||◌, cond}
use mathlib.Core.List.{List, [], ◌∷◌, ◌++◌}
use mathlib.Core.Logic.{◌⊎◌, inl, inr, ⊎_elim, ◌≢◌}
use native.Mathlib.Omega.{arith}
use lib.Dec.{eqb, ltb, leb}
use lib.ListN.{length, length-append}
use borrow.Author.Tests.{leb-false, ltb-false, eqb-true, eq-eqb, ne_eqb, eqb-false}
use Rattle.rules.specs.Sets.{mem, word, each, for_each}
use Rattle.rules.specs.Outcome.{Outcome, refused, refuse}
use Rattle.rules.specs.Hub.{Hub, start, act, run}
use Rattle.rules.specs.Calls.{check_pairs, longest_list}
use Rattle.sets.specs.Loops.{by_bool}
use Rattle.order.specs.Terms.{Names}
use Rattle.lists.specs.Checks.{pair_number, pairs_number, list_number, start_pairs}

-- ---- the list's pairs

pair_cases : (n : ℕ) (t : List ℕ) (a b : ℕ) → pair_number n t a b ≡ 0 → (a < n) × (b < n) × ((a ≡ b) ⊎ (mem b (word t a) ≡ true))
unfolding pair_number
pair_cases n t a b e =
    by_bool (leb n a)
    (λ u. absurd (ten (rw u at e)))
    (λ u. by_bool (leb n b)
    (λ v. absurd (ten (rw (u, v) at e)))
    (λ v. (leb-false n a u, leb-false n b v, by_bool (eqb a b) (λ w. inl (eqb-true a b w)) (λ w. by_bool (mem b (word t a)) (λ y. inr y) (λ y. absurd (eleven (rw (u, v, w, y) at e)))))))
  where
    ten : ◌≡◌ {A = ℕ} 10 0 → ⊥
    ten x = omega arith

    eleven : ◌≡◌ {A = ℕ} 11 0 → ⊥
    eleven x = omega arith

pairs_cons : (n : ℕ) (t : List ℕ) (a b : ℕ) (l : List ℕ) → pairs_number n t (a ∷ b ∷ l) ≡ cond (eqb (pair_number n t a b) 0) (pairs_number n t l) (pair_number n t a b)
unfolding pairs_number
pairs_cons n t a b l = refl

-- a list with nothing to refuse names what it should
pairs_name : (n w : ℕ) (t l : List ℕ) → n ≤ w → pairs_number n t l ≡ 0 → Names w t l
pairs_name n w t [] h e = tt
pairs_name n w t (a ∷ []) h e = tt
pairs_name n w t (a ∷ b ∷ l) h e =
    by_bool (eqb (pair_number n t a b) 0)
    (λ z.
    let (x, y, v) = pair_cases n t a b (eqb-true _ 0 z) in
    ((omega arith, omega arith), v, pairs_name n w t l h (sym (pairs_cons n t a b l ∙ ap (λ (c : Bool). cond c (pairs_number n t l) (pair_number n t a b)) z) ∙ e)))
    (λ z. absurd (eqb-false _ 0 z (sym (pairs_cons n t a b l ∙ ap (λ (c : Bool). cond c (pairs_number n t l) (pair_number n t a b)) z) ∙ e)))

-- one pair in the rules' words
check_pair : {A : Type 0} (n : ℕ) (t : List ℕ) (i a b : ℕ) (o : Outcome A)
    → ((pair_number n t a b ≡ 0) × (refuse (leb n a || leb n b) 10 i (refuse (not (eqb a b) && not (mem b (word t a))) 11 i o) ≡ o))
    ⊎ ((pair_number n t a b ≢ 0) × (refuse (leb n a || leb n b) 10 i (refuse (not (eqb a b) && not (mem b (word t a))) 11 i o) ≡ refused (pair_number n t a b) i))
unfolding pair_number refuse
check_pair n t i a b o =
    by_bool (leb n a || leb n b)
    (λ u. inr (rw u (omega arith, refl)))
    (λ u. by_bool (not (eqb a b) && not (mem b (word t a)))
    (λ v. inr (rw (u, v) (omega arith, refl)))
    (λ v. inl (rw (u, v) (refl, refl))))

checks : {A : Type 0} (n : ℕ) (t : List ℕ) (i : ℕ) (l : List ℕ) (o : Outcome A)
    → ((pairs_number n t l ≡ 0) × (check_pairs n t i l o ≡ o)) ⊎ ((pairs_number n t l ≢ 0) × ((p : ℕ) × (check_pairs n t i l o ≡ refused (pairs_number n t l) p)))
unfolding check_pairs pairs_number
checks n t i [] o = inl (refl, refl)
checks n t i (a ∷ []) o = inl (refl, refl)
checks n t i (a ∷ b ∷ l) o =
    ⊎_elim
    (λ x.
    let c : pairs_number n t (a ∷ b ∷ l) ≡ pairs_number n t l = pairs_cons n t a b l ∙ ap (λ (y : Bool). cond y (pairs_number n t l) (pair_number n t a b)) (eq-eqb _ 0 x.0) in
    ⊎_elim
    (λ y. inl (c ∙ y.0, x.1 ∙ y.1))
    (λ y. inr ((λ z. y.0 (sym c ∙ z)), (y.1.0, x.1 ∙ y.1.1 ∙ ap (λ (k : ℕ). refused k y.1.0) (sym c))))
    (checks n t (suc i) l o))
    (λ x.
    let c : pairs_number n t (a ∷ b ∷ l) ≡ pair_number n t a b = pairs_cons n t a b l ∙ ap (λ (y : Bool). cond y (pairs_number n t l) (pair_number n t a b)) (ne_eqb _ 0 x.0) in
    inr ((λ z. x.0 (sym c ∙ z)), (i, x.1 ∙ ap (λ (k : ℕ). refused k i) (sym c))))
    (check_pair n t i a b (check_pairs n t (suc i) l o))

-- ---- the whole list

-- the check as one number is the check of the rules
pub list_facts : {A : Type 0} (n : ℕ) (t list : List ℕ) (o : Outcome A)
    → ((list_number n t list ≡ 0) × (refuse (eqb (length list % 2) 1 || ltb longest_list (length list)) 9 0 (check_pairs n t 0 list o) ≡ o))
    ⊎ ((list_number n t list ≢ 0) × ((q : ℕ) × (refuse (eqb (length list % 2) 1 || ltb longest_list (length list)) 9 0 (check_pairs n t 0 list o) ≡ refused (list_number n t list) q)))
unfolding list_number refuse
list_facts n t list o =
    by_bool (eqb (length list % 2) 1 || ltb longest_list (length list))
    (λ u. inr (rw u (omega arith, (0, refl))))
    (λ u. rw u (checks n t 0 list o))

nine : ◌≡◌ {A = ℕ} 9 0 → ⊥
nine x = omega arith

pub list_names : (n w : ℕ) (t list : List ℕ) → n ≤ w → list_number n t list ≡ 0 → Names w t list
unfolding list_number
list_names n w t list h e =
    by_bool (eqb (length list % 2) 1 || ltb longest_list (length list))
    (λ u. absurd (nine (rw u at e)))
    (λ u. pairs_name n w t list h (rw u at e))

pub list_short : (n : ℕ) (t list : List ℕ) → list_number n t list ≡ 0 → length list ≤ 60000
unfolding list_number
list_short n t list e =
    by_bool (eqb (length list % 2) 1)
    (λ u. absurd (nine (rw u at e)))
    (λ u. by_bool (ltb longest_list (length list)) (λ v. absurd (nine (rw (u, v) at e))) (λ v. ltb-false longest_list (length list) v))

-- ---- a set of boxes to start

-- running them is starting each
run_append : (n : ℕ) (w room : ℕ) (t l k : List ℕ) (h : Hub) → length l ≡ 2 * n → run w room t (l ++ k) h ≡ run w room t k (run w room t l h)
unfolding run
run_append n w room t [] k h e = refl
run_append n w room t (a ∷ []) k h e = absurd (omega arith)
run_append zero w room t (a ∷ b ∷ l) k h e = absurd (omega arith)
run_append (suc n) w room t (a ∷ b ∷ l) k h e = run_append n w room t l k (act w room t a b h) (omega arith)

starts_even : (s i : ℕ) → (n : ℕ) × (length (start_pairs i s) ≡ 2 * n)
unfolding start_pairs each
starts_even s zero = (0, refl)
starts_even s (suc i) =
    let (n, e) = starts_even s i in
    by_bool (mem i s)
    (λ m. (suc n, rw m (length-append (start_pairs i s) (i ∷ i ∷ []) ∙ omega arith)))
    (λ m. (n, rw m (length-append (start_pairs i s) [] ∙ omega arith)))

pub starts_run : (w room : ℕ) (t : List ℕ) (s i : ℕ) (h : Hub) → run w room t (start_pairs i s) h ≡ for_each s (start w room t) i h
unfolding start_pairs each for_each run act
starts_run w room t s zero h = refl
starts_run w room t s (suc i) h =
    let (n, e) = starts_even s i in
    run_append n w room t (start_pairs i s) (cond (mem i s) (i ∷ i ∷ []) []) h e
    ∙ ap (run w room t (cond (mem i s) (i ∷ i ∷ []) [])) (starts_run w room t s i h)
    ∙ by_bool (mem i s) (λ m. rw (m, eq-eqb i i refl)) (λ m. rw m)

names_append : (n w : ℕ) (t l k : List ℕ) → length l ≡ 2 * n → Names w t l → Names w t k → Names w t (l ++ k)
names_append n w t [] k e x y = y
names_append n w t (a ∷ []) k e x y = absurd (omega arith)
names_append zero w t (a ∷ b ∷ l) k e x y = absurd (omega arith)
names_append (suc n) w t (a ∷ b ∷ l) k e x y = (x.0, x.1, names_append n w t l k (omega arith) x.2 y)

starts_names : (w : ℕ) (t : List ℕ) (s i : ℕ) → i ≤ w → Names w t (start_pairs i s)
unfolding start_pairs each
starts_names w t s zero h = tt
starts_names w t s (suc i) h =
    let (n, e) = starts_even s i in
    names_append n w t (start_pairs i s) (cond (mem i s) (i ∷ i ∷ []) []) e (starts_names w t s i (omega arith)) (one (mem i s))
  where
    one : (b : Bool) → Names w t (cond b (i ∷ i ∷ []) [])
    one true = ((omega arith, omega arith), inl refl, tt)
    one false = tt

pub starts_facts : (t : List ℕ) (starts : ℕ) (list : List ℕ) → list ≡ start_pairs 16 starts → Names 16 t list
starts_facts t starts list e = subst (Names 16 t) (sym e) (starts_names 16 t starts 16 (omega arith))
