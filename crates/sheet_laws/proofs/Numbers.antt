-- The lines in plain words, and the numbers that the calls answer for 16 boxes: 0 exactly where no line applies, n exactly where the first that applies has
-- number n. Assumes nothing.
use Rattle.std.specs.Prelude.{ℕ, zero, suc, ◌≤◌, ◌≡◌, refl, List, [], ◌∷◌, ◌++◌, ◌↔◌, length}
use Rattle.std.proofs.Common.{sym, subst, inl, inr, ⊎_elim, arith, lit≤}
use Rattle.std.proofs.Math.Decide.{ℕ_discrete}
use Rattle.rules.specs.Outcome.{Outcome, refused, accepted}
use Rattle.rules.specs.Sheet.{Sheet, read_sheet, write_sheet, most_links}
use Rattle.rules.specs.Calls.{reading, read_answer, write_answer, allowance_answer, read_call, write_call, allowance_call, boxes_most}
use Rattle.sheet_laws.specs.Conditions.{Line, First, None, P, pair_lines, sheet_lines, read_lines, write_lines, Words}
use Rattle.sheet_laws.specs.Said.{Counted, FirstPair, lines_at}
use Rattle.sheet_laws.specs.Answers.{Answers, clash, first_append}
use Rattle.sheet_laws.proofs.Refusals.{read_sheet_answers, reading_answers, write_sheet_answers}

-- "P above 120"
pub most_links_lem : most_links boxes_most ≡ 120
most_links_lem = refl

-- ---- "pair by pair 6 to 8": at the first place where one of them applies, and there the first of them

at_place : (s : List ℕ) (i n p : ℕ) → First (lines_at s i) n p → p ≡ i
at_place s i n p =
    ⊎_elim (λ h. h.2)
    (λ h. ⊎_elim (λ k. k.2) (λ k. ⊎_elim (λ l. l.2) (λ l. absurd l.1) k.1) h.1)

pub first_pair : (s : List ℕ) (m i n p : ℕ) → First (pair_lines s i m) n p ↔ FirstPair s i m n p
first_pair s zero i n p = ((λ z. absurd z), λ f. omega (arith, f.from, f.until))
first_pair s (suc m) i n p = (
  (λ h.
      ⊎_elim
      (λ u.
      let e = at_place s i n p u in
      record {
        from = omega arith;
        until = omega arith;
        before = λ j a b. absurd (omega arith);
        there = subst (λ (x : ℕ). First (lines_at s x) n p) (sym e) u;
      })
      (λ u.
      let g = (first_pair s m (suc i) n p).0 u.1 in
      record {
        from = omega (arith, g.from);
        until = omega (arith, g.until);
        before = λ j a b.
            elim (ℕ_discrete j i) [
              | yes e ↦ subst (λ (x : ℕ). None (lines_at s x)) (sym e) u.0
              | no e ↦ g.before j (omega arith) b
            ];
        there = g.there;
      })
      ((first_append (lines_at s i) (pair_lines s (suc i) m) n p).0 h)),
  (λ f.
      (first_append (lines_at s i) (pair_lines s (suc i) m) n p).1
      (elim (ℕ_discrete p i) [
        | yes e ↦ inl (subst (λ (x : ℕ). First (lines_at s x) n p) e f.there)
        | no e ↦ inr (
          f.before i (omega arith) (omega (arith, f.from)),
          (first_pair s m (suc i) n p).1
              (record { from = omega (arith, f.from); until = omega (arith, f.until); before = λ j a b. f.before j (omega arith) b; there = f.there }),
        )
      ])),
)

-- ---- the number of an answer

abbrev pub number_of : {A : Type 0} → Outcome A → ℕ
number_of (refused n p) = n
number_of (accepted a) = 0

-- no line has number 0
abbrev pub Numbered : List Line → Type 0
Numbered [] = Unit {0}
Numbered (l ∷ ls) = (1 ≤ l.number) × Numbered ls

numbered_first : (ls : List Line) (n p : ℕ) → Numbered ls → First ls n p → 1 ≤ n
numbered_first [] n p h = λ z. absurd z
numbered_first (l ∷ ls) n p h = ⊎_elim (λ u. let (c, e, f) = u in omega (arith, h.0)) (λ u. numbered_first ls n p h.1 u.1)

pub counted : {A : Type 0} (o : Outcome A) (ls : List Line) → Numbered ls → Answers o ls → Counted (number_of o) ls
counted (refused m q) ls h a =
    let f = (a.refuses m q).0 refl in
    record {
      zero_none = ((λ e. absurd (omega (arith, numbered_first ls m q h f))), λ u. absurd (clash (a.accepts.1 u).1));
      first_number = λ n. ((λ e. (q, rw e at f)), λ u. let (p, g) = u in let k : refused m q ≡ refused (suc n) p = (a.refuses (suc n) p).1 g in (cc));
    }
counted (accepted r) ls h a = record {
  zero_none = ((λ e. a.accepts.0 (r, refl)), λ u. refl);
  first_number = λ n. ((λ e. absurd (omega arith)), λ u. absurd (clash (sym ((a.refuses (suc n) u.0).1 u.1))));
}

pairs_numbered : (s : List ℕ) (m i : ℕ) → Numbered (pair_lines s i m)
pairs_numbered s zero i = tt
pairs_numbered s (suc m) i = (lit≤ tt, (lit≤ tt, (lit≤ tt, pairs_numbered s m (suc i))))

pub numbered_append : (ls ms : List Line) → Numbered ls → Numbered ms → Numbered (ls ++ ms)
numbered_append [] ms h k = k
numbered_append (l ∷ ls) ms h k = (h.0, numbered_append ls ms h.1 k)

pub sheet_numbered : (w : ℕ) (s : List ℕ) → Numbered (sheet_lines w s)
sheet_numbered w s = (lit≤ tt, (lit≤ tt, (lit≤ tt, (lit≤ tt, (lit≤ tt, pairs_numbered s (P s) 0)))))

-- ---- the numbers of the calls, for 16 boxes

read_same : (table : List ℕ) (o : Outcome Sheet) → number_of o ≡ (read_answer table o).number
unfolding read_answer
read_same table (refused n p) = refl
read_same table (accepted r) = refl

pub read_number : (s table : List ℕ) → Counted (read_call s table).number (read_lines boxes_most s table)
unfolding read_call
read_number s table =
    rw (read_same table (reading boxes_most s table)) at
    (counted (reading boxes_most s table) (read_lines boxes_most s table) (numbered_append (sheet_lines boxes_most s) _ (sheet_numbered boxes_most s) (lit≤ tt, tt))
    (reading_answers boxes_most s table))

write_same : (buffer : List ℕ) (o : Outcome (List ℕ)) → number_of o ≡ (write_answer buffer o).number
unfolding write_answer
write_same buffer (refused n p) = refl
write_same buffer (accepted r) = refl

pub write_number : (n : ℕ) (t buffer : List ℕ) → Words boxes_most t → Counted (write_call n t buffer).number (write_lines boxes_most n t (length buffer))
unfolding write_call
write_number n t buffer v =
    rw (write_same buffer (write_sheet boxes_most n t (length buffer))) at
    (counted (write_sheet boxes_most n t (length buffer)) (write_lines boxes_most n t (length buffer)) (lit≤ tt, (lit≤ tt, (lit≤ tt, tt)))
    (write_sheet_answers boxes_most n t (length buffer) v))

allowance_same : (o : Outcome Sheet) → number_of o ≡ (allowance_answer o).number
unfolding allowance_answer
allowance_same (refused n p) = refl
allowance_same (accepted r) = refl

pub allowance_number : (s : List ℕ) → Counted (allowance_call s).number (sheet_lines boxes_most s)
unfolding allowance_call
allowance_number s =
    rw (allowance_same (read_sheet boxes_most s)) at
    (counted (read_sheet boxes_most s) (sheet_lines boxes_most s) (sheet_numbered boxes_most s) (read_sheet_answers s boxes_most))
