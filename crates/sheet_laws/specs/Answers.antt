-- An answer made of tests one after another is refused by the first line that applies, and accepted where none does: one law for a test put in front,
-- one for a second answer put behind. Assumes nothing.
use Rattle.std.specs.Prelude.{ℕ, zero, suc, ◌≤◌, ◌<◌, ◌≡◌, refl, Bool, true, false, not, ◌&&◌, ◌||◌, List, [], ◌∷◌, ◌++◌, ◌⊎◌, ◌↔◌, eqb, ltb, leb}
use Rattle.std.proofs.Common.{sym, true≢false, inl, inr, ⊎_elim, arith, ltb-true, ltb-false, leb-true, leb-false, eqb-true}
use Rattle.std.proofs.lemmas.Bool.{false≢true, eqb-false}
use Rattle.rules.specs.Sheet.{above}
use Rattle.rules.specs.Outcome.{Outcome, refused, accepted, refuse, and_then}
use Rattle.sheet_laws.specs.Conditions.{Line, line, First, None, Above}

-- ---- tests

-- the test is true where the condition holds, and false where it does not
pub record Tests (b : Bool) (C : Type 0) : Type 0 where
  pub holds : b ≡ true → C
  pub fails : b ≡ false → C → ⊥

pub test_true : {C : Type 0} (b : Bool) → Tests b C → C → b ≡ true
test_true true t c = refl
test_true false t c = absurd (t.fails refl c)

pub test_false : {C : Type 0} (b : Bool) → Tests b C → (C → ⊥) → b ≡ false
test_false true t c = absurd (c (t.holds refl))
test_false false t c = refl

pub ltb_tests : (a b : ℕ) → Tests (ltb a b) (a < b)
ltb_tests a b = record { holds = ltb-true a b; fails = λ e h. omega (arith, ltb-false a b e) }

pub leb_tests : (a b : ℕ) → Tests (leb a b) (a ≤ b)
leb_tests a b = record { holds = leb-true a b; fails = λ e h. omega (arith, leb-false a b e) }

pub eqb_tests : (a b : ℕ) → Tests (eqb a b) (a ≡ b)
eqb_tests a b = record { holds = eqb-true a b; fails = eqb-false a b }

pub not_tests : {C : Type 0} (b : Bool) → Tests b C → Tests (not b) (C → ⊥)
not_tests true t = record { holds = λ e. absurd (false≢true e); fails = λ e h. h (t.holds refl) }
not_tests false t = record { holds = λ e. t.fails refl; fails = λ e h. true≢false e }

pub or_tests : {C D : Type 0} (b d : Bool) → Tests b C → Tests d D → Tests (b || d) (C ⊎ D)
or_tests true d t u = record { holds = λ e. inl (t.holds refl); fails = λ e h. true≢false e }
or_tests false d t u = record { holds = λ e. inr (u.holds e); fails = λ e. ⊎_elim (t.fails refl) (u.fails e) }

pub and_tests : {C D : Type 0} (b d : Bool) → Tests b C → Tests d D → Tests (b && d) (C × D)
and_tests true d t u = record { holds = λ e. (t.holds refl, u.holds e); fails = λ e h. u.fails e h.1 }
and_tests false d t u = record { holds = λ e. absurd (false≢true e); fails = λ e h. t.fails refl h.0 }

-- ---- the tests of 7 and 8

-- "first not lower than second"
pub lower_tests : (c d : ℕ) → Tests (leb d c) (c < d → ⊥)
lower_tests c d = record { holds = λ e h. omega (arith, leb-true d c e); fails = λ e h. h (leb-false d c e) }

pub above_tests : (a b c d : ℕ) → Tests (above a b c d) (Above a b c d)
unfolding above
above_tests a b c d = or_tests (ltb a c) (eqb a c && ltb b d) (ltb_tests a c) (and_tests (eqb a c) (ltb b d) (eqb_tests a c) (ltb_tests b d))

pub above_zero : (c d : ℕ) → c < d → Above 0 0 c d
above_zero zero d h = inr (refl, h)
above_zero (suc c) d h = inl (omega arith)

-- ---- the answer's number is that of the first line that applies, and it is accepted where none does

pub record Answers {A : Type 0} (o : Outcome A) (ls : List Line) : Type 0 where
  pub refuses : (n p : ℕ) → (o ≡ refused n p) ↔ First ls n p
  pub accepts : ((a : A) × (o ≡ accepted a)) ↔ None ls

pub clash : {A : Type 0} {n p : ℕ} {a : A} → refused n p ≡ accepted a → ⊥
clash e = let z : ◌≡◌ {A = ℕ} 0 1 = cc in omega arith

pub accepted_answers : {A : Type 0} (a : A) → Answers (accepted a) []
accepted_answers a = record { refuses = λ n p. ((λ e. clash (sym e)), λ z. absurd z); accepts = ((λ e. tt), λ z. (a, refl)) }

-- a test put before an answer is a line put before its lines
pub refuse_answers : {A : Type 0} {C : Type 0} (b : Bool) (n p : ℕ) (o : Outcome A) (ls : List Line)
    → Tests b C → ((C → ⊥) → Answers o ls) → Answers (refuse b n p o) (line n p C ∷ ls)
unfolding refuse
refuse_answers true n p o ls t rest = record {
  refuses = λ m q.
      ((λ e. inl (t.holds refl, (cc), (cc))), ⊎_elim (λ u. let (c, e, f) = u in (cc)) (λ u. absurd (u.0 (t.holds refl))));
  accepts = ((λ e. absurd (clash e.1)), λ u. absurd (u.0 (t.holds refl)));
}
refuse_answers false n p o ls t rest = record {
  refuses = λ m q. (
    (λ e. inr (t.fails refl, ((rest (t.fails refl)).refuses m q).0 e)),
    ⊎_elim (λ u. absurd (t.fails refl u.0)) (λ u. ((rest u.0).refuses m q).1 u.1),
  );
  accepts = ((λ e. (t.fails refl, (rest (t.fails refl)).accepts.0 e)), λ u. (rest u.0).accepts.1 u.1);
}

-- ---- lines behind lines

pub none_append : (ls ms : List Line) → None (ls ++ ms) ↔ (None ls × None ms)
none_append [] ms = ((λ h. (tt, h)), λ h. h.1)
none_append (l ∷ ls) ms =
    let (f, g) = none_append ls ms in
    ((λ h. let (x, y) = f h.1 in ((h.0, x), y)), λ h. (h.0.0, g (h.0.1, h.1)))

pub first_append : (ls ms : List Line) (n p : ℕ) → First (ls ++ ms) n p ↔ (First ls n p ⊎ (None ls × First ms n p))
first_append [] ms n p = ((λ h. inr (tt, h)), ⊎_elim (λ z. absurd z) (λ h. h.1))
first_append (l ∷ ls) ms n p =
    let (f, g) = first_append ls ms n p in (
      ⊎_elim (λ h. inl (inl h)) (λ h. ⊎_elim (λ u. inl (inr (h.0, u))) (λ u. inr ((h.0, u.0), u.1)) (f h.1)),
      ⊎_elim (⊎_elim (λ h. inl h) (λ h. inr (h.0, g (inl h.1)))) (λ h. inr (h.0.0, g (inr (h.0.1, h.1)))),
    )

-- an answer that goes on from an accepted one
pub then_answers : {A B : Type 0} (o : Outcome A) (f : A → Outcome B) (ls ms : List Line)
    → Answers o ls → ((a : A) → o ≡ accepted a → Answers (f a) ms) → Answers (and_then o f) (ls ++ ms)
unfolding and_then
then_answers (refused m q) f ls ms h rest = record {
  refuses = λ n p. (
    (λ e. (first_append ls ms n p).1 (inl ((h.refuses n p).0 (cc)))),
    λ u. ⊎_elim (λ v. let e : refused m q ≡ refused n p = (h.refuses n p).1 v in (cc)) (λ v. absurd (stays v.0)) ((first_append ls ms n p).0 u),
  );
  accepts = ((λ e. absurd (clash e.1)), λ u. absurd (stays ((none_append ls ms).0 u).0));
}
  where
    stays : None ls → ⊥
    stays u = clash (h.accepts.1 u).1
then_answers (accepted a) f ls ms h rest = record {
  refuses = λ n p. (
    (λ e. (first_append ls ms n p).1 (inr (all, ((rest a refl).refuses n p).0 e))),
    λ u. ⊎_elim (λ v. absurd (clash (sym ((h.refuses n p).1 v)))) (λ v. ((rest a refl).refuses n p).1 v.1) ((first_append ls ms n p).0 u),
  );
  accepts = ((λ e. (none_append ls ms).1 (all, (rest a refl).accepts.0 e)), λ u. (rest a refl).accepts.1 ((none_append ls ms).0 u).1);
}
  where
    all : None ls
    all = h.accepts.0 (a, refl)

-- an accepted answer put in another form
pub form_answers : {A B : Type 0} (o : Outcome A) (f : A → B) (ls : List Line) → Answers o ls → Answers (and_then o (λ a. accepted (f a))) ls
unfolding and_then
form_answers (refused m q) f ls h = record {
  refuses = λ n p. ((λ e. (h.refuses n p).0 (cc)), λ u. let e : refused m q ≡ refused n p = (h.refuses n p).1 u in (cc));
  accepts = ((λ e. absurd (clash e.1)), λ u. absurd (clash (h.accepts.1 u).1));
}
form_answers (accepted a) f ls h = record {
  refuses = λ n p. ((λ e. absurd (clash (sym e))), λ u. absurd (clash (sym ((h.refuses n p).1 u))));
  accepts = ((λ e. h.accepts.0 (a, refl)), λ u. (f a, refl));
}
