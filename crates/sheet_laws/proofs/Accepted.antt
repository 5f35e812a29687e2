-- What an accepted sheet is: rising pairs of boxes below N behind a right trailer, and the table that has exactly these links. Assumes nothing.
use Rattle.std.specs.Prelude.{ℕ, ◌+◌, ◌*◌, ◌≤◌, ◌≡◌, refl, List, length, replicate}
use Rattle.std.proofs.Common.{sym, ap, ◌∙◌, true≢false, inl, inr, arith, length-take, length-drop, pow_pos}
use Rattle.std.proofs.Math.Decide.{dec_le, ℕ_discrete}
use Rattle.rules.specs.Sets.{word}
use Rattle.rules.specs.Outcome.{Outcome, refused, accepted, and_then}
use Rattle.rules.specs.Sheet.{Sheet, read_sheet, pairs, pair_bytes, most_links}
use Rattle.sets.specs.Mem.{mem_empty, set_ext}
use Rattle.sheet_laws.specs.Conditions.{B, P, N, version}
use Rattle.sheet_laws.specs.Said.{Told}
use Rattle.sheet_laws.specs.Answers.{clash}
use Rattle.sheet_laws.proofs.Refusals.{whole, read_sheet_answers}
use Rattle.sheet_laws.specs.Rising.{In, Rising, chain_rising}
use Rattle.sheet_laws.proofs.Pairs.{Pair, pair, flat, flat_length, Up, up_trans, Below, evens, pairs_accepted, refuse_accepted}
use Rattle.sheet_laws.proofs.Links.{made, made_table, made_fine}
use Rattle.sheet_laws.proofs.LinkPairs.{link_pairs_count}
use Rattle.sheet_laws.proofs.Back.{list_back}

-- what a step after another accepts, the other accepted first
pub then_accepted : {A B : Type 0} {b : B} (o : Outcome A) (f : A → Outcome B) → and_then o f ≡ accepted b → (a : A) × (o ≡ accepted a) × (f a ≡ accepted b)
unfolding and_then
then_accepted (refused n p) f e = absurd (clash e)
then_accepted (accepted a) f e = (a, refl, e)

pub record Accepted (w : ℕ) (s : List ℕ) (r : Sheet) : Type 0 where
  pub long : 4 ≤ length s
  pub first_version : version s ≡ 1
  pub some_box : 1 ≤ N s
  pub few_boxes : N s ≤ w
  pub few_links : P s ≤ most_links w
  pub back : B s ≡ 4 + 2 * P s
  pub inside : B s ≤ length s
  pub list : List Pair
  pub bytes : pair_bytes (B s) s ≡ flat list
  pub rise : Rising Up list
  pub below : (p : Pair) → In p list → Below (N s) p
  pub number : length list ≡ P s
  pub answer : r ≡ record { boxes = N s; links = P s; table = made w list }

pub accepted_same : {A : Type 0} {a b : A} → accepted a ≡ accepted b → a ≡ b
accepted_same e = cc

-- the tests passed, and the pairs read
passed : (w : ℕ) (s : List ℕ) (r : Sheet) → read_sheet w s ≡ accepted r
    → (t : List ℕ) × (pairs (N s) 0 0 0 (pair_bytes (B s) s) (replicate w 0) ≡ accepted t) × (r ≡ record { boxes = N s; links = P s; table = t })
unfolding read_sheet
passed w s r e =
    let (f1, e1) = refuse_accepted _ 1 0 _ e in
    let (f2, e2) = refuse_accepted _ 2 0 _ e1 in
    let (f3, e3) = refuse_accepted _ 3 0 _ e2 in
    let (f4, e4) = refuse_accepted _ 4 0 _ e3 in
    let (f5, e5) = refuse_accepted _ 5 0 _ e4 in
    let (t, g, h) = then_accepted _ _ e5 in
    (t, g, sym (accepted_same h))

pair_bytes_length : (s : List ℕ) (p : ℕ) → B s ≡ 4 + 2 * p → B s ≤ length s → length (pair_bytes (B s) s) ≡ 2 * p
unfolding pair_bytes
pair_bytes_length s p e h = simp (length-take, length-drop) (omega arith)

pub accepted_sheet : (w : ℕ) (s : List ℕ) (r : Sheet) → read_sheet w s ≡ accepted r → Accepted w s r
accepted_sheet w s r e =
    let a = (read_sheet_answers s w).accepts.0 (r, e) in
    let c1 = a.0 in
    let c2 = a.1.0 in
    let c3 = a.1.1.0 in
    let c4 = a.1.1.1.0 in
    let c5 = a.1.1.1.1.0 in
    let (b, i) = whole s c5 in
    let (t, g, h) = passed w s r e in
    let (l, k) = evens (P s) (pair_bytes (B s) s) (pair_bytes_length s (P s) b i) in
    let (c, o, m) = pairs_accepted (N s) 0 (pair 0 0) l (replicate w 0) t (rw k at g) in
    record {
      long = omega arith;
      first_version = elim (ℕ_discrete (version s) 1) [ yes x ↦ x | no x ↦ absurd (c2 x) ];
      some_box = elim (dec_le 1 (N s)) [ yes x ↦ x | no x ↦ absurd (c3 (inl (omega arith))) ];
      few_boxes = elim (dec_le (N s) w) [ yes x ↦ x | no x ↦ absurd (c3 (inr (omega arith))) ];
      few_links = omega arith;
      back = b;
      inside = i;
      list = l;
      bytes = k;
      rise = chain_rising Up up_trans (pair 0 0) l c;
      below = o;
      number = omega (arith, ap length k, flat_length l, pair_bytes_length s (P s) b i);
      answer = h ∙ ap (λ (x : List ℕ). record { boxes = N s; links = P s; table = x }) m;
    }

-- ---- its table, in plain words

told : (w : ℕ) (s : List ℕ) (r : Sheet) → Accepted w s r → Told w r
told w s r a =
    let l = a.list in
    let t = made_table w (N s) l a.few_boxes a.below in
    let f = made_fine w (N s) l a.few_boxes a.below in
    rw a.answer
    (record {
      some_box = a.some_box;
      few_boxes = a.few_boxes;
      few_links = a.few_links;
      table_good = t;
      empty_past = λ i h.
          set_ext w (word (made w l) i) 0 (t.small i) (pow_pos w)
          (λ k q m. absurd (omega (arith, (f i k m).low)))
          (λ k q m. absurd (true≢false (sym m ∙ mem_empty k)));
      names_below = λ i j k. (f i j k).high;
      links_all =
          sym (link_pairs_count w (made w l))
          ∙ ap length (list_back w (N s) l a.few_boxes a.below a.rise)
          ∙ a.number;
    })

pub accepted_told : (w : ℕ) (s : List ℕ) (r : Sheet) → read_sheet w s ≡ accepted r → Told w r
accepted_told w s r e = told w s r (accepted_sheet w s r e)
