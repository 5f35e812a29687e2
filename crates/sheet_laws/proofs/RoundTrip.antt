-- The round trip of document 01, "The link sheet", for any most number of boxes w: `reads_back`, `writes_back` and `pairs_alone`. Both directions go through
-- the rising list of a table's pairs. And that the end of a sheet is enough to read it: `last_enough`. Assumes nothing.
use Rattle.std.specs.Prelude.{ℕ, suc, ◌+◌, ◌-◌, ◌*◌, ◌≤◌, ◌<◌, ◌≡◌, refl, true, not, ◌||◌, List, [], ◌∷◌, ◌++◌, eqb, ltb, take, drop, replicate}
use Rattle.std.proofs.Common.{sym, ap, ◌∙◌, inl, inr, lt-ltb, le-ltb, eq-eqb, ne_eqb, length-append, length-drop, take-append-drop, get_or-append-add, drop-drop, drop-cons}
use native.Mathlib.Omega.{arith}
use Rattle.std.proofs.Math.Decide.{dec_le, dec_lt}
use Rattle.std.proofs.lemmas.Bool.{not-false}
use Rattle.std.proofs.Math.ListN.{length}
use Rattle.std.proofs.Math.Seq.{drop-append-add, take_at, drop-length}
use Rattle.rules.specs.Sets.{word}
use Rattle.rules.specs.Outcome.{accepted, refuse, and_then}
use Rattle.rules.specs.Sheet.{Sheet, read_sheet, pairs, pair_bytes, most_links, link_count, link_bytes, sheet_bytes, proper, write_sheet, ReadsBack, WritesBack, PairsAlone}
use Rattle.sheet_laws.specs.Conditions.{B, P, N, version}
use Rattle.sheet_laws.specs.Answers.{eqb_tests, ltb_tests, or_tests, above_zero}
use Rattle.sheet_laws.proofs.Proper.{proper_fine, fine_proper}
use Rattle.sheet_laws.specs.Rising.{rising_chain}
use Rattle.sheet_laws.proofs.Pairs.{Pair, pair, flat, flat_length, Up, pairs_read, refuse_accepted}
use Rattle.sheet_laws.proofs.Links.{made, made_length, made_fine}
use Rattle.sheet_laws.proofs.LinkPairs.{link_pairs, link_pairs_rise, link_pairs_bytes, link_pairs_count, link_count_most}
use Rattle.sheet_laws.proofs.Back.{pairs_below, table_back, list_back}
use Rattle.sheet_laws.proofs.Accepted.{accepted_same, Accepted, accepted_sheet}

-- ---- bytes in front

front_word : (front s : List ℕ) (k : ℕ) → k ≤ length s → word (front ++ s) (length (front ++ s) - k) ≡ word s (length s - k)
front_word front s k h =
    let e : length (front ++ s) - k ≡ length front + (length s - k) = omega (arith, length-append front s) in
    rw e (get_or-append-add front s (length s - k) 0)

front_pairs : (front s : List ℕ) (b : ℕ) → b ≤ length s → pair_bytes b (front ++ s) ≡ pair_bytes b s
unfolding pair_bytes
front_pairs front s b h =
    let e : length (front ++ s) - b ≡ length front + (length s - b) = omega (arith, length-append front s) in
    rw (e, drop-append-add front s (length s - b))

pub pairs_alone : (w : ℕ) → PairsAlone w
unfolding read_sheet
pairs_alone w front s long h =
    let k : length s ≤ length (front ++ s) = omega (arith, length-append front s) in
    rw (
      front_word front s 4 long,
      front_word front s 3 (omega arith),
      front_word front s 2 (omega arith),
      front_word front s 1 (omega arith),
      front_pairs front s (word s (length s - 4)) h,
      le-ltb (length (front ++ s)) 4 (omega arith),
      le-ltb (length s) 4 long,
      le-ltb (length (front ++ s)) (word s (length s - 4)) (omega arith),
      le-ltb (length s) (word s (length s - 4)) h,
    )

-- ---- the end of a sheet is enough

-- where B points further back than the most links do, P is above the most or B is not 4 + 2P: 5 is given at the latest, whatever stands in front
far_back : (w : ℕ) (front s : List ℕ) → 4 ≤ length s → 4 + 2 * most_links w < B s → read_sheet w (front ++ s) ≡ read_sheet w s
unfolding read_sheet refuse
far_back w front s long h =
    let k : 4 ≤ length (front ++ s) = omega (arith, length-append front s) in
    rw (
      front_word front s 4 long,
      front_word front s 3 (omega arith),
      front_word front s 2 (omega arith),
      front_word front s 1 (omega arith),
      le-ltb (length (front ++ s)) 4 k,
      le-ltb (length s) 4 long,
    )
    (elim (dec_lt (most_links w) (P s)) [ yes l ↦ rw (lt-ltb (most_links w) (P s) l) | no l ↦ rw (ne_eqb (B s) (4 + 2 * P s) (λ z. omega arith)) ])

-- "Of a longer input only the last 244 bytes need be kept, since B is never more": as many bytes as the most links take. The whole answer is the same, and
-- the place of a refusal too: of a pair it counts from the first pair, and of all else it is 0.
pub last_enough : (w n : ℕ) (s : List ℕ) → 4 + 2 * most_links w ≤ n → read_sheet w (drop (length s - n) s) ≡ read_sheet w s
last_enough w n s room =
    elim (dec_le (length s) n) [
      | yes short ↦ let z : length s - n ≡ 0 = omega arith in ap (λ (k : ℕ). read_sheet w (drop k s)) z
      | no long ↦
          let front : List ℕ = take (length s - n) s in
          let end : List ℕ = drop (length s - n) s in
          let l : length end ≡ n = omega (arith, length-drop (length s - n) s) in
          let same : read_sheet w (front ++ end) ≡ read_sheet w end =
          elim (dec_le (B end) (length end)) [
            | yes h ↦ pairs_alone w front end (omega arith) h
            | no h ↦ far_back w front end (omega arith) (omega arith)
          ]
          in
          sym same ∙ ap (read_sheet w) (take-append-drop (length s - n) s)
    ]

-- ---- a sheet that passes every test

pub passing : (w : ℕ) (s : List ℕ) (t : List ℕ) → 4 ≤ length s → version s ≡ 1 → 1 ≤ N s → N s ≤ w → P s ≤ most_links w → B s ≡ 4 + 2 * P s
    → B s ≤ length s → pairs (N s) 0 0 0 (pair_bytes (B s) s) (replicate w 0) ≡ accepted t
    → read_sheet w s ≡ accepted (record { boxes = N s; links = P s; table = t })
unfolding read_sheet refuse and_then
passing w s t long v one few most back inside e =
    rw (
      le-ltb (length s) 4 long,
      eq-eqb (version s) 1 v,
      ne_eqb (N s) 0 (λ z. omega arith),
      le-ltb w (N s) few,
      le-ltb (most_links w) (P s) most,
      eq-eqb (B s) (4 + 2 * P s) back,
      le-ltb (length s) (B s) inside,
      e,
    )

-- the trailer of a written sheet
module _ (l : List ℕ) (b p n v : ℕ) where
  abbrev trailed : List ℕ
  trailed = l ++ (b ∷ p ∷ n ∷ v ∷ [])

  trailed_length : length trailed ≡ length l + 4
  trailed_length = length-append l (b ∷ p ∷ n ∷ v ∷ [])

  trailed_word : (k : ℕ) → k < 4 → word trailed (length trailed - (4 - k)) ≡ word (b ∷ p ∷ n ∷ v ∷ []) k
  trailed_word k h =
      let e : length trailed - (4 - k) ≡ length l + k = omega (arith, trailed_length) in
      rw e (get_or-append-add l (b ∷ p ∷ n ∷ v ∷ []) k 0)

  trailed_part : (m : ℕ) → length l ≡ 2 * m → pair_bytes (4 + 2 * m) trailed ≡ l
  unfolding pair_bytes
  trailed_part m h =
      let e : length trailed - (4 + 2 * m) ≡ 0 = omega (arith, trailed_length) in
      let f : 4 + 2 * m - 4 ≡ 2 * m = omega arith in
      rw (e, f, take_at l (b ∷ p ∷ n ∷ v ∷ []) (2 * m) h)

-- a list of pairs behind which a right trailer stands is read as these pairs
written : (w n p : ℕ) (l : List Pair) (t : List ℕ) → 1 ≤ n → n ≤ w → p ≤ most_links w → length l ≡ p
    → pairs n 0 0 0 (flat l) (replicate w 0) ≡ accepted t
    → read_sheet w (trailed (flat l) (4 + 2 * p) p n 1) ≡ accepted (record { boxes = n; links = p; table = t })
written w n p l t one few most number e =
    rw (e_n, e_p) at
    (passing w s t (omega (arith, e_l)) e_v (rw e_n one) (rw e_n few) (rw e_p most) (rw (e_b, e_p) refl) (omega (arith, e_b, e_l, number, flat_length l))
    (rw (e_n, e_b, part) e))
  where
    s : List ℕ
    s = trailed (flat l) (4 + 2 * p) p n 1

    e_l : length s ≡ length (flat l) + 4
    e_l = trailed_length (flat l) (4 + 2 * p) p n 1

    e_b : B s ≡ 4 + 2 * p
    e_b = trailed_word (flat l) (4 + 2 * p) p n 1 0 (omega arith)

    e_p : P s ≡ p
    e_p = trailed_word (flat l) (4 + 2 * p) p n 1 1 (omega arith)

    e_n : N s ≡ n
    e_n = trailed_word (flat l) (4 + 2 * p) p n 1 2 (omega arith)

    e_v : version s ≡ 1
    e_v = trailed_word (flat l) (4 + 2 * p) p n 1 3 (omega arith)

    part : pair_bytes (4 + 2 * p) s ≡ flat l
    part = trailed_part (flat l) (4 + 2 * p) p n 1 p (omega (arith, number, flat_length l))

-- "Reading a written sheet gives the table back": of a table whose words are sets of w boxes
pub reads_back : (w : ℕ) → ReadsBack w
unfolding write_sheet sheet_bytes
reads_back w n t size bytes v e =
    let (f3, e3) = refuse_accepted (eqb n 0 || ltb w n) 3 0 _ e in
    let (f14, e14) = refuse_accepted (not (proper w n t)) 14 0 _ e3 in
    let (f15, e15) = refuse_accepted (ltb size (4 + 2 * link_count w t)) 15 0 _ e14 in
    let c3 = (or_tests (eqb n 0) (ltb w n) (eqb_tests n 0) (ltb_tests w n)).fails f3 in
    let (k, f) = proper_fine w n t v (not-false (proper w n t) f14) in
    let one : 1 ≤ n = elim (dec_le 1 n) [ yes x ↦ x | no x ↦ absurd (c3 (inl (omega arith))) ] in
    let few : n ≤ w = elim (dec_le n w) [ yes x ↦ x | no x ↦ absurd (c3 (inr (omega arith))) ] in
    let l = link_pairs w t in
    let b = pairs_below w n t f in
    rw (← accepted_same e15, ← link_pairs_bytes w t)
    (written w n (link_count w t) l t one few (link_count_most w t) (link_pairs_count w t)
    (pairs_read n 0 (pair 0 0) l (replicate w 0) (rising_chain Up (pair 0 0) l (λ p u. above_zero p.low p.high (b p u).0) (link_pairs_rise w t)) b
    ∙ ap accepted (table_back w n t few v k f)))

-- ---- the last B bytes of a sheet

trailer : (s : List ℕ) → 4 ≤ length s → drop (length s - 4) s ≡ B s ∷ P s ∷ N s ∷ version s ∷ []
trailer s h =
    let a : suc (length s - 4) ≡ length s - 3 = omega arith in
    let b : suc (length s - 3) ≡ length s - 2 = omega arith in
    let c : suc (length s - 2) ≡ length s - 1 = omega arith in
    let d : suc (length s - 1) ≡ length s = omega arith in
    rw (
      drop-cons s (length s - 4) 0 (omega arith),
      a,
      drop-cons s (length s - 3) 0 (omega arith),
      b,
      drop-cons s (length s - 2) 0 (omega arith),
      c,
      drop-cons s (length s - 1) 0 (omega arith),
      d,
      drop-length s,
    )

ends : (s : List ℕ) (b : ℕ) → 4 ≤ b → b ≤ length s → drop (length s - b) s ≡ pair_bytes b s ++ (B s ∷ P s ∷ N s ∷ version s ∷ [])
unfolding pair_bytes
ends s b h k =
    let e : length s - b + (b - 4) ≡ length s - 4 = omega arith in
    sym (take-append-drop (b - 4) (drop (length s - b) s))
    ∙ ap (λ (x : List ℕ). take (b - 4) (drop (length s - b) s) ++ x)
    (drop-drop (b - 4) (length s - b) s ∙ ap (λ (n : ℕ). drop n s) e ∙ trailer s (omega arith))

rewritten : (w : ℕ) (s : List ℕ) (r : Sheet) (size : ℕ) (a : Accepted w s r) → 4 + 2 * P s ≤ size
    → write_sheet w (N s) (made w a.list) size ≡ accepted (drop (length s - (4 + 2 * P s)) s)
unfolding write_sheet sheet_bytes refuse
rewritten w s r size a h =
    let l = a.list in
    let t = made w l in
    let k : link_pairs w t ≡ l = list_back w (N s) l a.few_boxes a.below a.rise in
    let c : link_count w t ≡ P s = sym (link_pairs_count w t) ∙ ap length k ∙ a.number in
    let y : link_bytes w t ≡ flat l = sym (link_pairs_bytes w t) ∙ ap flat k in
    let p : proper w (N s) t ≡ true =
    fine_proper w (N s) t (made_length w (N s) l a.few_boxes a.below) (made_fine w (N s) l a.few_boxes a.below)
    in
    rw (ne_eqb (N s) 0 (λ z. omega (arith, a.some_box)), le-ltb w (N s) a.few_boxes, p, c, le-ltb size (4 + 2 * P s) h, y)
    (ap accepted
    (sym (rw (← a.back) (ends s (B s) (omega (arith, a.back)) a.inside ∙ rw (a.bytes, a.first_version)))))

-- "Writing a read one gives its last B bytes"
pub writes_back : (w : ℕ) → WritesBack w
writes_back w s r size e h = back (accepted_sheet w s r e)
  where
    back : Accepted w s r → write_sheet w r.boxes r.table size ≡ accepted (drop (length s - (4 + 2 * r.links)) s)
    back a = let h' : 4 + 2 * P s ≤ size = rw a.answer at h in rw a.answer (rewritten w s r size a h')
