-- The refusal's number and place are those of the first line that applies, and it is accepted where none does: `read_sheet_answers` (1 to 8),
-- `reading_answers` (12 after them), `write_sheet_answers` (3, 14, 15), for any most number of boxes w. Assumes nothing.
use Prim.Native.Nat.{ℕ, zero, suc, ◌+◌, ◌-◌, ◌*◌, ◌≤◌}
use Rattle.std.specs.Prelude.{◌≡◌, not, List, ◌∷◌, take, drop, replicate}
use Rattle.std.proofs.Common.{inl, inr, drop-cons}
use native.Mathlib.Omega.{arith}
use Rattle.std.proofs.Math.Decide.{dec_le, ℕ_discrete}
use Rattle.std.proofs.Math.ListN.{length}
use Rattle.rules.specs.Sets.{word}
use Rattle.rules.specs.Sheet.{read_sheet, pairs, pair_bytes, above, link, most_links, link_count, sheet_bytes, write_sheet}
use Rattle.rules.specs.Calls.{reading}
use Rattle.sheet_laws.specs.Conditions.{Words, B, P, N, version, first, second, Cond5, Cond7, Cond8, pair_lines, sheet_lines, read_lines, write_lines}
use Rattle.sheet_laws.proofs.Proper.{proper_tests}
use Rattle.sheet_laws.specs.Answers.{Tests, ltb_tests, leb_tests, eqb_tests, not_tests, or_tests, lower_tests, above_tests, above_zero, Answers, accepted_answers, refuse_answers, then_answers, form_answers}

-- ---- the pairs

-- 2 * suc m bytes from k on are two bytes and 2 * m bytes
pub two_more : (s : List ℕ) (k m : ℕ) → k + 2 ≤ length s → take (2 * suc m) (drop k s) ≡ word s k ∷ word s (k + 1) ∷ take (2 * m) (drop (k + 2) s)
two_more s k m h =
    let e : 2 * suc m ≡ suc (suc (2 * m)) = omega arith in
    let f : k + 1 ≡ suc k = omega arith in
    let g : k + 2 ≡ suc (suc k) = omega arith in
    rw (e, f, g, drop-cons s k 0 (omega arith), drop-cons s (suc k) 0 (omega arith))

-- the pair before pair i; (0, 0) before the first
abbrev first_before : List ℕ → ℕ → ℕ
first_before s zero = 0
first_before s (suc i) = first s i

abbrev second_before : List ℕ → ℕ → ℕ
second_before s zero = 0
second_before s (suc i) = second s i

-- where 7 does not apply, every pair is above (0, 0)
rising_tests : (s : List ℕ) (i : ℕ) → (Cond7 s i → ⊥) → Tests (not (above (first_before s i) (second_before s i) (first s i) (second s i))) (Cond8 s i)
rising_tests s zero h = record {
  holds = λ e. h (λ l. (not_tests _ (above_tests 0 0 (first s 0) (second s 0))).holds e (above_zero (first s 0) (second s 0) l));
  fails = λ e z. z;
}
rising_tests s (suc i) h = not_tests _ (above_tests (first s i) (second s i) (first s (suc i)) (second s (suc i)))

module _ (s : List ℕ) where
  -- the pairs from place i on, m of them
  abbrev part : ℕ → ℕ → List ℕ
  part i m = take (2 * m) (drop (length s - B s + 2 * i) s)

  pairs_answers : (m i : ℕ) (t : List ℕ) → length s - B s + 2 * (i + m) ≤ length s
      → Answers (pairs (N s) i (first_before s i) (second_before s i) (part i m) t) (pair_lines s i m)
  unfolding pairs
  pairs_answers zero i t h = accepted_answers t
  pairs_answers (suc m) i t h =
      let k : length s - B s + 2 * i + 2 ≡ length s - B s + 2 * suc i = omega arith in
      rw (two_more s (length s - B s + 2 * i) m (omega arith), k)
      (refuse_answers _ 6 i _ _ (or_tests _ _ (leb_tests (N s) (first s i)) (leb_tests (N s) (second s i))) (λ c6.
      refuse_answers _ 7 i _ _ (lower_tests (first s i) (second s i)) (λ c7.
      refuse_answers _ 8 i _ _ (rising_tests s i c7) (λ c8.
      pairs_answers m (suc i) (link (first s i) (second s i) t) (omega arith)))))

  -- where 5 does not apply
  pub whole : (Cond5 s → ⊥) → (B s ≡ 4 + 2 * P s) × (B s ≤ length s)
  whole c5 = (
    elim (ℕ_discrete (B s) (4 + 2 * P s)) [ yes e ↦ e | no e ↦ absurd (c5 (inl e)) ],
    elim (dec_le (B s) (length s)) [ yes h ↦ h | no h ↦ absurd (c5 (inr (omega arith))) ],
  )

  pair_bytes_part : B s ≡ 4 + 2 * P s → pair_bytes (B s) s ≡ part 0 (P s)
  unfolding pair_bytes
  pair_bytes_part h =
      let e : B s - 4 ≡ 2 * P s = omega arith in
      let f : length s - B s + 2 * 0 ≡ length s - B s = omega arith in
      rw (e, f)

  -- reading a sheet gives the number of the first line that applies, and accepts where none does
  pub read_sheet_answers : (w : ℕ) → Answers (read_sheet w s) (sheet_lines w s)
  unfolding read_sheet
  read_sheet_answers w =
      refuse_answers _ 1 0 _ _ (ltb_tests (length s) 4) (λ c1.
      refuse_answers _ 2 0 _ _ (not_tests _ (eqb_tests (version s) 1)) (λ c2.
      refuse_answers _ 3 0 _ _ (or_tests _ _ (eqb_tests (N s) 0) (ltb_tests w (N s))) (λ c3.
      refuse_answers _ 4 0 _ _ (ltb_tests (most_links w) (P s)) (λ c4.
      refuse_answers _ 5 0 _ _ (or_tests _ _ (not_tests _ (eqb_tests (B s) (4 + 2 * P s))) (ltb_tests (length s) (B s))) (λ c5.
      form_answers _ _ _ (rw (pair_bytes_part (whole c5).0) (pairs_answers (P s) 0 (replicate w 0) (omega (arith, whole c5)))))))))

-- ---- reading into a lent table

pub reading_answers : (w : ℕ) (s table : List ℕ) → Answers (reading w s table) (read_lines w s table)
unfolding reading
reading_answers w s table =
    then_answers (read_sheet w s) _ _ _ (read_sheet_answers s w) (λ r e.
    refuse_answers _ 12 0 _ _ (not_tests _ (eqb_tests (length table) w)) (λ c12. accepted_answers r))

-- ---- writing a table of sets of w boxes

pub write_sheet_answers : (w n : ℕ) (t : List ℕ) (size : ℕ) → Words w t → Answers (write_sheet w n t size) (write_lines w n t size)
unfolding write_sheet
write_sheet_answers w n t size s =
    refuse_answers _ 3 0 _ _ (or_tests _ _ (eqb_tests n 0) (ltb_tests w n)) (λ c3.
    refuse_answers _ 14 0 _ _ (proper_tests w n t s) (λ c14.
    refuse_answers _ 15 0 _ _ (ltb_tests size (4 + 2 * link_count w t)) (λ c15.
    accepted_answers (sheet_bytes w n t))))
