-- The table of an accepted sheet links two boxes exactly where one of the sheet's pairs names them. Assumes nothing.
use Rattle.std.specs.Prelude.{ℕ, zero, suc, ◌+◌, ◌-◌, ◌*◌, ◌<◌, ◌≡◌, refl, List, [], ◌∷◌, ◌↔◌, drop}
use Rattle.std.proofs.Common.{sym, ap, subst, ◌∙◌, inl, inr, ⊎_elim}
use native.Mathlib.Omega.{arith}
use Rattle.std.proofs.Math.ListN.{length}
use Rattle.std.proofs.Math.Seq.{get_or-take, get_or-drop}
use Rattle.rules.specs.Sets.{word}
use Rattle.rules.specs.Outcome.{accepted}
use Rattle.rules.specs.Sheet.{Sheet, read_sheet, pair_bytes}
use Rattle.sheet_laws.specs.Conditions.{Linked, B, P, N, first, second}
use Rattle.sheet_laws.specs.Said.{Joins}
use Rattle.sheet_laws.specs.Rising.{In}
use Rattle.sheet_laws.proofs.Pairs.{Pair, pair, flat}
use Rattle.sheet_laws.proofs.Links.{made_in, in_made}
use Rattle.sheet_laws.proofs.Accepted.{Accepted, accepted_sheet}

-- ---- an entry of a list of pairs stands at a place of its bytes

in_flat : (p : Pair) (l : List Pair) → In p l → (k : ℕ) × (k < length l) × (word (flat l) (2 * k) ≡ p.low) × (word (flat l) (2 * k + 1) ≡ p.high)
in_flat p [] = λ z. absurd z
in_flat p (q ∷ l) =
    ⊎_elim
    (λ e. (0, omega arith, ap (λ (x : Pair). x.low) (sym e), ap (λ (x : Pair). x.high) (sym e)))
    (λ u.
    let (k, h, a, b) = in_flat p l u in
    let e : 2 * suc k ≡ suc (suc (2 * k)) = omega arith in
    let f : suc (suc (2 * k)) + 1 ≡ suc (suc (2 * k + 1)) = omega arith in
    (suc k, omega arith, rw e a, rw (e, f) b))

flat_in : (l : List Pair) (k : ℕ) → k < length l → In (pair (word (flat l) (2 * k)) (word (flat l) (2 * k + 1))) l
flat_in [] k h = absurd (omega arith)
flat_in (q ∷ l) zero h = inl refl
flat_in (q ∷ l) (suc k) h =
    let e : 2 * suc k ≡ suc (suc (2 * k)) = omega arith in
    let f : 2 * suc k + 1 ≡ suc (suc (2 * k + 1)) = omega arith in
    let F : ℕ → ℕ → Type 0 = λ x y. In (pair (word (flat (q ∷ l)) x) (word (flat (q ∷ l)) y)) l in
    inr (subst (λ x. F x (2 * suc k + 1)) (sym e) (subst (F (suc (suc (2 * k)))) (sym f) (flat_in l k (omega arith))))

-- ---- the bytes of pair k of an accepted sheet

module _ (w : ℕ) (s : List ℕ) (r : Sheet) (a : Accepted w s r) where
  bytes_first : (k : ℕ) → k < P s → word (flat a.list) (2 * k) ≡ first s k
  unfolding pair_bytes
  bytes_first k h =
      rw (← a.bytes, get_or-take (B s - 4) (drop (length s - B s) s) (2 * k) 0 (omega (arith, a.back)), get_or-drop (length s - B s) s (2 * k) 0)

  bytes_second : (k : ℕ) → k < P s → word (flat a.list) (2 * k + 1) ≡ second s k
  unfolding pair_bytes
  bytes_second k h =
      let e : length s - B s + (2 * k + 1) ≡ length s - B s + 2 * k + 1 = omega arith in
      rw (← a.bytes, get_or-take (B s - 4) (drop (length s - B s) s) (2 * k + 1) 0 (omega (arith, a.back)), get_or-drop (length s - B s) s (2 * k + 1) 0, e)

  named : (i j : ℕ) → In (pair i j) a.list → (k : ℕ) × (k < P s) × (first s k ≡ i) × (second s k ≡ j)
  named i j u =
      let (k, h, e, f) = in_flat (pair i j) a.list u in
      let g : k < P s = omega (arith, a.number) in
      (k, g, sym (bytes_first k g) ∙ e, sym (bytes_second k g) ∙ f)

  listed : (k : ℕ) → k < P s → In (pair (first s k) (second s k)) a.list
  listed k h = rw (bytes_first k h, bytes_second k h) at (flat_in a.list k (omega (arith, a.number)))

  links : (i j : ℕ) → Linked r.table i j ↔ ((k : ℕ) × (k < P s) × Joins s k i j)
  links i j =
      rw a.answer (
        (λ l.
            ⊎_elim
            (λ u. let (k, h, e, f) = named i j u in (k, h, inl (e, f)))
            (λ u. let (k, h, e, f) = named j i u in (k, h, inr (e, f)))
            (made_in w (N s) a.list a.few_boxes a.below i j l)),
        λ u.
            let (k, h, o) = u in
            let (x, y) = in_made w (N s) a.list a.few_boxes a.below (pair (first s k) (second s k)) (listed k h) in
            ⊎_elim (λ e. rw (e.0, e.1) at x) (λ e. rw (e.0, e.1) at y) o,
      )

pub links_of_lem : (w : ℕ) (s : List ℕ) (r : Sheet) → read_sheet w s ≡ accepted r → (i j : ℕ) → Linked r.table i j ↔ ((k : ℕ) × (k < P s) × Joins s k i j)
links_of_lem w s r e = links w s r (accepted_sheet w s r e)
