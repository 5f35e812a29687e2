-- A slice copied over, and a block's two words and four tables stored one after the other. w is how many words a table has. Assumes nothing.
use Prim.Native.Nat.{ℕ, suc, ◌+◌, ◌≤◌}
use native.Mathlib.Omega.{arith}
use mathlib.Core.Path.{◌≡◌, refl, sym, ap, ◌∙◌}
use mathlib.Core.List.{List, ◌++◌}
use lib.ListN.{length, length-append, set}
use lib.Seq.{sets, take_all, length-sets}
use borrow.Rule.Slice.PartMut.{put_mid}
use Rattle.std.proofs.lemmas.List.{drop_all}
use Rattle.std.proofs.lemmas.List.Edits.{sets-eq}
use Rattle.std.proofs.lemmas.Slice.{put_mid-paste}
use Rattle.std.proofs.Common.{length-set, append-nil}
use Rattle.rules.specs.Box.{Box}
use Rattle.rules.specs.Hub.{block, block_words}
use Rattle.sets.specs.Stores.{sets_after, sets_front}

-- a slice that is copied over
pub put_sets : (w at : ℕ) (b t : List ℕ) → length t ≡ w → at + w ≤ length b → put_mid at w b t ≡ sets b at t
put_sets w at b t l m =
    put_mid-paste at w b t t w refl refl (sym l)
    ∙ rw (take_all w t (omega (arith, l)), ← l) (sym (sets-eq t b at (omega (arith, l, m))))

-- a box whose tables have w words each
module _ (w : ℕ) (x : Box) (n : length x.nodes ≡ w) (i : length x.in_spt ≡ w) (o : length x.not_spt ≡ w) where
  pub block_length : length x.neighbors ≡ w → length (block x) ≡ block_words w
  unfolding block
  block_length l = simp length-append (omega arith)

  -- state and HOP from the place `at` on, then the tables at p, q, r and s
  pub block_stored : (b : List ℕ) (at p q r s : ℕ) → p ≡ at + 2 → q ≡ p + w → r ≡ q + w → s ≡ r + w
      → sets (sets (sets (sets (set (set b at x.state) (at + 1) x.hop) p x.nodes) q x.in_spt) r x.not_spt) s x.neighbors ≡ sets b at (block x)
  unfolding block
  block_stored b at p q r s ep eq er es =
      let f : at + 1 ≡ suc at = omega arith in
      let fp : p ≡ suc (suc at) = omega arith in
      let fq : q ≡ suc (suc at) + length x.nodes = omega arith in
      let fr : r ≡ suc (suc at) + length x.nodes + length x.in_spt = omega arith in
      let fs : s ≡ suc (suc at) + length x.nodes + length x.in_spt + length x.not_spt = omega arith in
      rw
      (fs, fr, fq, fp, f, ← sets_after x.nodes (x.in_spt ++ (x.not_spt ++ x.neighbors)), ← sets_after x.in_spt (x.not_spt ++ x.neighbors), ← sets_after x.not_spt x.neighbors)

  -- a slice of the words for each table, copied over: put_mid is what a write to a slice leaves
  module _ (l : length x.neighbors ≡ w) (b n' i' o' l' : List ℕ) (s : ℕ) where
    pub block_put : length b ≡ block_words w → s ≡ x.state → n' ≡ x.nodes → i' ≡ x.in_spt → o' ≡ x.not_spt → l' ≡ x.neighbors
        → put_mid (2 + w + w + w) w (put_mid (2 + w + w) w (put_mid (2 + w) w (put_mid 2 w (set (set b 0 s) 1 x.hop) n') i') o') l' ≡ block x
    block_put m es en ei eo el =
        let b₀ : List ℕ = set (set b 0 x.state) 1 x.hop in
        let b₁ : List ℕ = sets b₀ 2 x.nodes in
        let b₂ : List ℕ = sets b₁ (2 + w) x.in_spt in
        let b₃ : List ℕ = sets b₂ (2 + w + w) x.not_spt in
        let m₀ : length b₀ ≡ block_words w = simp length-set m in
        let m₁ : length b₁ ≡ block_words w = length-sets b₀ 2 x.nodes ∙ m₀ in
        let m₂ : length b₂ ≡ block_words w = length-sets b₁ (2 + w) x.in_spt ∙ m₁ in
        let m₃ : length b₃ ≡ block_words w = length-sets b₂ (2 + w + w) x.not_spt ∙ m₂ in
        rw (
          es,
          en,
          ei,
          eo,
          el,
          put_sets w 2 b₀ x.nodes n (omega (arith, m₀)),
          put_sets w (2 + w) b₁ x.in_spt i (omega (arith, m₁)),
          put_sets w (2 + w + w) b₂ x.not_spt o (omega (arith, m₂)),
          put_sets w (2 + w + w + w) b₃ x.neighbors l (omega (arith, m₃)),
        )
        (block_stored b 0 2 (2 + w) (2 + w + w) (2 + w + w + w) refl refl refl refl
        ∙ sets_front (block x) b (omega (arith, m, block_length l))
        ∙ ap (λ (z : List ℕ). block x ++ z) (drop_all (length (block x)) b (omega (arith, m, block_length l)))
        ∙ append-nil (block x))
