-- A list of bytes cut into pairs, as `as_chunks` cuts a slice: the pair at place i, and what is left after it. Assumes nothing.
use Rattle.std.proofs.Common.{ℕ, zero, suc, ◌≡◌, refl, ◌∙◌, ◌+◌, ◌*◌, ◌/◌, ◌<◌, List, [], ◌∷◌, get_or, drop, length, arith, drop-cons}
use Rattle.std.proofs.lemmas.List.{get_or-take, get_or-drop}
use Rattle.std.specs.Simd.{first_chunks}

in_chunk : (k : ℕ) (xs : List ℕ) (i j : ℕ) → i < k → j < 2 → get_or (get_or (first_chunks 2 k xs) i []) j 0 ≡ get_or xs (2 * i + j) 0
in_chunk zero xs i j h l = absurd (omega arith)
in_chunk (suc k) xs zero j h l = let e : 2 * 0 + j ≡ j = omega arith in rw e (get_or-take 2 xs j 0 l)
in_chunk (suc k) xs (suc i) j h l =
    let e : 2 * suc i + j ≡ 2 + (2 * i + j) = omega arith in
    rw e (in_chunk k (drop 2 xs) i j (omega arith) l ∙ get_or-drop 2 xs (2 * i + j) 0)

-- p are the pairs of xs
module _ (xs : List ℕ) (p : List (List ℕ)) (ep : p ≡ first_chunks 2 (length xs / 2) xs) (i c d : ℕ) (h : i < length xs / 2) (ec : c ≡ get_or (get_or p i []) 0 0)
    (ed : d ≡ get_or (get_or p i []) 1 0) where
  pub pair_next : drop (2 * i) xs ≡ c ∷ d ∷ drop (2 * (i + 1)) xs
  pair_next =
      let z : 2 * i + 0 ≡ 2 * i = omega arith in
      let o : 2 * i + 1 ≡ suc (2 * i) = omega arith in
      let t : 2 * (i + 1) ≡ suc (suc (2 * i)) = omega arith in
      rw (ec, ed, ep, in_chunk (length xs / 2) xs i 0 h (omega arith), in_chunk (length xs / 2) xs i 1 h (omega arith), z, o, t, drop-cons xs (2 * i) 0 (omega arith)) (rw (drop-cons xs (suc (2 * i)) 0 (omega arith)) refl)
