-- Laws that docs/PORT.md names. Assumes nothing.
use Rattle.std.proofs.Common.{ℕ, ◌+◌, ◌-◌, ◌≤◌, ◌<◌, ◌≡◌, sym, ap, ◌∙◌, arith, List, ◌++◌, length, take, drop, get_or, length-drop, length-take-le, take_all}
use lib.ListN.{get_or-append}
use lib.Seq.{get_or-append-add, get_or-take}

-- ---- byte i of what a tail of n bytes holds, followed by a part

module _ (n : ℕ) (bytes part : List ℕ) (i : ℕ) (fits : n ≤ length bytes) where
  pub in_held : i < n → get_or bytes i 0 ≡ get_or (take n bytes ++ part) i 0
  in_held l =
      sym (get_or-append (take n bytes) part 0 i (omega (arith, length-take-le n bytes fits)) ∙ get_or-take n bytes i 0 l)

  pub in_part : n ≤ i → get_or part (i - n) 0 ≡ get_or (take n bytes ++ part) i 0
  in_part l =
      let e : length (take n bytes) + (i - n) ≡ i = omega (arith, length-take-le n bytes fits) in
      sym (get_or-append-add (take n bytes) part (i - n) 0) ∙ ap (λ (k : ℕ). get_or (take n bytes ++ part) k 0) e

-- ---- a copy of what a list has past its first s bytes, byte by byte

module _ (s : ℕ) (l out : List ℕ) where
  pub all_copied : (n : ℕ) → length l ≤ s + n → take n out ≡ take n (drop s l) → take n out ≡ drop s l
  all_copied n h c = c ∙ take_all n (drop s l) (omega (arith, length-drop s l))
