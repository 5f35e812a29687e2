-- The last bytes of a list, and what stands in a buffer whose bytes were moved to its start and followed by a part. Assumes nothing.
use Rattle.std.proofs.Common.{ℕ, ◌+◌, ◌-◌, ◌≤◌, ◌≡◌, sym, ap, ◌∙◌, arith, List, ◌++◌, length, take, drop, length-append, length-drop, length-take-le, take_all}
use Rattle.std.proofs.Math.Decide.{dec_lt}
use Rattle.std.proofs.Math.Seq.{paste, drop-append_seam, drop-append-add}
use Rattle.std.proofs.lemmas.List.{drop-append-le, drop-take}
use Rattle.std.proofs.lemmas.List.Edits.{take-paste}
use Rattle.std.proofs.lemmas.Slice.{take-put_mid}
use borrow.Rule.Slice.PartMut.{put_mid}
use Rattle.tail.specs.Last.{last_of}

-- ---- the bytes from s to n moved to the start, and a part after them: what the first n were, followed by the part, past its first s

pub joined : (xs ys part : List ℕ) (n s k : ℕ) → n ≤ length xs → s ≤ n → ys ≡ paste xs 0 (drop s xs) (n - s) → n - s ≤ length ys
    → take (n - s + length part) (put_mid (n - s) k ys part) ≡ drop s (take n xs ++ part)
joined xs ys part n s k fits within moved room =
    let parts : n ≡ s + (n - s) = omega arith in
    let none : n - s ≡ 0 + (n - s) = omega arith in
    take-put_mid (n - s) k ys part (n - s + length part) (omega arith) room
    ∙ ap (λ (l : List ℕ). l ++ part) (
    (λ i. take (none i) (moved i))
    ∙ take-paste xs 0 (drop s xs) (n - s) (omega arith) (omega (arith, length-drop s xs))
    ∙ sym (ap (λ m. drop s (take m xs)) parts ∙ drop-take s (n - s) xs)
    )
    ∙ sym (drop-append-le s (take n xs) part (omega (arith, length-take-le n xs fits)))

-- ---- of a list that is added, its own last bytes are enough

last_cut_drop : (n : ℕ) (a b : List ℕ) → last_of n (a ++ drop (length b - n) b) ≡ last_of n (a ++ b)
last_cut_drop n a b =
    elim (dec_lt n (length b)) [
      | yes l ↦
          let k : ℕ = length b - n in
          let q : List ℕ = drop k b in
          let e : length (a ++ q) - n ≡ length a = omega (arith, length-append a q, length-drop k b) in
          let f : length (a ++ b) - n ≡ length a + k = omega (arith, length-append a b) in
          ap (λ (m : ℕ). drop m (a ++ q)) e ∙ drop-append_seam a q ∙ sym (ap (λ (m : ℕ). drop m (a ++ b)) f ∙ drop-append-add a b k)
      | no l ↦ let z : length b - n ≡ 0 = omega arith in ap (λ (m : ℕ). last_of n (a ++ drop m b)) z
    ]

-- the part from f on, as a slice is cut
pub last_cut : (n : ℕ) (a b : List ℕ) (f : ℕ) → f ≡ length b - n → last_of n (a ++ take (length b - f) (drop f b)) ≡ last_of n (a ++ b)
last_cut n a b f e = rw (take_all (length b - f) (drop f b) (omega (arith, length-drop f b)), e) (last_cut_drop n a b)
