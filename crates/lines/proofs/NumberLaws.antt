-- Numbers in decimal. Assumes nothing.
use Prim.Native.Nat.{ℕ, zero, suc, ◌+◌, ◌-◌, ◌/◌, ◌%◌, ◌^◌, ◌≤◌, ◌<◌}
use native.Mathlib.Omega.{arith}
use native.Mathlib.Nat.{pow-le-pow_right}
use mathlib.Core.Path.{◌≡◌, refl, ap, ◌∙◌}
use mathlib.Core.Bool.{Bool}
use mathlib.Core.List.{List, [], ◌∷◌}
use borrow.Author.Tests.{ltb-true, lt-ltb}
use lib.Dec.{ltb}
use lib.ListN.{length, length-append, take}
use lib.Seq.{length-take-le}
use Rattle.io.specs.Digits.{last_digits, IsDigitCount, hex_digit_ascii}
use Rattle.rules.specs.Sets.{least}
use Rattle.sets.specs.Loops.{least_le, least_hit}
use Rattle.lines.specs.Lines.{decimal, field}

-- the fewest places that hold n are those that `decimal` gives it
module _ (n : ℕ) where
  abbrev holds_in : ℕ → Bool
  holds_in k = ltb n (10 ^ suc k)

  places_most : n < 10 ^ 20 → (r : ℕ) → IsDigitCount 10 1 n r → r ≤ 20
  places_most h r f =
      let not_more : 20 < r → ⊥ = λ l. let more : 10 ^ 20 ≤ 10 ^ (r - 1) = pow-le-pow_right (omega arith) {i = 20} {j = r - 1} (omega arith) in omega (arith, h, more, f.2 (omega arith)) in
      omega (arith, not_more)

  pub fewest_places : (r : ℕ) → r ≤ 20 → IsDigitCount 10 1 n r → r ≡ suc (least 20 holds_in)
  fewest_places zero l f = absurd (omega (arith, f.0))
  fewest_places (suc q) l f =
      let hit = least_hit 20 holds_in q (omega arith) (lt-ltb n (10 ^ suc q) f.1) in
      let below = ltb-true n (10 ^ suc (least 20 holds_in)) hit.1 in
      let not_less : least 20 holds_in < q → ⊥ = λ h.
      let one_less : suc q - 1 ≡ q = omega arith in
      let more : 10 ^ suc (least 20 holds_in) ≤ 10 ^ q = pow-le-pow_right (omega arith) h in
      omega (arith, more, below, rw one_less at (f.2 (omega arith)))
      in
      omega (arith, hit.0, not_less)

  digits_length : (b k m : ℕ) → length (last_digits b k m) ≡ k
  digits_length b zero m = refl
  digits_length b (suc k) m = length-append (last_digits b k (m / b)) (hex_digit_ascii (m % b) ∷ []) ∙ omega (arith, digits_length b k (m / b))

  -- whatever the number
  pub field_any : (end : ℕ) → length (field n end) ≤ 22
  unfolding field decimal
  field_any end =
      let p = suc (least 20 holds_in) in
      omega (arith, length-append (last_digits 10 p n) (end ∷ []), digits_length 10 p n, least_le 20 holds_in)

  -- a number of k + 1 places has at most k + 1 digits
  pub field_most : (k end : ℕ) → k < 20 → n < 10 ^ suc k → length (field n end) ≤ k + 2
  unfolding field decimal
  field_most k end l h =
      let p = suc (least 20 holds_in) in
      omega (arith, length-append (last_digits 10 p n) (end ∷ []), digits_length 10 p n, (least_hit 20 holds_in k l (lt-ltb n (10 ^ suc k) h)).0)

-- what `io::decimal` leaves at the start of its array is the number
pub digits_are : (n k : ℕ) (out : List ℕ) → n < 10 ^ 20 → IsDigitCount 10 1 n k → take k out ≡ last_digits 10 k n → take k out ≡ decimal n
unfolding decimal
digits_are n k out l f e = e ∙ ap (λ (r : ℕ). last_digits 10 r n) (fewest_places n k (places_most n l k f) f)

-- and so many they are
pub digits_count : (n k end : ℕ) (out : List ℕ) → k ≤ length out → take k out ≡ decimal n → length (field n end) ≡ k + 1
unfolding field
digits_count n k end out l e = omega (arith, length-append (decimal n) (end ∷ []), ap length e, length-take-le k out l)
