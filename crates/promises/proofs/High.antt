-- A number of 2^n or above, as a set, has a member that is not below n; and one below 2^n has none. Assumes nothing.
use Rattle.std.specs.Prelude.{ℕ, zero, suc, ◌/◌, ◌^◌, ◌≤◌, ◌<◌, ◌≡◌, true, leb}
use Rattle.std.proofs.Common.{◌∙◌, arith}
use Rattle.std.proofs.Math.Decide.{dec_le}
use Rattle.rules.specs.Sets.{mem}
use Rattle.sets.specs.Mem.{mem_suc, in_lt}
use Rattle.sets.specs.Loops.{some_member}
use Rattle.sheet_laws.specs.Answers.{Tests, leb_tests}

below_pow : (n : ℕ) → n < 2 ^ n
below_pow zero = omega arith
below_pow (suc n) = omega (arith, below_pow n)

pub high_member : (n s : ℕ) → 2 ^ n ≤ s → (k : ℕ) × (n ≤ k) × (mem k s ≡ true)
high_member zero s h = let (k, l, m) = some_member s s (below_pow s) (omega arith) in (k, omega arith, m)
high_member (suc n) s h = let (k, l, m) = high_member n (s / 2) (omega arith) in (suc k, omega arith, mem_suc k s ∙ m)

-- a set whose members are all below n is a number below 2^n
pub low_set : (n s : ℕ) → ((k : ℕ) → mem k s ≡ true → k < n) → s < 2 ^ n
low_set n s f = elim (dec_le (2 ^ n) s) [ yes h ↦ let (k, l, m) = high_member n s h in absurd (omega (arith, f k m)) | no h ↦ omega arith ]

-- the test of a start set
pub high_tests : (n s : ℕ) → Tests (leb (2 ^ n) s) ((k : ℕ) × (n ≤ k) × (mem k s ≡ true))
high_tests n s = record {
  holds = λ e. high_member n s ((leb_tests (2 ^ n) s).holds e);
  fails = λ e u. let (k, l, m) = u in (leb_tests (2 ^ n) s).fails e (elim (dec_le (2 ^ n) s) [ yes h ↦ h | no h ↦ absurd (omega (arith, in_lt n s k (omega arith) m)) ]);
}
