-- Laws of sets and of tables of sets, over any number of boxes: what a loop over a table needs. Assumes nothing.
use Rattle.std.specs.Prelude.{ℕ, zero, suc, ◌+◌, ◌-◌, ◌/◌, ◌%◌, ◌<◌, ◌≤◌, max, ◌≡◌, refl, cond, List, length, set, take}
use Rattle.std.proofs.Common.{arith, set-set, get_or-set_same, get_or-set_other, take-suc-set}
use Rattle.std.proofs.Math.Decide.{dec_lt}
use Rattle.std.specs.Int.Bits.{bit_or, or_step, or_zero_l, or_zero_r}
use Rattle.std.proofs.lemmas.Nat.{or_comm}
use Rattle.std.proofs.Math.Seq.{set_out}
use Rattle.std.proofs.lemmas.List.{set-get_or}
use Rattle.rules.specs.Sets.{mem, word, union, join_at, each, words, for_each}
use Rattle.rules.specs.Box.{before}
use Rattle.sets.specs.Tables.{set_if_lem, join_at_same, join_at_other}

-- ---- unions

or_half : (a b : ℕ) → bit_or a b / 2 ≡ bit_or (a / 2) (b / 2)
or_half a b = let e = or_step a b in let m : max (a % 2) (b % 2) < 2 = omega arith in omega arith

or_odd : (a b : ℕ) → bit_or a b % 2 ≡ max (a % 2) (b % 2)
or_odd a b = let e = or_step a b in let m : max (a % 2) (b % 2) < 2 = omega arith in omega arith

or_assoc_to : (n a b c : ℕ) → a + b + c ≤ n → bit_or (bit_or a b) c ≡ bit_or a (bit_or b c)
or_assoc_to zero a b c l =
    let x : a ≡ 0 = omega arith in
    let y : b ≡ 0 = omega arith in
    rw (x, y, or_zero_l, or_zero_l, or_zero_l)
or_assoc_to (suc n) a b c l =
    let h : a / 2 + b / 2 + c / 2 ≤ n = omega arith in
    let m : max (max (a % 2) (b % 2)) (c % 2) ≡ max (a % 2) (max (b % 2) (c % 2)) = omega arith in
    rw (or_step (bit_or a b) c, or_step a (bit_or b c), or_half a b, or_odd a b, or_half b c, or_odd b c, or_assoc_to n (a / 2) (b / 2) (c / 2) h, m)

pub or_assoc : (a b c : ℕ) → bit_or (bit_or a b) c ≡ bit_or a (bit_or b c)
or_assoc a b c = or_assoc_to (a + b + c) a b c (omega arith)

-- ---- the empty set

-- a set joins no entry past the end, and the empty set changes no entry
pub join_none : (t : List ℕ) (k : ℕ) → join_at t k 0 ≡ t
unfolding join_at
join_none t k = rw (or_zero_r (word t k)) (set-get_or t k 0)

-- ---- joining

-- two sets that join one entry join it together
pub join_join : (t : List ℕ) (k a b : ℕ) → join_at (join_at t k a) k b ≡ join_at t k (bit_or a b)
unfolding join_at
join_join t k a b = elim (dec_lt k (length t)) [
  | yes l ↦ rw (get_or-set_same t k (bit_or (word t k) a) 0 l, set-set, or_assoc)
  | no g ↦ let l : length t ≤ k = omega arith in rw (set_out t k (bit_or (word t k) a) l, set_out t k (bit_or (word t k) b) l, set_out t k (bit_or (word t k) (bit_or a b)) l)
]

union_past : (n : ℕ) (t : List ℕ) (k s : ℕ) → n ≤ k → union n (join_at t k s) ≡ union n t
unfolding union join_at
union_past zero t k s l = refl
union_past (suc n) t k s l =
    let d : (n ≡ k → ⊥) = λ e. omega arith in
    rw (union_past n t k s (omega arith), get_or-set_other t k n (bit_or (word t k) s) 0 d)

pub union_join : (n : ℕ) (t : List ℕ) (k s : ℕ) → k < n → k < length t → union n (join_at t k s) ≡ bit_or (union n t) s
unfolding union
union_join zero t k s l m = absurd (let z : k < 0 = l in omega arith)
union_join (suc n) t k s l m = elim (dec_lt k n) [
  | yes h ↦ rw (union_join n t k s h m, join_at_other t k s n (λ e. omega arith), or_assoc, or_comm s (word t n), ← or_assoc)
  | no g ↦ let e : k ≡ n = omega arith in rw (e, union_past n t n s (omega arith), join_at_same t n s (rw e at m), ← or_assoc)
]

-- ---- Nodes(HOP-1)

pub before_zero : (h : ℕ) (t : List ℕ) → h ≡ 0 → 0 ≡ before h t
unfolding before
before_zero h t e = rw e

pub before_suc : (h : ℕ) (t : List ℕ) → (h ≡ 0 → ⊥) → word t (h - 1) ≡ before h t
unfolding before
before_suc zero t f = absurd (f refl)
before_suc (suc h) t f = let e : suc h - 1 ≡ h = omega arith in rw e

-- ---- loops

-- f 0 to f (n - 1) filled in, one at a time: what the entries below n hold
pub words_more : (l : List ℕ) (n : ℕ) (f : ℕ → ℕ) → n < length l → take n l ≡ words n f → take (suc n) (set l n (f n)) ≡ words (suc n) f
unfolding words each
words_more l n f h e = rw (take-suc-set l n (f n), e)

-- the listed entries of a table become those of lists, one at a time
pub save_next : (listed : ℕ) (lists t u : List ℕ) (k x : ℕ) → u ≡ for_each listed (λ i v. set v i (word lists i)) k t → x ≡ cond (mem k listed) (word lists k) (word u k)
    → set u k x ≡ for_each listed (λ i v. set v i (word lists i)) (suc k) t
unfolding for_each
save_next listed lists t u k x eu ex = rw (ex, ← set_if_lem, eu)
