-- Lists saved one after the other, and all at once: a table with its listed entries replaced. Assumes nothing.
use Rattle.std.specs.Prelude.{ℕ, ◌^◌, ◌≤◌, ◌<◌, ◌≡◌, refl, Bool, cond, ◌||◌, List, eqb, length, set}
use Rattle.std.proofs.Common.{sym, ap, ◌∙◌, arith, length-set, get_or-set_same, get_or-set_other, ext_get_or, eq-eqb, ne_eqb}
use Rattle.std.proofs.Math.Bool.{or-true, or-false}
use Rattle.std.proofs.Math.Decide.{ℕ_discrete}
use Rattle.std.specs.Int.Bits.{bit_or}
use Rattle.rules.specs.Sets.{mem, word}
use Rattle.sets.specs.Mem.{mem_or, mem_one, mem_empty}
use Rattle.sets.specs.Loops.{for_each_keeps}
use Rattle.boxes.specs.Step.{save_all}

-- ---- the table with its listed entries replaced

-- after the entries below n
record Replaced (t : List ℕ) (listed : ℕ) (lists : List ℕ) (n : ℕ) (x : List ℕ) : Type 0 where
  size : length x ≡ length t
  done : (k : ℕ) → k < n → k < length t → word x k ≡ cond (mem k listed) (word lists k) (word t k)
  todo : (k : ℕ) → n ≤ k → word x k ≡ word t k

replaced : (t : List ℕ) (listed : ℕ) (lists : List ℕ) → Replaced t listed lists 16 (save_all t listed lists)
unfolding save_all
replaced t listed lists =
    for_each_keeps listed (λ k u. set u k (word lists k)) (Replaced t listed lists) 16 t (record { size = refl; done = λ k h. absurd (omega arith); todo = λ k h. refl })
    (λ n x l m p. record {
      size = length-set x n _ ∙ p.size;
      done = λ k h q. elim (ℕ_discrete k n) [
        | yes e ↦ rw (e, m) (get_or-set_same x n (word lists n) 0 (omega (arith, p.size, e)))
        | no e ↦ get_or-set_other x n k (word lists n) 0 e ∙ p.done k (omega arith) q
      ];
      todo = λ k h. get_or-set_other x n k (word lists n) 0 (omega arith) ∙ p.todo k (omega arith);
    })
    (λ n x l m p. record {
      size = p.size;
      done = λ k h q. elim (ℕ_discrete k n) [ yes e ↦ rw (e, m) (p.todo n (omega arith)) | no e ↦ p.done k (omega arith) q ];
      todo = λ k h. p.todo k (omega arith);
    })

pub saved_length : (t : List ℕ) (listed : ℕ) (lists : List ℕ) → length (save_all t listed lists) ≡ length t
saved_length t listed lists = (replaced t listed lists).size

saved_at : (t : List ℕ) (listed : ℕ) (lists : List ℕ) (k : ℕ) → length t ≡ 16 → k < 16 → word (save_all t listed lists) k ≡ cond (mem k listed) (word lists k) (word t k)
saved_at t listed lists k e h = (replaced t listed lists).done k h (omega arith)

-- nothing listed
pub saved_nothing : (t lists : List ℕ) → length t ≡ 16 → save_all t 0 lists ≡ t
saved_nothing t lists e =
    ext_get_or 0 (save_all t 0 lists) t (saved_length t 0 lists) (λ k h. saved_at t 0 lists k e (omega (arith, saved_length t 0 lists)) ∙ rw (mem_empty k))

mem_more : (listed k j : ℕ) → mem j (bit_or listed (2 ^ k)) ≡ mem j listed || eqb j k
mem_more listed k j = mem_or j listed (2 ^ k) ∙ ap (λ (x : Bool). mem j listed || x) (mem_one j k)

-- one list more is listed: its entry is set last
pub saved_more : (t : List ℕ) (listed : ℕ) (lists : List ℕ) (k s : ℕ) → k < 16 → length t ≡ 16 → length lists ≡ 16
    → save_all t (bit_or listed (2 ^ k)) (set lists k s) ≡ set (save_all t listed lists) k s
saved_more t listed lists k s hk e f =
    ext_get_or 0 _ _ (saved_length t (bit_or listed (2 ^ k)) (set lists k s) ∙ sym (length-set (save_all t listed lists) k s ∙ saved_length t listed lists))
    (λ j h.
    let hj : j < 16 = omega (arith, saved_length t (bit_or listed (2 ^ k)) (set lists k s)) in
    saved_at t (bit_or listed (2 ^ k)) (set lists k s) j e hj ∙ elim (ℕ_discrete j k) [
      | yes z ↦ rw (z, mem_more listed k k, eq-eqb k k refl, or-true) (get_or-set_same lists k s 0 (omega arith) ∙ sym (get_or-set_same (save_all t listed lists) k s 0 (omega (arith, saved_length t listed lists))))
      | no z ↦ rw (mem_more listed k j, ne_eqb j k z, or-false, get_or-set_other lists k j s 0 z)
          (sym (get_or-set_other (save_all t listed lists) k j s 0 z ∙ saved_at t listed lists j e hj))
    ])
