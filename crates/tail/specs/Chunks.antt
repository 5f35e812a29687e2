-- Chunks that are read one after another leave the last 244 bytes of all of them: `chunks_kept`. Assumes nothing.
use Rattle.std.specs.Prelude.{ℕ, ◌+◌, ◌-◌, ◌≤◌, ◌≡◌, List, [], ◌∷◌, ◌++◌, length, drop}
use Rattle.std.proofs.Common.{arith, sym, ap, ◌∙◌, append_assoc, append-nil, length-append, length-drop, drop-drop}
use Rattle.std.proofs.Math.Decide.{dec_lt}
use Rattle.std.proofs.lemmas.List.{drop-append-le}
use Rattle.tail.specs.Last.{Tail, last_of, held, Keeps}

-- the bytes of all chunks, in the order in which they are read
abbrev pub all_of : List (List ℕ) → List ℕ
all_of [] = []
all_of (c ∷ cs) = c ++ all_of cs

-- chunk by chunk what is held becomes the last bytes of what was held followed by the chunk: t at first, r in the end
pub data KeepsEach : Tail → List (List ℕ) → Tail → Type 0 where
  done : {t : Tail} → KeepsEach t [] t
  more : {t s r : Tail} {c : List ℕ} {cs : List (List ℕ)} → Keeps t c s → KeepsEach s cs r → KeepsEach t (c ∷ cs) r

-- ---- of what stands in front, its own last bytes are enough

last_all : (n : ℕ) (a : List ℕ) → length a ≤ n → last_of n a ≡ a
last_all n a h = let z : length a - n ≡ 0 = omega arith in ap (λ (k : ℕ). drop k a) z

last_length : (n : ℕ) (a : List ℕ) → length (last_of n a) ≤ n
last_length n a = omega (arith, length-drop (length a - n) a)

pub last_front : (n : ℕ) (a b : List ℕ) → last_of n (last_of n a ++ b) ≡ last_of n (a ++ b)
last_front n a b =
    elim (dec_lt n (length a)) [
      | yes l ↦
          let k : ℕ = length a - n in
          let q : List ℕ = drop k a in
          let e : length (q ++ b) - n ≡ length b = omega (arith, length-append q b, length-drop k a) in
          let f : k + length b ≡ length (a ++ b) - n = omega (arith, length-append a b) in
          ap (λ (m : ℕ). drop m (q ++ b)) e
          ∙ ap (λ (x : List ℕ). drop (length b) x) (sym (drop-append-le k a b (omega arith)))
          ∙ drop-drop (length b) k (a ++ b)
          ∙ ap (λ (m : ℕ). drop m (a ++ b)) f
      | no l ↦ ap (λ (x : List ℕ). last_of n (x ++ b)) (last_all n a (omega arith))
    ]

-- ---- chunk after chunk

kept_each : {t r : Tail} {cs : List (List ℕ)} → length (held t) ≤ 244 → KeepsEach t cs r → held r ≡ last_of 244 (held t ++ all_of cs)
kept_each {t} h done = sym (rw (append-nil (held t)) (last_all 244 (held t) h))
kept_each {t} h (more {s = s} {c = c} {cs = cs} k rest) =
    let e : held s ≡ last_of 244 (held t ++ c) = k.holds in
    let l : length (held s) ≤ 244 = omega (arith, ap length e, last_length 244 (held t ++ c)) in
    kept_each l rest
    ∙ ap (λ (x : List ℕ). last_of 244 (x ++ all_of cs)) e
    ∙ last_front 244 (held t ++ c) (all_of cs)
    ∙ ap (λ (x : List ℕ). last_of 244 x) (append_assoc (held t) c (all_of cs))

-- from a tail that holds nothing, as `empty` makes it
pub chunks_kept : {t r : Tail} {cs : List (List ℕ)} → held t ≡ [] → KeepsEach t cs r → held r ≡ last_of 244 (all_of cs)
chunks_kept {cs = cs} e ks = kept_each (omega (arith, ap length e)) ks ∙ ap (λ (x : List ℕ). last_of 244 (x ++ all_of cs)) e
