-- What is held once a reader's bytes are read, one read after another. Assumes nothing.
use Rattle.std.proofs.Common.{arith, ℕ, ◌-◌, ◌≤◌, ◌≡◌, sym, ap, ◌∙◌, List, [], ◌++◌, length, drop, None, Some, IfSome, append_assoc, append-nil}
use Rattle.std.proofs.lemmas.List.{length-take}
use Rattle.std.specs.declared.option.Option.{Option}
use Rattle.std.specs.Io.KnownBytes.{Consumes, IsAtEnd}
use Rattle.tail.specs.Last.{Tail, last_of, held, Keeps}
use Rattle.tail.specs.Chunks.{last_front}
use Rattle.derowlas.specs.Reading.{SameLast}

-- a read whose bytes join the tail
pub same_read : (before after : Option (List ℕ)) (t s : Tail) (bytes : List ℕ) → Keeps t bytes s → Consumes before after bytes → SameLast t before s after
same_read None after t s bytes k c = tt
same_read (Some xs) None t s bytes k c = c
same_read (Some xs) (Some ys) t s bytes k c =
    rw (k.holds, c) (last_front 244 (held t ++ bytes) ys ∙ ap (λ (l : List ℕ). last_of 244 l) (append_assoc (held t) bytes ys))

-- one read after another
pub same_then : (a b c : Option (List ℕ)) (t s r : Tail) → SameLast t a s b → SameLast s b r c → SameLast t a r c
same_then None b c t s r h g = tt
same_then (Some xs) None c t s r h g = absurd h
same_then (Some xs) (Some ys) None t s r h g = g
same_then (Some xs) (Some ys) (Some zs) t s r h g = g ∙ h

held_all : (t : Tail) → t.len ≤ 244 → last_of 244 (held t) ≡ held t
held_all t h =
    let l : length (held t) ≤ 244 = omega (arith, length-take t.len t.bytes) in
    let z : length (held t) - 244 ≡ 0 = omega arith in
    ap (λ (k : ℕ). drop k (held t)) z

-- from a tail that holds nothing, to the end
pub same_all : (before after : Option (List ℕ)) (t s : Tail) → held t ≡ [] → s.len ≤ 244 → SameLast t before s after → IsAtEnd after
    → IfSome before (λ xs. held s ≡ last_of 244 xs)
same_all None after t s e l h z = tt
same_all (Some xs) None t s e l h z = absurd h
same_all (Some xs) (Some ys) t s e l h z =
    let k : last_of 244 (held s ++ []) ≡ last_of 244 ([] ++ xs) = rw (z, e) at h in
    sym (held_all s l) ∙ ap (λ (m : List ℕ). last_of 244 m) (sym (append-nil (held s))) ∙ k
