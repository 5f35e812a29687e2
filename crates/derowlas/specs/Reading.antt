-- What is held of a reader's bytes, where those are known. Definitions alone.
use Rattle.std.specs.Prelude.{ℕ, ◌≡◌, List, ◌++◌, ⊤, None, Some, Result, Ok, Err}
use Rattle.std.specs.declared.option.Option.{Option}
use Rattle.tail.specs.declared.Tail.{Tail as TailCode}
use Rattle.tail.specs.Last.{Tail, last_of, held, shown}
use Rattle.derowlas.specs.declared.Input.{Input}
use Rattle.derowlas.specs.declared.Input.TheVariants.{Whole, Part}

-- the last 244 bytes of what is held followed by what is left to read are those that they were: t held and the bytes left before, s and those after
abbrev pub SameLast : Tail → Option (List ℕ) → Tail → Option (List ℕ) → Type 0
SameLast t None s after = ⊤
SameLast t (Some xs) s None = ⊥
SameLast t (Some xs) s (Some ys) = last_of 244 (held s ++ ys) ≡ last_of 244 (held t ++ xs)

-- what is held after a read: what t held before, where the read failed or came to the end
abbrev pub held_after : {E : Type 0} → Tail → Result (Option TailCode) E → Tail
held_after t (Ok (Some s)) = shown s
held_after t (Ok None) = t
held_after t (Err e) = t

-- the fact about what is held, where it is of the whole input
abbrev pub IfWhole : {E : Type 0} → Result Input E → (Tail → Type 0) → Type 0
IfWhole (Ok (Whole t)) P = P (shown t)
IfWhole (Ok (Part t)) P = ⊤
IfWhole (Err e) P = ⊤
