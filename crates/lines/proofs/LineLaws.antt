-- How many bytes the lines have. Assumes nothing.
use Prim.Native.Nat.{ℕ, ◌+◌, ◌≤◌, ◌<◌}
use native.Mathlib.Omega.{arith}
use mathlib.Core.Path.{◌≡◌}
use lib.ListN.{length, length-append}
use Rattle.lines.specs.declared.Word.{Word}
use Rattle.lines.specs.declared.Word.TheVariants as words
use Rattle.lines.specs.Words.{word_of, word_line}
use Rattle.lines.specs.Lines.{field, heading, line, refusal}
use Rattle.lines.proofs.NumberLaws.{field_any, field_most}

-- ---- part by part

pub line_length : (i j hops from : ℕ) → length (line i j hops from) ≡ length (field i 32) + (length (field j 32) + (length (field hops 32) + length (field from 10)))
unfolding line
line_length i j hops from = simp length-append (omega arith)

pub heading_length : (n p moved : ℕ) → length (heading n p moved) ≡ 18 + (length (field n 32) + (length (field p 32) + length (field moved 10)))
unfolding heading
heading_length n p moved = simp length-append (omega arith)

pub refusal_length : (number : ℕ) → length (refusal number) ≡ 8 + (length (field number 32) + length (word_line (word_of number)))
unfolding refusal
refusal_length number = simp length-append (omega arith)

-- ---- at most

small : (n end : ℕ) → n ≤ 16 → length (field n end) ≤ 3
small n end h = field_most n 1 end (omega arith) (omega arith)

pub line_most : (i j hops from : ℕ) → i < 16 → j < 16 → hops ≤ 16 → from ≤ 16 → length (line i j hops from) ≤ 12
line_most i j hops from a b c d =
    omega (arith, line_length i j hops from, small i 32 (omega arith), small j 32 (omega arith), small hops 32 c, small from 10 d)

word_most : (w : Word) → length (word_line w) ≤ 6
word_most words.Sheet = omega arith
word_most words.Pair = omega arith
word_most words.List = omega arith
word_most words.Room = omega arith
word_most words.Nothing = omega arith

pub refusal_most : (number : ℕ) → length (refusal number) ≤ 36
refusal_most number = omega (arith, refusal_length number, field_any number 32, word_most (word_of number))

pub heading_most : (n p moved : ℕ) → length (heading n p moved) ≤ 84
heading_most n p moved = omega (arith, heading_length n p moved, field_any n 32, field_any p 32, field_any moved 10)
