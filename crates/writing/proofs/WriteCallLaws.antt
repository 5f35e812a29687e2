-- Writing a sheet, test by test: what `write_call` of the rules answers where the tests before hold. Assumes nothing.
use Prim.Native.Nat.{ℕ, ◌+◌, ◌*◌, ◌<◌, ◌≤◌}
use native.Mathlib.Omega.{arith}
use native.Mathlib.Nat.{zero-add}
use mathlib.Core.Path.{◌≡◌, ◌∙◌}
use mathlib.Core.Bool.{true, false}
use mathlib.Core.List.{List, [], ◌∷◌, ◌++◌}
use lib.ListN.{length, drop, length-append}
use lib.Seq.{sets}
use borrow.Author.Tests.{lt-ltb, le-ltb, eq-eqb, ne_eqb}
use Rattle.rules.specs.Outcome.{refuse}
use Rattle.rules.specs.Sets.{all}
use Rattle.rules.specs.Sheet.{link_bytes, link_count, proper, sheet_bytes, write_sheet}
use Rattle.rules.specs.Calls.{Written, write_answer, write_call}
use Rattle.sets.specs.Stores.{sets_after, sets_front}
use Rattle.writing.specs.Writing.{link_proper}
use Rattle.writing.proofs.WriteLaws.{bytes_length}

-- two runs of stores from the buffer's start
stored_both : (l t b : List ℕ) → length l + length t ≤ length b → sets (sets b 0 l) (length l) t ≡ (l ++ t) ++ drop (length (l ++ t)) b
stored_both l t b h =
    let a = rw zero-add at (sets_after l t b 0) in
    a ∙ sets_front (l ++ t) b (simp length-append h)

module _ (n : ℕ) (t b : List ℕ) where
  pub write_none : n ≡ 0 → ◌≡◌ {A = Written} (record { number = 3; size = 0; buffer = b }) (write_call n t b)
  unfolding write_call write_answer write_sheet refuse
  write_none z = rw (eq-eqb n 0 z)

  module _ (some : n ≡ 0 → ⊥) where
    pub write_many : 16 < n → ◌≡◌ {A = Written} (record { number = 3; size = 0; buffer = b }) (write_call n t b)
    unfolding write_call write_answer write_sheet refuse
    write_many l = rw (ne_eqb n 0 some, lt-ltb 16 n l)

    module _ (e3 : n ≤ 16) where
      pub write_size : (length t ≡ 16 → ⊥) → ◌≡◌ {A = Written} (record { number = 14; size = 0; buffer = b }) (write_call n t b)
      unfolding write_call write_answer write_sheet refuse proper
      write_size f = rw (ne_eqb n 0 some, le-ltb 16 n e3, ne_eqb (length t) 16 f)

      module _ (e16 : length t ≡ 16) where
        pub write_improper : all 16 (λ i. all 16 (link_proper n t i)) ≡ false → ◌≡◌ {A = Written} (record { number = 14; size = 0; buffer = b }) (write_call n t b)
        unfolding write_call write_answer write_sheet refuse proper
        write_improper f = rw (ne_eqb n 0 some, le-ltb 16 n e3, eq-eqb (length t) 16 e16, f)

-- what holds of N and the table where neither 3 nor 14 is given
pub record Writable (n : ℕ) (t : List ℕ) : Type 0 where
  pub boxes_some : n ≡ 0 → ⊥
  pub boxes_most_lem : n ≤ 16
  pub words : length t ≡ 16
  pub links_proper : all 16 (λ i. all 16 (link_proper n t i)) ≡ true

module _ {n : ℕ} {t : List ℕ} (b : List ℕ) (h : Writable n t) (p : ℕ) (ep : p ≡ link_count 16 t) where
  pub write_no_room : length b < 4 + 2 * p → ◌≡◌ {A = Written} (record { number = 15; size = 0; buffer = b }) (write_call n t b)
  unfolding write_call write_answer write_sheet refuse proper
  write_no_room l =
      rw
      (ne_eqb n 0 h.boxes_some, le-ltb 16 n h.boxes_most_lem, eq-eqb (length t) 16 h.words, h.links_proper, ← ep, lt-ltb (length b) (4 + 2 * p) l)

  -- the pairs are stored, then the trailer after them
  pub write_done : 4 + 2 * p ≤ length b → (at : ℕ) (links whole : List ℕ) → at ≡ length (link_bytes 16 t) → links ≡ sets b 0 (link_bytes 16 t)
      → whole ≡ sets links at ((4 + 2 * p) ∷ p ∷ n ∷ 1 ∷ []) → ◌≡◌ {A = Written} (record { number = 0; size = 4 + 2 * p; buffer = whole }) (write_call n t b)
  unfolding write_call write_answer write_sheet refuse proper sheet_bytes
  write_done l at links whole ea el ew =
      let trailer : List ℕ = (4 + 2 * p) ∷ p ∷ n ∷ 1 ∷ [] in
      let s : 4 + 2 * p ≡ length (link_bytes 16 t ++ trailer) = omega (arith, length-append (link_bytes 16 t) trailer, bytes_length t) in
      let w : whole ≡ (link_bytes 16 t ++ trailer) ++ drop (length (link_bytes 16 t ++ trailer)) b =
      rw (ew, el, ea) (stored_both (link_bytes 16 t) trailer b (omega (arith, bytes_length t))) in
      rw
      (ne_eqb n 0 h.boxes_some, le-ltb 16 n h.boxes_most_lem, eq-eqb (length t) 16 h.words, h.links_proper, ← ep, le-ltb (length b) (4 + 2 * p) l)
      (λ i. record { number = 0; size = s i; buffer = w i })
