-- Bytes put into a lent text, one after the other. Assumes nothing.
use Prim.Native.Nat.{ℕ, ◌+◌, ◌≤◌}
use native.Mathlib.Omega.{arith}
use native.Mathlib.Nat.{add-zero}
use mathlib.Core.Path.{◌≡◌, refl, sym, ap, ◌∙◌}
use mathlib.Core.List.{List, [], ◌++◌, append_assoc}
use lib.ListN.{length, length-append, take, drop}
use lib.Seq.{length-sets, length-take-le}
use Rattle.std.proofs.lemmas.List.Edits.{sets, paste_all, sets-eq}
use Rattle.std.proofs.lemmas.Slice.{put_mid-paste}
use borrow.Rule.Slice.PartMut.{put_mid}
use Rattle.rules.specs.Sets.{each}
use Rattle.sets.specs.Stores.{Stored, sets_after}
use Rattle.lines.specs.Put.{Put}

-- ---- bytes put one after the other

pub put_none : (b : List ℕ) (at : ℕ) → Put b at [] at b
put_none b at = record { next = sym (add-zero at); holds = refl }

module _ {b : List ℕ} {at : ℕ} {xs : List ℕ} {p : ℕ} {m : List ℕ} (h : Put b at xs p m) where
  pub put_length : length m ≡ length b
  put_length = rw h.holds (length-sets b at xs)

  pub put_then : {ys : List ℕ} {q : ℕ} {a : List ℕ} → Put m p ys q a → Put b at (xs ++ ys) q a
  put_then {ys} g = record {
    next = omega (arith, h.next, g.next, length-append xs ys);
    holds = rw (g.holds, h.holds, h.next) (sets_after xs ys b at);
  }

  -- where there was room for more, there is room for what is left
  pub put_left : (n : ℕ) → at + (length xs + n) ≤ length b → p + n ≤ length m
  put_left n r = omega (arith, h.next, put_length)

  -- two parts that were put at once
  pub put_both : (ys zs : List ℕ) {q : ℕ} {a : List ℕ} → Put m p (ys ++ zs) q a → Put b at (xs ++ ys ++ zs) q a
  put_both ys zs g = rw (append_assoc xs ys zs) (put_then g)

-- a loop that puts f 0, f 1, ..
pub put_stored : {f : ℕ → List ℕ} {at k p : ℕ} {b m : List ℕ} → Stored f at k p b m → Put b at (each k f) p m
put_stored h = record { next = h.next; holds = h.holds }

-- bytes that were copied into a part of the text
pub put_part : (b : List ℕ) (at k : ℕ) (s new : List ℕ) → at + length s ≤ length b → new ≡ s → k ≡ length s
    → Put b at s (at + length s) (put_mid at k b new)
put_part b at k s new room same all = record {
  next = refl;
  holds =
      put_mid-paste at k b new s (length s) same (sym all) refl
      ∙ paste_all b at s (length s) refl
      ∙ sym (sets-eq s b at room ∙ append_assoc (take at b) s (drop (at + length s) b));
}

-- the place after bytes that were put at the start counts bytes of the text
pub put_counts : {b : List ℕ} {bytes : List ℕ} {p : ℕ} {m : List ℕ} → Put b 0 bytes p m → length bytes ≤ length b → (p ≤ length m) × (p ≡ length (take p m))
put_counts {b} {bytes} {p} {m} h r =
    let l : p ≤ length m = omega (arith, h.next, put_length h) in
    (l, sym (length-take-le p m l))

-- bytes that were put on a page at the start of a text
pub put_page : {t : List ℕ} {at : ℕ} {bytes : List ℕ} {p : ℕ} {m : List ℕ} → Put t at bytes p m → (b want a : List ℕ)
    → t ≡ b → at ≡ 0 → want ≡ bytes → a ≡ m → Put b 0 want p a
put_page h b want a text start same last = record {
  next = omega (arith, h.next, start, ap length same);
  holds = last ∙ h.holds ∙ (λ i. sets (text i) (start i) (sym same i));
}
