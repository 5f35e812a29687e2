-- Bytes put into a lent buffer. Assumes nothing.
use Rattle.std.proofs.Common.{ℕ, ◌≡◌, refl, sym, ◌∙◌, ◌+◌, ◌≤◌, List, append_assoc, length, take, drop}
use Rattle.std.proofs.lemmas.List.Edits.{sets, paste_all, sets-eq}
use Rattle.std.proofs.lemmas.Slice.{put_mid-paste}
use borrow.Rule.Slice.PartMut.{put_mid}

-- bytes that were copied into a part of the buffer
pub part_is : (b : List ℕ) (at k : ℕ) (s new : List ℕ) → at + length s ≤ length b → new ≡ s → k ≡ length s → put_mid at k b new ≡ sets b at s
part_is b at k s new room same all =
    put_mid-paste at k b new s (length s) same (sym all) refl
    ∙ paste_all b at s (length s) refl
    ∙ sym (sets-eq s b at room ∙ append_assoc (take at b) s (drop (at + length s) b))
