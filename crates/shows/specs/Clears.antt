-- A stopping box empties its queues: the store after the code has cleared them. And loops that differ nowhere that counts. Assumes nothing.
use Rattle.std.specs.Prelude.{ℕ, zero, suc, ◌≤◌, ◌<◌, ◌≡◌, true, false, ◌⊎◌, ◌≢◌}
use Rattle.std.proofs.Math.Path.{refl, ap}
use Rattle.std.proofs.Common.{sym, ap₂, ◌∙◌}
use Rattle.std.proofs.Math.Bool.{true≢false}
use mathlib.Core.List.{List, []}
use Rattle.std.proofs.Math.Logic.{inl, inr, ⊎_elim}
use native.Mathlib.Omega.{arith}
use Rattle.std.proofs.Math.Decide.{ℕ_discrete}
use Rattle.rules.specs.Sets.{mem, for_each}
use Rattle.rules.specs.Box.{Msg, Box, save_lists, save_heads, take_set, take_sets}
use Rattle.sets.specs.Loops.{by_bool, for_each_keeps}
use Rattle.wires.specs.Wires.{sixteen, Waiting, waiting, Formed, cleared, Cleared}
use Rattle.wires.proofs.Laws.{clear_law, sixteen_proper}
use Rattle.mail.specs.Gather.{wire_of, clear_to}
use Rattle.shows.specs.Held.{holds_both, wire_lt, wire_other}

-- ---- the queues of box b are emptied

module _ (b : ℕ) (hb : b < 16) (links : ℕ) (s : List ℕ) (F : Formed sixteen s) where
  pub record Emptied (n : ℕ) (u : List ℕ) : Type 0 where
    pub formed : Formed sixteen u
    pub done : (j : ℕ) → j < n → j < 16 → mem j links ≡ true → waiting sixteen u (wire_of j b) ≡ holds_both [] (waiting sixteen s (wire_of j b)).way
    pub kept : (c d : ℕ) → c < 16 → d < 16 → (d ≢ b) ⊎ ((n ≤ c) ⊎ (mem c links ≡ false)) → waiting sixteen u (wire_of c d) ≡ waiting sixteen s (wire_of c d)

  pub emptied : Emptied 16 (clear_to b links 16 s)
  unfolding clear_to
  emptied =
      for_each_keeps links (λ j u. cleared sixteen u (wire_of j b)) Emptied 16 s (record { formed = F; done = λ j l. absurd (omega arith); kept = λ c d hc hd z. refl })
      (λ n u l m E.
      let L : Cleared sixteen u (wire_of n b) (cleared sixteen u (wire_of n b)) = clear_law sixteen sixteen_proper u (wire_of n b) E.formed.size (wire_lt n b l hb) in
      record {
        formed = L.formed E.formed;
        done = λ j q hj v. elim (ℕ_discrete j n) [
          | yes e ↦ rw e (L.emptied ∙ ap (λ (x : Waiting). holds_both [] x.way) (E.kept n b l hb (inr (inl (omega arith)))))
          | no e ↦ L.others (wire_of j b) (wire_other j b n b hb hb (inl e)) ∙ E.done j (omega arith) hj v
        ];
        kept = λ c d hc hd z. L.others (wire_of c d) (wire_other c d n b hd hb (⊎_elim (λ x. inr x)
            (λ x. inl (λ e. ⊎_elim (λ y. omega arith) (λ y. true≢false (sym m ∙ ap (λ (i : ℕ). mem i links) (sym e) ∙ y)) x)) z))
            ∙ E.kept c d hc hd (⊎_elim (λ x. inl x) (λ x. inr (⊎_elim (λ y. inl (omega arith)) (λ y. inr y) x)) z);
      })
      (λ n u l m E. record {
        formed = E.formed;
        done = λ j q hj v. E.done j (elim (ℕ_discrete j n) [ yes e ↦ absurd (true≢false (sym v ∙ ap (λ (i : ℕ). mem i links) e ∙ m)) | no e ↦ omega arith ]) hj v;
        kept = λ c d hc hd z. E.kept c d hc hd (⊎_elim (λ x. inl x) (λ x. inr (⊎_elim (λ y. inl (omega arith)) (λ y. inr y) x)) z);
      })

-- ---- loops that say the same where it counts

for_each_same : {A : Type 0} (s : ℕ) (f g : ℕ → A → A) (n : ℕ) (a : A) → ((k : ℕ) → k < n → mem k s ≡ true → (x : A) → f k x ≡ g k x) → for_each s f n a ≡ for_each s g n a
unfolding for_each
for_each_same s f g zero a e = refl
for_each_same s f g (suc n) a e =
    let ih : for_each s f n a ≡ for_each s g n a = for_each_same s f g n a (λ k l. e k (omega arith)) in
    by_bool (mem n s)
    (λ m. rw m (e n (omega arith) m (for_each s f n a) ∙ ap (g n) ih))
    (λ m. rw m ih)

-- only the heads of links are taken
pub heads_same : (n : ℕ) (f g : ℕ → ℕ) (b : Box) → ((j : ℕ) → j < 16 → mem j n ≡ true → f j ≡ g j) → take_sets 16 n f b ≡ take_sets 16 n g b
unfolding take_sets
heads_same n f g b e = for_each_same n (λ j. take_set 16 j (f j)) (λ j. take_set 16 j (g j)) 16 b (λ j l m x. ap (λ (s : ℕ). take_set 16 j s x) (e j l m))

pub saves_same : (n : ℕ) (f g : ℕ → List Msg) (t : List ℕ) → ((j : ℕ) → j < n → f j ≡ g j) → save_heads n f t ≡ save_heads n g t
unfolding save_heads
saves_same zero f g t e = refl
saves_same (suc n) f g t e = ap₂ save_lists (e n (omega arith)) (saves_same n f g t (λ j l. e j (omega arith)))
