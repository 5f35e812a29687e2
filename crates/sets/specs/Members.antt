-- What a turn of the loop over a set's boxes takes, and the law of such a loop: what remains to be done for the boxes that are left comes to the same after
-- each turn. Assumes nothing.
use Rattle.std.specs.Prelude.{ℕ, ◌≡◌, ◌≢◌, ◌^◌, ◌<◌, Option, None, Some, refl}
use Rattle.rules.specs.Sets.{mem, without, least, for_each}
use Rattle.sets.specs.Loops.{rest_done}
use Rattle.sets.specs.declared.Members.{Members}

-- none has a set that is empty; of any other it is the first that is in it
abbrev pub IsLowest : ℕ → Option ℕ → Type 0
IsLowest s None = s ≡ 0
IsLowest s (Some j) = (s ≢ 0) × ((j ≡ least 16 (λ k. mem k s)) × (j < 16))

-- of a set s its lowest box j, and what is left after that
pub record Lowest (s j t : ℕ) : Type 0 where
  pub small : s < 2 ^ 16
  pub lowest : IsLowest s (Some j)
  pub rest : t ≡ without s (2 ^ j)

abbrev pub Takes : Members → Option ℕ → Members → Type 0
Takes s None t = s.rest ≡ 0
Takes s (Some j) t = Lowest s.rest j t.rest

-- a turn that has done f for the box that it took
pub turn_done : {A : Type 0} {s j t : ℕ} → Lowest s j t → (f : ℕ → A → A) (x : A) {y : A} → y ≡ f j x → for_each t f 16 y ≡ for_each s f 16 x
turn_done l f x e = rest_done 16 l.small l.lowest.0 l.lowest.1.0 refl l.rest f x e
