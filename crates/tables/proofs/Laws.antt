-- What the entries before the wires' words are after a store of one, and after every call on the wires; and that a wire is as it was after a store of an entry.
-- Assumes nothing.
use Prim.Native.Nat.{ℕ, zero, suc, ◌+◌, ◌%◌, ◌≤◌, ◌<◌}
use native.Mathlib.Nat.{add-zero, mod-eq_of_lt}
use native.Mathlib.Decide.{ℕ_discrete}
use native.Mathlib.Omega.{arith}
use mathlib.Core.Path.{◌≡◌, refl, sym, ap, ap₂, subst, ◌∙◌}
use mathlib.Core.Logic.{◌≢◌}
use mathlib.Core.List.{List, [], ◌∷◌}
use lib.Dec.{eqb}
use lib.ListN.{length, set, length-set, length-replicate, get_or-replicate}
use lib.Seq.{get_or-set_same, get_or-set_other, ext_get_or}
use Rattle.sets.specs.Loops.{pick}
use Rattle.rules.specs.Sets.{word}
use Rattle.wires.specs.Wires.{sixteen, place, Formed, queued, under_way, waiting, none, has_room, pushed, arrived, skipped, taken, cleared}
use Rattle.wires.proofs.Laws.{waiting_agree, none_law, sixteen_proper}
use Rattle.tables.specs.declared.Table.{Table}
use Rattle.tables.specs.declared.Table.TheVariants.{Links, Heard, Busy}
use Rattle.tables.specs.Table.{begins}
use Rattle.tables.specs.Tables.{entry_of, with_entry, entries, links_of, heard_of, busy_of, with_heard, with_busy, lay_to, laid}

-- ---- tables

pub entries_length : (s : List ℕ) (k n : ℕ) → length (entries s k n) ≡ n
unfolding entries
entries_length s k zero = refl
entries_length s k (suc n) = ap suc (entries_length s (k + 1) n)

pub entries_at : (s : List ℕ) (k n b : ℕ) → b < n → word (entries s k n) b ≡ entry_of s (k + b)
unfolding entries
entries_at s k zero b l = absurd (omega arith)
entries_at s k (suc n) zero l = rw add-zero
entries_at s k (suc n) (suc b) l =
    let e : k + 1 + b ≡ k + suc b = omega arith in
    entries_at s (k + 1) n b (omega arith) ∙ ap (entry_of s) e

pub links_at : (s : List ℕ) (b : ℕ) → b < 16 → word (links_of s) b ≡ entry_of s b
links_at s b l = let e : 0 + b ≡ b = omega arith in entries_at s 0 16 b l ∙ ap (entry_of s) e

pub entries_agree : (s s' : List ℕ) (k n : ℕ) → ((b : ℕ) → b < n → entry_of s' (k + b) ≡ entry_of s (k + b)) → entries s' k n ≡ entries s k n
unfolding entries
entries_agree s s' k zero f = refl
entries_agree s s' k (suc n) f =
    ap₂ ◌∷◌ (rw add-zero at (f 0 (omega arith)))
    (entries_agree s s' (k + 1) n (λ b l. let e : k + suc b ≡ k + 1 + b = omega arith in rw e at (f (suc b) (omega arith))))

pub entry_same : (s : List ℕ) (k x : ℕ) → k < length s → x < 65536 → entry_of (with_entry s k x) k ≡ x
unfolding entry_of with_entry
entry_same s k x l m = ap (λ (y : ℕ). y % 65536) (get_or-set_same s k x 0 l) ∙ mod-eq_of_lt m

pub entry_other : (s : List ℕ) (k j x : ℕ) → j ≢ k → entry_of (with_entry s k x) j ≡ entry_of s j
unfolding entry_of with_entry
entry_other s k j x ne = ap (λ (y : ℕ). y % 65536) (get_or-set_other s k j x 0 ne)

pub put_length : (s : List ℕ) (k x : ℕ) → length (with_entry s k x) ≡ length s
unfolding with_entry
put_length s k x = length-set s k x

-- every table stands before the wires
pub table_low : (t : Table) (b : ℕ) → b < 16 → begins t + b < 48
table_low Links b l = omega arith
table_low Heard b l = omega arith
table_low Busy b l = omega arith

-- an entry of the table is stored
table_put : (s : List ℕ) (k n b x : ℕ) → b < n → k + n ≤ length s → x < 65536 → entries (with_entry s (k + b) x) k n ≡ set (entries s k n) b x
unfolding entries
table_put s k zero b x l h m = absurd (omega arith)
table_put s k (suc n) zero x l h m =
    ap₂ ◌∷◌ (rw add-zero (entry_same s k x (omega arith) m)) (entries_agree s _ (k + 1) n (λ b _. entry_other s (k + 0) (k + 1 + b) x (omega arith)))
table_put s k (suc n) (suc b) x l h m =
    let e : k + suc b ≡ k + 1 + b = omega arith in
    ap₂ ◌∷◌ (entry_other s (k + suc b) k x (omega arith)) (subst (λ (p : ℕ). entries (with_entry s p x) (k + 1) n ≡ set (entries s (k + 1) n) b x) (sym e) (table_put s (k + 1) n b x (omega arith) (omega arith) m))

-- an entry of another table is
table_other : (s : List ℕ) (k n j x : ℕ) → ((b : ℕ) → b < n → k + b ≢ j) → entries (with_entry s j x) k n ≡ entries s k n
table_other s k n j x f = entries_agree s _ k n (λ b l. entry_other s j (k + b) x (f b l))

module _ (s : List ℕ) (k x : ℕ) (size : length s ≡ 9264) (l : k < 16) (m : x < 65536) where
  heard_heard : heard_of (with_heard s k x) ≡ set (heard_of s) k x
  heard_heard = table_put s 16 16 k x l (omega arith) m

  pub busy_busy : busy_of (with_busy s k x) ≡ set (busy_of s) k x
  busy_busy = table_put s 32 16 k x l (omega arith) m

module _ (s : List ℕ) (k x : ℕ) (l : k < 16) where
  links_heard : links_of (with_heard s k x) ≡ links_of s
  links_heard = table_other s 0 16 (16 + k) x (λ b h. omega arith)

  busy_heard : busy_of (with_heard s k x) ≡ busy_of s
  busy_heard = table_other s 32 16 (16 + k) x (λ b h. omega arith)

  pub links_busy : links_of (with_busy s k x) ≡ links_of s
  links_busy = table_other s 0 16 (32 + k) x (λ b h. omega arith)

  pub heard_busy : heard_of (with_busy s k x) ≡ heard_of s
  heard_busy = table_other s 16 16 (32 + k) x (λ b h. omega arith)

-- the two that every turn stores: what box b has heard, then to whom box a has messages under way
module _ (s : List ℕ) (a b h to : ℕ) (size : length s ≡ 9264) (la : a < 16) (lb : b < 16) (lh : h < 65536) (lt : to < 65536) where
  abbrev both : List ℕ
  both = with_busy (with_heard s b h) a to

  pub both_links : links_of both ≡ links_of s
  both_links = links_busy (with_heard s b h) a to la ∙ links_heard s b h lb

  pub both_heard : heard_of both ≡ set (heard_of s) b h
  both_heard = heard_busy (with_heard s b h) a to la ∙ heard_heard s b h size lb lh

  pub both_busy : busy_of both ≡ set (busy_of s) a to
  both_busy = busy_busy (with_heard s b h) a to (put_length s (16 + b) h ∙ size) la lt ∙ ap (λ (z : List ℕ). set z a to) (busy_heard s b h lb)

-- ---- the wires after a store of an entry

pub put_waits : (s : List ℕ) (k x i : ℕ) → k < 48 → waiting sixteen (with_entry s k x) i ≡ waiting sixteen s i
unfolding with_entry
put_waits s k x i l = waiting_agree sixteen sixteen_proper s (set s k x) i (λ p _. get_or-set_other s k (place sixteen i p) x 0 (omega arith))

pub put_formed : (s : List ℕ) (k x : ℕ) → k < 48 → Formed sixteen s → Formed sixteen (with_entry s k x)
put_formed s k x l f = record { size = put_length s k x ∙ f.size; room = λ i. rw (put_waits s k x i l) (f.room i) }

-- ---- the entries after a call on the wires

-- the entries of two stores are the same
abbrev pub Same : List ℕ → List ℕ → Type 0
Same s s' = (k : ℕ) → k < 48 → entry_of s' k ≡ entry_of s k

pub same_refl : (s : List ℕ) → Same s s
same_refl s k l = refl

pub same_trans : (s s' s'' : List ℕ) → Same s s' → Same s' s'' → Same s s''
same_trans s s' s'' f g k l = g k l ∙ f k l

pub same_links : (s s' : List ℕ) → Same s s' → links_of s' ≡ links_of s
same_links s s' f = entries_agree s s' 0 16 (λ b l. f (0 + b) (omega arith))

pub same_heard : (s s' : List ℕ) → Same s s' → heard_of s' ≡ heard_of s
same_heard s s' f = entries_agree s s' 16 16 (λ b l. f (16 + b) (omega arith))

pub same_busy : (s s' : List ℕ) → Same s s' → busy_of s' ≡ busy_of s
same_busy s s' f = entries_agree s s' 32 16 (λ b l. f (32 + b) (omega arith))

stored : (s : List ℕ) (i p v : ℕ) → Same s (set s (place sixteen i p) v)
unfolding entry_of
stored s i p v k l = ap (λ (y : ℕ). y % 65536) (get_or-set_other s (place sixteen i p) k v 0 (omega arith))

stored_twice : (s : List ℕ) (i p v q u : ℕ) → Same s (set (set s (place sixteen i p) v) (place sixteen i q) u)
stored_twice s i p v q u = same_trans s _ _ (stored s i p v) (stored (set s (place sixteen i p) v) i q u)

pub pushed_same : (s : List ℕ) (i x : ℕ) → Same s (pushed sixteen s i x)
unfolding pushed
pushed_same s i x = pick (Same s) (has_room sixteen s i) (stored_twice s i _ x _ _) (same_refl s)

pub arrived_same : (s : List ℕ) (i : ℕ) → Same s (arrived sixteen s i)
unfolding arrived
arrived_same s i = pick (Same s) (eqb (under_way sixteen s i) 0) (same_refl s) (stored_twice s i _ _ _ _)

pub skipped_same : (s : List ℕ) (i : ℕ) → Same s (skipped sixteen s i)
unfolding skipped
skipped_same s i =
    pick (Same s) (eqb (queued sixteen s i) 0) (pick (Same s) (eqb (under_way sixteen s i) 0) (same_refl s) (stored_twice s i _ _ _ _)) (same_refl s)

pub taken_same : (s : List ℕ) (i : ℕ) → Same s (taken sixteen s i)
unfolding taken
taken_same s i = pick (Same s) (eqb (queued sixteen s i) 0) (same_refl s) (stored_twice s i _ _ _ _)

pub cleared_same : (s : List ℕ) (i : ℕ) → Same s (cleared sixteen s i)
unfolding cleared
cleared_same s i = stored_twice s i _ _ _ _

-- ---- the store of a sleeping hub

lay_length : (t : List ℕ) (n : ℕ) (s : List ℕ) → length (lay_to t n s) ≡ length s
unfolding lay_to
lay_length t zero s = refl
lay_length t (suc n) s = put_length (lay_to t n s) n (word t n) ∙ lay_length t n s

lay_waits : (t : List ℕ) (n : ℕ) (s : List ℕ) (i : ℕ) → n ≤ 48 → waiting sixteen (lay_to t n s) i ≡ waiting sixteen s i
unfolding lay_to
lay_waits t zero s i l = refl
lay_waits t (suc n) s i l = put_waits (lay_to t n s) n (word t n) i (omega arith) ∙ lay_waits t n s i (omega arith)

lay_formed : (t : List ℕ) (n : ℕ) (s : List ℕ) → n ≤ 48 → Formed sixteen s → Formed sixteen (lay_to t n s)
unfolding lay_to
lay_formed t zero s l f = f
lay_formed t (suc n) s l f = put_formed (lay_to t n s) n (word t n) (omega arith) (lay_formed t n s (omega arith) f)

lay_past : (t : List ℕ) (n : ℕ) (s : List ℕ) (k : ℕ) → n ≤ k → entry_of (lay_to t n s) k ≡ entry_of s k
unfolding lay_to
lay_past t zero s k l = refl
lay_past t (suc n) s k l = entry_other (lay_to t n s) n k (word t n) (omega arith) ∙ lay_past t n s k (omega arith)

lay_at : (t : List ℕ) (n : ℕ) (s : List ℕ) (k : ℕ) → k < n → n ≤ length s → word t k < 65536 → entry_of (lay_to t n s) k ≡ word t k
unfolding lay_to
lay_at t zero s k l h m = absurd (omega arith)
lay_at t (suc n) s k l h m =
    elim (ℕ_discrete k n) [
      | yes e ↦ rw e (entry_same (lay_to t n s) n (word t n) (omega (arith, lay_length t n s)) (rw e at m))
      | no e ↦ entry_other (lay_to t n s) n k (word t n) e ∙ lay_at t n s k (omega arith) (omega arith) m
    ]

pub laid_waits : (t : List ℕ) (i : ℕ) → waiting sixteen (laid t) i ≡ record { queue = []; way = [] }
unfolding laid
laid_waits t i = lay_waits t 16 (none sixteen) i (omega arith) ∙ (none_law sixteen sixteen_proper).nothing i

pub laid_formed : (t : List ℕ) → Formed sixteen (laid t)
unfolding laid
laid_formed t = lay_formed t 16 (none sixteen) (omega arith) (none_law sixteen sixteen_proper).formed

none_entry : (k : ℕ) → k < 48 → entry_of (none sixteen) k ≡ 0
unfolding entry_of none
none_entry k l = ap (λ (y : ℕ). y % 65536) (get_or-replicate {A = ℕ} 9264 k 0 0 (omega arith))

-- no entry past the link table
laid_past : (t : List ℕ) (k : ℕ) → 16 ≤ k → k < 48 → entry_of (laid t) k ≡ 0
unfolding laid
laid_past t k l m = lay_past t 16 (none sixteen) k l ∙ none_entry k m

pub laid_heard : (t : List ℕ) (b : ℕ) → b < 16 → word (heard_of (laid t)) b ≡ 0
laid_heard t b l = entries_at (laid t) 16 16 b l ∙ laid_past t (16 + b) (omega arith) (omega arith)

pub laid_busy : (t : List ℕ) (b : ℕ) → b < 16 → word (busy_of (laid t)) b ≡ 0
laid_busy t b l = entries_at (laid t) 32 16 b l ∙ laid_past t (32 + b) (omega arith) (omega arith)

laid_at : (t : List ℕ) (b : ℕ) → b < 16 → word t b < 65536 → entry_of (laid t) b ≡ word t b
unfolding laid none
laid_at t b l m = lay_at t 16 (none sixteen) b l (omega (arith, length-replicate {A = ℕ} 9264 0)) m

-- the link table, of sixteen sets
pub laid_links : (t : List ℕ) → length t ≡ 16 → ((b : ℕ) → b < 16 → word t b < 65536) → links_of (laid t) ≡ t
laid_links t e m = ext_get_or 0 (links_of (laid t)) t (entries_length (laid t) 0 16 ∙ sym e) (λ b l. let h : b < 16 = omega (arith, entries_length (laid t) 0 16) in links_at (laid t) b h ∙ laid_at t b h (m b h))
