-- What has come for one box in a round, as code takes it off the queues: the set at each head, and the lists behind it. Written with the store's own
-- definitions. Definitions alone.
use Rattle.std.specs.Prelude.{ℕ, zero, suc, ◌+◌, ◌*◌, ◌^◌, Bool, cond, ◌&&◌, List, replicate, bit_or, nat_lt, slice_set}
use Rattle.rules.specs.Sets.{for_each}
use Rattle.wires.specs.Wires.{sixteen, queued, front, taken, taken_word, cleared}
use Rattle.wires.specs.Words.{is_list, origin_of, set_of}

-- the store; the sets at the heads, by link; the origins whose lists were taken, and those lists, by origin; the links whose queue is not empty
pub record Got : Type 0 where
  pub store : List ℕ
  pub heads : List ℕ
  pub listed : ℕ
  pub lists : List ℕ
  pub heard : ℕ

abbrev pub got_nothing : List ℕ → Got
got_nothing s = record { store = s; heads = replicate 16 0; listed = 0; lists = replicate 16 0; heard = 0 }

-- the wire from a to b
abbrev pub wire_of : ℕ → ℕ → ℕ
wire_of a b = a * 16 + b

-- a list stands at the head of the queue of wire i
unfoldable pub list_at : List ℕ → ℕ → Bool
list_at s i = nat_lt 0 (queued sixteen s i) && is_list (front sixteen s i)

-- it is taken
unfoldable pub take_list : ℕ → Got → Got
take_list i g =
    let x = taken_word sixteen g.store i in
    record {
      store = taken sixteen g.store i;
      heads = g.heads;
      listed = bit_or g.listed (2 ^ origin_of x);
      lists = slice_set g.lists (origin_of x) (set_of x);
      heard = g.heard;
    }

-- the lists at the head, at most n
unfoldable pub take_lists : ℕ → ℕ → Got → Got
take_lists zero i g = g
take_lists (suc n) i g = cond (list_at g.store i) (take_lists n i (take_list i g)) g

-- the head of link j is taken
unfoldable pub take_head : ℕ → ℕ → Got → Got
take_head i j g = record {
  store = taken sixteen g.store i;
  heads = slice_set g.heads j (set_of (taken_word sixteen g.store i));
  listed = g.listed;
  lists = g.lists;
  heard = g.heard;
}

-- link j is heard where its queue is not empty
unfoldable pub hear : ℕ → ℕ → Got → Got
hear i j g = record {
  store = g.store;
  heads = g.heads;
  listed = g.listed;
  lists = g.lists;
  heard = cond (nat_lt 0 (queued sixteen g.store i)) (bit_or g.heard (2 ^ j)) g.heard;
}

-- from link j to box b: the set at the head, then the lists behind it
unfoldable pub gather_link : ℕ → ℕ → Got → Got
gather_link b j g =
    let i = wire_of j b in
    let h = take_head i j g in
    hear i j (take_lists (queued sixteen h.store i) i h)

-- the links below n, ascending
unfoldable pub gather_to : ℕ → ℕ → ℕ → Got → Got
gather_to b links n g = for_each links (gather_link b) n g

-- the queues of box b, those of the links below n, are emptied
unfoldable pub clear_to : ℕ → ℕ → ℕ → List ℕ → List ℕ
clear_to b links n s = for_each links (λ j u. cleared sixteen u (wire_of j b)) n s
