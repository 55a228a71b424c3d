-- What readers and the final state can tell of an order of the committed cues. Assumes nothing.
use Rattle.std.specs.Prelude.{◌≡◌, ℕ, Bool, true, cond, not, ◌&&◌, List, [], ◌∷◌, Some, None, filter, Option, ◌==◌, nat_eq}
use Rattle.std.specs.List.{flat_map}
use Rattle.lists.specs.Lists.{every, last_where, placed}
use Rattle.orders.specs.Orders.{first_where, orders}
use Rattle.orders.specs.Least.{Stands}
use Rattle.history.specs.declared.Act.TheVariants.{Read}
use Rattle.history.specs.declared.Entry.{Entry}
use Rattle.history.specs.Conflicts.{reads, writes, touches}
use Rattle.history.specs.Entries.{committed}
use Rattle.history.specs.Order.{committed_cues}

module _ {K : Type 0} where
  -- a read or write of a committed cue
  abbrev pub counts : List (Entry K) → Entry K → Bool
  counts es e = committed es e.cue && touches (λ k. true) e.act

  -- all of them, with their places
  abbrev pub committed_list : List (Entry K) → List (ℕ × Entry K)
  committed_list es = filter (λ p. counts es p.1) (placed 1 es)

  -- each cue's entries together, the cues in the order
  abbrev pub serial_list : List (ℕ × Entry K) → List ℕ → List (ℕ × Entry K)
  serial_list ps o = flat_map (λ n. filter (λ p. nat_eq p.1.cue n) ps) o

  -- what stands in front of the place
  abbrev pub front : ℕ → List (ℕ × Entry K) → List (ℕ × Entry K)
  front q [] = []
  front q (p ∷ ps) = cond (p.0 == q) [] (p ∷ front q ps)

  -- the place, or 0 for the initial state
  abbrev pub place_of : Option (ℕ × Entry K) → ℕ
  place_of None = 0
  place_of (Some p) = p.0

module _ {K : Type 0} (alike : K → K → Bool) where
  abbrev pub last_write : K → List (ℕ × Entry K) → ℕ
  last_write k ps = place_of (last_where (λ p. writes (alike k) p.1.act) ps)

  -- the write that a read of k at the place q reads
  abbrev pub source_at : K → ℕ → List (ℕ × Entry K) → ℕ
  source_at k q ps = last_write k (front q ps)

  -- p is a read with another source in the second list
  abbrev pub rereads : List (ℕ × Entry K) → List (ℕ × Entry K) → ℕ × Entry K → Bool
  rereads ps ss p = reads (λ k. not (source_at k p.0 ps == source_at k p.0 ss)) p.1.act

  -- the item of p has another last write there
  abbrev pub leaves : List (ℕ × Entry K) → List (ℕ × Entry K) → ℕ × Entry K → Bool
  leaves ps ss p = touches (λ k. not (last_write k ps == last_write k ss)) p.1.act

  abbrev pub same_view : List (ℕ × Entry K) → List (ℕ × Entry K) → Bool
  same_view ps ss = every (λ p. not (rereads ps ss p) && not (leaves ps ss p)) ps

  -- each read has the same source in the serial list, and each item the same last write
  abbrev pub view_equivalent : List (Entry K) → List ℕ → Bool
  view_equivalent es o = same_view (committed_list es) (serial_list (committed_list es) o)

  -- the first such order of the committed cues, in dictionary order
  abbrev pub view_order : List (Entry K) → Option (List ℕ)
  view_order es = first_where (view_equivalent es) (orders (committed_cues es))

  -- the same for every read and every item, whether or not it occurs
  pub record SameView (ps ss : List (ℕ × Entry K)) : Type 0 where
    pub sources : (p : ℕ × Entry K) (k : K) → Stands p ps → p.1.act ≡ Read k → source_at k p.0 ps ≡ source_at k p.0 ss
    pub lasts : (k : K) → last_write k ps ≡ last_write k ss
