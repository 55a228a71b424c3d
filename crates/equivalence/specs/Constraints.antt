-- What a view-equivalent order of the committed cues must keep, told by cues alone. Assumes nothing.
-- c says which cues are committed; an entry stands between those before it and those after it.
use Rattle.std.specs.Prelude.{◌≡◌, ℕ, Bool, true, false, not, ◌&&◌, ◌||◌, ◌⊎◌, List, [], ◌∷◌, ◌++◌, Some, None, Decides, Option, ◌==◌}
use Rattle.std.specs.Option.{option_map}
use Rattle.lists.specs.Lists.{some, last_where}
use Rattle.orders.specs.Orders.{precedes}
use Rattle.orders.specs.Least.{Rearranges}
use Rattle.history.specs.declared.Entry.{Entry}
use Rattle.history.specs.Conflicts.{reads, writes}
use Rattle.history.specs.Entries.{committed}
use Rattle.history.specs.Order.{committed_cues}
use Rattle.history.specs.Views.{view_equivalent}
use Rattle.equivalence.specs.Laws.{Sameness}

-- some element passes, with those before it, of which seen came earlier, and those after it
abbrev pub amid : {X : Type 0} → (List X → X → List X → Bool) → List X → List X → Bool
amid test seen [] = false
amid test seen (x ∷ xs) = test seen x xs || amid test (seen ++ x ∷ []) xs

module _ {K : Type 0} (alike : K → K → Bool) (c : ℕ → Bool) where
  -- w is a write of k by a committed cue
  abbrev pub sets : K → Entry K → Bool
  sets k w = c w.cue && writes (alike k) w.act

  -- cue n has such a write among these entries
  abbrev pub writer : K → List (Entry K) → ℕ → Bool
  writer k ws n = some (λ w. (w.cue == n) && sets k w) ws

  -- the cue of the last such write
  abbrev pub last_writer : K → List (Entry K) → Option ℕ
  last_writer k ws = option_map (λ w. w.cue) (last_where (sets k) ws)

  -- A read of k by cue i, by the cue whose write it reads.
  -- No order can do: the write is another cue's, and hidden by a write of i before the read or by one of that cue after it.
  abbrev pub read_hides : K → ℕ → List (Entry K) → List (Entry K) → Option ℕ → Bool
  read_hides k i before after None = false
  read_hides k i before after (Some j) = not (j == i) && (writer k before i || writer k after j)

  -- a comes before b: the reader of the initial state before each other writer; the cue of the write before the reader
  abbrev pub read_ahead : K → ℕ → List (Entry K) → Option ℕ → ℕ → ℕ → Bool
  read_ahead k i after None a b = a == i && (not (b == i) && writer k after b)
  read_ahead k i after (Some j) a b = a == j && (b == i && not (j == i))

  -- n, another writer of k, does not stand between j, the cue of the write, and the reader r
  abbrev pub read_apart : K → ℕ → List (Entry K) → List (Entry K) → Option ℕ → ℕ → ℕ → ℕ → Bool
  read_apart k i before after None j r n = false
  read_apart k i before after (Some s) j r n = (j == s && (r == i && not (s == i))) && ((not (n == s) && not (n == i)) && (writer k before n || writer k after n))

  -- a write of k by cue i, by the cue of the last write of k after it: i comes before that cue
  abbrev pub write_ahead : ℕ → Option ℕ → ℕ → ℕ → Bool
  write_ahead i None a b = false
  write_ahead i (Some l) a b = a == i && (b == l && not (l == i))

  -- what the entry e of a committed cue asks
  abbrev pub hides : List (Entry K) → Entry K → List (Entry K) → Bool
  hides before e after = c e.cue && reads (λ k. read_hides k e.cue before after (last_writer k before)) e.act

  abbrev pub ahead : ℕ → ℕ → List (Entry K) → Entry K → List (Entry K) → Bool
  ahead a b before e after = c e.cue && (reads (λ k. read_ahead k e.cue after (last_writer k before) a b) e.act || writes (λ k. write_ahead e.cue (last_writer k after) a b) e.act)

  abbrev pub apart : ℕ → ℕ → ℕ → List (Entry K) → Entry K → List (Entry K) → Bool
  apart j r n before e after = c e.cue && reads (λ k. read_apart k e.cue before after (last_writer k before) j r n) e.act

module _ {K : Type 0} (alike : K → K → Bool) (es : List (Entry K)) where
  -- some read's source is hidden in every order
  abbrev pub is_hidden : Bool
  is_hidden = amid (hides alike (committed es)) [] es

  -- a must come before b
  abbrev pub is_ahead : ℕ → ℕ → Bool
  is_ahead a b = amid (ahead alike (committed es) a b) [] es

  -- n must not stand between j and r
  abbrev pub is_apart : ℕ → ℕ → ℕ → Bool
  is_apart j r n = amid (apart alike (committed es) j r n) [] es

  -- the order keeps all of it
  pub record Allows (o : List ℕ) : Type 0 where
    pub shown : is_hidden ≡ false
    pub ahead : (a b : ℕ) → is_ahead a b ≡ true → precedes a b o ≡ true
    pub apart : (j r n : ℕ) → is_apart j r n ≡ true → (precedes n j o ≡ true) ⊎ (precedes r n o ≡ true)

-- an order of the committed cues is view-equivalent exactly when it does
abbrev pub ViewIsAllowed : Type 0 → Type 0
ViewIsAllowed K = (alike : K → K → Bool) → Sameness alike → (es : List (Entry K)) (o : List ℕ) → Rearranges (committed_cues es) o → Decides (view_equivalent alike es o) (Allows alike es o)
