-- What a book accepts. Assumes nothing.
use Rattle.std.specs.Prelude.{◌≡◌, ℕ, ◌+◌, ◌-◌, min, cond, not, List, [], ◌∷◌, ◌++◌, length, take, drop, Ok, Err, Result, nat_le}
use Rattle.refusals.specs.declared.Refusal.{Refusal}
use Rattle.refusals.specs.declared.Refusal.TheVariants.{NoSuchCue, CueEnded, BookFull}
use Rattle.history.specs.declared.Entry.{Entry}
use Rattle.history.specs.Entries.{is_cue, ended}
use Rattle.book.specs.declared.Book.{Book}

module _ {K : Type 0} where
  -- how many places a book uses
  abbrev pub room : Book K → ℕ
  room b = min (length b.memory.now) 4096

  -- the entries that it has accepted
  abbrev pub accepted : Book K → List (Entry K)
  accepted b = take b.len b.memory.now

  -- the place of an entry of the cue after these entries, or the first refusal that is met
  abbrev pub entered : ℕ → List (Entry K) → ℕ → Result ℕ Refusal
  entered places es n = cond (not (is_cue n)) (Err NoSuchCue) (cond (ended es n) (Err CueEnded) (cond (nat_le places (length es)) (Err BookFull) (Ok (length es + 1))))

  -- the entries after the answer of a call that accepts the entry, whatever it answers with
  abbrev pub grown : {A F : Type 0} → Result A F → Entry K → List (Entry K) → List (Entry K)
  grown (Ok answer) e es = es ++ e ∷ []
  grown (Err refusal) e es = es

  -- what a call that accepts entries leaves of a book b, a relation of the two books that each such call states: the accepted entries at the front of its memory, the rest of which is as it was, and counted
  pub record Lays (b after : Book K) : Type 0 where
    pub memory : after.memory.now ≡ accepted after ++ drop (length (accepted after)) b.memory.now
    pub size : length after.memory.now ≡ length b.memory.now
    pub count : after.len ≡ b.len + (length (accepted after) - length (accepted b))
    pub lender : after.memory.ghost_name ≡ b.memory.ghost_name
