-- What an accepted entry does to a book. Assumes nothing.
use Rattle.std.proofs.Common.{◌≡◌, ℕ, suc, ◌+◌, ◌-◌, ◌<◌, ◌≤◌, min, Bool, true, false, cond, not, leb, List, [], ◌∷◌, ◌++◌, length, take, drop, set, Ok, Err, sym, refl, ap, ◌∙◌, arith}
use Rattle.std.proofs.lemmas.List.{append_assoc, length-set, length-take, length-take-le, length_push, set_split, take_more_set}
use Rattle.std.proofs.lemmas.Slice.{drop-append-drop}
use Rattle.lists.proofs.Takes.{take_drop_length}
use Rattle.std.proofs.lemmas.Bool.{leb-false}
use Rattle.refusals.specs.declared.Refusal.TheVariants.{NoSuchCue, CueEnded, BookFull}
use Rattle.history.specs.declared.Entry.{Entry}
use Rattle.history.specs.Entries.{is_cue, ended}
use Rattle.book.specs.declared.Book.{Book}
use Rattle.book.specs.Entering.{room, accepted, entered, Lays}

-- an answer that is a place means that no refusal was met
pub record Free (places n p : ℕ) : Type 0 where
  pub next : p ≡ n + 1
  pub fits : n < places

free_by : (a b c : Bool) (places n p : ℕ) → c ≡ leb places n → cond (not a) (Err NoSuchCue) (cond b (Err CueEnded) (cond c (Err BookFull) (Ok (n + 1)))) ≡ Ok p → Free places n p
free_by false b c places n p is e = absurd (let z : ◌≡◌ {A = ℕ} 0 1 = cc in omega arith)
free_by true true c places n p is e = absurd (let z : ◌≡◌ {A = ℕ} 0 1 = cc in omega arith)
free_by true false true places n p is e = absurd (let z : ◌≡◌ {A = ℕ} 0 1 = cc in omega arith)
free_by true false false places n p is e = record { next = cc; fits = leb-false places n (sym is) }

module _ {K : Type 0} where
  pub entered_free : (places : ℕ) (es : List (Entry K)) (n p : ℕ) → entered places es n ≡ Ok p → Free places (length es) p
  entered_free places es n p is = free_by (is_cue n) (ended es n) (leb places (length es)) places (length es) p refl is

  -- the place lies in the memory, right after the entries
  pub place_within : (len : ℕ) (memory : List (Entry K)) (p : ℕ) → Free (min (length memory) 4096) (length (take len memory)) p → (p ≡ len + 1) × (len < length memory)
  place_within len memory p free =
      let m = length-take len memory in
      (omega (arith, m, free.next, free.fits), omega (arith, m, free.fits))

  pub grows : (len : ℕ) (memory : List (Entry K)) (p : ℕ) (e : Entry K) → Free (min (length memory) 4096) (length (take len memory)) p → take p (set memory (p - 1) e) ≡ take len memory ++ e ∷ []
  grows len memory p e free =
      let w = place_within len memory p free in
      let back : p - 1 ≡ len = omega (arith, w.0) in
      (λ i. take (w.0 i) (set memory (back i) e)) ∙ take_more_set memory len e w.1

  -- a call that accepts nothing
  pub lays_none : (b : Book K) → Lays b b
  lays_none b = record { memory = sym (take_drop_length b.len b.memory.now); size = refl; count = omega arith; lender = refl }

  -- a call that accepts one entry, at a place that is free
  pub lays_free : (b after : Book K) (p : ℕ) (e : Entry K) → Free (room b) (length (accepted b)) p → after.memory.now ≡ set b.memory.now (p - 1) e → after.len ≡ p → after.memory.ghost_name ≡ b.memory.ghost_name → Lays b after
  lays_free b after p e free put len lender =
      let memory = b.memory.now in
      let many = length-take-le b.len memory b.within in
      let spare : b.len < length memory = omega (arith, free.fits, many) in
      let next : p ≡ b.len + 1 = omega (arith, free.next, many) in
      let back : p - 1 ≡ b.len = omega (arith, next) in
      let new : accepted after ≡ accepted b ++ e ∷ [] = (λ i. take ((len ∙ next) i) ((put ∙ ap (λ (n : ℕ). set memory n e) back) i)) ∙ take_more_set memory b.len e spare in
      let more : length (accepted after) ≡ suc b.len = ap length new ∙ length_push (accepted b) e ∙ omega (arith, many) in
      record {
        memory =
            put
            ∙ ap (λ (n : ℕ). set memory n e) back
            ∙ set_split memory b.len e spare
            ∙ sym (append_assoc (accepted b) (e ∷ []) (drop (suc b.len) memory))
            ∙ sym (λ i. new i ++ drop (more i) memory);
        size = ap length put ∙ length-set memory (p - 1) e;
        count = omega (arith, len, next, more, many);
        lender = lender;
      }

  -- the same, where the place was answered
  pub lays_one : (b after : Book K) (p : ℕ) (e : Entry K) → entered (room b) (accepted b) e.cue ≡ Ok p → after.memory.now ≡ set b.memory.now (p - 1) e → after.len ≡ p → after.memory.ghost_name ≡ b.memory.ghost_name → Lays b after
  lays_one b after p e is put len lender = lays_free b after p e (entered_free (room b) (accepted b) e.cue p is) put len lender

  -- two calls, one after the other
  pub lays_two : (a b c : Book K) → Lays a b → Lays b c → length (accepted a) ≤ length (accepted b) → length (accepted b) ≤ length (accepted c) → Lays a c
  lays_two a b c first second h k =
      let n = length (accepted c) in
      record {
        memory =
            second.memory
            ∙ ap (λ (xs : List (Entry K)). accepted c ++ drop n xs) first.memory
            ∙ ap (λ (xs : List (Entry K)). accepted c ++ xs) (drop-append-drop (length (accepted b)) a.memory.now (accepted b) n k refl);
        size = second.size ∙ first.size;
        count = omega (arith, first.count, second.count);
        lender = second.lender ∙ first.lender;
      }
