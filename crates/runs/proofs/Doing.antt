-- What reading in and endings leave, and a call under another name. Assumes nothing.
use Rattle.std.proofs.Common.{◌≡◌, ℕ, ◌+◌, Bool, List, [], ◌∷◌, ◌++◌, length, drop, Some, None, Ok, Err, Option, Result, sym, refl, ap, ◌∙◌, subst, append_assoc, append-nil, arith}
use Rattle.std.proofs.lemmas.List.{drop_at}
use Rattle.refusals.specs.declared.Refusal.{Refusal}
use Rattle.refusals.specs.declared.Layer.{Layer}
use Rattle.history.specs.declared.Ending.{Ending}
use Rattle.history.specs.declared.Entry.{Entry}
use Rattle.book.specs.declared.tickets.Receipt.{Receipt}
use Rattle.book.specs.declared.tickets.Ticket.{Ticket}
use Rattle.book.specs.Entering.{entered}
use Rattle.book.specs.Reading.{lines_of, line_entered, step, read_from, read_in}
use Rattle.book.specs.Tickets.{closed}
use Rattle.runs.specs.declared.Answer.{Answer}
use Rattle.runs.specs.declared.Call.{Call}
use Rattle.runs.specs.declared.Call.TheVariants as call
use Rattle.runs.specs.declared.Failure.{Failure}
use Rattle.runs.specs.Holding.{set_ticket}
use Rattle.runs.specs.Runs.{State, ticket_at, after, Right}
use Rattle.runs.proofs.Holding.{put_back}

-- reading in only adds
module _ {K : Type 0} (parsed : List ℕ → Option K) (places : ℕ) where
  pub record Adds (es all : List (Entry K)) : Type 0 where
    pub more : List (Entry K)
    pub is : all ≡ es ++ more

  read_adds : (n : ℕ) (es : List (Entry K)) (ls : List (List ℕ)) → Adds es (read_from parsed places n es ls).entries
  read_adds n es [] = record { more = []; is = sym (append-nil es) }
  read_adds n es (l ∷ ls) = go (λ e. read_adds (n + 1) (es ++ e ∷ []) ls) (line_entered parsed places es l)
    where
      onward : (e : Entry K) (all : List (Entry K)) → Adds (es ++ e ∷ []) all → Adds es all
      onward e all h = record { more = e ∷ h.more; is = h.is ∙ append_assoc es (e ∷ []) h.more }

      go : ((e : Entry K) → Adds (es ++ e ∷ []) (read_from parsed places (n + 1) (es ++ e ∷ []) ls).entries) → (r : Result (Entry K) Layer) → Adds es (step parsed n es (λ e. read_from parsed places (n + 1) (es ++ e ∷ []) ls) r).entries
      go more (Ok e) = onward e (read_from parsed places (n + 1) (es ++ e ∷ []) ls).entries (more e)
      go more (Err f) = record { more = []; is = sym (append-nil es) }

  pub read_front : (es : List (Entry K)) (sheet : List ℕ) → (read_in parsed places es sheet).entries ≡ es ++ drop (length es) (read_in parsed places es sheet).entries
  read_front es sheet =
      let a = read_adds 0 es (lines_of sheet) in
      a.is ∙ ap (λ (zs : List (Entry K)). es ++ zs) (sym (ap (drop (length es)) a.is ∙ drop_at es a.more (length es) refl))

  -- the ticket is put back, and nothing else has changed
  pub end_refused : (es : List (Entry K)) (ts : List (Option Ticket)) (n : ℕ) (d : Ending) (t u : Ticket) (f : Refusal) → ticket_at ts n ≡ Some t → Err (u, f) ≡ closed t d (entered places es t.cue) → record { entries = es; tickets = set_ticket (set_ticket ts n None) n (Some u) } ≡ after parsed places (record { entries = es; tickets = ts }) (call.End n d)
  end_refused es ts n d t u f there closes = go (entered places es t.cue) refl closes
    where
      go : (r : Result ℕ Refusal) → entered places es t.cue ≡ r → Err (u, f) ≡ closed t d r → record { entries = es; tickets = set_ticket (set_ticket ts n None) n (Some u) } ≡ after parsed places (record { entries = es; tickets = ts }) (call.End n d)
      go (Ok p) is e = cc
      go (Err g) is e =
          let pair : ◌≡◌ {A = Ticket × Refusal} (u, f) (t, g) = cc in
          let same : u ≡ t = ap (λ (q : Ticket × Refusal). q.0) pair in
          let back : set_ticket (set_ticket ts n None) n (Some u) ≡ ts = rw same (put_back ts n t there) in
          rw (there, is) (λ i. record { entries = sym (append-nil es) i; tickets = back i })

-- what an ending answered with
pub closed_ok : (t : Ticket) (d : Ending) (rc : Receipt) (r : Result ℕ Refusal) → Ok rc ≡ closed t d r → (r ≡ Ok rc.place) × (d ≡ rc.ending)
closed_ok t d rc (Ok p) e = let z : rc ≡ record { place = p; ending = d } = cc in (ap (λ (q : Receipt). Ok q.place) (sym z), ap (λ (q : Receipt). q.ending) (sym z))
closed_ok t d rc (Err f) e = absurd (let z : ◌≡◌ {A = ℕ} 0 1 = cc in omega arith)

pub closed_err : (t u : Ticket) (d : Ending) (f : Refusal) (r : Result ℕ Refusal) → Err (u, f) ≡ closed t d r → (r ≡ Err f) × (u ≡ t)
closed_err t u d f (Ok p) e = absurd (let z : ◌≡◌ {A = ℕ} 0 1 = cc in omega arith)
closed_err t u d f (Err g) e =
    let z : ◌≡◌ {A = Ticket × Refusal} (u, f) (t, g) = cc in
    (ap (λ (q : Ticket × Refusal). Err q.1) (sym z), ap (λ (q : Ticket × Refusal). q.0) z)

-- what a call answers and leaves, said of the same call under its other name
pub same_call : {K : Type 0} (alike : K → K → Bool) (parsed : List ℕ → Option K) (places : ℕ) (s after' : State K) (k c : Call K) → k ≡ c → (a : Result Answer Failure) → Right alike parsed places s c a × (after' ≡ after parsed places s c) → Right alike parsed places s k a × (after' ≡ after parsed places s k)
same_call {K} alike parsed places s after' k c e a d = subst (λ (q : Call K). Right alike parsed places s q a × (after' ≡ after parsed places s q)) (sym e) d
