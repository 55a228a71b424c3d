-- A run, call after call. Assumes nothing.
use Rattle.std.proofs.Common.{◌≡◌, ℕ, ◌+◌, ◌-◌, ◌<◌, ◌≤◌, min, Bool, cond, ltb, List, [], ◌∷◌, ◌++◌, length, get_or, take, drop, set, Some, None, Ok, Err, Option, Result, sym, refl, ap, ◌∙◌, subst, arith}
use Rattle.std.proofs.lemmas.List.{length-append, length-set, length-take-le, take_all, take_more, take_more_set, take-append-drop, drop-set-lt, drop-drop}
use Rattle.std.proofs.lemmas.Bool.{cond-false, le-ltb}
use Rattle.refusals.specs.declared.Refusal.{Refusal}
use Rattle.history.specs.declared.Entry.{Entry}
use Rattle.book.specs.declared.Book.{Book}
use Rattle.book.specs.declared.tickets.Ticket.{Ticket}
use Rattle.book.specs.Entering.{room, accepted, entered, Lays}
use Rattle.book.specs.Tickets.{begun}
use Rattle.book.proofs.Entering.{lays_two}
use Rattle.runs.specs.declared.Answer.{Answer}
use Rattle.runs.specs.declared.Call.{Call}
use Rattle.runs.specs.declared.Call.TheVariants as call
use Rattle.runs.specs.declared.Failure.{Failure}
use Rattle.runs.specs.declared.Want.TheVariants as want
use Rattle.runs.specs.declared.held.Held.{Held}
use Rattle.runs.specs.Holding.{tickets_of, so_far, Keeps}
use Rattle.runs.specs.Runs.{State, start, ticket_at, more, used_by, used, accepts, gives, after, after_all, Right, AllRight, Performed, wanted}
use Rattle.runs.proofs.Law.{lawful}

-- nothing is wanted where there is a cell for each call
pub wanted_none : (calls answers cells : ℕ) → calls ≤ answers → calls ≤ cells → Ok tt ≡ wanted calls answers cells
wanted_none calls answers cells h k =
    sym (cond-false (ltb answers calls) (Err want.Answers) (cond (ltb cells calls) (Err want.Tickets) (Ok tt)) (le-ltb answers calls h)
    ∙ cond-false (ltb cells calls) (Err want.Tickets) (Ok tt) (le-ltb cells calls k))

-- a call gives one ticket at most
more_few : (ts : List (Option Ticket)) (r : Result Ticket Refusal) → length (more ts r) ≤ length ts + 1
more_few ts (Ok t) = omega (arith, length-append ts (Some t ∷ []))
more_few ts (Err f) = omega arith

used_few : (ts : List (Option Ticket)) (n : ℕ) (f : Ticket → Result ℕ Refusal) (t : Option Ticket) → length (used ts n f t) ≤ length ts + 1
used_few ts n f None = omega arith
used_few ts n f (Some t) = go (f t)
  where
    go : (r : Result ℕ Refusal) → length (used_by ts n r) ≤ length ts + 1
    go (Ok p) = omega (arith, length-set ts (n - 1) None)
    go (Err g) = omega arith

-- what lies further on is the same too
drop_same : {X : Type 0} (m n : ℕ) (xs ys : List X) → m ≤ n → drop m xs ≡ drop m ys → drop n xs ≡ drop n ys
drop_same m n xs ys h e =
    let far : m + (n - m) ≡ n = omega arith in
    ap (λ (i : ℕ). drop i xs) (sym far) ∙ sym (drop-drop (n - m) m xs) ∙ ap (drop (n - m)) e ∙ drop-drop (n - m) m ys ∙ ap (λ (i : ℕ). drop i ys) far

module _ {K : Type 0} (alike : K → K → Bool) (parsed : List ℕ → Option K) (places : ℕ) where
  gives_few : (s : State K) (c : Call K) → length (gives parsed places s c) ≤ length s.tickets + 1
  gives_few s (call.Begin n) = more_few s.tickets (begun s.entries n)
  gives_few s (call.End n d) = used_few s.tickets n (λ t. entered places s.entries t.cue) (ticket_at s.tickets n)
  gives_few s _ = omega arith

  -- one call more
  pub after_push : (s : State K) (cs : List (Call K)) (c : Call K) → after_all parsed places s (cs ++ c ∷ []) ≡ after parsed places (after_all parsed places s cs) c
  after_push s [] c = refl
  after_push s (d ∷ cs) c = after_push (after parsed places s d) cs c

  right_push : (s : State K) (cs : List (Call K)) (answers : List (Result Answer Failure)) (c : Call K) (a : Result Answer Failure) → AllRight alike parsed places s cs answers → Right alike parsed places (after_all parsed places s cs) c a → AllRight alike parsed places s (cs ++ c ∷ []) (answers ++ a ∷ [])
  right_push s [] [] c a all r = (r, tt)
  right_push s [] (b ∷ answers) c a all r = absurd all
  right_push s (d ∷ cs) [] c a all r = absurd all
  right_push s (d ∷ cs) (b ∷ answers) c a all r = (all.0, right_push (after parsed places s d) cs answers c a all.1 r)

  -- with k calls performed
  abbrev StateAt : List (Call K) → ℕ → State K
  StateAt calls k = after_all parsed places start (take k calls)

  pub record Going (calls : List (Call K)) (answers answers' : List (Result Answer Failure)) (b b' : Book K) (h h' : Held) (k : ℕ) : Type 0 where
    pub right : AllRight alike parsed places start (take k calls) (take k answers')
    pub rest : drop k answers' ≡ drop k answers
    pub state : so_far b' h' ≡ StateAt calls k
    pub few : h'.given ≤ k
    pub lays : Lays b b'
    pub keeps : Keeps h h'
    pub same : room b' ≡ places
    pub longer : length (accepted b) ≤ length (accepted b')

  module _ (calls : List (Call K)) (answers answers' : List (Result Answer Failure)) (b b' : Book K) (h h' : Held) (k : ℕ) (inv : Going calls answers answers' b b' h h' k) where
    pub going_more : (c : Call K) → k < length calls → k < length answers' → c ≡ get_or calls k c → (b'' : Book K) (h'' : Held) (a : Result Answer Failure) → Right alike parsed (room b') (so_far b' h') c a → so_far b'' h'' ≡ after parsed (room b') (so_far b' h') c → Lays b' b'' → Keeps h' h'' → Going calls answers (set answers' k a) b b'' h h'' (k + 1)
    going_more c below cell e b'' h'' a right state lays keeps =
        let S : State K = StateAt calls k in
        let right' : Right alike parsed places S c a = subst (λ (s : State K). Right alike parsed places s c a) inv.state (subst (λ (n : ℕ). Right alike parsed n (so_far b' h') c a) inv.same right) in
        let next : take (k + 1) calls ≡ take k calls ++ c ∷ [] = take_more calls k c below ∙ ap (λ (x : Call K). take k calls ++ x ∷ []) (sym e) in
        let said : take (k + 1) (set answers' k a) ≡ take k answers' ++ a ∷ [] = take_more_set answers' k a cell in
        let step : so_far b'' h'' ≡ after parsed places (so_far b' h') c = state ∙ ap (λ (n : ℕ). after parsed n (so_far b' h') c) inv.same in
        let grown : length (accepted b'') ≡ length (accepted b') + length (accepts parsed places (so_far b' h') c) =
        ap (λ (s : State K). length s.entries) step ∙ length-append (accepted b') (accepts parsed places (so_far b' h') c) in
        record {
          right = subst (λ (cs : List (Call K)). AllRight alike parsed places start cs (take (k + 1) (set answers' k a))) (sym next)
              (subst (AllRight alike parsed places start (take k calls ++ c ∷ [])) (sym said) (right_push start (take k calls) (take k answers') c a inv.right right'));
          rest = drop-set-lt (k + 1) answers' k a (omega arith) ∙ sym (drop-drop 1 k answers') ∙ ap (drop 1) inv.rest ∙ drop-drop 1 k answers;
          state = step
              ∙ ap (λ (s : State K). after parsed places s c) inv.state
              ∙ sym (after_push start (take k calls) c)
              ∙ sym (ap (after_all parsed places start) next);
          few = omega (arith, inv.few, ap (λ (s : State K). length s.tickets) step, gives_few (so_far b' h') c, length-take-le h'.given h'.cells.now h'.within, length-take-le h''.given h''.cells.now h''.within);
          lays = lays_two b b' b'' inv.lays lays inv.longer (omega (arith, grown));
          keeps = record {
            rest = keeps.rest ∙ drop_same h'.given h''.given h'.cells.now h.cells.now keeps.more inv.keeps.rest;
            more = omega (arith, keeps.more, inv.keeps.more);
            size = keeps.size ∙ inv.keeps.size;
            lender = keeps.lender ∙ inv.keeps.lender;
          };
          same = ap (λ (n : ℕ). min n 4096) lays.size ∙ inv.same;
          longer = omega (arith, inv.longer, grown);
        }

    pub going_all : k ≡ length calls → (n : ℕ) → places ≡ n → (memory memory' : List (Entry K)) (cells cells' : List (Option Ticket)) → b.memory.now ≡ memory → memory' ≡ b'.memory.now → h.cells.now ≡ cells → cells' ≡ h'.cells.now → Performed alike parsed n calls answers answers' cells cells' memory memory'
    going_all all n many memory memory' cells cells' is is' lent lent' =
        let whole : take k calls ≡ calls = take_all k calls (omega arith) in
        let last : so_far b' h' ≡ after_all parsed places start calls = inv.state ∙ ap (after_all parsed places start) whole in
        let entries : accepted b' ≡ (after_all parsed places start calls).entries = ap (λ (s : State K). s.entries) last in
        let tickets : tickets_of h' ≡ (after_all parsed places start calls).tickets = ap (λ (s : State K). s.tickets) last in
        subst (λ (n : ℕ). Performed alike parsed n calls answers answers' cells cells' memory memory') many
        record {
          law = lawful alike parsed places calls (take (length calls) answers')
              (subst (λ (n : ℕ). AllRight alike parsed places start calls (take n answers')) all (subst (λ (cs : List (Call K)). AllRight alike parsed places start cs (take k answers')) whole inv.right));
          rest = subst (λ (n : ℕ). drop n answers' ≡ drop n answers) all inv.rest;
          tickets = lent'
              ∙ sym (take-append-drop h'.given h'.cells.now)
              ∙ ap (λ (zs : List (Option Ticket)). tickets_of h' ++ zs) (inv.keeps.rest ∙ ap (λ (n : ℕ). drop n h.cells.now) (sym (length-take-le h'.given h'.cells.now h'.within)))
              ∙ (λ i. tickets i ++ drop (length (tickets i)) (lent i));
          entries = is' ∙ inv.lays.memory ∙ (λ i. entries i ++ drop (length (entries i)) (is i));
        }
