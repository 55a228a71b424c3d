-- The loop that asks each entry of the book, with those before it and those after it. Assumes nothing.
use Rattle.std.proofs.Common.{◌≡◌, ℕ, ◌+◌, ◌<◌, Bool, true, false, ◌||◌, List, [], ◌∷◌, ◌++◌, length, get_or, take, drop, replicate, Some, None, sym, refl, ap, ◌∙◌}
use mathlib.Core.Bool.{or_assoc, or-false}
use Rattle.std.proofs.lemmas.List.{take_more}
use Rattle.std.proofs.lemmas.Bool.{or_left}
use Rattle.lists.proofs.Drops.{drop_read}
use Rattle.history.specs.declared.Entry.{Entry}
use Rattle.history.specs.Entries.{committed}
use Rattle.history.specs.Marked.{marked}
use Rattle.equivalence.specs.Constraints.{amid, hides, ahead, apart}
use Rattle.views.specs.declared.constraints.Constraints.{Constraints}
use Rattle.views.specs.declared.members.Members.{Members}
use Rattle.views.specs.Tables.{pair_in, triple_in, ahead_in, apart_in, Asks, Asked, Derived}
use Rattle.views.proofs.Ranking.{told_none}

module _ {X : Type 0} (test : List X → X → List X → Bool) (xs : List X) where
  -- what is noted, with what is still to be asked, comes to the same as the whole
  abbrev pub Rest : ℕ → Bool → Type 0
  Rest p noted = (noted || amid test (take p xs) (drop p xs)) ≡ amid test [] xs

  module _ (p : ℕ) (x : X) (h : p < length xs) (e : x ≡ get_or xs p x) where
    rest_more : (noted noted' : Bool) → noted' ≡ (noted || test (take p xs) x (drop (p + 1) xs)) → Rest p noted → Rest (p + 1) noted'
    rest_more noted noted' more had =
        let front : take p xs ++ x ∷ [] ≡ take (p + 1) xs = ap (λ (y : X). take p xs ++ y ∷ []) e ∙ sym (take_more xs p x h) in
        let asked = test (take p xs) x (drop (p + 1) xs) in
        ap (λ (b : Bool). b || amid test (take (p + 1) xs) (drop (p + 1) xs)) more
        ∙ or_assoc noted asked (amid test (take (p + 1) xs) (drop (p + 1) xs))
        ∙ ap (λ (seen : List X). noted || (asked || amid test seen (drop (p + 1) xs))) (sym front)
        ∙ ap (λ (ys : List X). noted || amid test (take p xs) ys) (sym (drop_read xs p x h e))
        ∙ had

    rest_met : test (take p xs) x (drop (p + 1) xs) ≡ true → Rest p false → amid test [] xs ≡ true
    rest_met met had =
        sym had
        ∙ ap (λ (ys : List X). amid test (take p xs) ys) (drop_read xs p x h e)
        ∙ or_left (test (take p xs) x (drop (p + 1) xs)) (amid test (take p xs ++ x ∷ []) (drop (p + 1) xs)) met

  rest_all : (p : ℕ) (noted : Bool) → drop p xs ≡ [] → Rest p noted → noted ≡ amid test [] xs
  rest_all p noted e had = sym (or-false noted) ∙ ap (λ (ys : List X). noted || amid test (take p xs) ys) (sym e) ∙ had

module _ {K : Type 0} (alike : K → K → Bool) (es : List (Entry K)) (m : Members) where
  abbrev c : ℕ → Bool
  c = marked m.cues

  -- the tables have what the first p entries ask, of which none hides a source
  pub record Gathered (p : ℕ) (t : Constraints) : Type 0 where
    pub members : t.members ≡ m
    pub shown : Rest (hides alike c) es p false
    pub ahead : (a b : ℕ) → Rest (ahead alike c a b) es p (ahead_in t a b)
    pub apart : (j r n : ℕ) → Rest (apart alike c j r n) es p (apart_in t j r n)

  pub gathered_none : Gathered 0 (record { members = m; ahead = replicate 64 false; apart = replicate 512 false })
  gathered_none =
      record {
        members = refl;
        shown = refl;
        ahead = λ a b. ap (λ (x : Bool). x || amid (ahead alike c a b) [] es) (told_none 64 (pair_in m.cues a b));
        apart = λ j r n. ap (λ (x : Bool). x || amid (apart alike c j r n) [] es) (told_none 512 (triple_in m.cues j r n));
      }

  module _ (p : ℕ) (x : Entry K) (t t' : Constraints) (h : p < length es) (e : x ≡ get_or es p x) (had : Gathered p t) where
    same : marked t.members.cues ≡ c
    same = ap (λ (ms : Members). marked ms.cues) had.members

    pub gathered_more : Asks alike t t' (take p es) x (drop (p + 1) es) → Gathered (p + 1) t'
    gathered_more asked =
        let before = take p es in
        let after = drop (p + 1) es in
        record {
          members = asked.members ∙ had.members;
          shown = rest_more (hides alike c) es p x h e false false (sym asked.shown ∙ (λ i. hides alike (same i) before x after)) had.shown;
          ahead = λ a b. rest_more (ahead alike c a b) es p x h e (ahead_in t a b) (ahead_in t' a b) (asked.ahead a b ∙ (λ i. ahead_in t a b || ahead alike (same i) a b before x after)) (had.ahead a b);
          apart = λ j r n. rest_more (apart alike c j r n) es p x h e (apart_in t j r n) (apart_in t' j r n) (asked.apart j r n ∙ (λ i. apart_in t j r n || apart alike (same i) j r n before x after)) (had.apart j r n);
        }

    pub gathered_hidden : ((n : ℕ) → c n ≡ committed es n) → Asked alike t t' (take p es) x (drop (p + 1) es) None → Derived alike es None
    gathered_hidden cues met =
        sym (λ i. amid (hides alike (λ n. cues n i)) [] es)
        ∙ rest_met (hides alike c) es p x h e (sym (λ i. hides alike (same i) (take p es) x (drop (p + 1) es)) ∙ met) had.shown

  -- where the members are the committed cues, the tables have what the whole book asks
  pub gathered_all : (p : ℕ) (t : Constraints) → drop p es ≡ [] → ((n : ℕ) → c n ≡ committed es n) → Gathered p t → Derived alike es (Some t)
  gathered_all p t e same had =
      let cues : c ≡ committed es = λ i n. same n i in
      record {
        cues = λ n. ap (λ (ms : Members). marked ms.cues n) had.members ∙ same n;
        shown = sym (rest_all (hides alike c) es p false e had.shown ∙ (λ i. amid (hides alike (cues i)) [] es));
        ahead = λ a b. rest_all (ahead alike c a b) es p (ahead_in t a b) e (had.ahead a b) ∙ (λ i. amid (ahead alike (cues i) a b) [] es);
        apart = λ j r n. rest_all (apart alike c j r n) es p (apart_in t j r n) e (had.apart j r n) ∙ (λ i. amid (apart alike (cues i) j r n) [] es);
      }
