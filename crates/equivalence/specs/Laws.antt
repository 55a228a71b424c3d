-- What holds of conflicts and of view-equivalent orders.
--
--   Sameness alike        == alike is an equivalence
--   KeptIsView            == an order that keeps the conflicting pairs is view-equivalent
--   ViewIsSame            == an order is view-equivalent exactly when it keeps each read's source
--                            and each item's last write
--   FirstOrdersAreRight   == the first orders that are found are right to answer
--   OneAnswerIsRight      == and no other answers are right, but that any cycle may be shown
--   CycleFits             == no cycle has more cues than are committed
--   SwapShows x y         == a reader or the final state can tell whether x or y came first
--   ConflictIsSeen        == two entries conflict exactly when SwapShows, and they are of
--                            different cues
use Rattle.std.specs.Prelude.{◌≡◌, ℕ, ◌≤◌, Bool, true, List, [], ◌∷◌, length, Some, None, Option}
use Rattle.std.specs.Prelude.{◌≢◌, ◌↔◌, Decides}
use Rattle.orders.specs.Least.{Rearranges}
use Rattle.history.specs.declared.Entry.{Entry}
use Rattle.history.specs.Conflicts.{conflict}
use Rattle.history.specs.Order.{committed_cues, keeps, conflict_order, ConflictCycle}
use Rattle.history.specs.Views.{committed_list, serial_list, view_equivalent, view_order, SameView}
use Rattle.history.specs.Answers.{outcome, ordered, cyclic}
use Rattle.history.specs.Answers.{AnswersOrder, ShownKeepsView, AnswersViews}

-- being the same is an equivalence
pub record Sameness {K : Type 0} (alike : K → K → Bool) : Type 0 where
  pub reflexive : (a : K) → alike a a ≡ true
  pub symmetric : (a b : K) → alike a b ≡ true → alike b a ≡ true
  pub transitive : (a b c : K) → alike a b ≡ true → alike b c ≡ true → alike a c ≡ true

module _ (K : Type 0) where
  -- an order of the committed cues that keeps every conflicting pair is view-equivalent
  abbrev pub KeptIsView : Type 0
  KeptIsView = (alike : K → K → Bool) → Sameness alike → (es : List (Entry K)) (o : List ℕ) → Rearranges (committed_cues es) o → keeps alike es o ≡ true → view_equivalent alike es o ≡ true

  -- an order of them is view-equivalent exactly when every read keeps its source and every item its last write
  abbrev pub ViewIsSame : Type 0
  ViewIsSame = (alike : K → K → Bool) → Sameness alike → (es : List (Entry K)) (o : List ℕ) → Rearranges (committed_cues es) o → Decides (view_equivalent alike es o) (SameView alike (committed_list es) (serial_list (committed_list es) o))

  -- the first orders that the definitions find are right to answer, and so is a cycle, or that
  -- there is none, where they find none
  pub record FirstOrdersAreRight : Type 0 where
    pub order :
        (alike : K → K → Bool) (es : List (Entry K)) (c : List ℕ) →
        (conflict_order alike es ≡ None → ConflictCycle alike es c) →
        AnswersOrder alike es (outcome (conflict_order alike es) c)
    pub view :
        (alike : K → K → Bool) → Sameness alike → (es : List (Entry K)) (c : List ℕ) →
        ShownKeepsView alike es (outcome (conflict_order alike es) c)
    pub views :
        (alike : K → K → Bool) → Sameness alike → (es : List (Entry K)) →
        AnswersViews alike es (view_order alike es)

  -- it is right to show an order exactly when it is the first that is found, and a cycle exactly
  -- when none is found and it is one; and to answer of views exactly what is found
  pub record OneAnswerIsRight : Type 0 where
    pub order :
        (alike : K → K → Bool) (es : List (Entry K)) (o : List ℕ) →
        AnswersOrder alike es (ordered o) ↔ (conflict_order alike es ≡ Some o)
    pub cycle :
        (alike : K → K → Bool) (es : List (Entry K)) (c : List ℕ) →
        AnswersOrder alike es (cyclic c)
        ↔ ((conflict_order alike es ≡ None) × ConflictCycle alike es c)
    pub views :
        (alike : K → K → Bool) → Sameness alike →
        (es : List (Entry K)) (o : Option (List ℕ)) →
        AnswersViews alike es o ↔ (view_order alike es ≡ o)

  -- a list with a cell for each committed cue has room for any cycle
  abbrev pub CycleFits : Type 0
  CycleFits =
      (alike : K → K → Bool) (es : List (Entry K)) (c : List ℕ) →
      ConflictCycle alike es c → length c ≤ length (committed_cues es)

-- where y comes first some read has another source, or some item another last write
abbrev pub SwapShows : {K : Type 0} → (K → K → Bool) → Entry K → Entry K → Type 0
SwapShows alike x y =
    SameView alike ((1, x) ∷ (2, y) ∷ []) ((2, y) ∷ (1, x) ∷ []) → ⊥

-- a conflict is a change of places that can be told
abbrev pub ConflictIsSeen : Type 0 → Type 0
ConflictIsSeen K =
    (alike : K → K → Bool) → Sameness alike → (x y : Entry K) →
    (conflict alike x y ≡ true) ↔ ((x.cue ≢ y.cue) × SwapShows alike x y)
