-- The answer of views, from the tables. Assumes nothing.
use Rattle.std.proofs.Common.{◌≡◌, ℕ, zero, suc, ◌-◌, ◌≤◌, Bool, true, false, cond, is_some, append-nil, not, ◌&&◌, ltb, List, [], ◌∷◌, ◌++◌, length, get_or, take, drop, replicate, Some, None, Ok, Option, sym, refl, ap, ◌∙◌, inl, inr, arith}
use Rattle.std.specs.Bool.{then_some}
use Rattle.std.specs.Option.{option_map}
use Rattle.std.proofs.lemmas.List.{get_or-replicate, length-take-le}
use Rattle.std.proofs.lemmas.Bool.{and_left, cases_Bool, cond-true, cond-false, le-ltb}
use Rattle.refusals.specs.declared.Refusal.TheVariants.{ManyCues, ListShort}
use Rattle.orders.specs.Least.{Distinct, Rearranges}
use Rattle.orders.specs.Orders.{among, without, first_where, orders}
use Rattle.orders.proofs.Extending.{distinct_without, length_without}
use Rattle.orders.proofs.Leasts.{first_is_least, distinct_among}
use Rattle.history.specs.declared.Entry.{Entry}
use Rattle.history.specs.Entries.{is_cue, committed}
use Rattle.history.specs.Marked.{marked}
use Rattle.history.specs.Order.{committed_cues}
use Rattle.history.specs.Views.{view_equivalent, view_order}
use Rattle.history.proofs.Committed.{cue_low, cue_high}
use Rattle.equivalence.specs.Constraints.{is_hidden, is_ahead, is_apart}
use Rattle.equivalence.specs.Extending.{fits, fits_after}
use Rattle.equivalence.specs.Laws.{Sameness}
use Rattle.equivalence.proofs.Allowed.{view_is_allowed_lem}
use Rattle.equivalence.proofs.Fitting.{views_by_constraints}
use Rattle.views.specs.declared.constraints.Constraints.{Constraints}
use Rattle.views.specs.declared.extending.Placing.{Placing}
use Rattle.views.specs.declared.members.Members.{Members}
use Rattle.views.specs.Answer.{views_refusal, answered, filled, left, views_answer, views_list}
use Rattle.views.specs.Shown.{all_of, left_of, rest_of}
use Rattle.views.specs.Tables.{ahead_in, apart_in, Holds}
use Rattle.views.proofs.Leaving.{placed_in, left_in}
use Rattle.views.proofs.Ranking.{members_few}

-- a table with nothing marked
abbrev Blank : List Bool
Blank = replicate 64 false

blank : (n : ℕ) → marked Blank n ≡ false
blank n =
    elim (cases_Bool (is_cue n)) [
      | inl c ↦
          ap (λ (b : Bool). b && get_or Blank (n - 1) false) c
          ∙ get_or-replicate 64 (n - 1) false false (omega (arith, cue_low n c, cue_high n c))
      | inr f ↦ and_left (is_cue n) (get_or Blank (n - 1) false) f
    ]

none_placed : (us : List ℕ) → placed_in us Blank ≡ []
none_placed [] = refl
none_placed (u ∷ us) = cond-false (marked Blank u) (u ∷ placed_in us Blank) (placed_in us Blank) (blank u) ∙ none_placed us

all_left : (us : List ℕ) → left_in us Blank ≡ us
all_left [] = refl
all_left (u ∷ us) =
    cond-true (not (marked Blank u)) (u ∷ left_in us Blank) (left_in us Blank) (ap not (blank u)) ∙ ap (λ (zs : List ℕ). u ∷ zs) (all_left us)

rearranged_long : (us o : List ℕ) → Distinct us → Rearranges us o → length o ≡ length us
rearranged_long us [] d h = sym (ap length h)
rearranged_long us (x ∷ o) d h =
    omega (arith, rearranged_long (without x us) o (distinct_without x us d) h.1, length_without x us d h.0)

-- with none placed
abbrev pub start : Constraints → Placing
start t = record { constraints = record { ref_ptr = (0, 0); now = t }; placed = replicate 64 false }

module _ {K : Type 0} (alike : K → K → Bool) (same : Sameness alike) (es : List (Entry K)) where
  by_constraints : view_order alike es ≡ cond (is_hidden alike es) None (first_where (fits (is_ahead alike es) (is_apart alike es)) (orders (committed_cues es)))
  by_constraints = views_by_constraints K (view_is_allowed_lem K) alike same es

  pub view_hidden : is_hidden alike es ≡ true → view_order alike es ≡ None
  view_hidden h = by_constraints ∙ cond-true (is_hidden alike es) None (first_where (fits (is_ahead alike es) (is_apart alike es)) (orders (committed_cues es))) h

  pub view_shown : (t : Constraints) → Holds alike es t → view_order alike es ≡ rest_of (start t)
  view_shown t holds =
      let us = committed_cues es in
      by_constraints
      ∙ cond-false (is_hidden alike es) None (first_where (fits (is_ahead alike es) (is_apart alike es)) (orders us)) holds.shown
      ∙ sym (λ k. first_where (fits (λ a b. holds.ahead a b k) (λ j r n. holds.apart j r n k)) (orders (among (λ n. holds.cues n k))))
      ∙ (λ k. first_where (fits_after (ahead_in t) (apart_in t) (sym (none_placed (all_of (start t))) k)) (orders (sym (all_left (all_of (start t))) k)))

-- a list with an order of n numbers at its front
whole : (n : ℕ) (list : List ℕ) → take n list ++ drop n list ≡ list
whole zero list = refl
whole (suc n) [] = refl
whole (suc n) (l ∷ list) = ap (λ (zs : List ℕ). l ∷ zs) (whole n list)

none_after : (n : ℕ) (list : List ℕ) → drop n (take n list) ≡ []
none_after zero list = refl
none_after (suc n) [] = refl
none_after (suc n) (l ∷ list) = none_after n list

filled_front : (rest : Option (List ℕ)) (n : ℕ) (list : List ℕ) → ((o : List ℕ) → rest ≡ Some o → length o ≡ n) → filled rest (take n list) ++ drop n list ≡ filled rest list
filled_front None n list long = whole n list
filled_front (Some o) n list long =
    let e : n ≡ length o = sym (long o refl) in
    ap (λ (m : ℕ). (o ++ drop (length o) (take m list)) ++ drop m list) e
    ∙ ap (λ (zs : List ℕ). (o ++ zs) ++ drop (length o) list) (none_after (length o) list)
    ∙ ap (λ (zs : List ℕ). zs ++ drop (length o) list) (append-nil o)

counts : (rest : Option (List ℕ)) (n : ℕ) → ((o : List ℕ) → rest ≡ Some o → length o ≡ n) → then_some (is_some rest) n ≡ option_map length rest
counts None n long = refl
counts (Some o) n long = ap (λ (m : ℕ). Some m) (sym (long o refl))

-- the members are the committed cues us, and the list has room for them
module _ {K : Type 0} (alike : K → K → Bool) (es : List (Entry K)) (list : List ℕ) (m : Members) (is : (n : ℕ) → marked m.cues n ≡ committed es n)
    (us : List ℕ) (numbers : us ≡ among (marked m.cues)) (room : length us ≤ length list) where
  us_committed : us ≡ committed_cues es
  us_committed = numbers ∙ (λ i. among (λ n. is n i))

  taken : views_refusal es (length list) ≡ None
  taken =
      let many = length (committed_cues es) in
      let few : many ≤ 8 = omega (arith, ap length us_committed, ap length numbers, members_few m) in
      cond-false (ltb 8 many) (Some ManyCues) (cond (ltb (length list) many) (Some ListShort) None) (le-ltb 8 many few)
      ∙ cond-false (ltb (length list) many) (Some ListShort) None (le-ltb (length list) many (omega (arith, ap length us_committed, room)))

  -- all of them are left at the start
  pub start_long : (t : Constraints) → Holds alike es t → length (left_of (start t)) ≡ length (take (length us) list)
  start_long t holds =
      ap length (all_left (all_of (start t)) ∙ (λ i. among (λ n. holds.cues n i)) ∙ sym us_committed) ∙ sym (length-take-le (length us) list room)

  module _ (v : Option (List ℕ)) (e : view_order alike es ≡ v) where
    long : (o : List ℕ) → v ≡ Some o → length o ≡ length us
    long o h =
        rearranged_long (committed_cues es) o (distinct_among (committed es)) (first_is_least (committed es) (view_equivalent alike es) o (e ∙ h)).order
        ∙ sym (ap length us_committed)

    pub taken_answer : Ok (then_some (is_some v) (length us)) ≡ views_answer alike es list
    taken_answer = ap (λ (o : Option ℕ). Ok o) (counts v (length us) long) ∙ sym (λ k. answered (taken k) (e k))

    pub taken_list : filled v (take (length us) list) ++ drop (length us) list ≡ views_list alike es list
    taken_list = filled_front v (length us) list long ∙ sym (λ k. left (taken k) (e k) list)

    pub none_list : v ≡ None → list ≡ views_list alike es list
    none_list h = ap (λ (o : Option (List ℕ)). filled o list) (sym h) ∙ sym (λ k. left (taken k) (e k) list)
