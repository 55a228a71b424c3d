-- What the tests of a wait list say of its rows, and that what is found is right to answer.
use Rattle.std.proofs.Common.{◌≡◌, ℕ, ◌+◌, ◌-◌, ◌<◌, ◌≤◌, ◌↔◌, Bool, true, false, cond, ◌&&◌, eqb, leb, ltb, List, [], ◌∷◌, length, take, get_or, Some, None, Ok, Err, Option, Result, sym, refl, ap, ◌∙◌, subst, inl, inr, arith}
use Rattle.std.specs.List.{AllByRecursion as All}
use Rattle.std.specs.Prelude.{IfOk}
use Rattle.std.proofs.lemmas.Bool.{false≢true, and_from, and_parts, both_ways, cases_Bool, cases_lt, eq-eqb, eqb-true, le-leb, leb-true, or_cases, or_left, or_right}
use Rattle.lists.specs.Lists.{some, every, has}
use Rattle.refusals.specs.declared.Refusal.{Refusal}
use Rattle.refusals.specs.declared.Refusal.TheVariants.{ListShort, StripShort, NoSuchWinch}
use Rattle.orders.specs.Orders.{among, precedes}
use Rattle.orders.specs.Least.{Stands, Rearranges}
use Rattle.orders.proofs.Among.{among_all, mem_among}
use Rattle.orders.proofs.OneLeast.{first_is_the_least, none_is_found}
use Rattle.orders.proofs.Precedence.{precedes_comes, comes_precedes, stands_has, has_stands, rearranged_has, rearranged_distinct, rearranges_same}
use Rattle.graphs.specs.declared.Found.{Found}
use Rattle.graphs.specs.declared.Found.TheVariants.{Order, Cycle}
use Rattle.graphs.specs.declared.waits.Wait.{Wait}
use Rattle.graphs.specs.Edges.{follows, IsCycle}
use Rattle.graphs.specs.Answer.{search_refusal, Lists}
use Rattle.graphs.specs.Waits.{is_winch, stands_in, runs_by, both_winches, waits_has, waits_edge, all_winches, wait_refusal}
use Rattle.graphs.specs.WaitLaws.{IsNoWinch, NamesWinch, NamesOutside, WaitsFor, IsWinchOrder, AwaitedFirst}
use Rattle.graphs.specs.WaitLaws.{MovesFirst, NeverMoves, WaitCycle, AnswersWaits, found_order, WaitsAreTold}
use Rattle.graphs.specs.RefusalLaws.{IsSearchRefusal}
use Rattle.graphs.proofs.Following.{follows_ahead, ahead_follows}
use Rattle.graphs.proofs.Refusals.{search_refusal_told}
use Rattle.graphs.proofs.Rounds.{never_round}

all_stands : (P : ℕ → Type 0) (us : List ℕ) → All P us → (m : ℕ) → Stands m us → P m
all_stands P [] h m s = absurd s
all_stands P (u ∷ us) h m (inl e) = subst P e h.0
all_stands P (u ∷ us) h m (inr s) = all_stands P us h.1 m s

both_true : (a b : Bool) → (a ≡ true → b ≡ true) → (b ≡ true → a ≡ true) → a ≡ b
both_true true b f g = sym (f refl)
both_true false true f g = g refl
both_true false false f g = refl

module _ {X : Type 0} (test : X → Bool) where
  some_stands : (xs : List X) → some test xs ≡ true → (x : X) × Stands x xs × (test x ≡ true)
  some_stands [] h = absurd (false≢true h)
  some_stands (x ∷ xs) h =
      elim (or_cases (test x) (some test xs) h) [ inl t ↦ (x, inl refl, t) | inr k ↦ let r = some_stands xs k in (r.0, inr r.1, r.2) ]

  stands_some : (xs : List X) (x : X) → Stands x xs → test x ≡ true → some test xs ≡ true
  stands_some [] x h t = absurd h
  stands_some (y ∷ xs) x (inl e) t = or_left (test y) (some test xs) (ap test e ∙ t)
  stands_some (y ∷ xs) x (inr h) t = or_right (test y) (some test xs) (stands_some xs x h t)

  every_stands : (xs : List X) → every test xs ≡ true → (x : X) → Stands x xs → test x ≡ true
  every_stands [] h x s = absurd s
  every_stands (y ∷ xs) h x (inl e) = sym (ap test e) ∙ (and_parts (test y) (every test xs) h).0
  every_stands (y ∷ xs) h x (inr s) = every_stands xs (and_parts (test y) (every test xs) h).1 x s

  -- one of them does not pass
  not_every : (xs : List X) → every test xs ≡ false → (x : X) × Stands x xs × (test x ≡ false)
  not_every [] h = absurd (false≢true (sym h))
  not_every (x ∷ xs) h =
      elim (cases_Bool (test x)) [
        | inl t ↦ let r = not_every xs (sym (ap (λ (b : Bool). b && every test xs) t) ∙ h) in (r.0, inr r.1, r.2)
        | inr f ↦ (x, inl refl, f)
      ]

-- a winch's number is not outside
winch_in : (n : ℕ) → is_winch n ≡ true → (1 ≤ n) × (n ≤ 64)
winch_in n h = let p = and_parts (leb 1 n) (leb n 64) h in (leb-true 1 n p.0, leb-true n 64 p.1)

no_winch : (n : ℕ) → is_winch n ≡ false → IsNoWinch n
no_winch n h =
    elim (cases_lt n 1) [
      | inl l ↦ inl l
      | inr l ↦ elim (cases_lt 64 n) [ inl g ↦ inr g | inr g ↦ absurd (both_ways (is_winch n) h (and_from (leb 1 n) (leb n 64) (le-leb 1 n l) (le-leb n 64 g))) ]
    ]

never_both : (n : ℕ) → is_winch n ≡ true → IsNoWinch n → ⊥
never_both n h (inl l) = omega (arith, (winch_in n h).0)
never_both n h (inr g) = omega (arith, (winch_in n h).1)

module _ (rows : List Wait) where
  member_named : (n : ℕ) → waits_has rows n ≡ true → NamesWinch rows n
  member_named n h =
      let r = some_stands (stands_in n) rows h in
      record {
        row = r.0;
        stands = r.1;
        named = elim (or_cases (eqb r.0.winch n) (eqb r.0.awaited n) r.2) [ inl e ↦ inl (eqb-true r.0.winch n e) | inr e ↦ inr (eqb-true r.0.awaited n e) ];
      }

  named_member : (n : ℕ) → NamesWinch rows n → waits_has rows n ≡ true
  named_member n h =
      stands_some (stands_in n) rows h.row h.stands
      (elim h.named [
        | inl e ↦ or_left (eqb h.row.winch n) (eqb h.row.awaited n) (eq-eqb h.row.winch n e)
        | inr e ↦ or_right (eqb h.row.winch n) (eqb h.row.awaited n) (eq-eqb h.row.awaited n e)
      ])

  edge_wait : (from to : ℕ) → waits_edge rows from to ≡ true → WaitsFor rows to from
  edge_wait from to h =
      let r = some_stands (runs_by from to) rows h in
      let p = and_parts (eqb r.0.awaited from) (eqb r.0.winch to) r.2 in
      let is : ◌≡◌ {A = Wait} r.0 (record { winch = to; awaited = from }) = λ i. record { winch = eqb-true r.0.winch to p.1 i; awaited = eqb-true r.0.awaited from p.0 i } in
      subst (λ (row : Wait). Stands row rows) is r.1

  wait_edge : (from to : ℕ) → WaitsFor rows to from → waits_edge rows from to ≡ true
  wait_edge from to h =
      stands_some (runs_by from to) rows (record { winch = to; awaited = from }) h
      (and_from (eqb from from) (eqb to to) (eq-eqb from from refl) (eq-eqb to to refl))

  outside_named : all_winches rows ≡ false → NamesOutside rows
  outside_named h =
      let r = not_every both_winches rows h in
      record {
        row = r.0;
        stands = r.1;
        outside =
            elim (cases_Bool (is_winch r.0.winch)) [
              | inl t ↦ inr (no_winch r.0.awaited (sym (ap (λ (b : Bool). b && is_winch r.0.awaited) t) ∙ r.2))
              | inr f ↦ inl (no_winch r.0.winch f)
            ];
      }

  named_outside : NamesOutside rows → all_winches rows ≡ true → ⊥
  named_outside h all =
      let p = and_parts (is_winch h.row.winch) (is_winch h.row.awaited) (every_stands both_winches rows all h.row h.stands) in
      elim h.outside [ inl o ↦ never_both h.row.winch p.0 o | inr o ↦ never_both h.row.awaited p.1 o ]

  search_never : (short few : Bool) → cond short (Some StripShort) (cond few (Some ListShort) None) ≡ Some NoSuchWinch → ⊥
  search_never true few h = cc
  search_never false true h = cc
  search_never false false h = cc

  refused_outside : (cells bytes : ℕ) → wait_refusal rows cells bytes ≡ Some NoSuchWinch → NamesOutside rows
  refused_outside cells bytes h =
      elim (cases_Bool (all_winches rows)) [
        | inl t ↦
            absurd (search_never (ltb bytes 64) (ltb cells (length (among (waits_has rows))))
            (sym (ap (λ (b : Bool). cond b (search_refusal (waits_has rows) cells bytes) (Some NoSuchWinch)) t) ∙ h))
        | inr f ↦ outside_named f
      ]

  outside_refused : (cells bytes : ℕ) → NamesOutside rows → wait_refusal rows cells bytes ≡ Some NoSuchWinch
  outside_refused cells bytes h =
      elim (cases_Bool (all_winches rows)) [
        | inl t ↦ absurd (named_outside h t)
        | inr f ↦ ap (λ (b : Bool). cond b (search_refusal (waits_has rows) cells bytes) (Some NoSuchWinch)) f
      ]

  module _ (inside : NamesOutside rows → ⊥) where
    -- what a row names is among the winches
    among_named : (n : ℕ) → NamesWinch rows n → has n (among (waits_has rows)) ≡ true
    among_named n h =
        let outside : IsNoWinch n → ⊥ = λ no.
        inside (record {
          row = h.row;
          stands = h.stands;
          outside = elim h.named [ inl e ↦ inl (subst IsNoWinch (sym e) no) | inr e ↦ inr (subst IsNoWinch (sym e) no) ];
        }) in
        elim (cases_lt n 1) [
          | inl l ↦ absurd (outside (inl l))
          | inr l ↦ elim (cases_lt 64 n) [
            | inl g ↦ absurd (outside (inr g))
            | inr g ↦ stands_has n (among (waits_has rows)) (mem_among (waits_has rows) n l g (named_member n h))
          ]
        ]

    -- and the other way
    named_among : (n : ℕ) → has n (among (waits_has rows)) ≡ true → NamesWinch rows n
    named_among n h =
        member_named n
        (all_stands (λ m. (1 ≤ m) × (m ≤ 64) × (waits_has rows m ≡ true)) (among (waits_has rows)) (among_all (waits_has rows)) n (has_stands n (among (waits_has rows)) h)).2

    searched_order : (o : List ℕ) → Rearranges (among (waits_has rows)) o → IsWinchOrder rows o
    searched_order o order =
        let same = rearranged_has (among (waits_has rows)) o order in
        record {
          once = rearranged_distinct (among (waits_has rows)) o order;
          winches = λ n. (
            λ s. named_among n (sym (same n) ∙ stands_has n o s),
            λ w. has_stands n o (same n ∙ among_named n w),
          );
        }

    order_searched : (o : List ℕ) → IsWinchOrder rows o → Rearranges (among (waits_has rows)) o
    order_searched o order =
        rearranges_same (among (waits_has rows)) o order.once
        (λ m. both_true (has m o) (has m (among (waits_has rows)))
        (λ h. among_named m ((order.winches m).0 (has_stands m o h)))
        (λ h. stands_has m o ((order.winches m).1 (named_among m h))))

    module _ (o : List ℕ) (order : IsWinchOrder rows o) where
      there : (n : ℕ) → NamesWinch rows n → has n o ≡ true
      there n w = stands_has n o ((order.winches n).1 w)

      follows_first : follows (waits_edge rows) o ≡ true → AwaitedFirst rows o
      follows_first h n m w =
          let row : Wait = record { winch = n; awaited = m } in
          precedes_comes m n o
          (follows_ahead (waits_edge rows) o h m n
          (there m (record { row = row; stands = w; named = inr refl }))
          (there n (record { row = row; stands = w; named = inl refl }))
          (wait_edge m n w))

      first_follows : AwaitedFirst rows o → follows (waits_edge rows) o ≡ true
      first_follows f = ahead_follows (waits_edge rows) o order.once (λ i j hi hj t. comes_precedes i j o (f j i (edge_wait i j t)))

    -- what a search answers
    moves_first : (o : List ℕ) → found_order rows ≡ Some o → MovesFirst rows o
    moves_first o found =
        let l = (first_is_the_least (waits_has rows) (follows (waits_edge rows)) o).0 found in
        let order = searched_order o l.order in
        record {
          order = order;
          passes = follows_first o order l.passes;
          first = λ q is f. l.least q (order_searched q is) (first_follows q is f);
        }

    first_found : (o : List ℕ) → MovesFirst rows o → found_order rows ≡ Some o
    first_found o m =
        (first_is_the_least (waits_has rows) (follows (waits_edge rows)) o).1
        (record {
          order = order_searched o m.order;
          passes = first_follows o m.order m.passes;
          least = λ q is p. let order = searched_order q is in m.first q order (follows_first q order p);
        })

    never_moves : found_order rows ≡ None → NeverMoves rows
    never_moves none q is f = (none_is_found (waits_has rows) (follows (waits_edge rows))).0 none q (order_searched q is) (first_follows q is f)

    none_found : NeverMoves rows → found_order rows ≡ None
    none_found never =
        (none_is_found (waits_has rows) (follows (waits_edge rows))).1
        (λ q is p. let order = searched_order q is in never q order (follows_first q order p))

    otherwise_refused : (cells bytes : ℕ) (r : Option Refusal) → (wait_refusal rows cells bytes ≡ r) ↔ IsSearchRefusal (length (among (waits_has rows))) cells bytes r
    otherwise_refused cells bytes r =
        let all : all_winches rows ≡ true = elim (cases_Bool (all_winches rows)) [ inl t ↦ t | inr f ↦ absurd (inside (outside_named f)) ] in
        let same : wait_refusal rows cells bytes ≡ search_refusal (waits_has rows) cells bytes = ap (λ (b : Bool). cond b (search_refusal (waits_has rows) cells bytes) (Some NoSuchWinch)) all in
        let told = search_refusal_told (waits_has rows) cells bytes r in
        (λ e. told.0 (sym same ∙ e), λ is. same ∙ told.1 is)

  cycle_waits : (c : List ℕ) → IsCycle (waits_has rows) (waits_edge rows) c → WaitCycle rows c
  cycle_waits c cycle =
      record {
        some = cycle.some;
        distinct = cycle.distinct;
        steps = λ i l. edge_wait (get_or c i 0) (get_or c (i + 1) 0) (cycle.steps i l);
        closes = edge_wait (get_or c (length c - 1) 0) (get_or c 0 0) cycle.closes;
      }

  module _ (c : List ℕ) (cycle : WaitCycle rows c) where
    -- each is awaited, by the next or, the last, by the first
    awaited : (i : ℕ) → i < length c → NamesWinch rows (get_or c i 0)
    awaited i h =
        elim (cases_lt (i + 1) (length c)) [
          | inl l ↦ record { row = record { winch = get_or c (i + 1) 0; awaited = get_or c i 0 }; stands = cycle.steps i l; named = inr refl }
          | inr l ↦
              let last : length c - 1 ≡ i = omega (arith, h, l) in
              record {
                row = record { winch = get_or c 0 0; awaited = get_or c (length c - 1) 0 };
                stands = cycle.closes;
                named = inr (ap (λ (n : ℕ). get_or c n 0) last);
              }
        ]

    waits_cycle : (NamesOutside rows → ⊥) → IsCycle (waits_has rows) (waits_edge rows) c
    waits_cycle inside =
        record {
          some = cycle.some;
          members = λ i h.
              all_stands (λ m. (1 ≤ m) × (m ≤ 64) × (waits_has rows m ≡ true)) (among (waits_has rows)) (among_all (waits_has rows)) (get_or c i 0)
              (has_stands (get_or c i 0) (among (waits_has rows)) (among_named inside (get_or c i 0) (awaited i h)));
          distinct = cycle.distinct;
          steps = λ i l. wait_edge (get_or c i 0) (get_or c (i + 1) 0) (cycle.steps i l);
          closes = wait_edge (get_or c (length c - 1) 0) (get_or c 0 0) cycle.closes;
        }

    stuck_never : NeverMoves rows
    stuck_never q is f =
        let ahead : (n m : ℕ) → WaitsFor rows n m → precedes m n q ≡ true = λ n m w. comes_precedes m n q (f n m w) in
        never_round c q is.once
        (λ i l. ahead (get_or c (i + 1) 0) (get_or c i 0) (cycle.steps i l))
        cycle.some
        (ahead (get_or c 0 0) (get_or c (length c - 1) 0) cycle.closes)

  -- what is found in a list that has no number outside is right to answer
  pub found_right : all_winches rows ≡ true → (list list' : List ℕ) (r : Result Found Refusal) → Lists (waits_has rows) (waits_edge rows) list list' r → IfOk r (λ f. AnswersWaits rows f list')
  found_right all list list' (Ok (Order n)) found = moves_first (λ no. named_outside no all) (take n list') found.first
  found_right all list list' (Ok (Cycle n)) found = (cycle_waits (take n list') found.cycle, never_moves (λ no. named_outside no all) found.none)
  found_right all list list' (Err e) same = tt

pub waits_told : WaitsAreTold
waits_told =
    record {
      member = λ rows n. (member_named rows n, named_member rows n);
      edge = λ rows from to. (edge_wait rows from to, wait_edge rows from to);
      refused = λ rows cells bytes. (refused_outside rows cells bytes, outside_refused rows cells bytes);
      orders = λ rows o inside. (searched_order rows inside o, order_searched rows inside o);
      first = λ rows o inside order. (follows_first rows inside o order, first_follows rows inside o order);
      otherwise = λ rows cells bytes r inside. otherwise_refused rows inside cells bytes r;
      finds_order = λ rows o inside. (moves_first rows inside o, first_found rows inside o);
      finds_none = λ rows inside. (never_moves rows inside, none_found rows inside);
      cycle = λ rows c inside. (cycle_waits rows c, λ w. waits_cycle rows c w inside);
      stuck = stuck_never;
      shows_order = λ rows n list inside. (first_found rows inside (take n list), moves_first rows inside (take n list));
      shows_cycle = λ rows n list inside. (
        λ a. waits_cycle rows (take n list) a.0 inside,
        λ c. let w = cycle_waits rows (take n list) c in (w, stuck_never rows (take n list) w),
      );
    }
