-- Tables of each cue's first endings. Assumes nothing.
use Rattle.std.proofs.Common.{◌≡◌, ℕ, suc, zero, ◌+◌, ◌-◌, ◌<◌, ◌≤◌, Bool, true, false, ◌&&◌, ◌||◌, cond, List, [], ◌∷◌, ◌++◌, length, get_or, take, set, replicate, Some, None, Option, sym, refl, ap, ◌∙◌, inl, inr, arith}
use Rattle.std.specs.List.{position_from}
use Rattle.std.proofs.lemmas.List.{get_or-replicate, get_or-set_same, get_or-set_other, length-take, length-take-le, take-take, take_more}
use Rattle.std.proofs.lemmas.Bool.{and_left, both_ways, eq-eqb, cases_Bool, cases_eq, lt-ltb, le-ltb}
use Rattle.lists.specs.Lists.{some}
use Rattle.history.specs.declared.Ending.{Ending}
use Rattle.history.specs.declared.Ending.TheVariants.{Commit, Abort}
use Rattle.history.specs.declared.Entry.{Entry}
use Rattle.history.specs.Entries.{is_cue, by, acted}
use Rattle.history.proofs.By.{by_no_cue}
use Rattle.history.proofs.Committed.{cue_low, cue_high}
use Rattle.recovery.specs.declared.endings.Ends.{Ends}
use Rattle.recovery.specs.declared.endings.Endings.{Endings}
use Rattle.recovery.specs.Endings.{ends_by, first_of, first_noted, is_below, open_ends, Notes, Tells}

noted_none : (o : Option ℕ) (i : ℕ) → first_noted o false i ≡ o
noted_none None i = refl
noted_none (Some at) i = refl

noted_one : (t : Bool) (p i : ℕ) → p ≡ i → cond t (Some p) None ≡ first_noted None t i
noted_one true p i e = ap (λ (j : ℕ). Some j) e
noted_one false p i e = refl

noted_front : (t u : Bool) (p i : ℕ) (o : Option ℕ) → cond t (Some p) (first_noted o u i) ≡ first_noted (cond t (Some p) o) u i
noted_front true u p i o = refl
noted_front false u p i o = refl

module _ {X : Type 0} (test : X → Bool) where
  -- the first of one element more
  position_push : (p : ℕ) (xs : List X) (y : X) → position_from test p (xs ++ y ∷ []) ≡ first_noted (position_from test p xs) (test y) (p + length xs)
  position_push p [] y = noted_one (test y) p (p + 0) (omega arith)
  position_push p (x ∷ xs) y =
      let place : p + 1 + length xs ≡ p + length (x ∷ xs) = omega arith in
      ap (λ (o : Option ℕ). cond (test x) (Some p) o) (position_push (p + 1) xs y ∙ ap (λ (i : ℕ). first_noted (position_from test (p + 1) xs) (test y) i) place)
      ∙ noted_front (test x) (test y) p (p + length (x ∷ xs)) (position_from test (p + 1) xs)

  nothing_below : (p : ℕ) (xs : List X) (j : ℕ) → j ≤ p → is_below (position_from test p xs) j ≡ false
  nothing_below p [] j h = refl
  nothing_below p (x ∷ xs) j h =
      elim (cases_Bool (test x)) [
        | inl here ↦ ap (λ (t : Bool). is_below (cond t (Some p) (position_from test (p + 1) xs)) j) here ∙ le-ltb p j h
        | inr later ↦ ap (λ (t : Bool). is_below (cond t (Some p) (position_from test (p + 1) xs)) j) later ∙ nothing_below (p + 1) xs j (omega arith)
      ]

  -- some of the first j pass exactly when the first that passes is among them
  some_front : (p : ℕ) (xs : List X) (j : ℕ) → some test (take j xs) ≡ is_below (position_from test p xs) (p + j)
  some_front p xs zero = sym (nothing_below p xs (p + 0) (omega arith))
  some_front p [] (suc j) = refl
  some_front p (x ∷ xs) (suc j) =
      let place : p + 1 + j ≡ p + suc j = omega arith in
      let rest = some_front (p + 1) xs j ∙ ap (λ (i : ℕ). is_below (position_from test (p + 1) xs) i) place in
      elim (cases_Bool (test x)) [
        | inl here ↦
            ap (λ (t : Bool). t || some test (take j xs)) here
            ∙ sym (ap (λ (t : Bool). is_below (cond t (Some p) (position_from test (p + 1) xs)) (p + suc j)) here ∙ lt-ltb p (p + suc j) (omega arith))
        | inr later ↦
            ap (λ (t : Bool). t || some test (take j xs)) later ∙ rest
            ∙ sym (ap (λ (t : Bool). is_below (cond t (Some p) (position_from test (p + 1) xs)) (p + suc j)) later)
      ]

-- the table has the index of each cue's first ending of each kind
abbrev pub Firsts : {K : Type 0} → List (Entry K) → List Ends → Type 0
Firsts es cues = (how : Ending) (n : ℕ) → is_cue n ≡ true → first_of how (get_or cues (n - 1) open_ends) ≡ position_from (by n (ends_by how)) 0 es

-- before the first entry no cue has ended
pub none_yet : (K : Type 0) → Firsts {K = K} [] (replicate 64 open_ends)
none_yet K Commit n c = let high = cue_high n c in let low = cue_low n c in ap (λ (ends : Ends). ends.commit) (get_or-replicate 64 (n - 1) open_ends open_ends (omega arith))
none_yet K Abort n c = let high = cue_high n c in let low = cue_low n c in ap (λ (ends : Ends). ends.abort) (get_or-replicate 64 (n - 1) open_ends open_ends (omega arith))

-- one step of the loop that makes the table, at the entry with index i
module _ {K : Type 0} (es : List (Entry K)) (i : ℕ) (cues : List Ends) (firsts : Firsts (take i es) cues) (e : Entry K) (within : i < length es) (is : e ≡ get_or es i e) where
  more : (how : Ending) (n : ℕ) → position_from (by n (ends_by how)) 0 (take (i + 1) es) ≡ first_noted (position_from (by n (ends_by how)) 0 (take i es)) (by n (ends_by how) e) i
  more how n =
      let long = length-take-le i es (omega (arith, within)) in
      let place : 0 + length (take i es) ≡ i = omega (arith, long) in
      ap (position_from (by n (ends_by how)) 0) (take_more es i e within ∙ ap (λ (x : Entry K). take i es ++ x ∷ []) (sym is))
      ∙ position_push (by n (ends_by how)) 0 (take i es) e
      ∙ ap (λ (j : ℕ). first_noted (position_from (by n (ends_by how)) 0 (take i es)) (by n (ends_by how) e) j) place

  -- an entry that does not end the cue n
  kept : (how : Ending) (n : ℕ) → is_cue n ≡ true → by n (ends_by how) e ≡ false → first_of how (get_or cues (n - 1) open_ends) ≡ position_from (by n (ends_by how)) 0 (take (i + 1) es)
  kept how n c not =
      firsts how n c
      ∙ sym (more how n ∙ ap (λ (t : Bool). first_noted (position_from (by n (ends_by how)) 0 (take i es)) t i) not ∙ noted_none _ i)

  -- an entry of no cue
  pub firsts_skip : is_cue e.cue ≡ false → Firsts (take (i + 1) es) cues
  firsts_skip none how n c = kept how n c (by_no_cue n (ends_by how) e (λ same. both_ways (is_cue n) (ap is_cue (sym same) ∙ none) c))

  -- an entry of a cue, noted
  pub firsts_note : (ends : Ends) → length cues ≡ 64 → is_cue e.cue ≡ true → ((how : Ending) → first_of how ends ≡ first_noted (first_of how (get_or cues (e.cue - 1) open_ends)) (ends_by how e.act) i) → Firsts (take (i + 1) es) (set cues (e.cue - 1) ends)
  firsts_note ends long cue noted how n c =
      let low = cue_low n c in
      let mine = cue_low e.cue cue in
      let most = cue_high e.cue cue in
      elim (cases_eq e.cue n) [
        | inl same ↦
            let at : get_or (set cues (e.cue - 1) ends) (n - 1) open_ends ≡ ends =
            ap (λ (m : ℕ). get_or (set cues (e.cue - 1) ends) (m - 1) open_ends) (sym same) ∙ get_or-set_same cues (e.cue - 1) ends open_ends (omega arith) in
            let old = ap (λ (m : ℕ). first_of how (get_or cues (m - 1) open_ends)) same ∙ firsts how n c in
            let act : ends_by how e.act ≡ by n (ends_by how) e = sym (ap (λ (t : Bool). t && ends_by how e.act) (eq-eqb e.cue n same)) in
            ap (first_of how) at ∙ noted how ∙ (λ k. first_noted (old k) (act k) i) ∙ sym (more how n)
        | inr not ↦
            ap (first_of how) (get_or-set_other cues (e.cue - 1) (n - 1) ends open_ends (λ z. not (omega arith)))
            ∙ kept how n c (by_no_cue n (ends_by how) e not)
      ]

-- what the table of all entries tells of a front of them
pub table_notes : {K : Type 0} (es : List (Entry K)) (cues : List Ends) → Firsts es cues → Notes es (record { cues = cues })
table_notes es cues firsts how n i =
    elim (cases_Bool (is_cue n)) [
      | inl c ↦ ap (λ (t : Bool). is_cue n && t) (some_front (by n (ends_by how)) 0 es i ∙ sym (ap (λ (o : Option ℕ). is_below o (0 + i)) (firsts how n c)) ∙ ap (λ (j : ℕ). is_below (first_of how (get_or cues (n - 1) open_ends)) j) (omega arith))
      | inr c ↦ and_left (is_cue n) _ c ∙ sym (and_left (is_cue n) _ c)
    ]

-- what tables tell of all the entries they tell of their front
pub tells_take : {K : Type 0} (es : List (Entry K)) (endings : Endings) → Tells es endings → (i : ℕ) → Tells (take i es) endings
tells_take {K} es endings tells i how n j h =
    let k = length-take i es in
    ap (λ (xs : List (Entry K)). acted (ends_by how) xs n) (take-take j i es (omega arith)) ∙ tells how n j (omega arith)
