-- Which cues a table has marked. Assumes nothing.
use Rattle.std.proofs.Common.{◌≡◌, ℕ, ◌+◌, ◌-◌, ◌<◌, ◌≤◌, Bool, true, false, ◌&&◌, ◌||◌, List, length, get_or, set, drop, replicate, sym, ap, ◌∙◌, inl, inr, arith}
use mathlib.Core.Bool.{or-false}
use Rattle.std.proofs.lemmas.Bool.{and_left, and_parts, both_ways, cases_Bool, cases_eq, or_left, or_right}
use Rattle.std.proofs.lemmas.List.{get_or-replicate, get_or-set_other, get_or-set_same, length-replicate, length-set}
use Rattle.lists.specs.Lists.{some}
use Rattle.lists.proofs.Steps.{some_end, some_no, some_yes}
use Rattle.history.specs.declared.Entry.{Entry}
use Rattle.history.specs.Entries.{is_cue, is_commit, by, committed}
use Rattle.history.specs.Marked.{marked}
use Rattle.history.proofs.By.{by_yes, by_no_cue, by_no_act, acted_of_cue}
use Rattle.history.proofs.Committed.{is_cue_lem, cue_low, cue_high}

pub marked_cue : (cues : List Bool) (n : ℕ) → marked cues n ≡ true → is_cue n ≡ true
marked_cue cues n h = (and_parts (is_cue n) (get_or cues (n - 1) false) h).0

-- a table whose cells say which cues are committed
pub table_marks : {K : Type 0} (es : List (Entry K)) (cues : List Bool) → ((n : ℕ) → 1 ≤ n → n ≤ 64 → get_or cues (n - 1) false ≡ committed es n) → (n : ℕ) → marked cues n ≡ committed es n
table_marks es cues table n =
    elim (cases_Bool (is_cue n)) [
      | inl c ↦ ap (λ (b : Bool). b && get_or cues (n - 1) false) c ∙ table n (cue_low n c) (cue_high n c)
      | inr c ↦ and_left (is_cue n) (get_or cues (n - 1) false) c ∙ sym (and_left (is_cue n) _ c)
    ]

module _ {K : Type 0} (es : List (Entry K)) where
  -- a table that has the committed cues, but for the commits from index i on
  abbrev pub Marking : ℕ → List Bool → Type 0
  Marking i cues = (length cues ≡ 64) × ((n : ℕ) → is_cue n ≡ true → (get_or cues (n - 1) false || some (by n is_commit) (drop i es)) ≡ some (by n is_commit) es)

  pub marking_starts : Marking 0 (replicate 64 false)
  marking_starts = (
    length-replicate 64 false,
    λ n c. ap (λ (b : Bool). b || some (by n is_commit) es) (get_or-replicate 64 (n - 1) false false (omega (arith, cue_low n c, cue_high n c))),
  )

  pub marking_ends : (i : ℕ) (cues : List Bool) → length es ≤ i → Marking i cues → (n : ℕ) → marked cues n ≡ committed es n
  marking_ends i cues h m =
      table_marks es cues
      (λ n l u.
      let c = is_cue_lem n l u in
      sym (or-false (get_or cues (n - 1) false))
      ∙ ap (λ (b : Bool). get_or cues (n - 1) false || b) (sym (some_end (by n is_commit) es i h))
      ∙ m.1 n c
      ∙ acted_of_cue is_commit es n c)

  -- one turn of the pass over the entries
  module _ (i : ℕ) (e : Entry K) (cues : List Bool) (h : i < length es) (is : e ≡ get_or es i e) (m : Marking i cues) where
    passed : (n : ℕ) → is_cue n ≡ true → by n is_commit e ≡ false → (get_or cues (n - 1) false || some (by n is_commit) (drop (i + 1) es)) ≡ some (by n is_commit) es
    passed n c t = ap (λ (b : Bool). get_or cues (n - 1) false || b) (some_no (by n is_commit) es i e h is t) ∙ m.1 n c

    pub marking_skips_cue : is_cue e.cue ≡ false → Marking (i + 1) cues
    marking_skips_cue none = (m.0, λ n c. passed n c (by_no_cue n is_commit e (λ same. both_ways (is_cue n) (ap is_cue (sym same) ∙ none) c)))

    pub marking_skips_act : is_commit e.act ≡ false → Marking (i + 1) cues
    marking_skips_act none = (m.0, λ n c. passed n c (by_no_act n is_commit e none))

    pub marking_sets : is_cue e.cue ≡ true → is_commit e.act ≡ true → Marking (i + 1) (set cues (e.cue - 1) true)
    marking_sets cue act =
        let mine = cue_low e.cue cue in
        let most = cue_high e.cue cue in (
          length-set cues (e.cue - 1) true ∙ m.0,
          λ n c.
              let low = cue_low n c in
              elim (cases_eq e.cue n) [
                | inl same ↦
                    or_left (get_or (set cues (e.cue - 1) true) (n - 1) false) (some (by n is_commit) (drop (i + 1) es))
                    (ap (λ (k : ℕ). get_or (set cues (e.cue - 1) true) (k - 1) false) (sym same) ∙ get_or-set_same cues (e.cue - 1) true false (omega (arith, m.0)))
                    ∙ sym (or_right (get_or cues (n - 1) false) (some (by n is_commit) (drop i es)) (some_yes (by n is_commit) es i e h is (by_yes n is_commit e same act)))
                    ∙ m.1 n c
                | inr not ↦
                    ap (λ (b : Bool). b || some (by n is_commit) (drop (i + 1) es)) (get_or-set_other cues (e.cue - 1) (n - 1) true false (λ z. not (omega arith)))
                    ∙ passed n c (by_no_cue n is_commit e not)
              ],
        )
