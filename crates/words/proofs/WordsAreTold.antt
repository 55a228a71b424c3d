-- Words are read as the columns in which they stand, and numbers in print are cut at their blanks.
use Rattle.std.proofs.Common.{◌≡◌, ℕ, suc, ◌^◌, ◌-◌, ◌<◌, ◌≤◌, Bool, true, false, eqb, leb}
use Rattle.std.proofs.Common.{List, [], ◌∷◌, ◌++◌, length, replicate, map, Some, None, Option}
use Rattle.std.proofs.Common.{decimal, sym, refl, ap, subst, ◌∙◌, inl, inr, append-nil}
use Rattle.std.specs.List.{slice_get, slice_split, onto_first, join_with_byte}
use Rattle.std.proofs.lemmas.List.Splits.{slice_split-cons_no, slice_split-cons_yes}
use Rattle.std.proofs.lemmas.List.Splits.{join_with_byte-slice_split}
use Rattle.std.proofs.lemmas.Bool.{cond-true, cond-false, le-leb, lt-leb, cases_lt, both_ways}
use Rattle.std.proofs.lemmas.Bool.{ne_eqb}
use Rattle.lists.specs.Lists.{every}
use Rattle.lists.proofs.Every.{every_rest}
use Rattle.columns.specs.Symbols.{is_digit}
use Rattle.columns.specs.Columns.{justified}
use Rattle.columns.specs.NumbersAreTexts.{IsJustified}
use Rattle.columns.proofs.Blanks.{justified_fits}
use Rattle.columns.proofs.Numbers.{decimal_well}
use Rattle.columns.proofs.NumbersAreTexts.{is_justified, only_justified}
use Rattle.words.specs.Words.{item_in, spaced}
use Rattle.words.specs.WordsAreTold.{SaysItem, WordIsTold, SpacedIsTold}

-- words

module _ {K : Type 0} (parsed : List ℕ → Option K) (word : List ℕ) where
  fits : length word ≤ 8 → item_in parsed word ≡ parsed (justified 8 word)
  fits h =
      cond-true (leb (length word) 8) (parsed (replicate (8 - length word) 32 ++ word)) None
      (le-leb (length word) 8 h)
      ∙ ap parsed (sym (justified_fits 8 word h))

  long : 8 < length word → item_in parsed word ≡ None
  long h =
      cond-false (leb (length word) 8) (parsed (replicate (8 - length word) 32 ++ word)) None
      (lt-leb (length word) 8 h)

  by_field :
      (field : List ℕ) (r : Option K) → length word ≤ 8 → IsJustified 8 word field →
      parsed field ≡ r → r ≡ item_in parsed word
  by_field field r h j e =
      sym (fits h ∙ ap parsed (sym (only_justified 8 word field j)) ∙ e)

  says_to : (r : Option K) → SaysItem parsed word r → r ≡ item_in parsed word
  says_to (Some k) s = by_field s.1 (Some k) s.0 s.2 s.3
  says_to None (inl l) = sym (long l)
  says_to None (inr s) =
      elim (cases_lt 8 (length word)) [
        | inl l ↦ sym (long l)
        | inr l ↦ by_field s.0 None l s.1 s.2
      ]

  says_of :
      length word ≤ 8 → (r : Option K) → parsed (justified 8 word) ≡ r → SaysItem parsed word r
  says_of h (Some k) e = (h, justified 8 word, is_justified 8 word, e)
  says_of h None e = inr (justified 8 word, is_justified 8 word, e)

  says_from : (r : Option K) → r ≡ item_in parsed word → SaysItem parsed word r
  says_from r e =
      elim (cases_lt 8 (length word)) [
        | inl l ↦ subst (SaysItem parsed word) (sym (e ∙ long l)) (inl l)
        | inr l ↦ says_of l r (sym (e ∙ fits l))
      ]

pub word_is_told : {K : Type 0} (parsed : List ℕ → Option K) → WordIsTold parsed
word_is_told parsed word r = (says_to parsed word r, says_from parsed word r)

-- numbers in print

abbrev blank : ℕ → Bool
blank b = eqb b 32

not_blank : (b : ℕ) → is_digit b ≡ true → blank b ≡ false
not_blank b h =
    ne_eqb b 32
    (λ e. both_ways (is_digit 32) refl (subst (λ (x : ℕ). is_digit x ≡ true) e h))

split_none : (ds : List ℕ) → every is_digit ds ≡ true → slice_split blank ds ≡ ds ∷ []
split_none [] h = refl
split_none (d ∷ ds) h =
    let p = every_rest is_digit d ds h in
    slice_split-cons_no blank d ds (not_blank d p.0) ∙ ap (onto_first d) (split_none ds p.1)

split_at :
    (ds ys : List ℕ) → every is_digit ds ≡ true →
    slice_split blank (ds ++ 32 ∷ ys) ≡ ds ∷ slice_split blank ys
split_at [] ys h = slice_split-cons_yes blank 32 ys refl
split_at (d ∷ ds) ys h =
    let p = every_rest is_digit d ds h in
    slice_split-cons_no blank d (ds ++ 32 ∷ ys) (not_blank d p.0)
    ∙ ap (onto_first d) (split_at ds ys p.1)

abbrev Few : List ℕ → Type 0
Few ns = (i n : ℕ) → slice_get ns i ≡ Some n → n < 2 ^ 64

split_after :
    (ds ns : List ℕ) → every is_digit ds ≡ true → Few ns →
    slice_split blank (ds ++ spaced ns) ≡ ds ∷ map decimal ns
split_after ds [] h few = ap (slice_split blank) (append-nil ds) ∙ split_none ds h
split_after ds (n ∷ ns) h few =
    let well = decimal_well n (few 0 n refl) in
    split_at ds (decimal n ++ spaced ns) h
    ∙ ap (λ (xs : List (List ℕ)). ds ∷ xs)
    (split_after (decimal n) ns well.digits (λ i. few (suc i)))

split_spaced : (ns : List ℕ) → Few ns → slice_split blank (spaced ns) ≡ [] ∷ map decimal ns
split_spaced ns few = split_after [] ns refl few

pub spaced_is_told : SpacedIsTold
spaced_is_told ns bs few = (
  λ e.
      sym (join_with_byte-slice_split 32 bs)
      ∙ ap (join_with_byte 32) (e ∙ sym (split_spaced ns few))
      ∙ join_with_byte-slice_split 32 (spaced ns),
  λ e. ap (slice_split blank) e ∙ split_spaced ns few,
)
