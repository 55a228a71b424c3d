-- Leading blanks, and texts in columns. Assumes nothing.
use Rattle.std.proofs.Common.{◌≡◌, ℕ, zero, suc, ◌+◌, ◌-◌, ◌<◌, ◌≤◌, Bool, true, false, cond, eqb, List, [], ◌∷◌, ◌++◌, length, get_or, drop, replicate, sym, refl, ap, ◌∙◌, subst, inl, inr, append_assoc, append-nil, one-add, arith}
use Rattle.std.specs.List.{prefix_len}
use Rattle.std.proofs.lemmas.List.{at_drop_more, at_drop_all, drop-append-le, drop_all, drop_at, drop-replicate, length-append, length-drop, length-replicate}
use Rattle.std.proofs.lemmas.Bool.{both_ways, eqb-true, eq-eqb, ne_eqb, cases_Bool, cond-true, cond-false}
use Rattle.lists.specs.Lists.{every}
use Rattle.lists.proofs.Every.{every_rest}
use Rattle.columns.specs.Columns.{after_blanks, justified}

-- one more leading blank
pub blank_more : (bs : List ℕ) (i : ℕ) → i < length bs → get_or bs i 0 ≡ 32 → after_blanks (drop (i + 1) bs) ≡ after_blanks (drop i bs)
blank_more bs i h e =
    sym (at_drop_more after_blanks bs i 0 h ∙ cond-true (eqb (get_or bs i 0) 32) _ _ (eq-eqb (get_or bs i 0) 32 e))

-- the first byte that is no blank
pub blank_stop : (bs : List ℕ) (i : ℕ) → i < length bs → (get_or bs i 0 ≡ 32 → ⊥) → after_blanks (drop i bs) ≡ drop i bs
blank_stop bs i h ne =
    at_drop_more after_blanks bs i 0 h
    ∙ cond-false (eqb (get_or bs i 0) 32) _ _ (ne_eqb (get_or bs i 0) 32 ne)
    ∙ sym (at_drop_more (λ (xs : List ℕ). xs) bs i 0 h)

pub blank_end : (bs : List ℕ) (i : ℕ) → length bs ≤ i → after_blanks (drop i bs) ≡ []
blank_end bs i h = at_drop_all after_blanks bs i h

-- what stands after the blanks that lead
pub drop_blanks : (bs : List ℕ) → drop (prefix_len (λ b. eqb b 32) bs) bs ≡ after_blanks bs
drop_blanks [] = refl
drop_blanks (b ∷ bs) =
    elim (cases_Bool (eqb b 32)) [
      | inl e ↦
          ap (λ (t : Bool). drop (cond t (1 + prefix_len (λ b. eqb b 32) bs) 0) (b ∷ bs)) e
          ∙ ap (λ (n : ℕ). drop n (b ∷ bs)) (one-add (prefix_len (λ b. eqb b 32) bs))
          ∙ drop_blanks bs
          ∙ sym (cond-true (eqb b 32) (after_blanks bs) (b ∷ bs) e)
      | inr e ↦
          ap (λ (t : Bool). drop (cond t (1 + prefix_len (λ b. eqb b 32) bs) 0) (b ∷ bs)) e
          ∙ sym (cond-false (eqb b 32) (after_blanks bs) (b ∷ bs) e)
    ]

-- no blank leads where no blank passes
pub no_blanks : (test : ℕ → Bool) (bs : List ℕ) → test 32 ≡ false → every test bs ≡ true → after_blanks bs ≡ bs
no_blanks test [] t h = refl
no_blanks test (b ∷ bs) t h =
    cond-false (eqb b 32) (after_blanks bs) (b ∷ bs)
    (ne_eqb b 32 (λ e. both_ways (test 32) t (subst (λ (x : ℕ). test x ≡ true) e (every_rest test b bs h).0)))

pub after_blanks_le : (bs : List ℕ) → length (after_blanks bs) ≤ length bs
after_blanks_le [] = omega arith
after_blanks_le (b ∷ bs) =
    let ih = after_blanks_le bs in
    elim (cases_Bool (eqb b 32)) [
      | inl e ↦ rw (ap (λ (t : Bool). length (cond t (after_blanks bs) (b ∷ bs))) e) (omega arith)
      | inr e ↦ rw (ap (λ (t : Bool). length (cond t (after_blanks bs) (b ∷ bs))) e) (omega arith)
    ]

pub after_blanks_replicate : (n : ℕ) (bs : List ℕ) → after_blanks (replicate n 32 ++ bs) ≡ after_blanks bs
after_blanks_replicate zero bs = refl
after_blanks_replicate (suc n) bs = after_blanks_replicate n bs

-- a text in no columns, and no text
pub justified_zero : (bs : List ℕ) → justified 0 bs ≡ []
justified_zero bs = drop_all (length bs) bs (omega arith)

pub justified_none : (w : ℕ) → justified w [] ≡ replicate w 32
justified_none w = append-nil (replicate w 32)

pub length_justified : (w : ℕ) (bs : List ℕ) → length (justified w bs) ≡ w
length_justified w bs = length-drop (length bs) (replicate w 32 ++ bs) ∙ simp (length-append, length-replicate) (omega arith)

-- one byte more at the end takes one column more
pub justified_push : (w : ℕ) (bs : List ℕ) (b : ℕ) → justified (suc w) (bs ++ b ∷ []) ≡ justified w bs ++ b ∷ []
justified_push w bs b =
    let more : length (bs ++ b ∷ []) ≡ suc (length bs) = length-append bs (b ∷ []) ∙ omega arith in
    let fits : length bs ≤ length (replicate w 32 ++ bs) = simp (length-append, length-replicate) (omega arith) in
    ap (λ (n : ℕ). drop n (replicate (suc w) 32 ++ (bs ++ b ∷ []))) more
    ∙ ap (drop (length bs)) (sym (append_assoc (replicate w 32) bs (b ∷ [])))
    ∙ drop-append-le (length bs) (replicate w 32 ++ bs) (b ∷ []) fits

-- a text that fits, after blanks
pub justified_fits : (w : ℕ) (bs : List ℕ) → length bs ≤ w → justified w bs ≡ replicate (w - length bs) 32 ++ bs
justified_fits w bs h =
    let fits : length bs ≤ length (replicate w 32) = simp length-replicate h in
    drop-append-le (length bs) (replicate w 32) bs fits ∙ ap (λ (xs : List ℕ). xs ++ bs) (drop-replicate (length bs) w 32)

pub after_blanks_justified : (w : ℕ) (bs : List ℕ) → length bs ≤ w → after_blanks bs ≡ bs → after_blanks (justified w bs) ≡ bs
after_blanks_justified w bs h e = ap after_blanks (justified_fits w bs h) ∙ after_blanks_replicate (w - length bs) bs ∙ e

justified_blank : (w : ℕ) (bs : List ℕ) → length bs ≤ w → justified (suc w) bs ≡ 32 ∷ justified w bs
justified_blank w bs h =
    let more : suc w - length bs ≡ suc (w - length bs) = omega arith in
    justified_fits (suc w) bs (omega arith)
    ∙ ap (λ (n : ℕ). replicate n 32 ++ bs) more
    ∙ ap (λ (xs : List ℕ). 32 ∷ xs) (sym (justified_fits w bs h))

justified_whole : (bs : List ℕ) → justified (length bs) bs ≡ bs
justified_whole bs = drop_at (replicate (length bs) 32) bs (length bs) (length-replicate (length bs) 32)

-- every field is the text after its blanks, in its columns
pub justified_after_blanks : (bs : List ℕ) → justified (length bs) (after_blanks bs) ≡ bs
justified_after_blanks [] = refl
justified_after_blanks (b ∷ bs) =
    elim (cases_Bool (eqb b 32)) [
      | inl e ↦
          ap (justified (suc (length bs))) (cond-true (eqb b 32) (after_blanks bs) (b ∷ bs) e)
          ∙ justified_blank (length bs) (after_blanks bs) (after_blanks_le bs)
          ∙ ap (λ (xs : List ℕ). 32 ∷ xs) (justified_after_blanks bs)
          ∙ ap (λ (x : ℕ). x ∷ bs) (sym (eqb-true b 32 e))
      | inr e ↦ ap (justified (suc (length bs))) (cond-false (eqb b 32) (after_blanks bs) (b ∷ bs) e) ∙ justified_whole (b ∷ bs)
    ]
