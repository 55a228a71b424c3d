-- The same bytes. Assumes nothing.
use Rattle.std.specs.Prelude.{◌≡◌, ℕ, true, false, ◌&&◌, List, [], ◌∷◌, ◌++◌, length, Decides, ◌==◌, ◌≢◌, refl}
use Rattle.std.proofs.Common.{inl, inr, sym, ap, ◌∙◌}
use Rattle.std.proofs.lemmas.List.{same_from_push}
use Rattle.std.proofs.lemmas.Bool.{cases_Bool}
use Rattle.std.proofs.lemmas.Bool.Decides.{same_from_decides, Decides-like, Decides-and, Decides-eqb}
use Rattle.std.proofs.lemmas.Slice.Eq.{compares_Decides}
use Rattle.items.specs.Fields.{equal}

-- `equal` is the test of equality

pub equal_decides : (xs ys : List ℕ) → Decides (equal xs ys) (xs ≡ ys)
equal_decides = compares_Decides equal (record { empty = refl; shorter = λ y ys. refl; longer = λ x xs. refl; heads = λ x y xs ys. refl })

pub equal_true : (xs ys : List ℕ) → equal xs ys ≡ true → xs ≡ ys
equal_true xs ys h = (equal_decides xs ys).0 h

pub eq_equal : (xs ys : List ℕ) → xs ≡ ys → equal xs ys ≡ true
eq_equal xs ys e = (equal_decides xs ys).1 e

pub equal_self : (xs : List ℕ) → equal xs xs ≡ true
equal_self xs = eq_equal xs xs refl

pub equal_sym : (xs ys : List ℕ) → equal xs ys ≡ true → equal ys xs ≡ true
equal_sym xs ys h = eq_equal ys xs (sym (equal_true xs ys h))

pub equal_trans : (xs ys zs : List ℕ) → equal xs ys ≡ true → equal ys zs ≡ true → equal xs zs ≡ true
equal_trans xs ys zs h k = eq_equal xs zs (equal_true xs ys h ∙ equal_true ys zs k)

-- lists from their ends

pub equal_push : (xs ys : List ℕ) (x y : ℕ) → equal (xs ++ x ∷ []) (ys ++ y ∷ []) ≡ (equal xs ys && x == y)
equal_push xs ys x y =
    same_from_decides {P = (xs ≡ ys) × (x ≡ y)} (equal (xs ++ x ∷ []) (ys ++ y ∷ [])) (equal xs ys && x == y)
    (Decides-like (equal (xs ++ x ∷ []) (ys ++ y ∷ [])) (same_from_push xs ys x y) (λ p i. p.0 i ++ p.1 i ∷ []) (equal_decides (xs ++ x ∷ []) (ys ++ y ∷ [])))
    (Decides-and (equal xs ys) (x == y) (equal_decides xs ys) (Decides-eqb x y))

pub equal_lengths : (xs ys : List ℕ) → (length xs ≢ length ys) → equal xs ys ≡ false
equal_lengths xs ys d = elim (cases_Bool (equal xs ys)) [ inl t ↦ absurd (d (ap length (equal_true xs ys t))) | inr f ↦ f ]
