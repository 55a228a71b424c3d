-- A number that is not among others. Assumes nothing.
use Rattle.std.proofs.Common.{◌≡◌, ℕ, zero, suc, Bool, true, false, ◌||◌, eqb, List, [], ◌∷◌, ◌++◌, replicate, refl, subst}
use Rattle.std.proofs.lemmas.Bool.{both_ways, ne_eqb, or_from}
use Rattle.lists.specs.Lists.{every, has}
use Rattle.lists.proofs.Every.{every_rest}
use Rattle.lists.proofs.Some.{some_append}

pub has_append : (a : ℕ) (xs ys : List ℕ) → has a (xs ++ ys) ≡ (has a xs || has a ys)
has_append a xs ys = some_append (λ n. eqb n a) xs ys

pub has_replicate : (a b n : ℕ) → eqb b a ≡ false → has a (replicate n b) ≡ false
has_replicate a b zero h = refl
has_replicate a b (suc n) h = or_from (eqb b a) (has a (replicate n b)) h (has_replicate a b n h)

-- where every byte passes, one that does not pass is absent
pub has_none : (test : ℕ → Bool) (a : ℕ) (bs : List ℕ) → test a ≡ false → every test bs ≡ true → has a bs ≡ false
has_none test a [] t h = refl
has_none test a (b ∷ bs) t h =
    let p = every_rest test b bs h in
    or_from (eqb b a) (has a bs)
    (ne_eqb b a (λ e. both_ways (test a) t (subst (λ x. test x ≡ true) e p.0)))
    (has_none test a bs t p.1)
