-- A test that each of a list passes. Assumes nothing.
use Rattle.std.proofs.Common.{◌≡◌, Bool, true, List, [], ◌∷◌, ◌++◌}
use Rattle.std.proofs.lemmas.Bool.{and_parts, and_from}
use Rattle.lists.specs.Lists.{every}

pub every_rest : {X : Type 0} (test : X → Bool) (x : X) (xs : List X) → every test (x ∷ xs) ≡ true → (test x ≡ true) × (every test xs ≡ true)
every_rest test x xs h = and_parts (test x) (every test xs) h

pub every_append : {X : Type 0} (test : X → Bool) (xs ys : List X) → every test xs ≡ true → every test ys ≡ true → every test (xs ++ ys) ≡ true
every_append test [] ys h k = k
every_append test (x ∷ xs) ys h k =
    let p = every_rest test x xs h in
    and_from (test x) (every test (xs ++ ys)) p.0 (every_append test xs ys p.1 k)
