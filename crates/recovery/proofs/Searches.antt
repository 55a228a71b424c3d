-- The searches of a list as chains of iterators make them. Assumes nothing.
use Rattle.std.proofs.Common.{◌≡◌, ℕ, zero, suc, ◌+◌, Bool, true, false, cond, ◌||◌, List, [], ◌∷◌, ◌++◌, length, take, drop, reverse, Some, None, Option, sym, refl, ap, ◌∙◌, inl, inr, append_assoc, arith}
use denote.Ref.{Bor}
use Rattle.std.specs.List.{enumerate_from, find}
use Rattle.std.specs.Option.{option_map, option_or}
use Rattle.std.proofs.lemmas.List.{length-append, length-take-le, take-append-drop, drop_all}
use Rattle.std.proofs.lemmas.List.Folds.{find-append}
use Rattle.std.proofs.lemmas.Bool.{cases_lt}
use Rattle.std.proofs.lemmas.Grind.{reverse_onto}
use Rattle.std.proofs.Math.Seq.{take-append_seam}
use Rattle.lists.specs.Lists.{some, or_else, last_where, placed, somewhere, first_from}

option_or_else : {X : Type 0} (a b : Option X) → or_else a b ≡ option_or a b
option_or_else None b = refl
option_or_else (Some x) b = refl

map_or_else : {X Y : Type 0} (h : X → Y) (a b : Option X) → option_map h (or_else a b) ≡ or_else (option_map h a) (option_map h b)
map_or_else h None b = refl
map_or_else h (Some x) b = refl

-- a value behind a reference that was found
pub map_now : {X Y : Type 0} (h : X → Y) (o : Option (Bor X)) → option_map (λ w. h w.now) o ≡ option_map h (option_map (λ w. w.now) o)
map_now h None = refl
map_now h (Some w) = refl

map_cond : {X Y : Type 0} (h : X → Y) (t : Bool) (x : X) (o : Option X) → option_map h (cond t (Some x) o) ≡ cond t (Some (h x)) (option_map h o)
map_cond h true x o = refl
map_cond h false x o = refl

module _ {X : Type 0} where
  -- the last is the first from the back
  pub last_find : (test : X → Bool) (xs : List X) → last_where test xs ≡ find test (reverse xs)
  last_find test [] = refl
  last_find test (x ∷ xs) =
      ap (λ (o : Option X). or_else o (cond (test x) (Some x) None)) (last_find test xs)
      ∙ option_or_else (find test (reverse xs)) (cond (test x) (Some x) None)
      ∙ sym (ap (find test) (reverse_onto xs x []) ∙ find-append test (reverse xs) (x ∷ []))

  -- the same of a list with places
  pub last_placed : {Y : Type 0} (h : X → Y) (test : X → Bool) (p : ℕ) (xs : List X) → option_map (λ q. h q.1) (last_where (λ q. test q.1) (placed p xs)) ≡ option_map h (last_where test xs)
  last_placed h test p [] = refl
  last_placed {Y} h test p (x ∷ xs) =
      let of : ℕ × X → Y = λ q. h q.1 in
      map_or_else of (last_where (λ q. test q.1) (placed (suc p) xs)) (cond (test x) (Some (p, x)) None)
      ∙ (λ k. or_else (last_placed h test (suc p) xs k) ((map_cond of (test x) (p, x) None ∙ sym (map_cond h (test x) x None)) k))
      ∙ sym (map_or_else h (last_where test xs) (cond (test x) (Some x) None))

  module _ (test : List X → X → Bool) where
    -- an element with index i, tested with the first i of the list
    abbrev pub at_front : List X → ℕ × X → Bool
    at_front all q = test (take q.0 all) q.1

    module _ (seen : List X) (x : X) (xs : List X) where
      whole : (seen ++ x ∷ []) ++ xs ≡ seen ++ x ∷ xs
      whole = append_assoc seen (x ∷ []) xs

      long : length (seen ++ x ∷ []) ≡ length seen + 1
      long = length-append seen (x ∷ [])

      here : at_front (seen ++ x ∷ xs) (length seen, x) ≡ test seen x
      here = ap (λ (front : List X). test front x) (take-append_seam seen (x ∷ xs))

    pub somewhere_any : (seen xs : List X) → somewhere test seen xs ≡ some (at_front (seen ++ xs)) (enumerate_from (length seen) xs)
    somewhere_any seen [] = refl
    somewhere_any seen (x ∷ xs) = λ k.
        sym (here seen x xs) k || (somewhere_any (seen ++ x ∷ []) xs ∙ (λ m. some (at_front (whole seen x xs m)) (enumerate_from (long seen x xs m) xs))) k

    first_from_find : (seen xs : List X) → first_from test (length seen + 1) seen xs ≡ option_map (λ q. q.0 + 1) (find (at_front (seen ++ xs)) (enumerate_from (length seen) xs))
    first_from_find seen [] = refl
    first_from_find seen (x ∷ xs) =
        let place : ℕ × X → ℕ = λ q. q.0 + 1 in
        let at : suc (length seen + 1) ≡ length (seen ++ x ∷ []) + 1 = omega (arith, long seen x xs) in
        let rest = find (at_front (seen ++ x ∷ xs)) (enumerate_from (length seen + 1) xs) in
        let later : first_from test (suc (length seen + 1)) (seen ++ x ∷ []) xs ≡ option_map place rest =
        ap (λ (p : ℕ). first_from test p (seen ++ x ∷ []) xs) at
        ∙ first_from_find (seen ++ x ∷ []) xs
        ∙ (λ m. option_map place (find (at_front (whole seen x xs m)) (enumerate_from (long seen x xs m) xs))) in
        (λ k. cond (sym (here seen x xs) k) (Some (length seen + 1)) (later k))
        ∙ sym (map_cond place (at_front (seen ++ x ∷ xs) (length seen, x)) (length seen, x) rest)

drop_enumerate : {X : Type 0} (n k : ℕ) (xs : List X) → drop n (enumerate_from k xs) ≡ enumerate_from (k + n) (drop n xs)
drop_enumerate zero k xs = ap (λ (m : ℕ). enumerate_from m xs) (omega arith)
drop_enumerate (suc n) k [] = refl
drop_enumerate (suc n) k (x ∷ xs) = drop_enumerate n (k + 1) xs ∙ ap (λ (m : ℕ). enumerate_from m (drop n xs)) (omega arith)

-- the first from the element with index n on
pub first_from_skip : {X : Type 0} (test : List X → X → Bool) (n : ℕ) (xs : List X) → first_from test (n + 1) (take n xs) (drop n xs) ≡ option_map (λ q. q.0 + 1) (find (at_front test xs) (drop n (enumerate_from 0 xs)))
first_from_skip {X} test n xs =
    let place : ℕ × X → ℕ = λ q. q.0 + 1 in
    elim (cases_lt n (length xs)) [
      | inl within ↦
          let long = length-take-le n xs (omega (arith, within)) in
          ap (λ (p : ℕ). first_from test (p + 1) (take n xs) (drop n xs)) (sym long)
          ∙ first_from_find test (take n xs) (drop n xs)
          ∙ (λ k. option_map place (find (at_front test (take-append-drop n xs k)) (enumerate_from (long k) (drop n xs))))
          ∙ ap (λ (qs : List (ℕ × X)). option_map place (find (at_front test xs) qs)) (sym (drop_enumerate n 0 xs ∙ ap (λ (m : ℕ). enumerate_from m (drop n xs)) (omega arith)))
      | inr past ↦
          let none = drop_all n xs past in
          ap (first_from test (n + 1) (take n xs)) none
          ∙ ap (λ (qs : List (ℕ × X)). option_map place (find (at_front test xs) qs)) (sym (drop_enumerate n 0 xs ∙ ap (enumerate_from (0 + n)) none))
    ]
