-- One step of a loop that asks whether some element passes, or each. Assumes nothing.
use Rattle.std.proofs.Common.{◌≡◌, ℕ, ◌+◌, ◌<◌, ◌≤◌, Bool, true, false, ◌&&◌, ◌||◌, List, length, get_or, drop, sym, ap, ◌∙◌}
use Rattle.std.proofs.lemmas.List.{at_drop_more, at_drop_all}
use Rattle.std.proofs.lemmas.Bool.{or_left, and_left}
use Rattle.lists.specs.Lists.{every, some}

module _ {X : Type 0} (test : X → Bool) (xs : List X) (i : ℕ) where
  some_step : (x : X) → i < length xs → x ≡ get_or xs i x → some test (drop i xs) ≡ (test x || some test (drop (i + 1) xs))
  some_step x h e = at_drop_more (some test) xs i x h ∙ ap (λ y. test y || some test (drop (i + 1) xs)) (sym e)

  pub some_yes : (x : X) → i < length xs → x ≡ get_or xs i x → test x ≡ true → some test (drop i xs) ≡ true
  some_yes x h e t = some_step x h e ∙ or_left (test x) (some test (drop (i + 1) xs)) t

  pub some_no : (x : X) → i < length xs → x ≡ get_or xs i x → test x ≡ false → some test (drop (i + 1) xs) ≡ some test (drop i xs)
  some_no x h e t = sym (some_step x h e ∙ ap (λ b. b || some test (drop (i + 1) xs)) t)

  pub some_end : length xs ≤ i → some test (drop i xs) ≡ false
  some_end h = at_drop_all (some test) xs i h

  every_step : (x : X) → i < length xs → x ≡ get_or xs i x → every test (drop i xs) ≡ (test x && every test (drop (i + 1) xs))
  every_step x h e = at_drop_more (every test) xs i x h ∙ ap (λ y. test y && every test (drop (i + 1) xs)) (sym e)

  pub every_no : (x : X) → i < length xs → x ≡ get_or xs i x → test x ≡ false → every test (drop i xs) ≡ false
  every_no x h e t = every_step x h e ∙ and_left (test x) (every test (drop (i + 1) xs)) t

  pub every_yes : (x : X) → i < length xs → x ≡ get_or xs i x → test x ≡ true → every test (drop (i + 1) xs) ≡ every test (drop i xs)
  every_yes x h e t = sym (every_step x h e ∙ ap (λ b. b && every test (drop (i + 1) xs)) t)

  pub every_end : length xs ≤ i → every test (drop i xs) ≡ true
  every_end h = at_drop_all (every test) xs i h
