-- Lists laid over a list, one after the other. Assumes nothing.
use Rattle.std.proofs.Common.{◌≡◌, ℕ, ◌+◌, ◌≤◌, List, ◌++◌, length, take, drop, sym, ap, ◌∙◌, append_assoc, arith}
use Rattle.std.proofs.lemmas.List.{length-append, length-take-le, length-drop, take_at, drop_at, drop-drop}

module _ {X : Type 0} where
  -- xs over the list, from index i on
  abbrev pub laid : ℕ → List X → List X → List X
  laid i xs list = take i list ++ (xs ++ drop (i + length xs) list)

  -- right after what was laid before
  pub laid_on : (i : ℕ) (xs ys list : List X) → i + length xs ≤ length list → laid (i + length xs) ys (laid i xs list) ≡ laid i (xs ++ ys) list
  laid_on i xs ys list h =
      let front = take i list ++ xs in
      let n = i + length xs in
      let rest = drop n list in
      let long : length front ≡ n = length-append (take i list) xs ∙ ap (λ (m : ℕ). m + length xs) (length-take-le i list (omega arith)) in
      let whole : laid i xs list ≡ front ++ rest = sym (append_assoc (take i list) xs rest) in
      let first : take n (laid i xs list) ≡ front = ap (take n) whole ∙ take_at front rest n long in
      let second : drop (n + length ys) (laid i xs list) ≡ drop (i + length (xs ++ ys)) list =
      ap (drop (n + length ys)) whole
      ∙ sym (drop-drop (length ys) n (front ++ rest))
      ∙ ap (drop (length ys)) (drop_at front rest n long)
      ∙ drop-drop (length ys) n list
      ∙ ap (λ (m : ℕ). drop m list) (omega (arith, length-append xs ys)) in
      (λ k. first k ++ (ys ++ second k))
      ∙ append_assoc (take i list) xs (ys ++ drop (i + length (xs ++ ys)) list)
      ∙ ap (λ (zs : List X). take i list ++ zs) (sym (append_assoc xs ys (drop (i + length (xs ++ ys)) list)))

  pub length_laid : (i : ℕ) (xs list : List X) → i + length xs ≤ length list → length (laid i xs list) ≡ length list
  length_laid i xs list h =
      let rest = drop (i + length xs) list in
      length-append (take i list) (xs ++ rest)
      ∙ omega (arith, length-take-le i list (let k : i ≤ length list = omega arith in k), length-append xs rest, length-drop (i + length xs) list)
