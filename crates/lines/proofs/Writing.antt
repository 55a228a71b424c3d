-- Putting the parts of a line into a space, one after the other. Assumes nothing.
use Rattle.std.proofs.Common.{◌≡◌, ℕ, ◌+◌, List, [], ◌∷◌, ◌++◌, length, take, drop, sym, refl, ap, ◌∙◌, append_assoc}
use Rattle.std.proofs.lemmas.List.{length-append, take_at, drop_at, drop-drop}

-- bytes put right after what was put before
put_more : (p b start space after : List ℕ) (n m : ℕ) → length p ≡ n → length b ≡ m → space ≡ p ++ drop n start → after ≡ take n space ++ (b ++ drop (n + length b) space) → after ≡ (p ++ b) ++ drop (n + m) start
put_more p b start space after n m l k is put =
    let front : take n space ≡ p = ap (take n) is ∙ take_at p (drop n start) n l in
    let rest : drop n space ≡ drop n start = ap (drop n) is ∙ drop_at p (drop n start) n l in
    let left : drop (n + length b) space ≡ drop (n + m) start =
    ap (λ (j : ℕ). drop (n + j) space) k ∙ sym (drop-drop m n space) ∙ ap (drop m) rest ∙ drop-drop m n start in
    put ∙ (λ i. front i ++ (b ++ left i)) ∙ sym (append_assoc p b (drop (n + m) start))

module _ (cue item start one two three four : List ℕ) (letter : ℕ) (l : length cue ≡ 4) (k : length item ≡ 8) where
  -- the four parts of a line
  pub line_put : one ≡ take 0 start ++ (cue ++ drop (0 + length cue) start) → two ≡ take 4 one ++ ((32 ∷ letter ∷ 32 ∷ []) ++ drop (4 + 3) one) → three ≡ take 7 two ++ (item ++ drop (7 + length item) two) → four ≡ take 15 three ++ (10 ∷ [] ++ drop (15 + 1) three) → four ≡ (cue ++ (32 ∷ letter ∷ 32 ∷ item) ++ 10 ∷ []) ++ drop 16 start
  line_put a b c d =
      let beside = 32 ∷ letter ∷ 32 ∷ [] in
      let first = put_more [] cue start start one 0 4 refl l refl a in
      let second = put_more cue beside start one two 4 3 l refl first b in
      let seven : length (cue ++ beside) ≡ 7 = length-append cue beside ∙ ap (λ (n : ℕ). n + 3) l in
      let third = put_more (cue ++ beside) item start two three 7 8 seven k second c in
      let fifteen : length ((cue ++ beside) ++ item) ≡ 15 = length-append (cue ++ beside) item ∙ (λ i. seven i + k i) in
      put_more ((cue ++ beside) ++ item) (10 ∷ []) start three four 15 1 fifteen refl third d
      ∙ ap (λ (xs : List ℕ). (xs ++ 10 ∷ []) ++ drop 16 start) (append_assoc cue beside item)
