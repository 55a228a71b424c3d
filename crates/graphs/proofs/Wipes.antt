-- A strip whose first bytes are set to zero. Assumes nothing.
use Rattle.std.proofs.Common.{◌≡◌, ℕ, ◌+◌, ◌<◌, List, [], ◌∷◌, ◌++◌, length, get_or, drop, set, replicate, sym, ap, ◌∙◌}
use Rattle.std.proofs.lemmas.List.{drop_at, drop_more, set_at, replicate_more, append_assoc, length-replicate}
use Rattle.graphs.specs.Rows.{wiped}

-- one more zero at the front
pub wipe_more : (s : List ℕ) (i : ℕ) → i < length s → set (replicate i 0 ++ drop i s) i 0 ≡ replicate (i + 1) 0 ++ drop (i + 1) s
wipe_more s i h =
    let e : replicate i 0 ++ drop i s ≡ replicate i 0 ++ (get_or s i 0 ∷ drop (i + 1) s) = ap (λ (t : List ℕ). replicate i 0 ++ t) (drop_more s i 0 h) in
    ap (λ (t : List ℕ). set t i 0) e
    ∙ set_at (replicate i 0) (get_or s i 0) (drop (i + 1) s) 0 i (length-replicate i 0)
    ∙ sym (append_assoc (replicate i 0) (0 ∷ []) (drop (i + 1) s))
    ∙ ap (λ (t : List ℕ). t ++ drop (i + 1) s) (replicate_more i 0)

front_off : (n : ℕ) (t : List ℕ) → drop n (replicate n 0 ++ t) ≡ t
front_off n t = drop_at (replicate n 0) t n (length-replicate n 0)

drop_wiped : (s : List ℕ) → drop 64 (wiped s) ≡ drop 64 s
unfolding wiped
drop_wiped s = front_off 64 (drop 64 s)

pub wiped_rest : (s t : List ℕ) → t ≡ wiped s → drop 64 t ≡ drop 64 s
wiped_rest s t e = ap (drop 64) e ∙ drop_wiped s

pub wiped_same : (s t : List ℕ) → drop 64 t ≡ drop 64 s → wiped t ≡ wiped s
unfolding wiped
wiped_same s t e = ap (λ (r : List ℕ). replicate 64 0 ++ r) e

pub wiped_still : (s t : List ℕ) → t ≡ wiped s → t ≡ wiped t
wiped_still s t e = e ∙ sym (wiped_same s t (wiped_rest s t e))
