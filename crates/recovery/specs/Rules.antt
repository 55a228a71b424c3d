-- Rules of recovery, told by closures. Assumes nothing.
use Rattle.std.specs.Prelude.{◌≡◌, ℕ, Bool, List, take}
use denote.Ref.{Bor}
use Rattle.history.specs.declared.Entry.{Entry}

-- what is answered of an entry and its index is whether it breaks the rule after those before it
abbrev pub Computes : {K : Type 0} → (ℕ → Bor (Entry K) → Bool → Type 0) → List (Entry K) → (List (Entry K) → Entry K → Bool) → Type 0
Computes {K} answers es rule = (i : ℕ) (e : Bor (Entry K)) (r : Bool) → answers i e r → r ≡ rule (take i es) e.now
