-- The class of a book. Assumes nothing.
use Rattle.std.specs.Prelude.{ℕ, Bool, List, [], Some, None, Option}
use Rattle.lists.specs.Lists.{first_from}
use Rattle.history.specs.declared.Entry.{Entry}
use Rattle.recovery.specs.declared.Class.{Class}
use Rattle.recovery.specs.declared.Class.TheVariants.{NotRecoverable, Recoverable, Cascadeless, Strict}
use Rattle.recovery.specs.Breaks.{breaks_recoverable, breaks_cascadeless, breaks_strict}

-- the number of each class, and the place that it is answered with
abbrev pub class_number : Class → ℕ
class_number (NotRecoverable p) = 0
class_number (Recoverable p) = 1
class_number (Cascadeless p) = 2
class_number Strict = 3

abbrev pub class_place : Class → ℕ
class_place (NotRecoverable p) = p
class_place (Recoverable p) = p
class_place (Cascadeless p) = p
class_place Strict = 0

-- by the first break of each rule
abbrev pub ranked : Option ℕ → Option ℕ → Option ℕ → Class
ranked (Some p) c s = NotRecoverable p
ranked None (Some p) s = Recoverable p
ranked None None (Some p) = Cascadeless p
ranked None None None = Strict

-- the place of the first break of a rule
abbrev pub first_break : {K : Type 0} → (List (Entry K) → Entry K → Bool) → List (Entry K) → Option ℕ
first_break rule es = first_from rule 1 [] es

abbrev pub class_of : {K : Type 0} → (K → K → Bool) → List (Entry K) → Class
class_of alike es = ranked (first_break (breaks_recoverable alike) es) (first_break (breaks_cascadeless alike) es) (first_break (breaks_strict alike) es)
