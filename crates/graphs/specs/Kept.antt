-- What a step of a search leaves as it was. Assumes nothing.
use Rattle.std.specs.Prelude.{◌≡◌}
use Rattle.graphs.specs.declared.Marks.{Marks}

-- the graph is the same, and the marks stand over the same strip
abbrev pub Keeps : {G : Type 0} → Marks G → Marks G → Type 0
Keeps s t = (t.graph ≡ s.graph) × (t.strip.ghost_name ≡ s.strip.ghost_name)
