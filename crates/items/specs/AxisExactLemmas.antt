use Rattle.std.specs.Prelude.{◌≡◌, ℕ, Some, None, Option}
use Rattle.std.proofs.Common.{ap, arith}
use Rattle.std.specs.Option.{option_map}
use Rattle.items.specs.declared.Axis.{Axis}

-- the number that an axis was read from
pub axis_of : (o : Option ℕ) (a : Axis) → option_map (λ n. record { number = n }) o ≡ Some a → o ≡ Some a.number
axis_of None a e = absurd (let z : ◌≡◌ {A = ℕ} 0 1 = cc in omega arith)
axis_of (Some n) a e = let same : ◌≡◌ {A = Axis} (record { number = n }) a = cc in ap (λ (x : Axis). Some x.number) same
