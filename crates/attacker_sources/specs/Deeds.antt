-- What the attacker does with a constructor, and how many rules a protocol may have for their numbers to have 32 bits.
use Rattle.std.specs.Prelude.{ℕ, ◌<◌, ◌^◌, length, Option, option_map}
use Rattle.std.specs.List.{AllByRecursion}
use Rattle.spec_calculus.specs.Syntax.{Declared, Destructor, Protocol}
use Rattle.spec_translation.specs.Attacker.{constructor_applied}
use Rattle.spec_attack_runs.specs.Source.{Builds}
use Rattle.spec_attack_runs.specs.Gathered.{Deed}

abbrev pub constructor_deed : ℕ → ℕ × Declared → Option Deed
constructor_deed phase declared = option_map (λ raw. (Builds declared.0, raw)) (constructor_applied phase declared)

pub record HasFewRules (P : Protocol) : Type 0 where
  pub destructors : length P.destructors < 2 ^ 32
  pub rules : AllByRecursion (λ (d : Destructor). length d.rules < 2 ^ 32) P.destructors
