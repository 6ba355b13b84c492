-- The rules of a protocol that is read are few.
use Rattle.std.proofs.Common.{◌<◌, ◌^◌, List, [], ◌∷◌, length, arith}
use Rattle.std.specs.List.{AllByRecursion}
use Rattle.spec_calculus.specs.Syntax.{Destructor, Protocol}
use Rattle.spec_well_formed.specs.Limits.{IsSmallDestructor, IsWithinLimits}
use Rattle.attacker_sources.specs.Deeds.{HasFewRules}

few : (ds : List Destructor) → AllByRecursion IsSmallDestructor ds → AllByRecursion (λ (d : Destructor). length d.rules < 2 ^ 32) ds
few [] small = tt
few (d ∷ ds) small = (omega (arith, small.0.few), few ds small.1)

pub few_rules : (P : Protocol) → IsWithinLimits P → HasFewRules P
few_rules P limits = record { destructors = omega (arith, limits.names); rules = few P.destructors limits.destructors }

-- and its constructors
pub few_constructors : (P : Protocol) → IsWithinLimits P → length P.constructors < 2 ^ 32
few_constructors P limits = omega (arith, limits.names)
