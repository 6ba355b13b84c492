-- Whether another byte stands behind what was read.
use Rattle.std.proofs.Common.{◌≡◌, ◌≢◌, ℕ, List, [], ◌∷◌, refl, ap}
use Rattle.spec_certificate_text.specs.Terms.{Syntax}
use Rattle.spec_certificate_text.specs.Outcomes.{Outcome, Faulty, ended}

pub ended_none : {A : Type 0} (place : ℕ) (rest : List ℕ) (o : Outcome A) → rest ≡ [] → ended place rest o ≡ Faulty place Syntax
ended_none place rest o none = ap (λ r. ended place r o) none

pub ended_some : {A : Type 0} (place : ℕ) (rest : List ℕ) (o : Outcome A) → rest ≢ [] → ended place rest o ≡ o
ended_some place [] o some = absurd (some refl)
ended_some place (b ∷ rest) o some = refl

pub ruleset ends = (ended_none, ended_some)
