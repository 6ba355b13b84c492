-- What the abstraction of a run is to the clauses of a translation: what the attacker has is derived in the phase of the run, and in
-- each later one, with the events that were performed, so is each entry, and each event with those before it (Blanchet 2016, section
-- 3.3.4: soundness of the clauses).
use Rattle.std.specs.Prelude.{◌≡◌, ℕ, ◌≤◌, Some, List, [], ◌∷◌, take, slice_get}
use Rattle.std.specs.List.{AllByRecursion}
use Rattle.spec_calculus.specs.Syntax.{Protocol}
use Rattle.spec_calculus.specs.Points.{greatest_phase}
use Rattle.spec_calculus.specs.Runs.{Performed, Configuration}
use Rattle.spec_terms.specs.Term.{Term}
use Rattle.spec_clauses.specs.Fact.{Att, Clause}
use Rattle.spec_clauses.specs.Flat.{flat}
use Rattle.spec_derivations.specs.Derivation.{Derive}
use Rattle.spec_translation.specs.Goal.{arguments_at}
use Rattle.spec_abstraction.specs.Trace.{MadeAt, past_count}
use Rattle.spec_abstraction.specs.Naming.{Naming, abstracted, performed_fact, event_facts, held_fact}

pub record IsDerived (P : Protocol) (names : Naming) (all : List (Clause Term)) (c : Configuration) (made : List MadeAt) : Type 0 where
  pub known : (phase : ℕ) → c.phase ≤ phase → phase ≤ greatest_phase P.main → AllByRecursion (λ v. Derive all (event_facts P names c.events) (flat (Att phase (abstracted P names v)))) c.known
  pub happened : (k : ℕ) (e : Performed) → slice_get c.events k ≡ Some e → Derive all (event_facts P names (take k c.events)) (performed_fact P names e ∷ [])
  pub entered : AllByRecursion (λ held. Derive all (event_facts P names c.events) (held_fact P names held ∷ [])) c.entries
  pub within : c.phase ≤ greatest_phase P.main
  pub counted : AllByRecursion (λ e. arguments_at P e.point ≡ past_count e.past) made
