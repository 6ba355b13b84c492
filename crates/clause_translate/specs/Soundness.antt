-- What a list of clauses says of the runs of a protocol: the abstraction of each run is one to one, and what happens in the run is
-- derived (Blanchet 2016, section 3.3.4: soundness of the clauses).
use Rattle.std.specs.Prelude.{◌≡◌, Some, List, map, Contains}
use Rattle.spec_calculus.specs.Syntax.{Protocol}
use Rattle.spec_calculus.specs.Values.{Value}
use Rattle.spec_calculus.specs.Runs.{Configuration, Step, run}
use Rattle.spec_calculus.specs.Standing.{IsLacking}
use Rattle.spec_terms.specs.Term.{Term}
use Rattle.spec_clauses.specs.Fact.{Clause}
use Rattle.spec_abstraction.specs.Trace.{MadeAt, trace_of}
use Rattle.spec_abstraction.specs.Naming.{Naming, Names, naming, abstracted}
use Rattle.spec_abstraction.specs.Derived.{IsDerived}
use Rattle.spec_abstraction.specs.OneToOne.{is_foreign, AreOnce, IsOneToOne}
use Rattle.clause_form.specs.Seen.{clause_at}
use Rattle.clause_translate.specs.declared.whole.Translated.{Translated}
use Rattle.clause_translate.specs.declared.whole.Translated.TheVariants as made

-- the names that a run makes, and their terms
abbrev pub made_by : Protocol → List Step → List MadeAt
made_by P steps = (trace_of P steps).made

abbrev pub names_of : Protocol → List Step → Naming
names_of P steps = naming P (made_by P steps)

-- A run is abstracted: each made name has its term, over the messages and the copies of the thread that made it; each that
-- stands in the configuration was made in the run, at most one by each restriction for the same copies; values of such names,
-- and so those that are known, are equal where their terms are; and what is known, and each event, is derived.
pub record IsAbstracted (P : Protocol) (all : List (Clause Term)) (steps : List Step) (c : Configuration) : Type 0 where
  pub named : Names P (names_of P steps) (made_by P steps)
  pub entered : IsLacking (is_foreign (made_by P steps)) c
  pub once : AreOnce (made_by P steps)
  pub one_to_one : IsOneToOne P (names_of P steps) (made_by P steps)
  pub known : (v w : Value) → Contains c.known v → Contains c.known w → abstracted P (names_of P steps) v ≡ abstracted P (names_of P steps) w → v ≡ w
  pub derived : IsDerived P (names_of P steps) all c (made_by P steps)

-- and so is every run
abbrev pub AbstractsRuns : Protocol → List (Clause Term) → Type 0
AbstractsRuns P all = (steps : List Step) (c : Configuration) → run P steps ≡ Some c → IsAbstracted P all steps c

-- the clauses of a translation, where it is not too large, abstract every run
abbrev pub IsSound : Protocol → List Term → Translated → Type 0
IsSound P all (made.Clauses clauses) = AbstractsRuns P (map (clause_at all) clauses)
IsSound P all (made.Large point) = Unit {0}
