-- What is asked of a log, and what comes of an entry.
use Rattle.std.specs.Prelude.{ℕ, ◌≤◌, Option, None, Some, List, length}
use Rattle.std.specs.List.{AllByRecursion}
use Rattle.spec_terms.specs.Term.{Term}
use Rattle.spec_clauses.specs.Norm.{IsNormal}
use Rattle.spec_clauses.specs.Limits.{IsWithinLimit}
use Rattle.spec_saturation.specs.Key.{Entry}
use Rattle.log_entries.specs.declared.log.PlainEntry.{PlainEntry}
use Rattle.spec_attack_runs.specs.Source.{Source}
use Rattle.spec_attack_runs.specs.Instance.{ComesFrom}
use Rattle.spec_attack_runs.specs.Attack.{most_instances}
use Rattle.clause_instances.specs.declared.instance.Instance as made
use Rattle.clause_instances.specs.Instances.{NameInstances}

-- each clause of the log is its own norm within the limit of size, as those of a translation's log are
abbrev pub HasNormedLog : List PlainEntry → Type 0
HasNormedLog entries = AllByRecursion (λ (e : PlainEntry). IsNormal e.clause × IsWithinLimit e.clause) entries

-- no more instances come of the entry than are told
pub record ComesFromFew (sources : List Source) (log : List Entry) (number : ℕ) (instances : List Source) : Type 0 where
  pub come : ComesFrom sources log number instances
  pub few : length instances ≤ most_instances

-- the instances that an entry comes from, over ids; or it comes from none that are told
pub record TellsInstances (all : List Term) (sources : List Source) (log : List Entry) (number : ℕ) (ids : List made.Instance) : Type 0 where
  pub instances : List Source
  pub named : NameInstances all sources ids instances
  pub come : ComesFromFew sources log number instances

abbrev pub AreInstancesOf : List Term → List Source → List Entry → ℕ → Option (List made.Instance) → Type 0
AreInstancesOf all sources log number (Some ids) = TellsInstances all sources log number ids
AreInstancesOf all sources log number None = (instances : List Source) → ComesFromFew sources log number instances → ⊥
