-- What is told of an entry.
use Rattle.std.specs.Prelude.{◌≡◌, ℕ, Option, None, Some, List}
use Rattle.spec_calculus.specs.Syntax.{Protocol, Query}
use Rattle.spec_calculus.specs.Points.{numbered}
use Rattle.spec_calculus.specs.Runs.{Step}
use Rattle.spec_saturation.specs.Key.{Entry}
use Rattle.spec_attack_runs.specs.Attack.{IsCompiled, Reconstructed}
use Rattle.log_entries.specs.declared.log.PlainEntry.{PlainEntry}
use Rattle.log_entries.specs.PlainLogs.{TellPlainLog}

-- the query of that number has such an attack by the entry, in each log that the entries tell, or none
abbrev pub IsTold : Protocol → ℕ → List PlainEntry → ℕ → Option (List Step) → Type 0
IsTold P query entries number attack = (q : Query) (log : List Entry) → numbered P.queries query ≡ Some q → TellPlainLog entries log → Reconstructed P q log number attack

-- and likewise the steps that it is compiled to
abbrev pub AreCompiled : Protocol → Query → List Entry → ℕ → Option (List Step) → Type 0
AreCompiled P q log number (Some steps) = IsCompiled P q log number steps
AreCompiled P q log number None = (steps : List Step) → IsCompiled P q log number steps → ⊥
