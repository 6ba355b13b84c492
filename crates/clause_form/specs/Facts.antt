-- What contracts see of facts over ids.
use Rattle.std.specs.Prelude.{List, map}
use Rattle.spec_clauses.specs.Fact as horn
use Rattle.term_tree.specs.declared.bank.Id.{Id}
use Rattle.clause_diffs.specs.Diffs.{DiffOf}
use Rattle.clause_form.specs.declared.facts.Fact.{Fact}
use Rattle.clause_form.specs.declared.facts.Fact.TheVariants.{Att, Mess, Tab, Ev, Mev, Bad}
use Rattle.clause_form.specs.Seen.{IdClause}

abbrev pub fact_of : Fact → horn.Fact Id
fact_of (Att k t) = horn.Att k t
fact_of (Mess k t u) = horn.Mess k t u
fact_of (Tab n ts) = horn.Tab n ts
fact_of (Ev e ts) = horn.Ev e ts
fact_of (Mev e ts) = horn.Mev e ts
fact_of (Bad ts) = horn.Bad ts

-- the clause of a conclusion, hypotheses and constraints
abbrev pub clause_of : Fact → List Fact → List (DiffOf Id) → IdClause
clause_of concl hyps diffs = record { hypotheses = map fact_of hyps; diffs = diffs; conclusion = fact_of concl }
