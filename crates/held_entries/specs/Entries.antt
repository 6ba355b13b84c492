-- What contracts see of an entry of a table, and what a `get` asks of it.
use Rattle.std.specs.Prelude.{ℕ, List, Option}
use Rattle.spec_calculus.specs.Limits.{asked}
use Rattle.spec_calculus.specs.Tables as calculus
use Rattle.spec_calculus.specs.Tables.{matched_entry}
use Rattle.spec_calculus.specs.Values.{Value, Environment}
use Rattle.pi_tree.specs.Processes.{condition_of}
use Rattle.held_entries.specs.declared.wanted.Wanted.{Wanted}
use Rattle.held_entries.specs.declared.entries.Held.{Held}

abbrev pub held_of : Held → calculus.Held
held_of h = record { table = h.table; arguments = h.args }

-- what the `get` of that table binds of an entry that it may take
abbrev pub taken_by : Wanted → ℕ → calculus.Held → Option Environment
taken_by wanted table = matched_entry wanted.environment.now table wanted.patterns.now (condition_of wanted.condition.now)

-- the values of its condition's terms with an entry that matches
abbrev pub asked_by : Wanted → ℕ → calculus.Held → List Value
asked_by wanted table = asked wanted.environment.now table wanted.patterns.now (condition_of wanted.condition.now)
