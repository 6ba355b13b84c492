-- How a term gets a place by a name of the attacker's own.
use Rattle.std.specs.Prelude.{ℕ, option_map}
use Rattle.spec_calculus.specs.Syntax.{Protocol}
use Rattle.spec_calculus.specs.Runs.{Fresh}
use Rattle.spec_terms.specs.Term.{Term}
use Rattle.spec_attack_runs.specs.Compiling.{State, Placed, made_known, names_it}

abbrev pub placed_fresh : Protocol → Term → State → Placed ℕ
placed_fresh P t st = option_map (names_it st.configuration.next t) (made_known P Fresh st)
