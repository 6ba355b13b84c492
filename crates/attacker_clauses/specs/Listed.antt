-- Lists that grow by what raw clauses give.
use Rattle.std.specs.Prelude.{List, ◌++◌, flat_map}
use Rattle.spec_terms.specs.Term.{Term}
use Rattle.spec_clauses.specs.Fact.{Clause}
use Rattle.spec_clauses.specs.Norm.{norms}
use Rattle.clause_form.specs.Seen.{NameClauses, IdClause}
use Rattle.clause_form.specs.Fit.{AreLowWithinLimit}

-- the clauses name these, with variables of low numbers
pub record Lists (all : List Term) (clauses : List IdClause) (list : List (Clause Term)) : Type 0 where
  pub names : NameClauses all clauses list
  pub low : AreLowWithinLimit all clauses

-- where the earlier list is what some raw clauses give, the later one is what these give and those besides
abbrev pub Adds : List Term → List IdClause → List Term → List IdClause → List (Clause Term) → Type 0
Adds old earlier now later besides = (raws : List (Clause Term)) → Lists old earlier (flat_map norms raws) → Lists now later (flat_map norms (raws ++ besides))
