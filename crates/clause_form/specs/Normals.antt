-- What contracts see of norms: of the answer of `norm`, and of what is made on the way there.
use Rattle.std.specs.Prelude.{◌≡◌, ℕ, true, nat_eq, cond, length, Option, Some, None, List, [], map}
use Rattle.std.specs.List.{AllByRecursion, list_any}
use Rattle.spec_terms.specs.Term.{Term}
use Rattle.spec_clauses.specs.Fact as horn
use Rattle.spec_clauses.specs.Variables.{fact_variables, clause_variables, constrained_variables}
use Rattle.spec_clauses.specs.Norm.{distinct, is_general, anchors, without_repeats, is_tautology, without_lonely, generalized, numbered_anew}
use Rattle.term_tree.specs.declared.bank.Id.{Id}
use Rattle.clause_diffs.specs.Diffs.{StartAt}
use Rattle.clause_form.specs.declared.normal.Normal.{Normal}
use Rattle.clause_form.specs.declared.normal.Normal.TheVariants.{Tautology, Clause}
use Rattle.clause_form.specs.Seen.{fact_at, clause_at, NamesClause, IdClause}

-- the clause names the norm, if there is one
abbrev pub NamesNorm : List Term → Normal → Option (horn.Clause Term) → Type 0
NamesNorm all Tautology norm = norm ≡ None
NamesNorm all (Clause c) None = ⊥
NamesNorm all (Clause c) (Some tree) = NamesClause all c tree

-- what holds of the clause, if the answer is one
abbrev pub IfClause : Normal → (IdClause → Type 0) → Type 0
IfClause Tautology P = Unit {0}
IfClause (Clause c) P = P c

-- the anchors of clauses with these hypotheses and this conclusion, whatever their constraints
abbrev pub anchors_at : List Term → List (horn.Fact Id) → horn.Fact Id → List ℕ
anchors_at all hyps concl = anchors record { hypotheses = map (fact_at all) hyps; diffs = []; conclusion = fact_at all concl }

-- the clause without repeated and lonely hypotheses
abbrev pub simplest : horn.Clause Term → horn.Clause Term
simplest c = without_lonely (without_repeats c)

-- the norm of a clause that needs its constraints, each of which some substitution meets
abbrev pub needed_norm : horn.Clause Term → Option (horn.Clause Term)
needed_norm c = cond (is_tautology (without_repeats c)) None (Some (numbered_anew (generalized (simplest c))))

-- the variables of the constraints stand in the facts
abbrev pub AreOwn : horn.Clause Term → Type 0
AreOwn c = AllByRecursion (λ x. list_any (nat_eq x) (clause_variables c) ≡ true) (constrained_variables c)

-- the variables that the constraints bind come right after those of the facts
abbrev pub BindAfter : List Term → IdClause → Type 0
BindAfter all c = StartAt (length (distinct nat_eq (clause_variables (clause_at all c)))) c.diffs

-- the variables of the facts that a norm keeps, where these are left
abbrev pub kept_numbers : horn.Clause Term → List ℕ
kept_numbers c = cond (is_general c) (fact_variables c.conclusion) (clause_variables c)
