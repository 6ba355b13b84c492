-- What a pair of clauses gives.
use Rattle.std.specs.Prelude.{◌≡◌, ℕ, Option, Some, List}
use Rattle.spec_terms.specs.Term.{Term}
use Rattle.spec_clauses.specs.Fact as horn
use Rattle.spec_clauses.specs.Selection.{Selection, select}
use Rattle.spec_clauses.specs.Resolvents.{Answer, Resolves}
use Rattle.spec_clauses.specs.Resolvents as answer
use Rattle.spec_derivations.specs.Choice.{at_place}
use Rattle.clause_form.specs.Fit.{AreLowWithinLimit}
use Rattle.clause_form.specs.Seen.{NameClauses}
use Rattle.clause_resolve.specs.declared.resolving.Resolved.{Resolved}
use Rattle.clause_resolve.specs.declared.resolving.Resolved.TheVariants.{NoUnifier, Large, Clauses}

-- the pair, resolved on the unsolved clause's chosen hypothesis, gives the answer
pub record GivesOf (chosen : Option Selection) (solved unsolved : horn.Clause Term) (answer : Answer) : Type 0 where
  pub at : Selection
  pub is_selected : chosen ≡ Some at
  pub gives : Resolves solved unsolved at answer

-- what was found is the pair's answer: that the facts have no unifier, that the pair is large, or the resolvents
abbrev pub IsAnswerFor : Option Selection → List Term → horn.Clause Term → horn.Clause Term → Resolved → Type 0
IsAnswerFor chosen all solved unsolved NoUnifier = GivesOf chosen solved unsolved answer.NoUnifier
IsAnswerFor chosen all solved unsolved Large = GivesOf chosen solved unsolved answer.Large
IsAnswerFor chosen all solved unsolved (Clauses cs) = (resolvents : List (horn.Clause Term)) × NameClauses all cs resolvents × GivesOf chosen solved unsolved (answer.Resolvents resolvents)

-- the same on its selected hypothesis
abbrev pub Gives : horn.Clause Term → horn.Clause Term → Answer → Type 0
Gives solved unsolved answer = GivesOf (select unsolved.hypotheses) solved unsolved answer

abbrev pub IsAnswerOf : List Term → horn.Clause Term → horn.Clause Term → Resolved → Type 0
IsAnswerOf all solved unsolved found = IsAnswerFor (select unsolved.hypotheses) all solved unsolved found

-- and on the one at this place
abbrev pub IsAnswerAt : ℕ → List Term → horn.Clause Term → horn.Clause Term → Resolved → Type 0
IsAnswerAt place all solved unsolved found = IsAnswerFor (at_place unsolved.hypotheses place) all solved unsolved found

-- where no clauses were found, the bank is as before
abbrev pub LeavesBank : List Term → List Term → Resolved → Type 0
LeavesBank old new NoUnifier = new ≡ old
LeavesBank old new Large = new ≡ old
LeavesBank old new (Clauses cs) = Unit {0}

-- the variables of the clauses that were found, if any, have low numbers, where these are within the limit of size
abbrev pub AreFoundLow : List Term → Resolved → Type 0
AreFoundLow all NoUnifier = Unit {0}
AreFoundLow all Large = Unit {0}
AreFoundLow all (Clauses cs) = AreLowWithinLimit all cs
