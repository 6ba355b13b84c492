-- Equations and what solves them.
use Rattle.std.specs.Prelude.{◌≡◌, ◌↔◌, ◌<◌, ℕ, List, map}
use Rattle.spec_trees.specs.Tree.{bind}
use Rattle.spec_terms.specs.Term.{Term, Subst}
use Rattle.spec_terms.specs.Binding.{Solves}
use Rattle.spec_clauses.specs.Variables.{IsBelow}
use Rattle.spec_clauses.specs.Fact.{Fact}
use Rattle.term_tree.specs.declared.bank.Id.{Id}
use Rattle.unify_match.specs.declared.bound.Bound.{Bound}
use Rattle.unify_match.specs.Seen.{seen, IsReady}
use Rattle.clause_form.specs.Seen.{NameFacts}
use Rattle.clause_terms.specs.Scopes.{Held, NamesScope}
use Rattle.spec_translation.specs.Visit.{Visit}

-- the bindings are ready, and their solutions are what makes the rows one
pub record AreRowsSolved (all : List Term) (pairs : List Bound) (xs ys : List Term) : Type 0 where
  pub ready : IsReady all pairs
  pub solutions : (s : Subst) → Solves s (seen all pairs) ↔ (map (bind s) xs ≡ map (bind s) ys)

abbrev pub AreRowsApart : List Term → List Term → Type 0
AreRowsApart xs ys = (s : Subst) → map (bind s) xs ≡ map (bind s) ys → ⊥

-- the equations hold under the substitution
abbrev pub SolvesChoice : Subst → List Term → List Term → Term → Term → Type 0
SolvesChoice s arguments sides value target = (map (bind s) arguments ≡ map (bind s) sides) × (bind s value ≡ bind s target)

-- the bindings are ready, and their solutions are what makes the equations hold
pub record AreSolved (all : List Term) (pairs : List Bound) (arguments sides : List Term) (value target : Term) : Type 0 where
  pub ready : IsReady all pairs
  pub solutions : (s : Subst) → Solves s (seen all pairs) ↔ SolvesChoice s arguments sides value target

abbrev pub AreUnsolvable : List Term → List Term → Term → Term → Type 0
AreUnsolvable arguments sides value target = (s : Subst) → SolvesChoice s arguments sides value target → ⊥

-- the substitution has terms below the number for the variables below it
abbrev pub HasBelow : Subst → ℕ → Type 0
HasBelow s n = (x : ℕ) → x < n → IsBelow n (s x)

-- the scope and the hypotheses are those of the visit
pub record NamesKnown (all : List Term) (held : List Held) (facts : List (Fact Id)) (v : Visit) : Type 0 where
  pub scope : NamesScope all held v.scope
  pub hypotheses : NameFacts all facts v.hypotheses
