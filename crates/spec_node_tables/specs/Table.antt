-- The table of clauses: the distinct terms that stand in them, in the order in which a walk completes them. (A term by its distinct
-- subterms is a directed acyclic graph: Baader and Snyder 2001, section 2.3.)
use Rattle.std.specs.Prelude.{ℕ, suc, cond, List, [], ◌∷◌, ◌++◌, flat_map}
use Rattle.spec_trees.specs.Tree.{Trees, Leaf, Node, none, more, items_of}
use Rattle.spec_terms.specs.Term.{Sym, Term}
use Rattle.spec_clauses.specs.Fact.{Clause, terms_of, same_term}
use Rattle.spec_clauses.specs.Inclusion.{Has}
use Rattle.spec_clauses.specs.Norm.{distinct}
use Rattle.spec_certificate_text.specs.Sides.{SpelledClause, spelled_clause, sides_in_order}

-- The walk through a term and through a row of terms: from left to right, the arguments before the term that they stand in.
abbrev mutual
  pub walk : Term → List Term
  walk (Leaf x) = Leaf x ∷ []
  walk (Node f arguments) = walk_row arguments ++ (Node f arguments ∷ [])

  pub walk_row : Trees ℕ Sym → List Term
  walk_row none = []
  walk_row (more t ts) = walk t ++ walk_row ts

-- the terms of a clause as they are written: of the hypotheses in order, of the constraints, and then of the conclusion
abbrev pub spelled_terms : {X : Type 0} → SpelledClause X → List X
spelled_terms c = flat_map terms_of c.hypotheses ++ (flat_map sides_in_order c.diffs ++ terms_of c.conclusion)

-- the terms of clauses as they are written
abbrev pub terms_in_order : List (Clause Term) → List Term
terms_in_order cs = flat_map (λ c. spelled_terms (spelled_clause c)) cs

-- The table: of what the walk through all clauses completes, each term the first time.
abbrev pub table : List (Clause Term) → List Term
table cs = distinct same_term (flat_map walk (terms_in_order cs))

-- the place of a term in a table, from 0; where it isn't there, the place behind the last
abbrev pub place_in : List Term → Term → ℕ
place_in [] t = 0
place_in (u ∷ us) t = cond (same_term t u) 0 (suc (place_in us t))

-- its number, from 1
abbrev pub number_in : List Term → Term → ℕ
number_in ts t = suc (place_in ts t)

-- the arguments of a term; a variable has none
abbrev pub arguments_of : Term → List Term
arguments_of (Leaf x) = []
arguments_of (Node f arguments) = items_of arguments

-- a term is itself a subterm of its own, and so is each of its arguments'
pub data IsSubterm (t : Term) : Term → Type 0 where
  itself : IsSubterm t t
  of_argument : {u v : Term} → Has (arguments_of v) u → IsSubterm t u → IsSubterm t v
