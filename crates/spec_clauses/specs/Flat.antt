-- Flat facts: `att` of a data constructor or a tuple stands for the `att` of its parts, in its phase (Blanchet 2016, section 3.3.1).
use Rattle.std.specs.Prelude.{ℕ, Bool, true, false, not, ◌&&◌, cond, List, [], ◌∷◌, ◌++◌, map, flat_map}
use Rattle.std.specs.List.{list_all}
use Rattle.spec_trees.specs.Tree.{Trees, Leaf, Node, none, more}
use Rattle.spec_terms.specs.Term.{Sym, Data, Tuple, Term, Subst}
use Rattle.spec_clauses.specs.Fact.{Fact, Att, Mess, Tab, Ev, Mev, Bad, Clause, fact_under}

-- whether who has a term with the symbol at its root has its parts, and the other way round
abbrev pub is_data : Sym → Bool
is_data (Data f) = true
is_data (Tuple n) = true
is_data _ = false

-- the parts of a term and of a row of terms: no data symbol is left at a root
abbrev mutual
  pub parts : Term → List Term
  parts (Leaf x) = Leaf x ∷ []
  parts (Node f args) = cond (is_data f) (row_parts args) (Node f args ∷ [])

  pub row_parts : Trees ℕ Sym → List Term
  row_parts none = []
  row_parts (more t ts) = parts t ++ row_parts ts

-- the flat facts that a fact stands for
abbrev pub flat : Fact Term → List (Fact Term)
flat (Att k t) = map (Att k) (parts t)
flat (Mess k t u) = Mess k t u ∷ []
flat (Tab n ts) = Tab n ts ∷ []
flat (Ev e ts) = Ev e ts ∷ []
flat (Mev e ts) = Mev e ts ∷ []
flat (Bad ts) = Bad ts ∷ []

-- and those that facts stand for under a substitution
abbrev pub flat_under : Subst → List (Fact Term) → List (Fact Term)
flat_under s fs = flat_map (λ f. flat (fact_under s f)) fs

-- the flat parts of a clause: one for each flat fact of its conclusion, with all constraints
abbrev pub flat_parts : Clause Term → List (Clause Term)
flat_parts c = map (λ f. record { hypotheses = flat_map flat c.hypotheses; diffs = c.diffs; conclusion = f }) (flat c.conclusion)

-- whether a fact, and a clause, is flat
abbrev pub is_flat : Fact Term → Bool
is_flat (Att k (Node f args)) = not (is_data f)
is_flat _ = true

abbrev pub is_flat_clause : Clause Term → Bool
is_flat_clause c = is_flat c.conclusion && list_all is_flat c.hypotheses
