-- Facts and clauses over the ids of a bank, with the trees that these name.
use Rattle.std.specs.Prelude.{◌≡◌, List, [], ◌∷◌, map}
use Rattle.spec_terms.specs.Term.{Term}
use Rattle.spec_clauses.specs.Fact.{Fact, ClauseOf, Clause, terms_of, map_fact}
use Rattle.term_tree.specs.Bank.{tree_at, AreKnown}
use Rattle.term_tree.specs.declared.bank.Id.{Id}
use Rattle.clause_diffs.specs.Diffs.{DiffOf, diffs_at, AreDiffsIn}
pub use Rattle.clause_diffs.specs.Diffs.{NameTerms}

-- a clause over ids: its constraints are over them too
abbrev pub IdClause : Type 0
IdClause = ClauseOf Id (DiffOf Id)

-- the fact, and the clause, of the trees that the ids name
abbrev pub fact_at : List Term → Fact Id → Fact Term
fact_at all f = map_fact (tree_at all) f

abbrev pub clause_at : List Term → IdClause → Clause Term
clause_at all c = record { hypotheses = map (fact_at all) c.hypotheses; diffs = diffs_at all c.diffs; conclusion = fact_at all c.conclusion }

-- each id of the fact, of the facts, names a tree
abbrev pub IsFactIn : List Term → Fact Id → Type 0
IsFactIn all f = AreKnown all (terms_of f)

abbrev pub AreFactsIn : List Term → List (Fact Id) → Type 0
AreFactsIn all [] = Unit {0}
AreFactsIn all (f ∷ fs) = IsFactIn all f × AreFactsIn all fs

-- each id of the clause, of the clauses, names a tree
pub record IsClauseIn (all : List Term) (c : IdClause) : Type 0 where
  pub hypotheses : AreFactsIn all c.hypotheses
  pub diffs : AreDiffsIn all c.diffs
  pub conclusion : IsFactIn all c.conclusion

abbrev pub AreClausesIn : List Term → List IdClause → Type 0
AreClausesIn all [] = Unit {0}
AreClausesIn all (c ∷ cs) = IsClauseIn all c × AreClausesIn all cs

-- the ids of the fact, of the facts, of the clause, of the clauses, name the trees of these
pub record NamesFact (all : List Term) (f : Fact Id) (tree : Fact Term) : Type 0 where
  pub known : IsFactIn all f
  pub is : fact_at all f ≡ tree

pub record NameFacts (all : List Term) (fs : List (Fact Id)) (trees : List (Fact Term)) : Type 0 where
  pub known : AreFactsIn all fs
  pub are : map (fact_at all) fs ≡ trees

pub record NamesClause (all : List Term) (c : IdClause) (tree : Clause Term) : Type 0 where
  pub known : IsClauseIn all c
  pub is : clause_at all c ≡ tree

pub record NameClauses (all : List Term) (cs : List IdClause) (trees : List (Clause Term)) : Type 0 where
  pub known : AreClausesIn all cs
  pub are : map (clause_at all) cs ≡ trees
