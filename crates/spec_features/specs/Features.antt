-- The features of a clause: eight numbers, none of which is greater in a clause with flat hypotheses than in one that it
-- subsumes (feature vectors: Schulz 2013, Simple and Efficient Clause Subsumption with Feature Vector Indexing).
use Rattle.std.specs.Prelude.{ℕ, ◌+◌, ◌-◌, Bool, true, false, ◌&&◌, nat_le, cond, List, [], ◌∷◌}
use Rattle.spec_trees.specs.Tree.{Trees, Leaf, Node, none, more}
use Rattle.spec_terms.specs.Term.{Sym, Term}
use Rattle.spec_clauses.specs.Fact.{Fact, Clause, terms_of, total, is_variable_known}
use Rattle.spec_clauses.specs.Fact as fact
use Rattle.spec_clauses.specs.Subsumption.{firm}

-- the predicates of facts, of whatever phase, table or event
pub data Predicate : Type 0 where
  Att : Predicate
  Mess : Predicate
  Tab : Predicate
  Ev : Predicate
  Mev : Predicate
  Bad : Predicate

abbrev pub predicate_of : {X : Type 0} → Fact X → Predicate
predicate_of (fact.Att k t) = Att
predicate_of (fact.Mess k t u) = Mess
predicate_of (fact.Tab n ts) = Tab
predicate_of (fact.Ev e ts) = Ev
predicate_of (fact.Mev e ts) = Mev
predicate_of (fact.Bad ts) = Bad

-- whether two predicates are the same
abbrev pub same_predicate : Predicate → Predicate → Bool
same_predicate Att Att = true
same_predicate Mess Mess = true
same_predicate Tab Tab = true
same_predicate Ev Ev = true
same_predicate Mev Mev = true
same_predicate Bad Bad = true
same_predicate _ _ = false

-- the predicate of a conclusion as a number; `mev` stands in none
abbrev pub predicate_number : Predicate → ℕ
predicate_number Att = 0
predicate_number Mess = 1
predicate_number Ev = 2
predicate_number Mev = 2
predicate_number Bad = 3
predicate_number Tab = 4

-- how many of the facts have the predicate: each that has it is one
abbrev pub one_if : {X : Type 0} → Predicate → Fact X → ℕ
one_if p f = cond (same_predicate p (predicate_of f)) 1 0

abbrev pub number_of : {X : Type 0} → Predicate → List (Fact X) → ℕ
number_of p fs = total (one_if p) fs

-- how many function and name symbols a term, and a row of terms, has
abbrev mutual
  pub symbols : Term → ℕ
  symbols (Leaf x) = 0
  symbols (Node f args) = 1 + row_symbols args

  pub row_symbols : Trees ℕ Sym → ℕ
  row_symbols none = 0
  row_symbols (more t ts) = symbols t + row_symbols ts

-- and how many the terms of a fact have together
abbrev pub fact_symbols : Fact Term → ℕ
fact_symbols f = total symbols (terms_of f)

-- what a fact adds to a sum over the firm ones: nothing, if it is `att` of a variable
abbrev pub firm_weight : (Fact Term → ℕ) → Fact Term → ℕ
firm_weight weight f = cond (is_variable_known f) 0 (weight f)

-- The lanes: the numbers of hypotheses `att`, `mess` or `tab`, `ev` and `mev`, but for `att` of a variable; the symbols of these
-- together; those of the conclusion; the conclusion's predicate, from below and from above.
abbrev pub features_of : Clause Term → List ℕ
features_of c =
    let hs = firm c.hypotheses in
    let d = predicate_number (predicate_of c.conclusion) in
    number_of Att hs ∷ (number_of Mess hs + number_of Tab hs) ∷ number_of Ev hs ∷ number_of Mev hs ∷ total fact_symbols hs ∷ fact_symbols c.conclusion ∷ d ∷ (4 - d) ∷ []

-- whether no lane of the first is greater than that of the second
abbrev pub are_at_most : List ℕ → List ℕ → Bool
are_at_most [] [] = true
are_at_most (m ∷ ms) (n ∷ ns) = nat_le m n && are_at_most ms ns
are_at_most _ _ = false
