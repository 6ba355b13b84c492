-- The terms of a protocol's facts have no bound variables, and terms of sides without any may stand in facts.
use Rattle.std.proofs.Common.{◌≡◌, ℕ, ◌<◌, false, ◌||◌, nat_le, List, [], ◌∷◌, map, refl, sym, ◌∙◌, ap, subst, arith}
use Rattle.std.specs.List.{AllByRecursion, list_any}
use Rattle.std.proofs.lemmas.Bool.Decides.{nat_tests}
use Rattle.std.proofs.lemmas.List.Folds.{list_any-append}
use Rattle.spec_trees.specs.Leaves.{leaves, row_leaves}
use Rattle.spec_trees.specs.Tree.{Trees, Leaf, Node, none, more, trees}
use Rattle.spec_trees.proofs.Occurrence.{or_false}
use Rattle.spec_calculus.specs.Syntax.{Protocol}
use Rattle.spec_terms.specs.Term.{Sym, Term}
use Rattle.spec_clauses.specs.Fact.{Fact, Att, Mess, Tab, Ev, Mev, Bad, Clause, terms_of, map_fact}
use Rattle.spec_clauses.specs.Inclusion.{Has}
use Rattle.spec_clauses.proofs.Parts.{terms_of-map}
use Rattle.spec_certificate_text.specs.OfProtocol.{IsTermBelow, IsTermOf, AreTermsOf, AreSidesOf, most_side_variables, IsFactOf, IsClauseOf}
use Rattle.spec_certificate_text.specs.Sides.{first_bound, spelled_clause, map_spelled, holds_bound}
use Rattle.spec_node_tables.specs.Table.{spelled_terms, table, number_in}
use Rattle.spec_node_tables.proofs.Back.{of_parts}
use Rattle.spec_node_faults.proofs.Items.{AreOwn, HasOwnNumbers}
use Rattle.spec_node_faults.proofs.Orders.{term_there}

low_leaf : (x : ℕ) → x < first_bound → nat_le first_bound x ≡ false
low_leaf x below = grind (arith, nat_tests, below)

leaf_low : (x : ℕ) → nat_le first_bound x ≡ false → x < first_bound
leaf_low x free = grind (arith, nat_tests, free)

mutual
  pub own_term : (P : Protocol) (t : Term) → IsTermOf P t → holds_bound t ≡ false
  own_term P (Leaf x) is = ap (λ b. b || false) (low_leaf x is)
  own_term P (Node f ts) is = own_row P ts is.1

  own_row : (P : Protocol) (ts : Trees ℕ Sym) → AreTermsOf P ts → list_any (nat_le first_bound) (row_leaves ts) ≡ false
  own_row P none are = refl
  own_row P (more t ts) are =
      list_any-append (nat_le first_bound) (leaves t) (row_leaves ts) ∙ (ap (λ b. b || list_any (nat_le first_bound) (row_leaves ts)) (own_term P t are.0) ∙ own_row P ts are.1)

mutual
  pub term_of_fact : (P : Protocol) (t : Term) → IsTermBelow most_side_variables P t → holds_bound t ≡ false → IsTermOf P t
  term_of_fact P (Leaf x) is own = leaf_low x (or_false (nat_le first_bound x) false own).0
  term_of_fact P (Node f ts) is own = (is.0, row_of_fact P ts is.1 own)

  row_of_fact : (P : Protocol) (ts : Trees ℕ Sym) → AreSidesOf P ts → list_any (nat_le first_bound) (row_leaves ts) ≡ false → AreTermsOf P ts
  row_of_fact P none are own = tt
  row_of_fact P (more t ts) are own =
      let parts = or_false (list_any (nat_le first_bound) (leaves t)) (list_any (nat_le first_bound) (row_leaves ts)) (sym (list_any-append (nat_le first_bound) (leaves t) (row_leaves ts)) ∙ own) in
      (term_of_fact P t are.0 parts.0, row_of_fact P ts are.1 parts.1)

-- The numbers that clauses of a protocol have for the terms of their facts.

abbrev AreFree : List Term → Type 0
AreFree ts = AllByRecursion (λ t. holds_bound t ≡ false) ts

free_terms : (P : Protocol) (ts : List Term) → AreTermsOf P (trees ts) → AreFree ts
free_terms P [] are = tt
free_terms P (t ∷ ts) are = (own_term P t are.0, free_terms P ts are.1)

free_fact : (P : Protocol) (f : Fact Term) → IsFactOf P f → AreFree (terms_of f)
free_fact P (Att k t) is = (own_term P t is.1, tt)
free_fact P (Mess k t u) is = (own_term P t is.1, (own_term P u is.2, tt))
free_fact P (Tab n ts) is = free_terms P ts is.1
free_fact P (Ev e ts) is = free_terms P ts is.1
free_fact P (Mev e ts) is = free_terms P ts is.1
free_fact P (Bad ts) is = free_terms P ts is

module _ (P : Protocol) (cs : List (Clause Term)) where
  numbers_own : (ts : List Term) → AllByRecursion (Has (table cs)) ts → AreFree ts → AreOwn (table cs) (map (number_in (table cs)) ts)
  numbers_own [] stand free = tt
  numbers_own (t ∷ ts) stand free = (ap holds_bound (term_there cs t stand.0) ∙ free.0, numbers_own ts stand.1 free.1)

  fact_own : (f : Fact Term) → IsFactOf P f → AllByRecursion (Has (table cs)) (terms_of f) → AreOwn (table cs) (terms_of (map_fact (number_in (table cs)) f))
  fact_own f is stand = subst (AreOwn (table cs)) (sym (terms_of-map (number_in (table cs)) f)) (numbers_own (terms_of f) stand (free_fact P f is))

  facts_own : (fs : List (Fact Term)) → AllByRecursion (IsFactOf P) fs → AllByRecursion (λ f. AllByRecursion (Has (table cs)) (terms_of f)) fs → AllByRecursion (λ f. AreOwn (table cs) (terms_of f)) (map (map_fact (number_in (table cs))) fs)
  facts_own [] are stand = tt
  facts_own (f ∷ fs) are stand = (fact_own f are.0 stand.0, facts_own fs are.1 stand.1)

  pub clauses_own : (ds : List (Clause Term)) → AllByRecursion (IsClauseOf P) ds → AllByRecursion (λ d. AllByRecursion (Has (table cs)) (spelled_terms (spelled_clause d))) ds
      → AllByRecursion (HasOwnNumbers (table cs)) (map (λ d. map_spelled (number_in (table cs)) (spelled_clause d)) ds)
  clauses_own [] are stand = tt
  clauses_own (d ∷ ds) are stand =
      let parts = of_parts (Has (table cs)) (spelled_clause d) stand.0 in
      (record { hypotheses = facts_own d.hypotheses are.0.hypotheses parts.hypotheses; conclusion = fact_own d.conclusion are.0.conclusion parts.conclusion }, clauses_own ds are.1 stand.1)
