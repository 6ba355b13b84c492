-- The instance of a correspondence's left side: its variables stand for the values of the event, as the clause that shows `bad` has them.
use Rattle.std.proofs.Common.{◌≡◌, ◌∙◌, ℕ, ◌+◌, ◌-◌, ◌<◌, Bool, true, false, not, cond, nat_eq, List, [], ◌∷◌, ◌++◌, map, filter_map, refl, ap, sym, subst, eqb-true, arith}
use Rattle.std.specs.Prelude.{max, flat_map, filter}
use Rattle.std.specs.List.{AllByRecursion}
use Rattle.spec_trees.specs.Tree.{trees, bind}
use Rattle.spec_trees.proofs.Rows.{binds-trees}
use Rattle.spec_calculus.specs.Syntax.{Name, Free, Made, Variable, EventTerm, Protocol}
use Rattle.spec_calculus.specs.Syntax as calculus
use Rattle.spec_calculus.specs.Values.{Environment, value_of_name, value_of, values_of}
use Rattle.spec_well_formed.specs.Signature.{Signature}
use Rattle.spec_well_formed.specs.Leaves.{leaves, row_leaves, AreNumberedBehind}
use Rattle.spec_well_formed.specs.Queries.{IsFreeOrVariable}
use Rattle.spec_terms.specs.Term.{Subst}
use Rattle.spec_clauses.specs.Norm.{distinct}
use Rattle.spec_clauses.proofs.Lists.{all_first, all_second, all_weaker}
use Rattle.spec_translation.specs.Conversion.{converted_row}
use Rattle.spec_translation.specs.Goal.{query_leaf, query_term, variable_at, event_variables}
use Rattle.spec_translation.proofs.Conversions.{converted-bind, converted-same, converted_row-same}
use Rattle.spec_abstraction.specs.Naming.{Naming, atom_term, abstracted}
use Rattle.spec_abstraction.proofs.Values.{converted-of_bind, converted_row-of_binds}
use Rattle.spec_soundness.proofs.Extension.{leaf_under}

-- a free name, or a variable that is numbered from 1
abbrev pub IsQueryLeaf : Name → Type 0
IsQueryLeaf (Free n) = Unit {0}
IsQueryLeaf (Made p) = ⊥
IsQueryLeaf (Variable i) = 0 < i

pub numbered_leaves : (signature : Signature) (xs : List Name) (before : ℕ) → AllByRecursion (IsFreeOrVariable signature) xs → AreNumberedBehind before xs → AllByRecursion IsQueryLeaf xs
numbered_leaves signature [] before a h = tt
numbered_leaves signature (Free n ∷ xs) before a h = (tt, numbered_leaves signature xs before a.1 h)
numbered_leaves signature (Made p ∷ xs) before a h = absurd a.0
numbered_leaves signature (Variable i ∷ xs) before a h = (h.0, numbered_leaves signature xs (max before i) a.1 h.2)

-- the leaves of a list of terms, in both forms
pub leaves_flat : (ts : List calculus.Term) → flat_map leaves ts ≡ row_leaves (trees ts)
leaves_flat [] = refl
leaves_flat (t ∷ ts) = ap (λ xs. leaves t ++ xs) (leaves_flat ts)

-- what holds of each first occurrence holds of all
unfiltered : (A : ℕ → Type 0) (x : ℕ) → A x → (ys : List ℕ) → AllByRecursion A (filter (λ y. not (nat_eq x y)) ys) → AllByRecursion A ys
unfiltered A x h [] a = tt
unfiltered A x h (y ∷ ys) a = go (nat_eq x y) refl a (λ k. unfiltered A x h ys k) where
  go : (b : Bool) → nat_eq x y ≡ b → AllByRecursion A (cond (not b) (y ∷ filter (λ y. not (nat_eq x y)) ys) (filter (λ y. not (nat_eq x y)) ys)) → (AllByRecursion A (filter (λ y. not (nat_eq x y)) ys) → AllByRecursion A ys) → A y × AllByRecursion A ys
  go true e k others = (subst A (eqb-true x y e) h, others k)
  go false e k others = (k.0, others k.1)

all_distinct : (A : ℕ → Type 0) (xs : List ℕ) → AllByRecursion A (distinct nat_eq xs) → AllByRecursion A xs
all_distinct A [] a = tt
all_distinct A (x ∷ xs) a = (a.0, all_distinct A xs (unfiltered A x a.0 (distinct nat_eq xs) a.1))

module _ (P : Protocol) (names : Naming) (environment : Environment) where
  -- each variable of the query as the value that the environment has for it
  abbrev pub bound_terms : Subst
  bound_terms n = abstracted P names (value_of_name environment (Variable (n + 1)))

  leaf_bound : (x : Name) → IsQueryLeaf x → bind bound_terms (query_leaf x) ≡ abstracted P names (value_of_name environment x)
  leaf_bound (Free n) h = refl
  leaf_bound (Made p) h = absurd h
  leaf_bound (Variable i) h = ap (λ k. abstracted P names (value_of_name environment (Variable k))) (let e : (i - 1) + 1 ≡ i = omega (arith, h) in e)

  term_bound : (t : calculus.Term) → AllByRecursion IsQueryLeaf (leaves t) → bind bound_terms (query_term P t) ≡ abstracted P names (value_of environment t)
  term_bound t a =
      converted-bind P bound_terms query_leaf t
      ∙ (converted-same P (λ x. bind bound_terms (query_leaf x)) (λ x. abstracted P names (value_of_name environment x)) t
      (all_weaker IsQueryLeaf (λ x. bind bound_terms (query_leaf x) ≡ abstracted P names (value_of_name environment x)) leaf_bound (leaves t) a)
      ∙ sym (converted-of_bind P (atom_term names) (value_of_name environment) t))

  pub terms_bound : (ts : List calculus.Term) → AllByRecursion IsQueryLeaf (row_leaves (trees ts)) → map (bind bound_terms) (map (query_term P) ts) ≡ map (abstracted P names) (values_of environment ts)
  terms_bound [] a = refl
  terms_bound (t ∷ ts) a =
      let first = term_bound t (all_first IsQueryLeaf (leaves t) (row_leaves (trees ts)) a) in
      let others = terms_bound ts (all_second IsQueryLeaf (leaves t) (row_leaves (trees ts)) a) in λ i. first i ∷ others i

  module _ (r s : Subst) where
    -- the variables as the clause has them
    variables_same : (vars : List ℕ) → map (bind bound_terms) (map (λ i. query_leaf (Variable i)) vars) ≡ map (bind r) (map (bind s) (map (λ i. query_leaf (Variable i)) vars)) → AllByRecursion (λ i. bound_terms (i - 1) ≡ bind r (s (i - 1))) vars
    variables_same [] e = tt
    variables_same (i ∷ vars) e =
        let first : bound_terms (i - 1) ≡ bind r (s (i - 1)) = cc in
        let rest : map (bind bound_terms) (map (λ i. query_leaf (Variable i)) vars) ≡ map (bind r) (map (bind s) (map (λ i. query_leaf (Variable i)) vars)) = cc in
        (first, variables_same vars rest)

    leaves_same : (xs : List Name) → AllByRecursion IsQueryLeaf xs → AllByRecursion (λ i. bound_terms (i - 1) ≡ bind r (s (i - 1))) (filter_map variable_at xs) → AllByRecursion (λ x. leaf_under r s x ≡ abstracted P names (value_of_name environment x)) xs
    leaves_same [] q a = tt
    leaves_same (Free n ∷ xs) q a = (refl, leaves_same xs q.1 a)
    leaves_same (Made p ∷ xs) q a = absurd q.0
    leaves_same (Variable i ∷ xs) q a = (sym a.0 ∙ leaf_bound (Variable i) q.0, leaves_same xs q.1 a.1)

    -- So the left side's terms are those of its values.
    pub left_same : (left : EventTerm) → AllByRecursion IsQueryLeaf (row_leaves (trees left.arguments)) → map (bind bound_terms) (map (λ i. query_leaf (Variable i)) (event_variables left)) ≡ map (bind r) (map (bind s) (map (λ i. query_leaf (Variable i)) (event_variables left))) → converted_row P (leaf_under r s) (trees left.arguments) ≡ converted_row P (atom_term names) (trees (values_of environment left.arguments))
    left_same left query e =
        let xs = flat_map leaves left.arguments in
        let all = all_distinct (λ i. bound_terms (i - 1) ≡ bind r (s (i - 1))) (filter_map variable_at xs) (variables_same (event_variables left) e) in
        let same = leaves_same xs (subst (AllByRecursion IsQueryLeaf) (sym (leaves_flat left.arguments)) query) all in
        converted_row-same P (leaf_under r s) (λ x. abstracted P names (value_of_name environment x)) (trees left.arguments)
        (subst (AllByRecursion (λ x. leaf_under r s x ≡ abstracted P names (value_of_name environment x))) (leaves_flat left.arguments) same)
        ∙ (sym (converted_row-of_binds P (atom_term names) (value_of_name environment) (trees left.arguments))
        ∙ ap (converted_row P (atom_term names)) (binds-trees (value_of_name environment) left.arguments))
