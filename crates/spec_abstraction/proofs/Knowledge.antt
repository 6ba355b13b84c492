-- What the attacker's steps make known is derived.
use Rattle.std.proofs.Common.{◌≡◌, ◌∙◌, ℕ, zero, suc, ◌+◌, ◌-◌, ◌<◌, ◌≤◌, Bool, true, false, ◌&&◌, cond, nat_eq, Option, Some, None, List, [], ◌∷◌, ◌++◌, map, length, refl, ap, sym, subst, arith}
use Rattle.std.specs.Prelude.{flat_map, slice_get, max}
use Rattle.std.specs.Option.{option_map_or}
use Rattle.std.specs.List.{AllByRecursion}
use Rattle.std.proofs.lemmas.Bool.{eqb-true}
use Rattle.std.proofs.lemmas.List.{map-append}
use Rattle.spec_trees.specs.Tree.{Trees, Leaf, Node, none, more, bind, node, trees, items_of}
use Rattle.spec_trees.specs.Leaves.{leaves, row_leaves}
use Rattle.spec_trees.proofs.Equality.{and_true}
use Rattle.spec_calculus.specs.Syntax.{Name, Made, Variable, Symbol, Constructor, Rule, Declared, Protocol}
use Rattle.spec_calculus.specs.Syntax as calculus
use Rattle.spec_calculus.specs.Points.{numbered, greatest_phase}
use Rattle.spec_calculus.specs.Values.{Atom, Value, Environment, value_of_bound}
use Rattle.spec_calculus.specs.Matching.{instance_of, rule_value, rules_of}
use Rattle.spec_calculus.specs.Runs.{can_build, built, is_data, part_of}
use Rattle.spec_calculus.proofs.Rules.{rule_value-sound}
use Rattle.spec_well_formed.specs.Leaves.{AreNumberedBehind}
use Rattle.spec_well_formed.specs.Rules.{IsVariable, rule_leaves, IsProperRule}
use Rattle.spec_terms.specs.Term.{Sym, Ctor, Data, Tuple, Term, Subst}
use Rattle.spec_clauses.specs.Fact.{Fact, Att, Clause}
use Rattle.spec_clauses.specs.Flat.{flat, flat_under, parts, row_parts}
use Rattle.spec_clauses.specs.Flat as clause_flat
use Rattle.spec_clauses.specs.Inclusion.{IsWithin}
use Rattle.spec_clauses.proofs.Lists.{all_first, all_second}
use Rattle.spec_clauses.proofs.Inclusion.{within_self, within-more_left, within-more_right}
use Rattle.spec_derivations.specs.Derivation.{nothing}
use Rattle.spec_derivations.proofs.Forest.{less}
use Rattle.spec_translation.specs.Conversion.{row_length, symbol_over, converted_row, rule_leaf, rule_term}
use Rattle.spec_translation.specs.Attacker.{rule_applied}
use Rattle.spec_translation.proofs.Conversions.{converted-bind, converted-same}
use Rattle.spec_translation.proofs.Fresh.{mixed, mixed_from}
use Rattle.spec_abstraction.specs.Naming.{Naming, atom_term, abstracted}
use Rattle.spec_abstraction.specs.Taken.{IsTaken}
use Rattle.spec_abstraction.proofs.Values.{converted-of_bind, converted-node}
use Rattle.spec_abstraction.proofs.Conclusions.{AttackerHas, Derived, both_derived, applied, rule_taken, constructor_derived}

-- the flat of a data term is that of its parts
pub data_parts : (phase : ℕ) (ts : List Term) → map (Att phase) (row_parts (trees ts)) ≡ flat_map (λ t. flat (Att phase t)) ts
data_parts phase [] = refl
data_parts phase (t ∷ ts) = map-append (Att phase) (parts t) (row_parts (trees ts)) ∙ ap (λ fs. flat (Att phase t) ++ fs) (data_parts phase ts)

-- variables of rules: each is numbered from 1
abbrev pub IsRuleVariable : Name → Type 0
IsRuleVariable (calculus.Free n) = ⊥
IsRuleVariable (Made p) = ⊥
IsRuleVariable (Variable n) = 0 < n

rule_variables : (before : ℕ) (xs : List Name) → AllByRecursion IsVariable xs → AreNumberedBehind before xs → AllByRecursion IsRuleVariable xs
rule_variables before [] a b = tt
rule_variables before (calculus.Free n ∷ xs) a b = absurd a.0
rule_variables before (Made p ∷ xs) a b = absurd a.0
rule_variables before (Variable n ∷ xs) a b = (b.0, rule_variables (max before n) xs a.1 b.2)

pub proper_variables : (rule : Rule) → IsProperRule rule → AllByRecursion IsRuleVariable (rule_leaves rule)
proper_variables rule p = rule_variables 0 (rule_leaves rule) p.variables p.numbered

-- each term of the left side, and the right side
pub left_variables : (ts : List calculus.Term) → AllByRecursion IsRuleVariable (row_leaves (trees ts)) → AllByRecursion (λ t. AllByRecursion IsRuleVariable (leaves t)) ts
left_variables [] a = tt
left_variables (t ∷ ts) a = (
  all_first IsRuleVariable (leaves t) (row_leaves (trees ts)) a,
  left_variables ts (all_second IsRuleVariable (leaves t) (row_leaves (trees ts)) a),
)

module _ (P : Protocol) (names : Naming) where
  -- a rule's term over what its variables stand for
  abbrev pub rule_values : ℕ → Subst → Environment → Subst
  rule_values base by s = mixed base by (λ d. abstracted P names (value_of_bound s (Variable (d + 1))))

  leaf_value : (base : ℕ) (by : Subst) (s : Environment) (x : Name) → IsRuleVariable x → bind (rule_values base by s) (rule_leaf base x) ≡ abstracted P names (value_of_bound s x)
  leaf_value base by s (calculus.Free n) h = absurd h
  leaf_value base by s (Made p) h = absurd h
  leaf_value base by s (Variable n) h =
      let e : n - 1 + 1 ≡ n = omega (arith, h) in
      mixed_from base by (λ d. abstracted P names (value_of_bound s (Variable (d + 1)))) (n - 1) ∙ ap (λ m. abstracted P names (value_of_bound s (Variable m))) e

  leaves_value : (base : ℕ) (by : Subst) (s : Environment) (xs : List Name) → AllByRecursion IsRuleVariable xs → AllByRecursion (λ x. bind (rule_values base by s) (rule_leaf base x) ≡ abstracted P names (value_of_bound s x)) xs
  leaves_value base by s [] a = tt
  leaves_value base by s (x ∷ xs) a = (leaf_value base by s x a.0, leaves_value base by s xs a.1)

  pub rule_term_value : (base : ℕ) (by : Subst) (s : Environment) (t : calculus.Term) → AllByRecursion IsRuleVariable (leaves t) → bind (rule_values base by s) (rule_term P base t) ≡ abstracted P names (instance_of s t)
  rule_term_value base by s t a =
      converted-bind P (rule_values base by s) (rule_leaf base) t
      ∙ (converted-same P (λ x. bind (rule_values base by s) (rule_leaf base x)) (λ x. abstracted P names (value_of_bound s x)) t (leaves_value base by s (leaves t) a)
      ∙ sym (converted-of_bind P (atom_term names) (value_of_bound s) t))

  pub rule_terms_value : (base : ℕ) (by : Subst) (s : Environment) (ts : List calculus.Term) → AllByRecursion (λ t. AllByRecursion IsRuleVariable (leaves t)) ts → map (bind (rule_values base by s)) (map (rule_term P base) ts) ≡ map (abstracted P names) (map (instance_of s) ts)
  rule_terms_value base by s [] a = refl
  rule_terms_value base by s (t ∷ ts) a =
      let first = rule_term_value base by s t a.0 in
      let others = rule_terms_value base by s ts a.1 in λ i. first i ∷ others i

  module _ (all : List (Clause Term)) (events : List (Fact Term)) (phase : ℕ) where
    -- in the phase the attacker has the value
    abbrev pub IsKnown : Value → Type 0
    IsKnown v = Derived P all events (flat (Att phase (abstracted P names v)))

    pub all_known : (vs : List Value) → AllByRecursion IsKnown vs → Derived P all events (flat_map (λ t. flat (Att phase t)) (map (abstracted P names) vs))
    all_known [] a = nothing
    all_known (v ∷ vs) a =
        both_derived P all events (flat (Att phase (abstracted P names v))) (flat_map (λ t. flat (Att phase t)) (map (abstracted P names) vs)) a.0 (all_known vs a.1)

    -- a data symbol on values that he has
    data_known : (f : Sym) (ts : List Term) → clause_flat.is_data f ≡ true → Derived P all events (flat_map (λ t. flat (Att phase t)) ts) → Derived P all events (flat (Att phase (node f ts)))
    data_known f ts data_symbol known =
        let e : flat (Att phase (node f ts)) ≡ flat_map (λ t. flat (Att phase t)) ts = rw data_symbol (data_parts phase ts) in
        subst (Derived P all events) (sym e) known

    module _ (has : AttackerHas P all) (within : phase ≤ greatest_phase P.main) where
      length-abstracted : (vs : List Value) → length (map (abstracted P names) vs) ≡ length vs
      length-abstracted [] = refl
      length-abstracted (v ∷ vs) = let h = length-abstracted vs in omega (arith, h)

      declared_built : (f : ℕ) (vs : List Value) (o : Option Declared) → numbered P.constructors f ≡ o → option_map_or (λ declared. declared.public && nat_eq declared.arity (length vs)) o false ≡ true → AllByRecursion IsKnown vs → Derived P all events (flat (Att phase (node (symbol_over P (length vs) (Constructor f)) (map (abstracted P names) vs))))
      declared_built f vs None e can known = cc
      declared_built f vs (Some declared) e can known = go declared.is_data refl
        where
          both : (declared.public ≡ true) × (nat_eq declared.arity (length vs) ≡ true)
          both = and_true declared.public (nat_eq declared.arity (length vs)) can

          ts : List Term
          ts = map (abstracted P names) vs

          go : (b : Bool) → declared.is_data ≡ b → Derived P all events (flat (Att phase (node (symbol_over P (length vs) (Constructor f)) (map (abstracted P names) vs))))
          go true d =
              let symbol : symbol_over P (length vs) (Constructor f) ≡ Data f = rw e (rw d refl) in
              subst (λ g. Derived P all events (flat (Att phase (node g (map (abstracted P names) vs))))) (sym symbol)
              (data_known (Data f) (map (abstracted P names) vs) refl (all_known vs known))
          go false d =
              let symbol : symbol_over P (length vs) (Constructor f) ≡ Ctor f = rw e (rw d refl) in
              let public_and = and_true declared.public (nat_eq declared.arity (length vs)) can in
              let count : declared.arity ≡ length (map (abstracted P names) vs) = eqb-true declared.arity (length vs) public_and.1 ∙ sym (length-abstracted vs) in
              subst (λ g. Derived P all events (flat (Att phase (node g (map (abstracted P names) vs))))) (sym symbol)
              (constructor_derived P all events has phase within f declared (map (abstracted P names) vs) e public_and.0 d count (all_known vs known))

      -- what the attacker builds of values that he has, he has
      pub built_known : (f : ℕ) (vs : List Value) → can_build P f (length vs) ≡ true → AllByRecursion IsKnown vs → IsKnown (built f vs)
      built_known zero vs can known =
          subst (λ t. Derived P all events (flat (Att phase t))) (sym (converted-node P (atom_term names) calculus.Tuple vs))
          (data_known (Tuple (length vs)) (map (abstracted P names) vs) refl (all_known vs known))
      built_known (suc f) vs can known =
          subst (λ t. Derived P all events (flat (Att phase t))) (sym (converted-node P (atom_term names) (Constructor (suc f)) vs))
          (declared_built (suc f) vs (numbered P.constructors (suc f)) refl can known)

      -- the hypotheses of a rule
      rule_hypotheses : (s : Subst) (ts : List calculus.Term) → flat_under s (map (λ t. Att phase (rule_term P 0 t)) ts) ≡ flat_map (λ t. flat (Att phase t)) (map (bind s) (map (rule_term P 0) ts))
      rule_hypotheses s [] = refl
      rule_hypotheses s (t ∷ ts) = ap (λ fs. flat (Att phase (bind s (rule_term P 0 t))) ++ fs) (rule_hypotheses s ts)

      -- what he reduces values that he has to, he has
      pub reduced_known : (d r : ℕ) (rule : Rule) (vs : List Value) (v : Value) → IsProperRule rule → numbered (rules_of P d) r ≡ Some rule → rule_value rule vs ≡ Some v → AllByRecursion IsKnown vs → IsKnown v
      reduced_known d r rule vs v proper stands gives known =
          let (env, left, right) = rule_value-sound rule vs v gives in
          let s = rule_values 0 Leaf env in
          let variables = proper_variables rule proper in
          let lefts = left_variables rule.left (all_first IsRuleVariable (row_leaves (trees rule.left)) (leaves rule.right) variables) in
          let rights = all_second IsRuleVariable (row_leaves (trees rule.left)) (leaves rule.right) variables in
          let hypotheses : flat_under s (map (λ t. Att phase (rule_term P 0 t)) rule.left) ≡ flat_map (λ t. flat (Att phase t)) (map (abstracted P names) vs) =
          rule_hypotheses s rule.left ∙ ap (flat_map (λ t. flat (Att phase t))) (rule_terms_value 0 Leaf env rule.left lefts ∙ ap (map (abstracted P names)) left) in
          let conclusion : bind s (rule_term P 0 rule.right) ≡ abstracted P names v = rule_term_value 0 Leaf env rule.right rights ∙ ap (abstracted P names) (sym right) in
          subst (λ t. Derived P all events (flat (Att phase t))) conclusion
          (applied P all events (rule_applied P phase rule) s refl (rule_taken P all events has phase within d r rule stands) tt (subst (Derived P all events) (sym hypotheses) (all_known vs known)))

      -- a part of a row
      part_within : (vs : Trees Atom Symbol) (k : ℕ) (w : Value) → slice_get (items_of vs) k ≡ Some w → IsWithin (map (Att phase) (parts (abstracted P names w))) (map (Att phase) (row_parts (converted_row P (atom_term names) vs)))
      part_within none k w e = cc
      part_within (more v vs) zero w e =
          let same : v ≡ w = cc in
          let rest = map (Att phase) (row_parts (converted_row P (atom_term names) vs)) in
          let joined = map-append (Att phase) (parts (abstracted P names v)) (row_parts (converted_row P (atom_term names) vs)) in
          subst (λ u. IsWithin (map (Att phase) (parts (abstracted P names u))) (map (Att phase) (row_parts (converted_row P (atom_term names) (more v vs))))) same
          (subst (IsWithin (map (Att phase) (parts (abstracted P names v)))) (sym joined)
          (within-more_right (map (Att phase) (parts (abstracted P names v))) (map (Att phase) (parts (abstracted P names v))) rest (within_self (map (Att phase) (parts (abstracted P names v))))))
      part_within (more v vs) (suc k) w e =
          let rest = map (Att phase) (row_parts (converted_row P (atom_term names) vs)) in
          let joined = map-append (Att phase) (parts (abstracted P names v)) (row_parts (converted_row P (atom_term names) vs)) in
          subst (IsWithin (map (Att phase) (parts (abstracted P names w)))) (sym joined)
          (within-more_left (map (Att phase) (parts (abstracted P names w))) (map (Att phase) (parts (abstracted P names v))) rest (part_within vs k w e))

      numbered_part : (vs : Trees Atom Symbol) (n : ℕ) (w : Value) → numbered (items_of vs) n ≡ Some w → IsWithin (map (Att phase) (parts (abstracted P names w))) (map (Att phase) (row_parts (converted_row P (atom_term names) vs)))
      numbered_part vs zero w e = cc
      numbered_part vs (suc k) w e = part_within vs k w e

      -- whether a symbol is one of data, for clauses
      data_alike : (count : ℕ) (f : Symbol) → clause_flat.is_data (symbol_over P count f) ≡ is_data P f
      data_alike count calculus.Tuple = refl
      data_alike count (Constructor f) = go (is_data P (Constructor f)) where
        go : (b : Bool) → clause_flat.is_data (cond b (Data f) (Ctor f)) ≡ b
        go true = refl
        go false = refl

      -- a part of a data value that he has, he has
      pub part_known : (n : ℕ) (v w : Value) → part_of P n v ≡ Some w → IsKnown v → IsKnown w
      part_known n (Leaf x) w e known = cc
      part_known n (Node f vs) w e known = go (is_data P f) refl e where
        go : (b : Bool) → is_data P f ≡ b → cond b (numbered (items_of vs) n) None ≡ Some w → IsKnown w
        go false d h = cc
        go true d h =
            let row = converted_row P (atom_term names) vs in
            let data_symbol = data_alike (row_length vs) f ∙ d in
            let whole : flat (Att phase (abstracted P names (Node f vs))) ≡ map (Att phase) (row_parts row) = rw data_symbol refl in
            (less (IsTaken all) events (flat (Att phase (abstracted P names w))) (numbered_part vs n w h) (subst (Derived P all events) whole known)).derivation
