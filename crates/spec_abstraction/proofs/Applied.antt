-- The value of an expression by chosen rules, as a term: where its rules apply, the variables of the rules can be given terms, one rule
-- after another, under which the arguments are the left sides, and the expression's term is the value's.
use Rattle.std.proofs.Common.{◌≡◌, ◌∙◌, ℕ, ◌+◌, ◌-◌, ◌<◌, ◌≤◌, Some, List, [], ◌∷◌, ◌++◌, map, length, refl, ap, sym, subst, arith}
use Rattle.std.specs.Prelude.{option_map}
use Rattle.std.specs.List.{AllByRecursion}
use Rattle.std.proofs.lemmas.List.{map-append}
use Rattle.spec_trees.specs.Tree.{Trees, Leaf, Node, none, more, bind, binds, node, trees, items_of}
use Rattle.spec_trees.specs.Leaves.{leaves, row_leaves}
use Rattle.spec_trees.proofs.Rows.{items_of-trees}
use Rattle.spec_calculus.specs.Syntax.{Name, Made, Variable, Head, Builds, Calls, Rule, Ruled, Protocol}
use Rattle.spec_calculus.specs.Syntax as calculus
use Rattle.spec_calculus.specs.Values.{Value, Environment, value_of_bound, value_of}
use Rattle.spec_calculus.specs.Matching.{instance_of, rule_value}
use Rattle.spec_calculus.specs.Choices.{head_value, ruled_value, ruled_values}
use Rattle.spec_calculus.proofs.Rules.{rule_value-sound}
use Rattle.spec_calculus.proofs.Items.{of_some, of_then, of_map}
use Rattle.spec_calculus.proofs.Choices.{IsOver, IsRowOver}
use Rattle.spec_well_formed.specs.Rules.{rule_leaves, IsProperRule}
use Rattle.spec_terms.specs.Term.{Term, Subst}
use Rattle.spec_clauses.proofs.Lists.{all_first, all_second}
use Rattle.spec_translation.specs.Conversion.{row_length, symbol_over, rule_leaf, rule_term}
use Rattle.spec_translation.specs.Applied.{greatest, rule_width, width, row_width, ruled_term, ruled_row, ruled_arguments, row_arguments, ruled_sides, row_sides}
use Rattle.spec_translation.proofs.Conversions.{converted-bind, converted-same}
use Rattle.spec_translation.proofs.Fresh.{mixed_below}
use Rattle.spec_translation.proofs.Applied.{items_of-binds}
use Rattle.spec_abstraction.specs.Naming.{Naming, atom_term, abstracted}
use Rattle.spec_abstraction.proofs.Values.{converted-node}
use Rattle.spec_abstraction.proofs.Knowledge.{IsRuleVariable, proper_variables, left_variables, rule_values, rule_term_value, rule_terms_value}

-- substitutions that agree below a number
abbrev pub Agree : ℕ → Subst → Subst → Type 0
Agree n s t = (x : ℕ) → x < n → s x ≡ t x

-- variables of rules are numbered from 1 to the rule's width
abbrev IsNumberedTo : ℕ → Name → Type 0
IsNumberedTo n (calculus.Free m) = ⊥
IsNumberedTo n (Made p) = ⊥
IsNumberedTo n (Variable i) = (0 < i) × (i ≤ n)

numbered_to : (n : ℕ) (xs : List Name) → greatest xs ≤ n → AllByRecursion IsRuleVariable xs → AllByRecursion (IsNumberedTo n) xs
numbered_to n [] within a = tt
numbered_to n (calculus.Free m ∷ xs) within a = absurd a.0
numbered_to n (Made p ∷ xs) within a = absurd a.0
numbered_to n (Variable i ∷ xs) within a = ((a.0, omega (arith, within)), numbered_to n xs (omega (arith, within)) a.1)

-- each term of a list of sides
each_numbered : (n : ℕ) (ts : List calculus.Term) → AllByRecursion (IsNumberedTo n) (row_leaves (trees ts)) → AllByRecursion (λ t. AllByRecursion (IsNumberedTo n) (leaves t)) ts
each_numbered n [] a = tt
each_numbered n (t ∷ ts) a = (
  all_first (IsNumberedTo n) (leaves t) (row_leaves (trees ts)) a,
  each_numbered n ts (all_second (IsNumberedTo n) (leaves t) (row_leaves (trees ts)) a),
)

-- a rule's term reads a substitution at the variables of its width alone
module _ (P : Protocol) (s t : Subst) (base n : ℕ) (agree : Agree (base + n) s t) where
  leaf_agrees : (x : Name) → IsNumberedTo n x → bind s (rule_leaf base x) ≡ bind t (rule_leaf base x)
  leaf_agrees (calculus.Free m) h = absurd h
  leaf_agrees (Made p) h = absurd h
  leaf_agrees (Variable i) h = let some = h.0 in let within = h.1 in agree (base + (i - 1)) (omega (arith, some, within))

  leaves_agree : (xs : List Name) → AllByRecursion (IsNumberedTo n) xs → AllByRecursion (λ x. bind s (rule_leaf base x) ≡ bind t (rule_leaf base x)) xs
  leaves_agree [] a = tt
  leaves_agree (x ∷ xs) a = (leaf_agrees x a.0, leaves_agree xs a.1)

  rule_term_agrees : (u : calculus.Term) → AllByRecursion (IsNumberedTo n) (leaves u) → bind s (rule_term P base u) ≡ bind t (rule_term P base u)
  rule_term_agrees u a =
      converted-bind P s (rule_leaf base) u
      ∙ (converted-same P (λ x. bind s (rule_leaf base x)) (λ x. bind t (rule_leaf base x)) u (leaves_agree (leaves u) a)
      ∙ sym (converted-bind P t (rule_leaf base) u))

  rule_terms_agree : (us : List calculus.Term) → AllByRecursion (λ u. AllByRecursion (IsNumberedTo n) (leaves u)) us → map (bind s) (map (rule_term P base) us) ≡ map (bind t) (map (rule_term P base) us)
  rule_terms_agree [] a = refl
  rule_terms_agree (u ∷ us) a =
      let first = rule_term_agrees u a.0 in
      let others = rule_terms_agree us a.1 in λ i. first i ∷ others i

-- a row has as many values as it has parts
pub values_counted : (environment : Environment) (parts : Trees calculus.Term (Head Rule)) (vs : List Value) → ruled_values environment parts ≡ Some vs → row_length parts ≡ length vs
values_counted environment none vs e = ap length (of_some [] vs e)
values_counted environment (more part parts) vs e =
    let (v, first, then_is) = of_then (λ v. option_map (λ ws. v ∷ ws) (ruled_values environment parts)) (ruled_value environment part) vs e in
    let (ws, others, is) = of_map (λ ws. v ∷ ws) (ruled_values environment parts) vs then_is in
    let h = values_counted environment parts ws others in
    let one : 1 + row_length parts ≡ length (v ∷ ws) = omega (arith, h) in
    one ∙ ap length is

-- any term, where only the rules of an expression are looked at
abbrev pub AnyTerm : calculus.Term → Type 0
AnyTerm t = Unit {0}

-- f reads terms of the process, whose variables are below the first number: under what agrees with `by` there it gives their values
module _ (P : Protocol) (names : Naming) (environment : Environment) (f : calculus.Term → Term) (first : ℕ) (by : Subst) (reads : (t : Subst) → Agree first t by → (u : calculus.Term) → bind t (f u) ≡ abstracted P names (value_of environment u)) where
  abbrev arguments_of : ℕ → Ruled → List Term
  arguments_of base ruled = ruled_arguments P f (rule_term P) base ruled

  abbrev sides_of : ℕ → Ruled → List Term
  sides_of base ruled = ruled_sides P f (rule_term P) base ruled

  -- A substitution that gives terms to the variables of the rules from the base on. What is said of it is so under each that agrees
  -- with it below the end of these variables.
  pub record Reached (base : ℕ) (s : Subst) (ruled : Ruled) (value : Value) : Type 0 where
    pub to : Subst
    pub kept : Agree base to s
    pub unified : (t : Subst) → Agree (base + width ruled) t to → map (bind t) (ruled_arguments P f (rule_term P) base ruled) ≡ map (bind t) (ruled_sides P f (rule_term P) base ruled)
    pub gives : (t : Subst) → Agree (base + width ruled) t to → bind t (ruled_term P f (rule_term P) base ruled) ≡ abstracted P names value

  record ReachedRow (base : ℕ) (s : Subst) (parts : Trees calculus.Term (Head Rule)) (vs : List Value) : Type 0 where
    pub to : Subst
    pub kept : Agree base to s
    pub unified : (t : Subst) → Agree (base + row_width parts) t to → map (bind t) (row_arguments P f (rule_term P) base parts) ≡ map (bind t) (row_sides P f (rule_term P) base parts)
    pub gives : (t : Subst) → Agree (base + row_width parts) t to → binds t (ruled_row P f (rule_term P) base parts) ≡ trees (map (abstracted P names) vs)

  -- the rule of a destructor, whose variables come after those of its arguments
  called : (base : ℕ) (s : Subst) (rule : Rule) (parts : Trees calculus.Term (Head Rule)) (vs : List Value) (value : Value) → IsProperRule rule → ReachedRow base s parts vs → rule_value rule vs ≡ Some value → Reached base s (Node (Calls rule) parts) value
  called base s rule parts vs value proper row e =
      let (env, left, right) = rule_value-sound rule vs value e in
      let b = base + row_width parts in
      let w = rule_width rule in
      let next : Subst = rule_values P names b row.to env in
      let inside : Agree b next row.to = mixed_below b row.to (λ d. abstracted P names (value_of_bound env (Variable (d + 1)))) in
      let variables = proper_variables rule proper in
      let lefts = left_variables rule.left (all_first IsRuleVariable (row_leaves (trees rule.left)) (leaves rule.right) variables) in
      let rights = all_second IsRuleVariable (row_leaves (trees rule.left)) (leaves rule.right) variables in
      let numbers = numbered_to w (rule_leaves rule) (omega arith) variables in
      let left_numbers = each_numbered w rule.left (all_first (IsNumberedTo w) (row_leaves (trees rule.left)) (leaves rule.right) numbers) in
      let right_numbers = all_second (IsNumberedTo w) (row_leaves (trees rule.left)) (leaves rule.right) numbers in
      let of_row = λ (t : Subst) (a : Agree (base + (row_width parts + w)) t next). (let own : Agree b t row.to = λ x l. a x (omega (arith, l)) ∙ inside x l in own) in
      let of_rule = λ (t : Subst) (a : Agree (base + (row_width parts + w)) t next). (let own : Agree (b + w) t next = λ x l. a x (omega (arith, l)) in own) in
      record {
        to = next;
        kept = λ x l. inside x (omega (arith, l)) ∙ row.kept x l;
        unified = λ t a. unified_with t (of_row t a) env (of_rule t a) left lefts left_numbers;
        gives = λ t a.
            rule_term_agrees P t next b w (of_rule t a) rule.right right_numbers
            ∙ (rule_term_value P names b row.to env rule.right rights ∙ ap (abstracted P names) (sym right));
      }
    where
      unified_with : (t : Subst) → Agree (base + row_width parts) t row.to → (env : Environment) → Agree (base + row_width parts + rule_width rule) t (rule_values P names (base + row_width parts) row.to env) → map (instance_of env) rule.left ≡ vs → AllByRecursion (λ u. AllByRecursion IsRuleVariable (leaves u)) rule.left → AllByRecursion (λ u. AllByRecursion (IsNumberedTo (rule_width rule)) (leaves u)) rule.left → map (bind t) (arguments_of base (Node (Calls rule) parts)) ≡ map (bind t) (sides_of base (Node (Calls rule) parts))
      unified_with t in_row env in_rule left lefts numbers =
          let b = base + row_width parts in
          let w = rule_width rule in
          let next = rule_values P names b row.to env in
          let inner = row.unified t in_row in
          let given : map (bind t) (items_of (ruled_row P f (rule_term P) base parts)) ≡ map (abstracted P names) vs =
          items_of-binds t (ruled_row P f (rule_term P) base parts) ∙ (ap items_of (row.gives t in_row) ∙ items_of-trees (map (abstracted P names) vs)) in
          let wanted : map (bind t) (map (rule_term P b) rule.left) ≡ map (abstracted P names) vs =
          rule_terms_agree P t next b w in_rule rule.left numbers ∙ (rule_terms_value P names b row.to env rule.left lefts ∙ ap (map (abstracted P names)) left) in
          let own = given ∙ sym wanted in
          map-append (bind t) (row_arguments P f (rule_term P) base parts) (items_of (ruled_row P f (rule_term P) base parts))
          ∙ ((λ i. inner i ++ own i) ∙ sym (map-append (bind t) (row_sides P f (rule_term P) base parts) (map (rule_term P b) rule.left)))

  -- a constructor or a tuple
  built : (base : ℕ) (s : Subst) (h : calculus.Symbol) (parts : Trees calculus.Term (Head Rule)) (vs : List Value) (value : Value) → ruled_values environment parts ≡ Some vs → ReachedRow base s parts vs → node h vs ≡ value → Reached base s (Node (Builds h) parts) value
  built base s h parts vs value found row e =
      let count = values_counted environment parts vs found in
      record {
        to = row.to;
        kept = row.kept;
        unified = row.unified;
        gives = λ t a. (let own = row.gives t a in
            (λ i. Node (symbol_over P (count i) h) (own i)) ∙ (sym (converted-node P (atom_term names) h vs) ∙ ap (abstracted P names) e));
      }

  -- a part and the parts after it
  joined : (base : ℕ) (s : Subst) (part : Ruled) (parts : Trees calculus.Term (Head Rule)) (v : Value) (vs : List Value) (a : Reached base s part v) → ReachedRow (base + width part) a.to parts vs → ReachedRow base s (more part parts) (v ∷ vs)
  joined base s part parts v vs a b =
      let n = base + width part in
      let front = λ (t : Subst) (h : Agree (base + (width part + row_width parts)) t b.to). (let own : Agree n t a.to = λ x l. h x (omega (arith, l)) ∙ b.kept x l in own) in
      let back = λ (t : Subst) (h : Agree (base + (width part + row_width parts)) t b.to). (let own : Agree (n + row_width parts) t b.to = λ x l. h x (omega (arith, l)) in own) in
      record {
        to = b.to;
        kept = λ x l. b.kept x (omega (arith, l)) ∙ a.kept x l;
        unified = λ t h. (let one = a.unified t (front t h) in
            let others = b.unified t (back t h) in
            map-append (bind t) (ruled_arguments P f (rule_term P) base part) (row_arguments P f (rule_term P) n parts)
            ∙ ((λ i. one i ++ others i) ∙ sym (map-append (bind t) (ruled_sides P f (rule_term P) base part) (row_sides P f (rule_term P) n parts))));
        gives = λ t h. (let one = a.gives t (front t h) in let others = b.gives t (back t h) in λ i. more (one i) (others i));
      }

  mutual
    pub reach : (base : ℕ) (s : Subst) → first ≤ base → Agree first s by → (ruled : Ruled) (value : Value) → IsOver AnyTerm IsProperRule ruled → ruled_value environment ruled ≡ Some value → Reached base s ruled value
    reach base s after agree (Leaf u) value over e = record {
      to = s;
      kept = λ x l. refl;
      unified = λ t a. refl;
      gives = λ t a. reads t (λ x l. a x (omega (arith, after, l)) ∙ agree x l) u ∙ ap (abstracted P names) (of_some (value_of environment u) value e);
    }
    reach base s after agree (Node (Builds h) parts) value over e =
        let (vs, found, is) = of_then (head_value (Builds h)) (ruled_values environment parts) value e in
        built base s h parts vs value found (reach_row base s after agree parts vs over found) (of_some (node h vs) value is)
    reach base s after agree (Node (Calls rule) parts) value over e =
        let (vs, found, is) = of_then (head_value (Calls rule)) (ruled_values environment parts) value e in
        called base s rule parts vs value over.0 (reach_row base s after agree parts vs over.1 found) is

    reach_row : (base : ℕ) (s : Subst) → first ≤ base → Agree first s by → (parts : Trees calculus.Term (Head Rule)) (vs : List Value) → IsRowOver AnyTerm IsProperRule parts → ruled_values environment parts ≡ Some vs → ReachedRow base s parts vs
    reach_row base s after agree none vs over e = record {
      to = s;
      kept = λ x l. refl;
      unified = λ t a. refl;
      gives = λ t a. ap (λ us. trees (map (abstracted P names) us)) (of_some [] vs e);
    }
    reach_row base s after agree (more part parts) vs over e =
        let (v, one_is, then_is) = of_then (λ v. option_map (λ ws. v ∷ ws) (ruled_values environment parts)) (ruled_value environment part) vs e in
        let (ws, others_are, is) = of_map (λ ws. v ∷ ws) (ruled_values environment parts) vs then_is in
        let a = reach base s after agree part v over.0 one_is in
        let still : Agree first a.to by = λ x l. a.kept x (omega (arith, after, l)) ∙ agree x l in
        let b = reach_row (base + width part) a.to (omega (arith, after)) still parts ws over.1 others_are in
        subst (ReachedRow base s (more part parts)) is (joined base s part parts v ws a b)
