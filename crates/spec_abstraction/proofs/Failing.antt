-- The else branch of a `let`: where no value matches in the run, no terms make the sides of the branch's constraints equal, since the
-- abstraction is one to one.
use Rattle.std.proofs.Common.{◌≡◌, ◌∙◌, ℕ, suc, ◌+◌, Bool, true, false, cond, nat_eq, Option, Some, None, List, [], ◌∷◌, ◌++◌, map, length, refl, ap, sym, length-append, eqb-true, arith}
use Rattle.std.specs.Prelude.{option_and_then, option_map, filter, filter_map, is_some}
use Rattle.std.specs.List.{AllByRecursion, list_any, cons_option}
use Rattle.std.proofs.lemmas.List.{map-append}
use Rattle.spec_trees.specs.Tree.{Trees, Leaf, Node, none, more, bind, node, trees, items_of, some_leaf, some_leaves}
use Rattle.spec_trees.specs.Leaves.{leaves}
use Rattle.spec_trees.proofs.Rows.{items_of-trees}
use Rattle.spec_trees.proofs.Substitution.{bind-bind, bind-Leaf}
use Rattle.spec_trees.proofs.Equality.{and_true}
use Rattle.spec_trees.proofs.Occurrence.{or_false, some_leaf-never}
use Rattle.spec_calculus.specs.Syntax.{Name, Symbol, Hole, Bind, Equal, Pattern, Expression, Head, Builds, Calls, Rule, Ruled, Protocol}
use Rattle.spec_calculus.specs.Syntax as calculus
use Rattle.spec_calculus.specs.Values.{Atom, Value, Environment, same_symbol, same_value, value_of}
use Rattle.spec_calculus.specs.Matching.{matched, matched_row, rules_of}
use Rattle.spec_calculus.specs.Choices.{Choice, choices, head_value, ruled_value, ruled_values, values_at}
use Rattle.spec_calculus.specs.Standing.{Lacks, EnvironmentLacks}
use Rattle.spec_calculus.proofs.Equality.{same_symbol-refl, same_value-refl}
use Rattle.spec_calculus.proofs.Items.{each-holds}
use Rattle.spec_calculus.proofs.Lacking.{row_lacks, value_lacks}
use Rattle.spec_calculus.proofs.Choices.{IsOver, IsRowOver, choices_over}
use Rattle.spec_well_formed.specs.Rules.{IsProperRule}
use Rattle.spec_terms.specs.Term.{Term, Subst}
use Rattle.spec_clauses.specs.Diff.{Own, slot_value, IsMetBy}
use Rattle.spec_clauses.specs.Kept.{AreMetBy}
use Rattle.spec_clauses.proofs.DiffNumbering.{met-numbered}
use Rattle.spec_translation.specs.Conversion.{Scope, row_length, symbol_over, converted, converted_row, term_in}
use Rattle.spec_translation.specs.Applied.{width, row_width, fits, row_fits, ruled_term, ruled_row, ruled_arguments, row_arguments, ruled_sides, row_sides}
use Rattle.spec_translation.specs.Otherwise.{own_side, rule_slot, rule_side, hole_side, pattern_side, choice_sides, choice_diff, choice_diffs}
use Rattle.spec_translation.proofs.Conversions.{converted-bind, converted_row-trees}
use Rattle.spec_translation.proofs.Applied.{ruled_term_moved, ruled_arguments_moved, ruled_sides_moved}
use Rattle.spec_abstraction.specs.Trace.{MadeAt}
use Rattle.spec_abstraction.specs.Naming.{atom_term, abstracted, abstracted_binding, naming}
use Rattle.spec_abstraction.specs.OneToOne.{is_foreign, IsOneToOne}
use Rattle.spec_abstraction.proofs.Values.{converted-node, abstracted-value}
use Rattle.spec_abstraction.proofs.OneToOne.{no_atom, symbols_same}
use Rattle.spec_abstraction.proofs.Applied.{AnyTerm, values_counted}
use Rattle.spec_abstraction.proofs.Backwards.{rule_applies}

-- lists in two parts are told apart part by part, where the first parts are as long
split : {X : Type 0} (xs ys us vs : List X) → length xs ≡ length us → xs ++ ys ≡ us ++ vs → (xs ≡ us) × (ys ≡ vs)
split [] ys [] vs n e = (refl, e)
split [] ys (u ∷ us) vs n e = cc
split (x ∷ xs) ys [] vs n e = cc
split (x ∷ xs) ys (u ∷ us) vs n e =
    let head : x ≡ u = cc in
    let tail : xs ++ ys ≡ us ++ vs = cc in
    let count : length xs ≡ length us = cc in
    let (first, others) = split xs ys us vs count tail in
    ((λ i. head i ∷ first i), others)

lengths : {X Y : Type 0} (f : X → Y) (xs : List X) → length (map f xs) ≡ length xs
lengths f [] = refl
lengths f (x ∷ xs) = ap suc (lengths f xs)

module _ (P : Protocol) (term_of : calculus.Term → Term) (rule_term_of : ℕ → calculus.Term → Term) where
  row_items : (base : ℕ) (parts : Trees calculus.Term (Head Rule)) → length (items_of (ruled_row P term_of rule_term_of base parts)) ≡ row_length parts
  row_items base none = refl
  row_items base (more part parts) = let others = row_items (base + width part) parts in omega (arith, others)

  -- there are as many arguments as left sides, where the rules fit
  mutual
    pub arguments_counted : (base : ℕ) (ruled : Ruled) → fits ruled ≡ true → length (ruled_arguments P term_of rule_term_of base ruled) ≡ length (ruled_sides P term_of rule_term_of base ruled)
    arguments_counted base (Leaf t) fit = refl
    arguments_counted base (Node (Builds h) parts) fit = row_counted base parts fit
    arguments_counted base (Node (Calls rule) parts) fit =
        let both = and_true (row_fits parts) (nat_eq (length rule.left) (row_length parts)) fit in
        let inner = row_counted base parts both.0 in
        let b = base + row_width parts in
        let own : length (items_of (ruled_row P term_of rule_term_of base parts)) ≡ length (map (rule_term_of b) rule.left) =
        row_items base parts ∙ (sym (eqb-true (length rule.left) (row_length parts) both.1) ∙ sym (lengths (rule_term_of b) rule.left)) in
        length-append (row_arguments P term_of rule_term_of base parts) (items_of (ruled_row P term_of rule_term_of base parts))
        ∙ ((λ i. inner i + own i) ∙ sym (length-append (row_sides P term_of rule_term_of base parts) (map (rule_term_of b) rule.left)))

    row_counted : (base : ℕ) (parts : Trees calculus.Term (Head Rule)) → row_fits parts ≡ true → length (row_arguments P term_of rule_term_of base parts) ≡ length (row_sides P term_of rule_term_of base parts)
    row_counted base none fit = refl
    row_counted base (more part parts) fit =
        let both = and_true (fits part) (row_fits parts) fit in
        let first = arguments_counted base part both.0 in
        let others = row_counted (base + width part) parts both.1 in
        length-append (ruled_arguments P term_of rule_term_of base part) (row_arguments P term_of rule_term_of (base + width part) parts)
        ∙ ((λ i. first i + others i) ∙ sym (length-append (ruled_sides P term_of rule_term_of base part) (row_sides P term_of rule_term_of (base + width part) parts)))

module _ (P : Protocol) (made : List MadeAt) (one : IsOneToOne P (naming P made) made) (environment : Environment) (lacks : EnvironmentLacks (is_foreign made) environment) where
  -- terms of the process have the terms of their values
  abbrev value_term : calculus.Term → Term
  value_term t = abstracted P (naming P made) (value_of environment t)

  value_there : (t : calculus.Term) → Lacks (is_foreign made) (value_of environment t)
  value_there t = value_lacks (is_foreign made) (λ x. false) (λ n h. refl) refl environment lacks t (some_leaf-never (λ x. false) (λ x. refl) t)

  -- and rules what their leaves have
  module _ (leaf : ℕ → Name → Term) where
    abbrev leaf_term : ℕ → calculus.Term → Term
    leaf_term base t = converted P (leaf base) t

    -- Where the arguments of all rules are their left sides, the rules apply in the run, and the value is that of the right sides.
    record Valued (base : ℕ) (ruled : Ruled) : Type 0 where
      value : Value
      is : ruled_value environment ruled ≡ Some value
      term : ruled_term P value_term leaf_term base ruled ≡ abstracted P (naming P made) value
      there : Lacks (is_foreign made) value

    record ValuedRow (base : ℕ) (parts : Trees calculus.Term (Head Rule)) : Type 0 where
      values : List Value
      is : ruled_values environment parts ≡ Some values
      row : ruled_row P value_term leaf_term base parts ≡ trees (map (abstracted P (naming P made)) values)
      there : AllByRecursion (Lacks (is_foreign made)) values

    built : (base : ℕ) (h : Symbol) (parts : Trees calculus.Term (Head Rule)) → ValuedRow base parts → Valued base (Node (Builds h) parts)
    built base h parts r =
        let count = values_counted environment parts r.values r.is in
        let row = r.row in record {
          value = node h r.values;
          is = ap (option_and_then (head_value (Builds h))) r.is;
          term = (λ i. Node (symbol_over P (count i) h) (row i)) ∙ sym (converted-node P (atom_term (naming P made)) h r.values);
          there = row_lacks (is_foreign made) r.values r.there;
        }

    called : (base : ℕ) (rule : Rule) (parts : Trees calculus.Term (Head Rule)) → IsProperRule rule → ValuedRow base parts → items_of (ruled_row P value_term leaf_term base parts) ≡ map (leaf_term (base + row_width parts)) rule.left → Valued base (Node (Calls rule) parts)
    called base rule parts proper r own =
        let b = base + row_width parts in
        let names = naming P made in
        let terms : map (leaf_term b) rule.left ≡ map (abstracted P names) r.values = sym own ∙ (ap items_of r.row ∙ items_of-trees (map (abstracted P names) r.values)) in
        let rows : converted_row P (leaf b) (trees rule.left) ≡ converted_row P (atom_term names) (trees r.values) =
        converted_row-trees P (leaf b) rule.left ∙ (ap trees terms ∙ sym (converted_row-trees P (atom_term names) r.values)) in
        let applies = rule_applies P made one (leaf b) rule r.values proper rows r.there in
        record {
          value = applies.value;
          is = ap (option_and_then (head_value (Calls rule))) r.is ∙ applies.is;
          term = sym applies.term;
          there = applies.lacks;
        }

    joined : (base : ℕ) (part : Ruled) (parts : Trees calculus.Term (Head Rule)) → Valued base part → ValuedRow (base + width part) parts → ValuedRow base (more part parts)
    joined base part parts a r =
        let first = a.term in
        let others = r.row in record {
          values = a.value ∷ r.values;
          is = ap (option_and_then (λ v. option_map (λ vs. v ∷ vs) (ruled_values environment parts))) a.is ∙ ap (option_map (λ vs. a.value ∷ vs)) r.is;
          row = λ i. more (first i) (others i);
          there = (a.there, r.there);
        }

    mutual
      valued : (base : ℕ) (ruled : Ruled) → fits ruled ≡ true → IsOver AnyTerm IsProperRule ruled → ruled_arguments P value_term leaf_term base ruled ≡ ruled_sides P value_term leaf_term base ruled → Valued base ruled
      valued base (Leaf t) fit over e = record { value = value_of environment t; is = refl; term = refl; there = value_there t }
      valued base (Node (Builds h) parts) fit over e = built base h parts (valued_row base parts fit over e)
      valued base (Node (Calls rule) parts) fit over e =
          let both = and_true (row_fits parts) (nat_eq (length rule.left) (row_length parts)) fit in
          let b = base + row_width parts in
          let (inner, own) = split (row_arguments P value_term leaf_term base parts) (items_of (ruled_row P value_term leaf_term base parts)) (row_sides P value_term leaf_term base parts) (map (leaf_term b) rule.left)
          (row_counted P value_term leaf_term base parts both.0) e in
          called base rule parts over.0 (valued_row base parts both.0 over.1 inner) own

      valued_row : (base : ℕ) (parts : Trees calculus.Term (Head Rule)) → row_fits parts ≡ true → IsRowOver AnyTerm IsProperRule parts → row_arguments P value_term leaf_term base parts ≡ row_sides P value_term leaf_term base parts → ValuedRow base parts
      valued_row base none fit over e = record { values = []; is = refl; row = refl; there = tt }
      valued_row base (more part parts) fit over e =
          let both = and_true (fits part) (row_fits parts) fit in
          let n = base + width part in
          let (first, others) = split (ruled_arguments P value_term leaf_term base part) (row_arguments P value_term leaf_term n parts) (ruled_sides P value_term leaf_term base part) (row_sides P value_term leaf_term n parts)
          (arguments_counted P value_term leaf_term base part both.0) e in
          joined base part parts (valued base part both.0 over.0 first) (valued_row n parts both.1 over.1 others)

  -- a pattern with the term of a value matches the value, whatever its variables stand for
  module _ (hole : Hole → Term) (equal : (t : calculus.Term) → hole (Equal t) ≡ value_term t) where
    both_found : (o p : Option Environment) → is_some o ≡ true → is_some p ≡ true → is_some (option_and_then (λ first. option_map (λ others. first ++ others) p) o) ≡ true
    both_found None p a b = cc
    both_found (Some first) None a b = cc
    both_found (Some first) (Some others) a b = refl

    mutual
      matches_back : (pattern : Pattern) (v : Value) → Lacks (is_foreign made) v → converted P hole pattern ≡ abstracted P (naming P made) v → is_some (matched environment pattern v) ≡ true
      matches_back (Leaf (Bind i)) v there e = refl
      matches_back (Leaf (Equal t)) v there e =
          let same : value_of environment t ≡ v = one (value_of environment t) v (value_there t) there (sym (equal t) ∙ e) in
          let test : same_value (value_of environment t) v ≡ true = ap (same_value (value_of environment t)) (sym same) ∙ same_value-refl (value_of environment t) in
          rw test refl
      matches_back (Node f ps) (Leaf x) there e = absurd (no_atom P made f (row_length ps) (converted_row P hole ps) x e)
      matches_back (Node f ps) (Node g vs) there e =
          let symbols : symbol_over P (row_length ps) f ≡ symbol_over P (row_length vs) g = cc in
          let rows : converted_row P hole ps ≡ converted_row P (atom_term (naming P made)) vs = cc in
          let same = symbols_same P (row_length ps) (row_length vs) f g symbols in
          let test : same_symbol f g ≡ true = ap (same_symbol f) (sym same) ∙ same_symbol-refl f in
          rw test (row_matches_back ps vs there rows)

      row_matches_back : (ps : Trees Hole Symbol) (vs : Trees Atom Symbol) → some_leaves (is_foreign made) vs ≡ false → converted_row P hole ps ≡ converted_row P (atom_term (naming P made)) vs → is_some (matched_row environment ps vs) ≡ true
      row_matches_back none none there e = refl
      row_matches_back none (more v vs) there e = cc
      row_matches_back (more p ps) none there e = cc
      row_matches_back (more p ps) (more v vs) there e =
          let parts = or_false (some_leaf (is_foreign made) v) (some_leaves (is_foreign made) vs) there in
          let head : converted P hole p ≡ abstracted P (naming P made) v = cc in
          let tail : converted_row P hole ps ≡ converted_row P (atom_term (naming P made)) vs = cc in
          both_found (matched environment p v) (matched_row environment ps vs) (matches_back p v parts.0 head) (row_matches_back ps vs parts.1 tail)

  abbrev its_scope : Scope
  its_scope = map (abstracted_binding P (naming P made)) environment

  own_there : (b : Subst) (t : calculus.Term) → bind (slot_value Leaf b) (own_side P its_scope t) ≡ value_term t
  own_there b t =
      let u = term_in P its_scope t in
      bind-bind (slot_value Leaf b) (λ x. Leaf (Own x)) u ∙ (bind-Leaf u ∙ sym (abstracted-value P (naming P made) environment t))

  -- So a choice's constraint is met where the choice gives no value that matches.
  choice_met : (pattern : Pattern) (ruled : Ruled) → fits ruled ≡ true → IsOver AnyTerm IsProperRule ruled → ((v : Value) → ruled_value environment ruled ≡ Some v → is_some (matched environment pattern v) ≡ true → ⊥) → IsMetBy Leaf (choice_diff P its_scope pattern ruled)
  choice_met pattern ruled fit over never = (met-numbered Leaf (choice_sides P its_scope pattern ruled)).1 met where
    met : IsMetBy Leaf (choice_sides P its_scope pattern ruled)
    met b equal =
        let e = slot_value Leaf b in
        let f = own_side P its_scope in
        let leaf = λ (base : ℕ) (x : Name). bind (slot_value Leaf b) (rule_slot base x) in
        let hole = λ (h : Hole). bind (slot_value Leaf b) (hole_side P its_scope (width ruled) h) in
        let g_rule = λ (base : ℕ) (t : calculus.Term). converted P (λ x. bind (slot_value Leaf b) (rule_slot base x)) t in
        let moves = λ (d : ℕ) (t : calculus.Term). converted-bind P (slot_value Leaf b) (rule_slot (0 + d)) t in
        let arguments = ruled_arguments P f (rule_side P) 0 ruled in
        let lefts = ruled_sides P f (rule_side P) 0 ruled in
        let value = ruled_term P f (rule_side P) 0 ruled in
        let target = pattern_side P its_scope (width ruled) pattern in
        let arguments_moved = ruled_arguments_moved P f value_term (rule_side P) g_rule e (own_there b) 0 0 moves ruled in
        let lefts_moved = ruled_sides_moved P f value_term (rule_side P) g_rule e (own_there b) 0 0 moves ruled in
        let value_moved = ruled_term_moved P f value_term (rule_side P) g_rule e (own_there b) 0 0 moves ruled in
        let target_moved = converted-bind P (slot_value Leaf b) (hole_side P its_scope (width ruled)) pattern in
        let left = map-append (bind e) arguments (value ∷ []) ∙ (λ i. arguments_moved i ++ value_moved i ∷ []) in
        let right = map-append (bind e) lefts (target ∷ []) ∙ (λ i. lefts_moved i ++ target_moved i ∷ []) in
        let whole = sym left ∙ (equal ∙ right) in
        let (rows, last) = split (ruled_arguments P value_term g_rule 0 ruled) (ruled_term P value_term g_rule 0 ruled ∷ []) (ruled_sides P value_term g_rule 0 ruled) (converted P hole pattern ∷ [])
        (arguments_counted P value_term g_rule 0 ruled fit) whole in
        let v = valued leaf 0 ruled fit over rows in
        let values : ruled_term P value_term g_rule 0 ruled ≡ converted P hole pattern = cc in
        never v.value v.is (matches_back hole (own_there b) pattern v.value v.there (sym values ∙ v.term))

  each_choice_met : (pattern : Pattern) (cs : List Choice) → AllByRecursion (λ c. IsOver AnyTerm IsProperRule c.ruled) cs → list_any (λ v. is_some (matched environment pattern v)) (filter_map (λ c. ruled_value environment c.ruled) cs) ≡ false → AreMetBy Leaf (map (choice_diff P its_scope pattern) (filter fits (map (λ c. c.ruled) cs)))
  each_choice_met pattern [] over none_matches = tt
  each_choice_met pattern (c ∷ cs) over none_matches =
      let (own, later) = apart (ruled_value environment c.ruled) none_matches in
      go (fits c.ruled) refl own (each_choice_met pattern cs over.1 later)
    where
      apart : (o : Option Value) → list_any (λ v. is_some (matched environment pattern v)) (cons_option o (filter_map (λ c. ruled_value environment c.ruled) cs)) ≡ false
          → ((v : Value) → o ≡ Some v → is_some (matched environment pattern v) ≡ true → ⊥) × (list_any (λ v. is_some (matched environment pattern v)) (filter_map (λ c. ruled_value environment c.ruled) cs) ≡ false)
      apart None h = (λ v e k. cc, h)
      apart (Some w) h =
          let parts = or_false (is_some (matched environment pattern w)) (list_any (λ v. is_some (matched environment pattern v)) (filter_map (λ c. ruled_value environment c.ruled) cs)) h in
          ((λ v e k. let same : w ≡ v = cc in let there : is_some (matched environment pattern w) ≡ true = ap (λ u. is_some (matched environment pattern u)) same ∙ k in let not_there = parts.0 in cc), parts.1)

      go : (b : Bool) → fits c.ruled ≡ b → ((v : Value) → ruled_value environment c.ruled ≡ Some v → is_some (matched environment pattern v) ≡ true → ⊥) → AreMetBy Leaf (map (choice_diff P its_scope pattern) (filter fits (map (λ c. c.ruled) cs)))
          → AreMetBy Leaf (map (choice_diff P its_scope pattern) (cond b (c.ruled ∷ filter fits (map (λ c. c.ruled) cs)) (filter fits (map (λ c. c.ruled) cs))))
      go true fit never others = (choice_met pattern c.ruled fit over.0 never, others)
      go false fit never others = others

  -- and where none of a `let`'s values matches, all of them are
  pub choices_met : ((d : ℕ) → AllByRecursion IsProperRule (rules_of P d)) → (pattern : Pattern) (expression : Expression) → list_any (λ v. is_some (matched environment pattern v)) (values_at P environment expression) ≡ false → AreMetBy Leaf (choice_diffs P (map (abstracted_binding P (naming P made)) environment) pattern expression)
  choices_met proper pattern expression none_matches =
      each_choice_met pattern (choices P expression) (choices_over AnyTerm IsProperRule P proper expression (each-holds AnyTerm (λ t. tt) (leaves expression))) none_matches
