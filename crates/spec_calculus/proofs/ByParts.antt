-- The values of an expression come of the values of its parts.
use Rattle.std.proofs.Common.{◌≡◌, ◌∙◌, ℕ, ◌+◌, List, [], ◌∷◌, ◌++◌, map, filter_map, Option, None, Some, option_map, option_and_then, refl, ap}
use Rattle.std.specs.List.{flat_map, cons_option, enumerate_from}
use Rattle.std.proofs.lemmas.List.Elements.{filter_map-append}
use Rattle.spec_trees.specs.Tree.{Trees, Node, more, node}
use Rattle.spec_calculus.specs.Syntax.{Term, Symbol, Head, Builds, Calls, Expression, Rule, Protocol}
use Rattle.spec_calculus.specs.Values.{Value, Environment}
use Rattle.spec_calculus.specs.Matching.{rule_value, rules_of}
use Rattle.spec_calculus.specs.Choices.{Choice, Choices, built_choice, called_choice, joined_choice, choices, row_choices, head_value, ruled_value, ruled_values, values_at, row_values_at}

module _ (environment : Environment) where
  abbrev valued : Choice → Option Value
  valued c = ruled_value environment c.ruled

  abbrev row_valued : Choices → Option (List Value)
  row_valued row = ruled_values environment row.ruled

  built_values : (f : Symbol) (rows : List Choices) → filter_map valued (map (built_choice f) rows) ≡ map (node f) (filter_map row_valued rows)
  built_values f [] = refl
  built_values f (row ∷ rows) = go (row_valued row) (built_values f rows)
    where
      go : (o : Option (List Value)) → filter_map valued (map (built_choice f) rows) ≡ map (node f) (filter_map row_valued rows) → cons_option (option_and_then (head_value (Builds f)) o) (filter_map valued (map (built_choice f) rows)) ≡ map (node f) (cons_option o (filter_map row_valued rows))
      go None h = h
      go (Some vs) h = ap (λ us. node f vs ∷ us) h

  -- the rules of a destructor on one choice of its arguments
  abbrev reduced : List Rule → List Value → List Value
  reduced rules vs = filter_map (λ rule. rule_value rule vs) rules

  one_called : (row : Choices) (o : Option (List Value)) → row_valued row ≡ o → (k : ℕ) (rules : List Rule) → filter_map valued (map (called_choice row) (enumerate_from k rules)) ≡ filter_map (λ rule. option_and_then (head_value (Calls rule)) o) rules
  one_called row o e k [] = refl
  one_called row o e k (rule ∷ rules) =
      let first = ap (option_and_then (head_value (Calls rule))) e in
      let others = one_called row o e (k + 1) rules in λ i. cons_option (first i) (others i)

  nothing_called : (rules : List Rule) → filter_map (λ rule. option_and_then (head_value (Calls rule)) None) rules ≡ []
  nothing_called [] = refl
  nothing_called (rule ∷ rules) = nothing_called rules

  called_values : (rules : List Rule) (rows : List Choices) → filter_map valued (flat_map (λ row. map (called_choice row) (enumerate_from 1 rules)) rows) ≡ flat_map (reduced rules) (filter_map row_valued rows)
  called_values rules [] = refl
  called_values rules (row ∷ rows) =
      filter_map-append valued (map (called_choice row) (enumerate_from 1 rules)) (flat_map (λ r. map (called_choice r) (enumerate_from 1 rules)) rows)
      ∙ go (row_valued row) refl (called_values rules rows)
    where
      go : (o : Option (List Value)) → row_valued row ≡ o → filter_map valued (flat_map (λ r. map (called_choice r) (enumerate_from 1 rules)) rows) ≡ flat_map (reduced rules) (filter_map row_valued rows) → filter_map valued (map (called_choice row) (enumerate_from 1 rules)) ++ filter_map valued (flat_map (λ r. map (called_choice r) (enumerate_from 1 rules)) rows) ≡ flat_map (reduced rules) (cons_option o (filter_map row_valued rows))
      go None e others = let first = one_called row None e 1 rules ∙ nothing_called rules in λ i. first i ++ others i
      go (Some vs) e others = let first = one_called row (Some vs) e 1 rules in λ i. first i ++ others i

  -- a part beside each choice of the parts after it
  one_joined : (first : Choice) (o : Option Value) → valued first ≡ o → (rows : List Choices) → filter_map row_valued (map (joined_choice first) rows) ≡ filter_map (λ row. option_and_then (λ v. option_map (λ vs. v ∷ vs) (row_valued row)) o) rows
  one_joined first o e [] = refl
  one_joined first o e (row ∷ rows) =
      let here = ap (option_and_then (λ v. option_map (λ vs. v ∷ vs) (row_valued row))) e in
      let others = one_joined first o e rows in λ i. cons_option (here i) (others i)

  nothing_joined : (rows : List Choices) → filter_map (λ row. option_and_then (λ (v : Value). option_map (λ vs. v ∷ vs) (row_valued row)) None) rows ≡ []
  nothing_joined [] = refl
  nothing_joined (row ∷ rows) = nothing_joined rows

  some_joined : (v : Value) (rows : List Choices) → filter_map (λ row. option_map (λ vs. v ∷ vs) (row_valued row)) rows ≡ map (λ vs. v ∷ vs) (filter_map row_valued rows)
  some_joined v [] = refl
  some_joined v (row ∷ rows) = go (row_valued row) (some_joined v rows)
    where
      go : (o : Option (List Value)) → filter_map (λ r. option_map (λ vs. v ∷ vs) (row_valued r)) rows ≡ map (λ vs. v ∷ vs) (filter_map row_valued rows) → cons_option (option_map (λ vs. v ∷ vs) o) (filter_map (λ r. option_map (λ vs. v ∷ vs) (row_valued r)) rows) ≡ map (λ vs. v ∷ vs) (cons_option o (filter_map row_valued rows))
      go None h = h
      go (Some vs) h = ap (λ us. (v ∷ vs) ∷ us) h

  joined_values : (rows : List Choices) (cs : List Choice) → filter_map row_valued (flat_map (λ c. map (joined_choice c) rows) cs) ≡ flat_map (λ v. map (λ vs. v ∷ vs) (filter_map row_valued rows)) (filter_map valued cs)
  joined_values rows [] = refl
  joined_values rows (c ∷ cs) =
      filter_map-append row_valued (map (joined_choice c) rows) (flat_map (λ d. map (joined_choice d) rows) cs) ∙ go (valued c) refl (joined_values rows cs)
    where
      go : (o : Option Value) → valued c ≡ o → filter_map row_valued (flat_map (λ d. map (joined_choice d) rows) cs) ≡ flat_map (λ v. map (λ vs. v ∷ vs) (filter_map row_valued rows)) (filter_map valued cs) → filter_map row_valued (map (joined_choice c) rows) ++ filter_map row_valued (flat_map (λ d. map (joined_choice d) rows) cs) ≡ flat_map (λ v. map (λ vs. v ∷ vs) (filter_map row_valued rows)) (cons_option o (filter_map valued cs))
      go None e others = let first = one_joined c None e rows ∙ nothing_joined rows in λ i. first i ++ others i
      go (Some v) e others = let first = one_joined c (Some v) e rows ∙ some_joined v rows in λ i. first i ++ others i

pub values_of_constructor : (P : Protocol) (environment : Environment) (f : Symbol) (parts : Trees Term (Head ℕ)) → values_at P environment (Node (Builds f) parts) ≡ map (node f) (row_values_at P environment parts)
values_of_constructor P environment f parts = built_values environment f (row_choices P parts)

pub values_of_destructor : (P : Protocol) (environment : Environment) (d : ℕ) (parts : Trees Term (Head ℕ)) → values_at P environment (Node (Calls d) parts) ≡ flat_map (λ vs. filter_map (λ rule. rule_value rule vs) (rules_of P d)) (row_values_at P environment parts)
values_of_destructor P environment d parts = called_values environment (rules_of P d) (row_choices P parts)

pub values_of_row : (P : Protocol) (environment : Environment) (part : Expression) (parts : Trees Term (Head ℕ)) → row_values_at P environment (more part parts) ≡ flat_map (λ v. map (λ vs. v ∷ vs) (row_values_at P environment parts)) (values_at P environment part)
values_of_row P environment part parts = joined_values environment (row_choices P parts) (choices P part)
