-- The values of an expression: one for each choice of a rule for each destructor that it applies, where all of these rules apply
-- (Blanchet 2016, section 2.2: the evaluation of terms with destructors, each by any of its rewrite rules).
use Rattle.std.specs.Prelude.{◌≡◌, ℕ, ◌+◌, ◌*◌, ◌<◌, ◌⊎◌, Bool, false, ◌||◌, nat_eq, List, [], ◌∷◌, ◌++◌, length, map, Option, Some, option_and_then, option_map, filter_map}
use Rattle.std.specs.List.{flat_map, enumerate_from, find, list_any, AllByRecursion}
use Rattle.std.specs.Option.{option_to_list}
use Rattle.std.specs.Cmp.Lexicographic.{pointwise}
use Rattle.spec_trees.specs.Tree.{Trees, Leaf, Node, none, more, node}
use Rattle.spec_calculus.specs.Syntax.{Term, Symbol, Head, Builds, Calls, Expression, Rule, Ruled, Protocol}
use Rattle.spec_calculus.specs.Values.{Value, Environment, value_of}
use Rattle.spec_calculus.specs.Matching.{rule_value, rules_of}

-- A choice of a rule for each destructor that an expression applies: the numbers of the rules, those of arguments before that of the
-- destructor on them, and from left to right; and the expression with the rules.
pub record Choice : Type 0 where
  pub rules : List ℕ
  pub ruled : Ruled

-- a choice for a row of expressions
pub record Choices : Type 0 where
  pub rules : List ℕ
  pub ruled : Trees Term (Head Rule)

-- the choice of a constructor's or a tuple's parts, as that of the whole
abbrev pub built_choice : Symbol → Choices → Choice
built_choice f row = record { rules = row.rules; ruled = Node (Builds f) row.ruled }

-- the choice of a destructor's arguments, and of its rule with that number
abbrev pub called_choice : Choices → ℕ × Rule → Choice
called_choice row rule = record { rules = row.rules ++ rule.0 ∷ []; ruled = Node (Calls rule.1) row.ruled }

abbrev pub joined_choice : Choice → Choices → Choices
joined_choice first others = record { rules = first.rules ++ others.rules; ruled = more first.ruled others.ruled }

-- all choices, in dictionary order of the numbers
abbrev mutual
  pub choices : Protocol → Expression → List Choice
  choices P (Leaf term) = record { rules = []; ruled = Leaf term } ∷ []
  choices P (Node (Builds f) parts) = map (built_choice f) (row_choices P parts)
  choices P (Node (Calls d) parts) = flat_map (λ row. map (called_choice row) (enumerate_from 1 (rules_of P d))) (row_choices P parts)

  pub row_choices : Protocol → Trees Term (Head ℕ) → List Choices
  row_choices P none = record { rules = []; ruled = none } ∷ []
  row_choices P (more part parts) = flat_map (λ first. map (joined_choice first) (row_choices P parts)) (choices P part)

-- the label of a choice: the numbers of its rules, and 0 alone where the expression applies no destructor
abbrev pub label_of : List ℕ → List ℕ
label_of [] = 0 ∷ []
label_of (number ∷ numbers) = number ∷ numbers

abbrev pub same_label : List ℕ → List ℕ → Bool
same_label = pointwise nat_eq

-- the choice of that label
abbrev pub choice_at : Protocol → Expression → List ℕ → Option Choice
choice_at P e label = find (λ c. same_label (label_of c.rules) label) (choices P e)

-- what a root gives of the values of its parts
abbrev pub head_value : Head Rule → List Value → Option Value
head_value (Builds f) vs = Some (node f vs)
head_value (Calls rule) vs = rule_value rule vs

-- the value by the chosen rules, where each of them applies
abbrev mutual
  pub ruled_value : Environment → Ruled → Option Value
  ruled_value environment (Leaf term) = Some (value_of environment term)
  ruled_value environment (Node head parts) = option_and_then (head_value head) (ruled_values environment parts)

  pub ruled_values : Environment → Trees Term (Head Rule) → Option (List Value)
  ruled_values environment none = Some []
  ruled_values environment (more part parts) =
      option_and_then (λ v. option_map (λ vs. v ∷ vs) (ruled_values environment parts)) (ruled_value environment part)

-- the value of that label, where there is one
abbrev pub value_at : Protocol → Environment → Expression → List ℕ → Option Value
value_at P environment e label = option_and_then (λ c. ruled_value environment c.ruled) (choice_at P e label)

-- all values, in the order of their choices
abbrev pub values_at : Protocol → Environment → Expression → List Value
values_at P environment e = filter_map (λ c. ruled_value environment c.ruled) (choices P e)

-- the lists of values of a row of expressions, likewise
abbrev pub row_values_at : Protocol → Environment → Trees Term (Head ℕ) → List (List Value)
row_values_at P environment parts = filter_map (λ c. ruled_values environment c.ruled) (row_choices P parts)

-- the values of the parts, and of the whole, of which all rules apply; the parts of a term are smaller than the term
abbrev mutual
  pub part_values : Environment → Ruled → List Value
  part_values environment (Leaf term) = value_of environment term ∷ []
  part_values environment (Node head parts) = row_part_values environment parts ++ option_to_list (ruled_value environment (Node head parts))

  pub row_part_values : Environment → Trees Term (Head Rule) → List Value
  row_part_values environment none = []
  row_part_values environment (more part parts) = part_values environment part ++ row_part_values environment parts

-- whether a value that passes the test is that of a part, or of the whole, by some choice
abbrev mutual
  pub some_part_value : (Value → Bool) → Protocol → Environment → Expression → Bool
  some_part_value test P environment (Leaf term) = list_any test (values_at P environment (Leaf term))
  some_part_value test P environment (Node head parts) =
      some_row_part_value test P environment parts || list_any test (values_at P environment (Node head parts))

  pub some_row_part_value : (Value → Bool) → Protocol → Environment → Trees Term (Head ℕ) → Bool
  some_row_part_value test P environment none = false
  some_row_part_value test P environment (more part parts) = some_part_value test P environment part || some_row_part_value test P environment parts

-- each destructor that the expression applies has a rule
abbrev mutual
  pub HasRules : Protocol → Expression → Type 0
  HasRules P (Leaf term) = Unit {0}
  HasRules P (Node (Builds f) parts) = HasRowRules P parts
  HasRules P (Node (Calls d) parts) = (0 < length (rules_of P d)) × HasRowRules P parts

  pub HasRowRules : Protocol → Trees Term (Head ℕ) → Type 0
  HasRowRules P none = Unit {0}
  HasRowRules P (more part parts) = HasRules P part × HasRowRules P parts

-- how many destructors an expression applies, each as often as it stands there
abbrev mutual
  pub applications : Expression → ℕ
  applications (Leaf term) = 0
  applications (Node (Builds f) parts) = row_applications parts
  applications (Node (Calls d) parts) = row_applications parts + 1

  pub row_applications : Trees Term (Head ℕ) → ℕ
  row_applications none = 0
  row_applications (more part parts) = applications part + row_applications parts

-- the product of the numbers of rules of these destructors
abbrev mutual
  pub choice_count : (ℕ → ℕ) → Expression → ℕ
  choice_count rule_count (Leaf term) = 1
  choice_count rule_count (Node (Builds f) parts) = row_choice_count rule_count parts
  choice_count rule_count (Node (Calls d) parts) = row_choice_count rule_count parts * rule_count d

  pub row_choice_count : (ℕ → ℕ) → Trees Term (Head ℕ) → ℕ
  row_choice_count rule_count none = 1
  row_choice_count rule_count (more part parts) = choice_count rule_count part * row_choice_count rule_count parts

-- dictionary order of lists of numbers: at the first place where they differ the first one has the lesser number
abbrev pub IsBefore : List ℕ → List ℕ → Type 0
IsBefore [] ns = ⊥
IsBefore (m ∷ ms) [] = ⊥
IsBefore (m ∷ ms) (n ∷ ns) = (m < n) ⊎ ((m ≡ n) × IsBefore ms ns)

-- each of these stands in that order before all that follow
abbrev pub AreInOrder : {A : Type 0} → (A → List ℕ) → List A → Type 0
AreInOrder numbers [] = Unit {0}
AreInOrder numbers (x ∷ xs) = AllByRecursion (λ y. IsBefore (numbers x) (numbers y)) xs × AreInOrder numbers xs
