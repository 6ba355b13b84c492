-- Patterns and destructors on values (Blanchet 2016, sections 2.1 and 2.2: patterns, and destructors by rewrite rules).
use Rattle.std.specs.Prelude.{◌≡◌, ℕ, Bool, true, false, not, nat_eq, List, [], ◌∷◌, ◌++◌, cond, map, Option, None, Some, option_and_then, option_map}
use Rattle.std.specs.Option.{option_map_or}
use Rattle.spec_trees.specs.Tree.{Trees, Leaf, Node, none, more, bind, trees, some_leaf, some_leaves}
use Rattle.spec_calculus.specs.Syntax.{Name, Variable, Symbol, Term, Hole, Bind, Equal, Pattern, Rule, Protocol}
use Rattle.spec_calculus.specs.Points.{numbered}
use Rattle.spec_calculus.specs.Values.{Atom, Value, Environment, same_name, same_symbol, same_value, same_values, value_of_bound, value_of}

-- what the pattern binds where the value matches it, in order; terms have their values in the environment from before
abbrev mutual
  pub matched : Environment → Pattern → Value → Option Environment
  matched environment (Leaf (Bind i)) v = Some (record { name = Variable i; value = v } ∷ [])
  matched environment (Leaf (Equal term)) v = cond (same_value (value_of environment term) v) (Some []) None
  matched environment (Node f patterns) (Leaf x) = None
  matched environment (Node f patterns) (Node g vs) = cond (same_symbol f g) (matched_row environment patterns vs) None

  pub matched_row : Environment → Trees Hole Symbol → Trees Atom Symbol → Option Environment
  matched_row environment none none = Some []
  matched_row environment none (more v vs) = None
  matched_row environment (more p ps) none = None
  matched_row environment (more p ps) (more v vs) =
      option_and_then (λ first. option_map (λ others. first ++ others) (matched_row environment ps vs)) (matched environment p v)

-- the pattern with its holes filled: variables by what they are bound to, and terms by their values
abbrev pub hole_value : Environment → Environment → Hole → Value
hole_value environment bindings (Bind i) = value_of_bound bindings (Variable i)
hole_value environment bindings (Equal term) = value_of environment term

abbrev pub filled : Environment → Environment → Pattern → Value
filled environment bindings pattern = bind (hole_value environment bindings) pattern

-- whether a hole binds the variable
abbrev pub is_binding : ℕ → Hole → Bool
is_binding i (Bind j) = nat_eq j i
is_binding i (Equal term) = false

-- the pattern binds no variable twice
abbrev mutual
  pub IsLinear : Pattern → Type 0
  IsLinear (Leaf hole) = Unit {0}
  IsLinear (Node f patterns) = IsLinearRow patterns

  pub IsLinearRow : Trees Hole Symbol → Type 0
  IsLinearRow none = Unit {0}
  IsLinearRow (more p ps) = IsLinear p × IsLinearRow ps × ((i : ℕ) → some_leaf (is_binding i) p ≡ true → some_leaves (is_binding i) ps ≡ false)

-- each leaf of the term, bound to what stands at its place in the value
abbrev mutual
  pub places : Term → Value → Environment
  places (Leaf x) v = record { name = x; value = v } ∷ []
  places (Node f ts) (Leaf y) = []
  places (Node f ts) (Node g vs) = places_row ts vs

  pub places_row : Trees Name Symbol → Trees Atom Symbol → Environment
  places_row none vs = []
  places_row (more t ts) none = []
  places_row (more t ts) (more v vs) = places t v ++ places_row ts vs

-- the instance of a rule's term, each of whose leaves is a variable
abbrev pub instance_of : Environment → Term → Value
instance_of environment term = bind (value_of_bound environment) term

-- the value that the rule gives of the values, where they are an instance of its left side
abbrev pub rule_value : Rule → List Value → Option Value
rule_value rule vs = let s = places_row (trees rule.left) (trees vs) in
    cond (same_values (map (instance_of s) rule.left) vs) (Some (instance_of s rule.right)) None

-- each variable of the right side stands on the left
abbrev pub IsClosedRule : Rule → Type 0
IsClosedRule rule = some_leaf (λ x. not (some_leaves (same_name x) (trees rule.left))) rule.right ≡ false

-- the rules of the destructor of that number
abbrev pub rules_of : Protocol → ℕ → List Rule
rules_of P d = option_map_or (λ destructor. destructor.rules) (numbered P.destructors d) []
