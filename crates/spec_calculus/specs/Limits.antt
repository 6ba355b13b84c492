-- The limit of size: which values a step evaluates or makes, and which steps are refused for them.
use Rattle.std.specs.Prelude.{ℕ, Bool, not, nat_le, List, [], ◌∷◌, ◌++◌, cond, Option, None, Some, option_and_then, option_map, unwrap_or, option_to_list}
use Rattle.std.specs.List.{list_any, flat_map}
use Rattle.std.specs.Option.{option_or, option_map_or}
use Rattle.spec_trees.specs.Tree.{Trees, Leaf, Node, none, more, size}
use Rattle.spec_trees.specs.Leaves.{leaves}
use Rattle.spec_calculus.specs.Syntax.{Symbol, Term, Hole, Bind, Equal, Pattern, Condition, Process, Nil, Output, Input, Parallel, Replication, New, Let, Event, Phase, Insert, Get, Protocol}
use Rattle.spec_calculus.specs.Bounds.{most_symbols}
use Rattle.spec_calculus.specs.Points.{numbered}
use Rattle.spec_calculus.specs.Values.{Value, Environment, values_of}
use Rattle.spec_calculus.specs.Matching.{rule_value, rules_of}
use Rattle.spec_calculus.specs.Tables.{Held, row_pattern, sides, row_matched}
use Rattle.spec_calculus.specs.Choices.{choices, choice_at, part_values}
use Rattle.spec_calculus.specs.Runs.{Configuration, Step, Build, Reduce, Part, Fresh, Split, Copy, Make, Pass, Hear, Say, Take, Fail, Mark, Next, Put, Fetch, Miss, acting, known_values, built, part_of}
use Rattle.spec_calculus.specs.Refusals.{Refusal, Large, refusal}

-- whether the value has more symbols than the limit
unfoldable pub is_large : Value → Bool
is_large v = not (nat_le (size v) most_symbols)

-- the terms with which a pattern compares
abbrev mutual
  pub compared : Pattern → List Term
  compared (Leaf (Bind i)) = []
  compared (Leaf (Equal term)) = term ∷ []
  compared (Node f patterns) = compared_row patterns

  pub compared_row : Trees Hole Symbol → List Term
  compared_row none = []
  compared_row (more p ps) = compared p ++ compared_row ps

-- the terms that are written at the root of a process: those of its pattern, and the largest parts of its expression that hold no
-- destructor, are among them
abbrev pub terms_at : Process → List Term
terms_at Nil = []
terms_at (Output channel message next) = channel ∷ message ∷ []
terms_at (Input channel pattern next) = channel ∷ compared pattern
terms_at (Parallel left right) = []
terms_at (Replication copied) = []
terms_at (New word next) = []
terms_at (Let pattern expression next otherwise) = compared pattern ++ leaves expression
terms_at (Event performed next) = performed.arguments
terms_at (Phase number next) = []
terms_at (Insert table arguments next) = arguments
terms_at (Get table patterns condition next otherwise) = compared (row_pattern patterns)

-- what an action lists at the point of a thread that has not ended
abbrev pub listed : Protocol → Configuration → ℕ → (ℕ → Environment → Process → Option (List Value)) → List Value
listed P c i action = unwrap_or (acting P c i action) []

-- the values of the terms that are written at the point of the thread
abbrev pub written : ℕ → Environment → Process → Option (List Value)
written point environment process = Some (values_of environment (terms_at process))

-- the values of the parts of the choice of that label of a `let`, where there is one
abbrev pub tried : Protocol → List ℕ → ℕ → Environment → Process → Option (List Value)
tried P label point environment (Let pattern expression next otherwise) =
    Some (option_map_or (λ c. part_values environment c.ruled) (choice_at P expression label) [])
tried P label point environment other = None

-- those of all choices of a `let`
abbrev pub all_tried : Protocol → ℕ → Environment → Process → Option (List Value)
all_tried P point environment (Let pattern expression next otherwise) = Some (flat_map (λ c. part_values environment c.ruled) (choices P expression))
all_tried P point environment other = None

-- the values of a condition's terms with an entry, where it is of the table and the patterns match it, whether or not it is met
abbrev pub asked : Environment → ℕ → List Pattern → Condition → Held → List Value
asked environment table patterns condition held =
    option_map_or (λ bindings. values_of (environment ++ bindings) (sides condition)) (row_matched environment table patterns held) []

-- those of a `get` with the entry of that number, where there is one
abbrev pub asked_once : Configuration → ℕ → ℕ → Environment → Process → Option (List Value)
asked_once c e point environment (Get table patterns condition next otherwise) =
    Some (option_map_or (asked environment table patterns condition) (numbered c.entries e) [])
asked_once c e point environment other = None

-- those with each entry
abbrev pub asked_of_all : Configuration → ℕ → Environment → Process → Option (List Value)
asked_of_all c point environment (Get table patterns condition next otherwise) =
    Some (flat_map (asked environment table patterns condition) c.entries)
asked_of_all c point environment other = None

-- the values that a step evaluates or makes, other than names
abbrev pub evaluated : Protocol → Configuration → Step → List Value
evaluated P c (Build f ks) = option_to_list (option_map (built f) (known_values c ks))
evaluated P c (Reduce d r ks) = option_to_list (option_and_then (λ rule. option_and_then (rule_value rule) (known_values c ks)) (numbered (rules_of P d) r))
evaluated P c (Part k i) = option_to_list (option_and_then (part_of P i) (numbered c.known k))
evaluated P c Fresh = []
evaluated P c (Split i) = []
evaluated P c (Copy i) = []
evaluated P c (Make i) = []
evaluated P c (Pass i j) = listed P c i written ++ listed P c j written
evaluated P c (Hear i) = listed P c i written
evaluated P c (Say j k) = listed P c j written
evaluated P c (Take i label) = listed P c i written ++ listed P c i (tried P label)
evaluated P c (Fail i) = listed P c i written ++ listed P c i (all_tried P)
evaluated P c (Mark i) = listed P c i written
evaluated P c Next = []
evaluated P c (Put i) = listed P c i written
evaluated P c (Fetch i e) = listed P c i written ++ listed P c i (asked_once c e)
evaluated P c (Miss i) = listed P c i written ++ listed P c i (asked_of_all c)

-- why a step is refused where values have a limit of size: a cause for which it is not possible, and after all of these a large value
abbrev pub limited_refusal : Protocol → Configuration → Step → Option Refusal
limited_refusal P c step = option_or (refusal P c step) (cond (list_any is_large (evaluated P c step)) (Some Large) None)
