-- Patterns.
use Rattle.std.specs.Prelude.{ℕ, ◌+◌, nat_eq, nat_le, if◌then◌else◌, List, [], ◌∷◌, ◌++◌, length, Option, Some, None, is_some, Ok}
use Rattle.spec_trees.specs.Tree.{Leaf, node}
use Rattle.spec_calculus.specs.Bounds.{most_arguments}
use Rattle.spec_calculus.specs.Syntax as calculus
use Rattle.spec_protocol_grammar.specs.Sketch.{PatternSketch, NamedPattern, Equal, GroupedPattern, PatternsSketch, no_patterns, more_patterns}
use Rattle.spec_protocol_scope.specs.Answers.{Answer, Unknown, Twice, Kind, fault, within, ◌>>=◌}
use Rattle.spec_protocol_scope.specs.Names.{Scope, Meaning, MeansConstructor, look, Bound, bound_as}
use Rattle.spec_protocol_scope.specs.Terms.{taking, process_term}

-- patterns with what the pattern has bound so far, in order
abbrev pub Binding : Type 0 → Type 0
Binding A = Answer (A × List Bound)

-- how many patterns stand in a row
abbrev pub count : PatternsSketch → ℕ
count no_patterns = 0
count (more_patterns p ps) = count ps + 1

-- the data constructor in `f(..)`, by what f is declared as and the number of its arguments
abbrev pub data_constructor : ℕ → ℕ → Option Meaning → Answer ℕ
data_constructor n given None = fault Unknown n
data_constructor n given (Some (MeansConstructor number arity is_data)) =
    if is_data then taking n number arity given else fault Kind n
data_constructor n given (Some meaning) = fault Kind n

-- an identifier, which binds the variable of that number and stands once in a pattern
abbrev pub binder : Scope → ℕ → List Bound → ℕ → Binding calculus.Pattern
binder s number found n =
    if is_some (bound_as s.text found n) then fault Twice n
    else Ok (Leaf (calculus.Bind number), found ++ record { token = n; name = calculus.Variable number } ∷ [])

-- what `(parts)` stands for: one pattern is itself, more are a tuple within the limit of arguments
abbrev pub grouped : ℕ → List calculus.Pattern → Answer calculus.Pattern
grouped n (p ∷ []) = Ok p
grouped n parts = within (nat_le (length parts) most_arguments) n (node calculus.Tuple parts)

-- below these binders, where the pattern's first variable has this number; terms are read as outside of the pattern
abbrev mutual
  pub pattern : Scope → List Bound → ℕ → List Bound → PatternSketch → Binding calculus.Pattern
  pattern s outer first found (NamedPattern n ps) = if nat_eq (count ps) 0 then binder s (first + length found) found n else (do
    number ← data_constructor n (count ps) (look s n)
    arguments ← patterns s outer first found ps
    Ok (node (calculus.Constructor number) arguments.0, arguments.1))
  pattern s outer first found (Equal n t) = do
    read ← process_term s outer t
    Ok (Leaf (calculus.Equal read), found)
  pattern s outer first found (GroupedPattern n ps) = do
    parts ← patterns s outer first found ps
    whole ← grouped n parts.0
    Ok (whole, parts.1)

  -- patterns in a row
  pub patterns : Scope → List Bound → ℕ → List Bound → PatternsSketch → Binding (List calculus.Pattern)
  patterns s outer first found no_patterns = Ok ([], found)
  patterns s outer first found (more_patterns p ps) = do
    one ← pattern s outer first found p
    others ← patterns s outer first one.1 ps
    Ok (one.0 ∷ others.0, others.1)
