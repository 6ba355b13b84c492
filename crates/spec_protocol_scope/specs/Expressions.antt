-- What a `let` evaluates: a term in which destructors may stand at any place. A part without destructors is a term.
use Rattle.std.specs.Prelude.{ℕ, nat_eq, nat_le, ◌&&◌, if◌then◌else◌, List, [], ◌∷◌, length, Option, Some, None, option_map, Ok}
use Rattle.std.specs.Option.{option_map_or}
use Rattle.spec_trees.specs.Tree.{Leaf, Node, node}
use Rattle.spec_calculus.specs.Bounds.{most_arguments, most_written_symbols, most_applications, most_choices}
use Rattle.spec_calculus.specs.Syntax.{Symbol, Constructor, Tuple, Term, Head, Builds, Calls, Expression}
use Rattle.spec_calculus.specs.Choices.{applications, choice_count}
use Rattle.spec_well_formed.specs.Terms.{rule_count, expression_size}
use Rattle.spec_protocol_grammar.specs.Sketch.{TermSketch, Named, Grouped, TermsSketch, none, more}
use Rattle.spec_protocol_scope.specs.Answers.{Answer, within, ◌>>=◌}
use Rattle.spec_protocol_scope.specs.Names.{Scope, signature_with, Meaning, MeansDestructor, look, Bound}
use Rattle.spec_protocol_scope.specs.Terms.{count, taking, constructor, process_term}

-- the terms that these parts are, where all of them are terms
abbrev pub terms_of : List Expression → Option (List Term)
terms_of [] = Some []
terms_of (Leaf t ∷ parts) = option_map (λ ts. t ∷ ts) (terms_of parts)
terms_of (Node root inner ∷ parts) = None

-- a constructor or a tuple of these parts: where all of them are terms, it is a term
abbrev pub built : Symbol → List Expression → Expression
built f parts = option_map_or (λ ts. Leaf (node f ts)) (terms_of parts) (node (Builds f) parts)

-- a root over these parts
abbrev pub rooted : Head ℕ → List Expression → Expression
rooted (Builds f) parts = built f parts
rooted (Calls d) parts = node (Calls d) parts

-- the root of `f(..)`, by what f is declared as and the number of its arguments: a destructor, or what it is in a term
abbrev pub root : ℕ → ℕ → Option Meaning → Answer (Head ℕ)
root n given (Some (MeansDestructor number arity)) = do
  destructor ← taking n number arity given
  Ok (Calls destructor)
root n given meaning = do
  number ← constructor n given meaning
  Ok (Builds (Constructor number))

-- the expression, where it has no more symbols than may be written; a destructor's name counts as one
abbrev pub sized : ℕ → Expression → Answer Expression
sized n e = within (nat_le (expression_size e) most_written_symbols) n e

-- a tuple of these parts, which is one within the limit of arguments
abbrev pub tuple : ℕ → List Expression → Answer Expression
tuple n parts = within (nat_le (length parts) most_arguments && nat_le (expression_size (built Tuple parts)) most_written_symbols) n (built Tuple parts)

-- what `(parts)` stands for: one part is itself, more are a tuple
abbrev pub grouped : ℕ → List Expression → Answer Expression
grouped n (part ∷ []) = Ok part
grouped n parts = tuple n parts

-- a bare identifier, which is a term
abbrev pub bare : Scope → List Bound → ℕ → Answer Expression
bare s bound n = do
  read ← process_term s bound (Named n none)
  Ok (Leaf read)

abbrev mutual
  -- a part of an expression, or the whole
  pub part : Scope → List Bound → TermSketch → Answer Expression
  part s bound (Named n ts) = if nat_eq (count ts) 0 then bare s bound n else (do
    head ← root n (count ts) (look s n)
    arguments ← parts s bound ts
    sized n (rooted head arguments))
  part s bound (Grouped n ts) = do
    inner ← parts s bound ts
    grouped n inner

  -- parts in a row
  pub parts : Scope → List Bound → TermsSketch → Answer (List Expression)
  parts s bound none = Ok []
  parts s bound (more t ts) = do
    first ← part s bound t
    others ← parts s bound ts
    Ok (first ∷ others)

-- the first token of a term, parentheses round it counted
abbrev pub first_token : TermSketch → ℕ
first_token (Named n ts) = n
first_token (Grouped n ts) = n

-- what a `let` evaluates: within the limits of applications of destructors, and of choices of a rule for each of them
abbrev pub expression : Scope → List Bound → TermSketch → Answer Expression
expression s bound t = do
  whole ← part s bound t
  within (nat_le (applications whole) most_applications && nat_le (choice_count (rule_count (signature_with s.names)) whole) most_choices) (first_token t) whole
