-- Terms, patterns and rules of a protocol as terms of clauses (Blanchet 2016, section 3.3.1, the translation of terms).
use Rattle.std.specs.Prelude.{ℕ, ◌+◌, ◌-◌, cond, Option, Some, None, List, [], ◌∷◌, ◌++◌, unwrap_or, filter_map}
use Rattle.spec_trees.specs.Tree.{Tree, Trees, Leaf, Node, none, more, node}
use Rattle.spec_calculus.specs.Syntax.{Name, Made, Variable, Symbol, Constructor, Hole, Bind, Equal, Pattern, Protocol}
use Rattle.spec_calculus.specs.Syntax as calculus
use Rattle.spec_calculus.specs.Values.{same_name}
use Rattle.spec_calculus.specs.Runs.{is_data}
use Rattle.spec_terms.specs.Term.{Sym, Ctor, Data, Tuple, Free, Point, Term}
use Rattle.spec_clauses.specs.Variables.{leaves}

-- the term of a free name; of the restricted name of a point over messages and sessions
abbrev pub free_term : ℕ → Term
free_term n = Node (Free n) none

abbrev pub name_term : ℕ → List Term → List Term → Term
name_term point messages sessions = node (Point point) (messages ++ sessions)

-- how many trees stand in a row
abbrev pub row_length : {L S : Type 0} → Trees L S → ℕ
row_length none = 0
row_length (more t ts) = 1 + row_length ts

-- the symbol of clauses for a symbol over so many arguments: data and tuples are told apart, and tuples by their parts
abbrev pub symbol_over : Protocol → ℕ → Symbol → Sym
symbol_over P count (Constructor f) = cond (is_data P (Constructor f)) (Data f) (Ctor f)
symbol_over P count calculus.Tuple = Tuple count

-- a tree of the protocol, each leaf as the tree that it stands for
abbrev mutual
  pub converted : {L X : Type 0} → Protocol → (L → Tree X Sym) → Tree L Symbol → Tree X Sym
  converted P leaf (Leaf x) = leaf x
  converted P leaf (Node f ts) = Node (symbol_over P (row_length ts) f) (converted_row P leaf ts)

  pub converted_row : {L X : Type 0} → Protocol → (L → Tree X Sym) → Trees L Symbol → Trees X Sym
  converted_row P leaf none = none
  converted_row P leaf (more t ts) = more (converted P leaf t) (converted_row P leaf ts)

-- what a leaf stands for where a process is visited
pub record StandsFor : Type 0 where
  pub name : Name
  pub term : Term

-- what the leaves that are bound stand for, in the order in which they were bound
abbrev pub Scope : Type 0
Scope = List StandsFor

-- the term that the leaf stands for; one that nothing binds is the free name 0, which no protocol declares
abbrev pub found_in : Scope → Name → Option Term
found_in [] x = None
found_in (b ∷ later) x = cond (same_name b.name x) (Some b.term) (found_in later x)

abbrev pub leaf_term : Scope → Name → Term
leaf_term scope (calculus.Free n) = free_term n
leaf_term scope (Made p) = unwrap_or (found_in scope (Made p)) (free_term 0)
leaf_term scope (Variable i) = unwrap_or (found_in scope (Variable i)) (free_term 0)

-- a term of the process where it is visited
abbrev pub term_in : Protocol → Scope → calculus.Term → Term
term_in P scope term = converted P (leaf_term scope) term

-- Where new variables begin, and the number of the first that becomes one.
pub record Fresh : Type 0 where
  pub base : ℕ
  pub first : ℕ

-- the new variable for the one of that number
abbrev pub fresh_leaf : Fresh → ℕ → Term
fresh_leaf at i = Leaf (at.base + (i - at.first))

-- a pattern's term: its variables are new
abbrev pub hole_term : Protocol → Scope → Fresh → Hole → Term
hole_term P scope at (Bind i) = fresh_leaf at i
hole_term P scope at (Equal term) = term_in P scope term

abbrev pub pattern_term : Protocol → Scope → Fresh → Pattern → Term
pattern_term P scope at pattern = converted P (hole_term P scope at) pattern

-- the variables that a pattern binds, in order, and what they stand for
abbrev pub bound_number : Hole → Option ℕ
bound_number (Bind i) = Some i
bound_number (Equal term) = None

abbrev pub bound_numbers : Pattern → List ℕ
bound_numbers pattern = filter_map bound_number (leaves pattern)

abbrev pub hole_standing : Fresh → Hole → Option StandsFor
hole_standing at (Bind i) = Some (record { name = Variable i; term = fresh_leaf at i })
hole_standing at (Equal term) = None

abbrev pub pattern_scope : Fresh → Pattern → Scope
pattern_scope at pattern = filter_map (hole_standing at) (leaves pattern)

-- a rule's term: its variables, numbered from 1, are new from the base on
abbrev pub rule_leaf : ℕ → Name → Term
rule_leaf base (calculus.Free n) = free_term n
rule_leaf base (Made p) = free_term 0
rule_leaf base (Variable i) = Leaf (base + (i - 1))

abbrev pub rule_term : Protocol → ℕ → calculus.Term → Term
rule_term P base term = converted P (rule_leaf base) term
