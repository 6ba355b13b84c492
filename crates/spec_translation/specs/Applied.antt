-- An expression whose rules are chosen, as terms: what it is, and which terms have to become one for all of its rules to apply
-- (Blanchet 2016, section 3.3.2: the translation of the evaluation of destructors).
use Rattle.std.specs.Prelude.{ℕ, ◌+◌, max, Bool, true, ◌&&◌, nat_eq, List, [], ◌∷◌, ◌++◌, map, length}
use Rattle.spec_trees.specs.Tree.{Tree, Trees, Leaf, Node, none, more, items_of}
use Rattle.spec_calculus.specs.Syntax.{Name, Free, Made, Variable, Head, Builds, Calls, Rule, Ruled, Protocol}
use Rattle.spec_calculus.specs.Syntax as calculus
use Rattle.spec_well_formed.specs.Rules.{rule_leaves}
use Rattle.spec_terms.specs.Term.{Sym}
use Rattle.spec_translation.specs.Conversion.{row_length, symbol_over}

-- the greatest number of a variable
abbrev pub greatest : List Name → ℕ
greatest [] = 0
greatest (Free n ∷ xs) = greatest xs
greatest (Made p ∷ xs) = greatest xs
greatest (Variable i ∷ xs) = max i (greatest xs)

-- how many new variables a rule takes, and all rules of an expression one after another
abbrev pub rule_width : Rule → ℕ
rule_width rule = greatest (rule_leaves rule)

abbrev mutual
  pub width : Ruled → ℕ
  width (Leaf term) = 0
  width (Node (Builds f) parts) = row_width parts
  width (Node (Calls rule) parts) = row_width parts + rule_width rule

  pub row_width : Trees calculus.Term (Head Rule) → ℕ
  row_width none = 0
  row_width (more part parts) = width part + row_width parts

-- whether each rule has as many left sides as there are arguments, as where it applies
abbrev mutual
  pub fits : Ruled → Bool
  fits (Leaf term) = true
  fits (Node (Builds f) parts) = row_fits parts
  fits (Node (Calls rule) parts) = row_fits parts && nat_eq (length rule.left) (row_length parts)

  pub row_fits : Trees calculus.Term (Head Rule) → Bool
  row_fits none = true
  row_fits (more part parts) = fits part && row_fits parts

-- how terms of the process are read, and those of rules, whose variables are new from a base on
module _ {X : Type 0} (P : Protocol) (term_of : calculus.Term → Tree X Sym) (rule_term_of : ℕ → calculus.Term → Tree X Sym) where
  -- the term of an expression: a destructor on arguments is the right side of its rule
  abbrev mutual
    pub ruled_term : ℕ → Ruled → Tree X Sym
    ruled_term base (Leaf term) = term_of term
    ruled_term base (Node (Builds f) parts) = Node (symbol_over P (row_length parts) f) (ruled_row base parts)
    ruled_term base (Node (Calls rule) parts) = rule_term_of (base + row_width parts) rule.right

    pub ruled_row : ℕ → Trees calculus.Term (Head Rule) → Trees X Sym
    ruled_row base none = none
    ruled_row base (more part parts) = more (ruled_term base part) (ruled_row (base + width part) parts)

  -- the arguments of all destructors, in the order of the choice
  abbrev mutual
    pub ruled_arguments : ℕ → Ruled → List (Tree X Sym)
    ruled_arguments base (Leaf term) = []
    ruled_arguments base (Node (Builds f) parts) = row_arguments base parts
    ruled_arguments base (Node (Calls rule) parts) = row_arguments base parts ++ items_of (ruled_row base parts)

    pub row_arguments : ℕ → Trees calculus.Term (Head Rule) → List (Tree X Sym)
    row_arguments base none = []
    row_arguments base (more part parts) = ruled_arguments base part ++ row_arguments (base + width part) parts

  -- and the left sides of their rules, which these arguments have to be
  abbrev mutual
    pub ruled_sides : ℕ → Ruled → List (Tree X Sym)
    ruled_sides base (Leaf term) = []
    ruled_sides base (Node (Builds f) parts) = row_sides base parts
    ruled_sides base (Node (Calls rule) parts) = row_sides base parts ++ map (rule_term_of (base + row_width parts)) rule.left

    pub row_sides : ℕ → Trees calculus.Term (Head Rule) → List (Tree X Sym)
    row_sides base none = []
    row_sides base (more part parts) = ruled_sides base part ++ row_sides (base + width part) parts
