-- A number that facts which are the same share: of the numbers of their predicate, its phase, their event or table, their symbols and their
-- variables, in order.
use Rattle.std.specs.Prelude.{ℕ, ◌+◌, ◌*◌, ◌%◌, ◌^◌, List, [], ◌∷◌, ◌++◌, flat_map}
use Rattle.spec_trees.specs.Tree.{Trees, Leaf, Node, none, more}
use Rattle.spec_terms.specs.Term.{Sym, Ctor, Data, Tuple, Free, Point, Attacker, Term}
use Rattle.spec_clauses.specs.Fact.{Fact, terms_of}
use Rattle.spec_clauses.specs.Head.{Head, Att, Mess, Tab, Ev, Mev, Bad, head_of}

-- the number of a symbol; those of variables are 7, 15, 23 and so on
abbrev pub symbol_number : Sym → ℕ
symbol_number (Ctor f) = 8 * f
symbol_number (Data f) = 8 * f + 1
symbol_number (Tuple n) = 8 * n + 2
symbol_number (Free a) = 8 * a + 3
symbol_number (Point p) = 8 * p + 4
symbol_number Attacker = 5

-- the numbers of a term, and of a row of terms
abbrev mutual
  pub term_numbers : Term → List ℕ
  term_numbers (Leaf x) = (8 * x + 7) ∷ []
  term_numbers (Node f args) = symbol_number f ∷ row_numbers args

  pub row_numbers : Trees ℕ Sym → List ℕ
  row_numbers none = []
  row_numbers (more t ts) = term_numbers t ++ row_numbers ts

-- the number of a head
abbrev pub head_number : Head → ℕ
head_number (Att k) = 8 * k
head_number (Mess k) = 8 * k + 1
head_number (Tab n) = 8 * n + 5
head_number (Ev e) = 8 * e + 2
head_number (Mev e) = 8 * e + 3
head_number Bad = 4

-- a key with one number more, and with more of them
unfoldable pub mixed : ℕ → ℕ → ℕ
mixed key n = ((key * 11400714819323198485) % 2 ^ 64 + n) % 2 ^ 64

abbrev pub keyed : ℕ → List ℕ → ℕ
keyed key [] = key
keyed key (n ∷ ns) = keyed (mixed key n) ns

-- the key of a fact
abbrev pub fact_key : Fact Term → ℕ
fact_key f = keyed (head_number (head_of f)) (flat_map term_numbers (terms_of f))
