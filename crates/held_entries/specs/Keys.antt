-- Classes of entries by their table and by what stands in a column. Equal values are of one class; values of one class need not be equal.
use Rattle.std.specs.Prelude.{ℕ, ◌+◌, ◌*◌, ◌%◌}
use Rattle.spec_trees.specs.Tree.{Trees, Leaf, Node, none, more}
use Rattle.spec_calculus.specs.Syntax.{Symbol, Constructor, Tuple}
use Rattle.spec_calculus.specs.Values.{Atom, FreeName, MadeName, AttackerName, Value}

-- a key with one more number in it, by multiplication in a field (Knuth 1998, section 6.4)
abbrev pub mixed : ℕ → ℕ → ℕ
mixed key number = (key * 40503 + number % 65521) % 65521

abbrev pub atom_key : Atom → ℕ
atom_key (FreeName number) = mixed 1 number
atom_key (MadeName point number) = mixed (mixed 2 point) number
atom_key (AttackerName number) = mixed 3 number

abbrev pub symbol_key : Symbol → ℕ
symbol_key (Constructor number) = mixed 4 number
symbol_key Tuple = 5

abbrev mutual
  pub value_key : Value → ℕ
  value_key (Leaf x) = atom_key x
  value_key (Node f vs) = row_key (symbol_key f) vs

  pub row_key : ℕ → Trees Atom Symbol → ℕ
  row_key key none = key
  row_key key (more v vs) = row_key (mixed key (value_key v)) vs

-- the class of entries of a table, and of those that have the value in the column
unfoldable pub table_class : ℕ → ℕ
table_class table = mixed 6 table

unfoldable pub class_at : ℕ → ℕ → Value → ℕ
class_at table column v = mixed (mixed (value_key v) table) column
