-- What contracts see of rows of numbers, and of nodes as they are read.
use Rattle.std.specs.Prelude.{◌≡◌, ℕ, ◌-◌, true, false, List, length, Option, Some, None}
use Rattle.std.specs.List.{AllByRecursion}
use Rattle.spec_node_tables.specs.Nodes as tables
use Rattle.spec_node_tables.specs.Text.{node_numbers}
use Rattle.spec_node_tables.specs.Order.{IsNumberOf}
use Rattle.spec_node_reading.specs.ReadNodes as reading
use Rattle.term_tree.specs.Bank.{symbol_of}
use Rattle.term_tree.specs.declared.bank.Id.{Id}
use Rattle.term_reader.specs.Seen.{named_of}
use Rattle.spec_node_starts.specs.Starts as starts
use Rattle.node_lines.specs.declared.row.Row.{Row}
use Rattle.node_lines.specs.declared.numbers.Numbers.{Numbers}
use Rattle.node_lines.specs.declared.heads.Head.{Head}
use Rattle.node_lines.specs.declared.heads.Head.TheVariants.{Variable, Names}
use Rattle.node_lines.specs.declared.nodes.Body.{Body}
use Rattle.node_lines.specs.declared.nodes.TableNode.{TableNode}
use Rattle.node_lines.specs.declared.nodes.TableNode.TheVariants as node

abbrev pub row_of : Row → starts.Row
row_of r = record { least = r.least; last = r.last }

abbrev pub numbers_of : Numbers → List ℕ
numbers_of n = n.items.items

-- the id of the node of that number
abbrev pub id_of : ℕ → Id
id_of n = record { index = n - 1 }

abbrev pub head_of : Head → reading.HeadRead
head_of (Variable x) = reading.IsVariable x
head_of (Names n) = reading.Names (named_of n)

abbrev pub body_of : Body → reading.NodeRead
body_of b = record { head = head_of b.head; numbers = numbers_of b.numbers }

-- it has the numbers of so many nodes
abbrev pub HasNumbersOf : ℕ → Numbers → Type 0
HasNumbersOf nodes numbers = AllByRecursion (IsNumberOf nodes) (numbers_of numbers)

abbrev pub node_of : TableNode → tables.TableNode
node_of (node.Variable x) = tables.Variable x
node_of (node.Over f ns) = tables.Over (symbol_of f) (numbers_of ns)

abbrev pub HasNodesBefore : ℕ → TableNode → Type 0
HasNodesBefore nodes n = AllByRecursion (IsNumberOf nodes) (node_numbers (node_of n))

-- this is the node of what was read, if that has as many numbers as it takes
abbrev pub NodeIs : reading.NodeRead → Option TableNode → Type 0
NodeIs x None = reading.takes x.head (length x.numbers) ≡ false
NodeIs x (Some n) = (reading.takes x.head (length x.numbers) ≡ true) × (node_of n ≡ reading.node_read x.head x.numbers)
