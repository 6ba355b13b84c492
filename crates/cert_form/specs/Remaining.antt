-- What of a text is still to be put where so many of its items were.
use Rattle.std.specs.Prelude.{◌≡◌, ℕ, zero, suc, List, ◌++◌, drop}
use Rattle.spec_trees.specs.Tree.{trees}
use Rattle.spec_calculus.specs.Syntax.{Protocol}
use Rattle.spec_terms.specs.Term.{Term}
use Rattle.spec_certificate_text.specs.Loose.{row, behind}
use Rattle.spec_certificate_text.specs.Sides.{SpelledClause}
use Rattle.spec_certificate_text.specs.Written.{written_row}
use Rattle.spec_certificate_text.specs.Text.{numbers_text, row_lines}
use Rattle.spec_node_tables.specs.Nodes.{TableNode}
use Rattle.spec_node_tables.specs.Text.{later_terms, terms_text, clause_lines_over, node_lines}

-- of the items, whose text from a place on is as told, those before the place were put
pub record HasPut {X : Type 0} (from : ℕ → List X → List ℕ → List ℕ) (place : ℕ) (items : List X) (before after : List ℕ) : Type 0 where
  pub is : (rest : List ℕ) → after ++ from place (drop place items) rest ≡ before ++ from 0 items rest

-- arguments from a place on
abbrev pub arguments_from : Protocol → ℕ → List Term → List ℕ → List ℕ
arguments_from P zero ts rest = row (written_row P (trees ts)) rest
arguments_from P (suc n) ts rest = behind (written_row P (trees ts)) rest

-- terms, and lines of clauses from a place on, whatever the text of a term

abbrev pub terms_from : (Term → List ℕ → List ℕ) → Protocol → ℕ → List Term → List ℕ → List ℕ
terms_from one P zero ts rest = terms_text one P ts rest
terms_from one P (suc n) ts rest = later_terms one P ts rest

abbrev pub clauses_from : (Term → List ℕ → List ℕ) → Protocol → ℕ → List (SpelledClause Term) → List ℕ → List ℕ
clauses_from one P place cs rest = clause_lines_over one P cs rest

-- numbers, lines of rows and lines of nodes, which are the same wherever they begin

abbrev pub numbers_from : ℕ → List ℕ → List ℕ → List ℕ
numbers_from place ns rest = numbers_text ns rest

abbrev pub rows_from : ℕ → ℕ → List (List ℕ) → List ℕ → List ℕ
rows_from letter place rows rest = row_lines letter rows rest

abbrev pub nodes_from : Protocol → ℕ → List TableNode → List ℕ → List ℕ
nodes_from P place ns rest = node_lines P ns rest
