-- Terms, facts and constraints, written as loose trees with the words of a protocol.
use Rattle.std.specs.Prelude.{ℕ, List, codes}
use Rattle.std.specs.Fmt.{decimal}
use Rattle.spec_trees.specs.Tree.{Trees, Leaf, Node, none, more, trees}
use Rattle.spec_calculus.specs.Syntax.{Declared, Protocol}
use Rattle.spec_terms.specs.Term.{Sym, Ctor, Data, Tuple, Free, Point, Attacker, Term}
use Rattle.spec_clauses.specs.Fact.{Fact, Att, Mess, Tab, Ev, Mev, Bad}
use Rattle.spec_certificate_text.specs.Loose.{Loose, LooseRow, Applied, Tupled, Made, Attackers}
use Rattle.spec_certificate_text.specs.Sides.{variable_word}
use Rattle.spec_certificate_text.specs.Words.{declared_word, symbol_word}

-- a word over arguments: without any it stands alone
abbrev pub applied : List ℕ → LooseRow → Loose
applied word none = Leaf word
applied word (more t ts) = Node (Applied word) (more t ts)

-- a symbol over arguments
abbrev pub headed : Protocol → Sym → LooseRow → Loose
headed P (Ctor f) arguments = applied (symbol_word P (Ctor f)) arguments
headed P (Data f) arguments = applied (symbol_word P (Data f)) arguments
headed P (Tuple parts) arguments = Node Tupled arguments
headed P (Free name) arguments = applied (symbol_word P (Free name)) arguments
headed P (Point point) arguments = Node (Made (symbol_word P (Point point)) (decimal point)) arguments
headed P Attacker arguments = Node Attackers arguments

-- a term
abbrev mutual
  pub written : Protocol → Term → Loose
  written P (Leaf x) = Leaf (variable_word x)
  written P (Node f arguments) = headed P f (written_row P arguments)

  pub written_row : Protocol → Trees ℕ Sym → LooseRow
  written_row P none = none
  written_row P (more t ts) = more (written P t) (written_row P ts)

-- one of these declarations over terms is written as a constructor is
abbrev pub written_call : Protocol → List Declared → ℕ → List Term → Loose
written_call P declarations number arguments = applied (declared_word declarations number) (written_row P (trees arguments))

-- an event of terms, and an entry of a table
abbrev pub written_event : Protocol → ℕ → List Term → Loose
written_event P event arguments = written_call P P.events event arguments

abbrev pub written_entry : Protocol → ℕ → List Term → Loose
written_entry P table arguments = written_call P P.tables table arguments

-- a fact as it stands in a text: its predicate, the phase of that, which is 0 where it has none, and what it speaks of
pub record LooseFact : Type 0 where
  pub predicate : List ℕ
  pub phase : ℕ
  pub arguments : LooseRow

abbrev pub written_fact : Protocol → Fact Term → LooseFact
written_fact P (Att phase t) = record { predicate = codes "att"; phase = phase; arguments = more (written P t) none }
written_fact P (Mess phase t u) = record { predicate = codes "mess"; phase = phase; arguments = more (written P t) (more (written P u) none) }
written_fact P (Tab table arguments) = record { predicate = codes "tab"; phase = 0; arguments = more (written_entry P table arguments) none }
written_fact P (Ev event arguments) = record { predicate = codes "ev"; phase = 0; arguments = more (written_event P event arguments) none }
written_fact P (Mev event arguments) = record { predicate = codes "mev"; phase = 0; arguments = more (written_event P event arguments) none }
written_fact P (Bad arguments) = record { predicate = codes "bad"; phase = 0; arguments = written_row P (trees arguments) }
