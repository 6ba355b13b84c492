-- The kind of the lines of nodes: behind these terms, which the nodes before are, a further node stands.
use Rattle.std.specs.Prelude.{◌≡◌, ◌≢◌, ℕ, suc, ◌<◌, ◌≤◌, ◌⊎◌, ◌==◌, true, false, List, [], ◌∷◌, ◌++◌, length, codes}
use Rattle.std.specs.List.{AllByRecursion}
use Rattle.spec_trees.specs.Tree.{size}
use Rattle.spec_calculus.specs.Bounds.{most_symbols, most_arguments}
use Rattle.spec_calculus.specs.Syntax.{Protocol}
use Rattle.spec_protocol_tokens.specs.Bytes.{is_in_word}
use Rattle.spec_protocol_scope.specs.Names.{is_variable}
use Rattle.spec_terms.specs.Term.{Sym, Tuple, Attacker, Term}
use Rattle.spec_clauses.specs.Inclusion.{Has}
use Rattle.spec_certificate_text.specs.Words.{symbol_word}
use Rattle.spec_certificate_text.specs.OfProtocol.{IsShort, IsSymbolOf}
use Rattle.spec_certificate_text.specs.Spelled.{IsWord}
use Rattle.spec_certificate_text.specs.Terms.{Code, Number, Symbol, Arity, NodeOrder, NodeLarge}
use Rattle.spec_certificate_faults.specs.Grammar.{EndsAt}
use Rattle.spec_certificate_faults.specs.TermFaults.{AreNoNumber, IsPlain, NamesNoRestriction}
use Rattle.spec_certificate_faults.specs.First.{Kind}
use Rattle.spec_first_faults.specs.Kinds.{fixed, nothing_before, behind, one_of, marked, many}
use Rattle.spec_first_faults.specs.Numbers.{numbers}
use Rattle.spec_first_faults.specs.Facts.{words}
use Rattle.spec_node_tables.specs.Nodes.{TableNode, Over, term_of}
use Rattle.spec_node_tables.specs.Text.{node_numbers, node_text}
use Rattle.spec_node_tables.specs.OfProtocol.{IsNodeOf}
use Rattle.spec_node_tables.specs.Order.{IsNumberOf}
use Rattle.spec_node_reading.specs.Kinds.{KindIn}
use Rattle.spec_node_reading.specs.Numbers.{IsNumberThere}

-- What stands before the numbers of a node.

-- Number: digits behind a `v`, and neither `@` nor a space behind them, that are no number
pub record IsNoVariable (bytes there : List ℕ) : Type 0 where
  pub digits : List ℕ
  pub rest : List ℕ
  pub text : bytes ≡ 118 ∷ there
  pub stand : there ≡ digits ++ rest
  pub wrong : AreNoNumber digits
  pub ends : EndsAt is_in_word rest
  pub no_point : EndsAt (λ b. b == 64) rest
  pub alone : EndsAt (λ b. b == 32) rest

-- Symbol: no constructor and no free name has the word, and it is no variable, which has no numbers
pub record NamesNothing (P : Protocol) (bytes : List ℕ) : Type 0 where
  pub word : List ℕ
  pub next : ℕ
  pub rest : List ℕ
  pub text : bytes ≡ word ++ next ∷ rest
  pub is_word : IsWord word
  pub ends : is_in_word next ≡ false
  pub no_point : (next == 64) ≡ false
  pub no_variable : is_variable word ≡ true → next ≡ 32
  pub none : (f : Sym) (n : ℕ) → IsPlain f → IsSymbolOf P f n → symbol_word P f ≢ word

abbrev pub HeadFault : Protocol → Code → List ℕ → List ℕ → Type 0
HeadFault P Number bytes there = IsNoVariable bytes there
HeadFault P Symbol bytes there = (there ≡ bytes) × (NamesNothing P bytes ⊎ NamesNoRestriction P bytes)
HeadFault P code bytes there = ⊥

-- a word alone, or a word, `@` and a number
abbrev pub word_heads : Kind
word_heads = behind words (one_of (behind (fixed (codes "@")) numbers) (nothing_before (EndsAt (λ b. b == 64))))

-- the same, or `()`
abbrev pub heads : Protocol → Kind
heads P = one_of (record { Text = word_heads.Text; Fault = λ code bytes there. word_heads.Fault code bytes there ⊎ HeadFault P code bytes there }) (fixed (codes "()"))

-- The numbers of a node, which has one itself.

-- NodeOrder: it is 0 or not below the node's own
pub record IsNotBelow (own : ℕ) (bytes : List ℕ) : Type 0 where
  pub number : ℕ
  pub rest : List ℕ
  pub there : IsNumberThere bytes number rest
  pub wrong : (number ≡ 0) ⊎ (own ≤ number)

abbrev pub BelowFault : ℕ → Code → List ℕ → Type 0
BelowFault own NodeOrder bytes = IsNotBelow own bytes
BelowFault own code bytes = ⊥

abbrev pub lower_numbers : ℕ → Kind
lower_numbers own = marked numbers (BelowFault own)

-- numbers, a space before each
abbrev pub spaced_numbers : ℕ → Kind
spaced_numbers own = many (behind (fixed (codes " ")) (lower_numbers own)) (nothing_before (EndsAt (λ b. b == 32)))

-- a node: a head and its numbers, `@` and one, or `?` and the digits of a bound variable
abbrev pub bodies : Protocol → ℕ → Kind
bodies P own = one_of (behind (fixed (codes "@ ")) (lower_numbers own)) (one_of (behind (fixed (codes "?")) numbers) (behind (heads P) (spaced_numbers own)))

-- Faults of whole nodes, behind these terms.

abbrev pub own_number : List Term → ℕ
own_number before = suc (length before)

-- the bytes are the text of the node, and then a rest with which it does not go on; its numbers are without fault
pub record IsNodeThere (P : Protocol) (before : List Term) (node : TableNode) (bytes rest : List ℕ) : Type 0 where
  pub text : bytes ≡ node_text P node rest
  pub whole : (bodies P (own_number before)).Text bytes rest
  pub short : AllByRecursion IsShort (node_numbers node)
  pub below : AllByRecursion (IsNumberOf (length before)) (node_numbers node)

-- the symbol takes another number of arguments
abbrev pub TakesOthers : Protocol → Sym → ℕ → Type 0
TakesOthers P (Tuple parts) n = (n < 2) ⊎ (most_arguments < n)
TakesOthers P Attacker n = ⊥
TakesOthers P symbol n = (arity : ℕ) × IsSymbolOf P symbol arity × (arity ≢ n)

-- Arity
pub record IsMisapplied (P : Protocol) (before : List Term) (bytes : List ℕ) : Type 0 where
  pub symbol : Sym
  pub numbers : List ℕ
  pub rest : List ℕ
  pub there : IsNodeThere P before (Over symbol numbers) bytes rest
  pub wrong : TakesOthers P symbol (length numbers)

-- NodeOrder: the node stands earlier
pub record IsEarlier (P : Protocol) (before : List Term) (bytes : List ℕ) : Type 0 where
  pub node : TableNode
  pub rest : List ℕ
  pub is : IsNodeOf P node
  pub there : IsNodeThere P before node bytes rest
  pub earlier : Has before (term_of before node)

-- NodeLarge: it has more symbols than the limit of size
pub record IsLarge (P : Protocol) (before : List Term) (bytes : List ℕ) : Type 0 where
  pub node : TableNode
  pub rest : List ℕ
  pub is : IsNodeOf P node
  pub there : IsNodeThere P before node bytes rest
  pub large : most_symbols < size (term_of before node)

abbrev pub NodeFault : Protocol → List Term → Code → List ℕ → Type 0
NodeFault P before Arity bytes = IsMisapplied P before bytes
NodeFault P before NodeOrder bytes = IsEarlier P before bytes
NodeFault P before NodeLarge bytes = IsLarge P before bytes
NodeFault P before code bytes = ⊥

-- Lines.

-- behind these terms: `n `, a node, and the end of its line
abbrev pub line_behind : Protocol → List Term → Kind
line_behind P before = behind (fixed (codes "n ")) (behind (marked (bodies P (own_number before)) (NodeFault P before)) (fixed (codes "\n")))

-- a node in which no fault stands
pub record IsNew (P : Protocol) (before : List Term) (node : TableNode) : Type 0 where
  pub is : IsNodeOf P node
  pub below : AllByRecursion (IsNumberOf (length before)) (node_numbers node)
  pub new : Has before (term_of before node) → ⊥
  pub small : size (term_of before node) ≤ most_symbols

-- the bytes are the line of such a node, and behind these terms stands its own
pub record LeadsOn (P : Protocol) (before : List Term) (bytes rest : List ℕ) (after : List Term) : Type 0 where
  pub node : TableNode
  pub new : IsNew P before node
  pub text : bytes ≡ 110 ∷ 32 ∷ node_text P node (10 ∷ rest)
  pub so : after ≡ before ++ (term_of before node ∷ [])

abbrev pub node_lines : Protocol → KindIn (List Term)
node_lines P = record { Text = (line_behind P []).Text; Leads = LeadsOn P; Fault = λ before. (line_behind P before).Fault }
