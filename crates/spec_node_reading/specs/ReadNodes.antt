-- Reading the lines of nodes.
use Rattle.std.specs.Prelude.{ℕ, ◌+◌, ◌==◌, ◌&&◌, ◌||◌, not, nat_le, if◌then◌else◌, Bool, true, List, [], ◌∷◌, ◌++◌, length, take, drop, Option, Some, None, codes}
use Rattle.std.specs.List.{prefix_len, list_any}
use Rattle.spec_trees.specs.Tree.{size}
use Rattle.spec_calculus.specs.Bounds.{most_symbols, most_arguments}
use Rattle.spec_calculus.specs.Syntax.{Protocol}
use Rattle.spec_protocol_tokens.specs.Bytes.{begins_word, is_in_word}
use Rattle.spec_protocol_scope.specs.Names.{is_variable}
use Rattle.spec_run_text.specs.Reading.{numeral}
use Rattle.spec_terms.specs.Term.{Sym, Tuple, Attacker, Term}
use Rattle.spec_clauses.specs.Fact.{same_term}
use Rattle.spec_certificate_text.specs.Sides.{first_bound}
use Rattle.spec_certificate_text.specs.Names.{Named, symbol_called, name_called}
use Rattle.spec_certificate_text.specs.Terms.{Number, Symbol, Arity, NodeOrder, NodeLarge}
use Rattle.spec_certificate_text.specs.Steps.{with_parts}
use Rattle.spec_certificate_text.specs.Outcomes.{Outcome, Found, Faulty, next, front, ended, read_fixed, read_number, Reader}
use Rattle.spec_node_tables.specs.Nodes.{TableNode, Variable, Over, term_of}
use Rattle.spec_node_tables.specs.Large.{is_over}
use Rattle.spec_node_reading.specs.Nodes.{own_number}
use Rattle.spec_node_reading.specs.Loops.{lines_through}

-- what stands before the numbers of a node: a variable, or what names a symbol
pub data HeadRead : Type 0 where
  IsVariable : (x : ℕ) → HeadRead
  Names : (named : Named) → HeadRead

abbrev pub as_variable : ℕ → Option ℕ → ℕ → List ℕ → Outcome HeadRead
as_variable from None place rest = Faulty (from + 1) Number
as_variable from (Some x) place rest = Found (IsVariable x) place rest

-- behind `?`: a number, which is a bound variable's
abbrev pub read_bound : Reader HeadRead
read_bound bytes at = next (read_number bytes at) (λ i p r. Found (IsVariable (first_bound + i)) p r)

abbrev pub as_symbol : ℕ → Option Named → ℕ → List ℕ → Outcome HeadRead
as_symbol from None place rest = Faulty from Symbol
as_symbol from (Some named) place rest = Found (Names named) place rest

-- behind a word that begins at the place: `@` and a number; or nothing, where `v` and digits are a variable unless a space follows
abbrev pub word_head : Protocol → List ℕ → ℕ → ℕ → List ℕ → Outcome HeadRead
word_head P word from place rest =
    if front rest == 64 then next (read_number (drop 1 rest) (place + 1)) (λ point p r. as_symbol from (name_called P word point) p r)
    else (if is_variable word && not (front rest == 32) then as_variable from (numeral (drop 1 word)) place rest
    else as_symbol from (symbol_called P word) place rest)

abbrev pub read_head : Protocol → Reader HeadRead
read_head P bytes at =
    if begins_word (front bytes)
    then ended (at + prefix_len is_in_word bytes) (drop (prefix_len is_in_word bytes) bytes)
    (word_head P (take (prefix_len is_in_word bytes) bytes) at (at + prefix_len is_in_word bytes) (drop (prefix_len is_in_word bytes) bytes))
    else next (read_fixed (codes "()") bytes at) (λ _ p r. Found (Names record { symbol = Tuple 0; arity = 0 }) p r)

-- a number from 1 on, below a node's own
abbrev pub lower_number : ℕ → Reader ℕ
lower_number own bytes at = next (read_number bytes at) (λ n p r. if (n == 0) || nat_le own n then Faulty at NodeOrder else Found n p r)

-- a further number behind a space
abbrev pub spaced_number : ℕ → List ℕ → Reader (List ℕ)
spaced_number own ns bytes at = next (read_fixed (codes " ") bytes at) (λ _ p r. next (lower_number own r p) (λ n p r. Found (ns ++ n ∷ []) p r))

-- numbers, a space before each: of them there are no more than bytes, and one byte stands behind them
abbrev pub read_spaced : ℕ → Reader (List ℕ)
read_spaced own bytes at = next (lines_through 32 (spaced_number own) (length bytes) [] bytes at) (λ ns p r. ended p r (Found ns p r))

-- what a node has, and its numbers: a bound variable has none
pub record NodeRead : Type 0 where
  pub head : HeadRead
  pub numbers : List ℕ

abbrev pub read_body : Protocol → ℕ → Reader NodeRead
read_body P own bytes at =
    if front bytes == 64
    then next (read_fixed (codes "@ ") bytes at) (λ _ p r. next (lower_number own r p) (λ n p r.
    Found (record { head = Names record { symbol = Attacker; arity = 1 }; numbers = n ∷ [] }) p r))
    else (if front bytes == 63 then next (read_bound (drop 1 bytes) (at + 1)) (λ head p r. Found (record { head = head; numbers = [] }) p r)
    else next (read_head P bytes at) (λ head p r. next (read_spaced own r p) (λ ns p r. Found (record { head = head; numbers = ns }) p r)))

-- whether it may have so many numbers
abbrev pub may_take : Sym → ℕ → ℕ → Bool
may_take (Tuple parts) arity n = nat_le 2 n && nat_le n most_arguments
may_take symbol arity n = n == arity

abbrev pub takes : HeadRead → ℕ → Bool
takes (IsVariable x) n = true
takes (Names named) n = may_take named.symbol named.arity n

abbrev pub node_read : HeadRead → List ℕ → TableNode
node_read (IsVariable x) ns = Variable x
node_read (Names named) ns = Over (with_parts named.symbol (length ns)) ns

-- a node that begins at the first place, behind these terms: with it there is its term
abbrev pub judged_node : List Term → ℕ → NodeRead → ℕ → List ℕ → Outcome (List Term)
judged_node before from x place rest =
    let t = term_of before (node_read x.head x.numbers) in
    if not (takes x.head (length x.numbers)) then Faulty from Arity
    else (if list_any (same_term t) before then Faulty from NodeOrder
    else (if is_over most_symbols (size t) then Faulty from NodeLarge
    else Found (before ++ (t ∷ [])) place rest))

-- `n `, a node, and the end of its line
abbrev pub read_node_line : Protocol → List Term → Reader (List Term)
read_node_line P before bytes at =
    next (read_fixed (codes "n ") bytes at) (λ _ from r.
    next (read_body P (own_number before) r from) (λ x p r.
    next (judged_node before from x p r) (λ after p r.
    next (read_fixed (codes "\n") r p) (λ _ p r. Found after p r))))

-- all lines of nodes, and their terms: of them there are no more than bytes
abbrev pub read_nodes : Protocol → Reader (List Term)
read_nodes P bytes at = lines_through 110 (read_node_line P) (length bytes) [] bytes at
