-- What is written with the words of a protocol is of the grammar.
use Rattle.std.proofs.Common.{ℕ, ◌⊎◌, inl, inr, List, [], ◌∷◌, map, length, refl, ◌∙◌, arith, zero, suc}
use Rattle.std.specs.Fmt.{decimal}
use Rattle.std.specs.Prelude.{IfSome}
use Rattle.std.specs.List.{AllByRecursion}
use Rattle.std.proofs.lemmas.List.{length-map}
use Rattle.std.proofs.lemmas.Fmt.{decimal_nonempty}
use Rattle.spec_calculus.specs.Syntax.{Protocol}
use Rattle.spec_terms.specs.Term.{Ctor, Data, Tuple, Free, Point, Attacker}
use Rattle.spec_clauses.specs.Fact.{Fact}
use Rattle.spec_clauses.specs.Fact as fact
use Rattle.spec_certificates.specs.Certificate.{Certificate}
use Rattle.spec_certificate_text.specs.OfProtocol.{IsShort, HasNames}
use Rattle.spec_certificate_text.specs.Sides.{variable_word, SidesOf, SpelledClause, spelled_clause, map_spelled}
use Rattle.spec_certificate_text.specs.Loose.{Applied}
use Rattle.spec_certificate_text.specs.Spelled.{IsWord, IsBoundWord}
use Rattle.spec_certificate_text.proofs.Names.{decimal_digits, event_word_is_word, table_word_is_word}
use Rattle.spec_certificate_text.proofs.Terms.{variable_is_loose}
use Rattle.spec_certificate_text.specs.Readable.{IsRow}
use Rattle.spec_node_tables.specs.Table.{table, number_in}
use Rattle.spec_node_tables.specs.Nodes.{TableNode, Variable, Over, with_nodes}
use Rattle.spec_node_tables.specs.Text.{node_head}
use Rattle.spec_node_tables.specs.Text as short
use Rattle.spec_node_tables.specs.OfProtocol.{IsNodeOf, IsFactOver, AreSidesOver, IsClauseOver}
use Rattle.spec_node_tables.proofs.Lines.{symbol_head_is}
use Rattle.spec_node_tables.proofs.Certificates.{mapped_all, with_nodes_is}
use Rattle.spec_node_tables.proofs.Sizes.{few_nodes}
use Rattle.spec_node_faults.specs.Loose.{phase_digits, written_node, written_fact, written_diff, written_clause, written}
use Rattle.spec_node_faults.specs.Grammar.{IsNumber, IsHeadOf, IsNode, IsHypothesis, IsConclusion, IsDiff, IsClause, IsNumberRow, IsInGrammar, MayBeHypothesis, MayBeConclusion, StandsRight, IsNumberable}

number_is : (n : ℕ) → IsShort n → IsNumber (decimal n)
number_is n small = (decimal_digits n small, let some = decimal_nonempty n (omega arith) in omega arith)

phase_is : (k : ℕ) → IsShort k → IfSome (phase_digits k) IsNumber
phase_is zero small = tt
phase_is (suc k) small = number_is (suc k) small

numbers_are : (ns : List ℕ) → AllByRecursion IsShort ns → AllByRecursion IsNumber (map decimal ns)
numbers_are ns small = mapped_all IsShort IsNumber decimal number_is ns small

variable_head : (word : List ℕ) → IsWord word ⊎ IsBoundWord word → IsHeadOf (Applied word) 0
variable_head word (inl is) = inl is
variable_head word (inr is) = inr (is, refl)

module _ (P : Protocol) (names : HasNames P) where
  head_is : (n : TableNode) → IsNodeOf P n → IsHeadOf (node_head P n) (length (map decimal (short.node_numbers n)))
  head_is (Variable x) is = variable_head (variable_word x) (variable_is_loose x is)
  head_is (Over (Ctor f) ns) is = inl (symbol_head_is P names (Ctor f) (length ns) is.0)
  head_is (Over (Data f) ns) is = inl (symbol_head_is P names (Data f) (length ns) is.0)
  head_is (Over (Tuple m) ns) is = tt
  head_is (Over (Free a) ns) is = inl (symbol_head_is P names (Free a) (length ns) is.0)
  head_is (Over (Point p) ns) is = ((symbol_head_is P names (Point p) (length ns) is.0).0, number_is p is.0.1)
  head_is (Over Attacker ns) is = length-map ns decimal ∙ is.0

  short_numbers : (n : TableNode) → IsNodeOf P n → AllByRecursion IsShort (short.node_numbers n)
  short_numbers (Variable x) is = tt
  short_numbers (Over f ns) is = is.1

  node_is : (n : TableNode) → IsNodeOf P n → IsNode (written_node P n)
  node_is n is = record { head = head_is n is; numbers = numbers_are (short.node_numbers n) (short_numbers n is) }

  hypothesis_is : (f : Fact ℕ) → IsFactOver IsShort P f → MayBeHypothesis f → IsHypothesis (written_fact P f)
  hypothesis_is (fact.Att phase n) is may = record { predicate = (phase_is phase is.0.1, refl); numbers = numbers_are (n ∷ []) is.1; supposed = tt }
  hypothesis_is (fact.Mess phase m n) is may = record { predicate = (phase_is phase is.0.1, refl); numbers = numbers_are (m ∷ n ∷ []) is.1; supposed = tt }
  hypothesis_is (fact.Tab n ns) is may = record { predicate = table_word_is_word P n (length ns) names is.0; numbers = numbers_are ns is.1; supposed = tt }
  hypothesis_is (fact.Ev e ns) is may = record { predicate = event_word_is_word P e (length ns) names is.0; numbers = numbers_are ns is.1; supposed = tt }
  hypothesis_is (fact.Mev e ns) is may = record { predicate = event_word_is_word P e (length ns) names is.0; numbers = numbers_are ns is.1; supposed = tt }
  hypothesis_is (fact.Bad ns) is may = absurd may

  conclusion_is : (f : Fact ℕ) → IsFactOver IsShort P f → MayBeConclusion f → IsConclusion (written_fact P f)
  conclusion_is (fact.Att phase n) is may = record { predicate = (phase_is phase is.0.1, refl); numbers = numbers_are (n ∷ []) is.1; concluded = tt }
  conclusion_is (fact.Mess phase m n) is may = record { predicate = (phase_is phase is.0.1, refl); numbers = numbers_are (m ∷ n ∷ []) is.1; concluded = tt }
  conclusion_is (fact.Tab n ns) is may = record { predicate = table_word_is_word P n (length ns) names is.0; numbers = numbers_are ns is.1; concluded = tt }
  conclusion_is (fact.Ev e ns) is may = record { predicate = event_word_is_word P e (length ns) names is.0; numbers = numbers_are ns is.1; concluded = tt }
  conclusion_is (fact.Mev e ns) is may = absurd may
  conclusion_is (fact.Bad ns) is may = record { predicate = tt; numbers = numbers_are ns is.1; concluded = tt }

  hypotheses_are : (fs : List (Fact ℕ)) → AllByRecursion (IsFactOver IsShort P) fs → AllByRecursion MayBeHypothesis fs → AllByRecursion IsHypothesis (map (written_fact P) fs)
  hypotheses_are [] are may = tt
  hypotheses_are (f ∷ fs) are may = (hypothesis_is f are.0 may.0, hypotheses_are fs are.1 may.1)

  diff_is : (s : SidesOf ℕ) → AreSidesOver IsShort s → IsDiff (written_diff s)
  diff_is s is =
      let lefts = length-map s.left decimal in
      let rights = length-map s.right decimal in
      record {
        left_some = omega (arith, lefts, is.some);
        right_some = omega (arith, rights, is.some, is.paired);
        left = numbers_are s.left is.left;
        right = numbers_are s.right is.right;
      }

  clauses_are : (cs : List (SpelledClause ℕ)) → AllByRecursion (IsClauseOver IsShort P) cs → AllByRecursion StandsRight cs → AllByRecursion IsClause (map (written_clause P) cs)
  clauses_are [] are right = tt
  clauses_are (c ∷ cs) are right = (
    record {
      hypotheses = hypotheses_are c.hypotheses are.0.hypotheses right.0.hypotheses;
      diffs = mapped_all (AreSidesOver IsShort) IsDiff written_diff diff_is c.diffs are.0.diffs;
      conclusion = conclusion_is c.conclusion are.0.conclusion right.0.conclusion;
    },
    clauses_are cs are.1 right.1,
  )

row_is : (ns : List ℕ) → IsRow ns → IsNumberRow (map decimal ns)
row_is [] is = absurd is
row_is (n ∷ ns) is = record { some = omega arith; numbers = numbers_are (n ∷ ns) is }

-- by numbers as with terms

module _ {X Y : Type 0} (f : X → Y) where
  hypothesis_mapped : (h : Fact X) → MayBeHypothesis h → MayBeHypothesis (fact.map_fact f h)
  hypothesis_mapped (fact.Att phase t) may = tt
  hypothesis_mapped (fact.Mess phase t u) may = tt
  hypothesis_mapped (fact.Tab n ts) may = tt
  hypothesis_mapped (fact.Ev e ts) may = tt
  hypothesis_mapped (fact.Mev e ts) may = tt
  hypothesis_mapped (fact.Bad ts) may = may

  conclusion_mapped : (h : Fact X) → MayBeConclusion h → MayBeConclusion (fact.map_fact f h)
  conclusion_mapped (fact.Att phase t) may = tt
  conclusion_mapped (fact.Mess phase t u) may = tt
  conclusion_mapped (fact.Tab n ts) may = tt
  conclusion_mapped (fact.Ev e ts) may = tt
  conclusion_mapped (fact.Mev e ts) may = may
  conclusion_mapped (fact.Bad ts) may = tt

  pub clause_mapped : (c : SpelledClause X) → StandsRight c → StandsRight (map_spelled f c)
  clause_mapped c right = record {
    hypotheses = mapped_all MayBeHypothesis MayBeHypothesis (fact.map_fact f) hypothesis_mapped c.hypotheses right.hypotheses;
    conclusion = conclusion_mapped c.conclusion right.conclusion;
  }

pub written_in_grammar : (P : Protocol) → HasNames P → (c : Certificate) → IsNumberable P c → IsInGrammar (written P (with_nodes c))
written_in_grammar P names c is =
    let few = few_nodes c.clauses is.fits in
    let by_numbers = with_nodes_is P c is.is (omega arith) in
    record {
      nodes = mapped_all (IsNodeOf P) IsNode (written_node P) (node_is P names) (with_nodes c).nodes by_numbers.nodes;
      clauses = clauses_are P names (with_nodes c).clauses by_numbers.clauses (mapped_all StandsRight StandsRight (λ d. map_spelled (number_in (table c.clauses)) (spelled_clause d)) (λ d right. clause_mapped (number_in (table c.clauses)) (spelled_clause d) record { hypotheses = right.hypotheses; conclusion = right.conclusion }) c.clauses is.stands);
      rows = mapped_all IsRow IsNumberRow (map decimal) row_is c.rows is.rows;
      goals = mapped_all IsRow IsNumberRow (map decimal) row_is c.goals is.goals;
    }
