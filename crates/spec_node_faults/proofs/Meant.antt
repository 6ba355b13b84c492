-- What is meant by the nodes of a certificate that is written with the words of a protocol.
use Rattle.std.proofs.Common.{◌≡◌, ℕ, ◌+◌, ◌-◌, ◌<◌, Bool, true, false, ◌==◌, ◌||◌, nat_lt, cond, List, [], ◌∷◌, ◌++◌, map, length, Some, unwrap_or, refl, sym, ◌∙◌, ap, arith}
use Rattle.std.specs.Prelude.{option_and_then}
use Rattle.std.specs.Fmt.{decimal}
use Rattle.std.specs.List.{AllByRecursion}
use Rattle.std.proofs.lemmas.List.{length-map}
use Rattle.std.proofs.lemmas.Bool.{or_right}
use borrow.Author.Tests.{ltb-true, ltb-false}
use Rattle.spec_trees.specs.Tree.{Leaf, node}
use Rattle.spec_calculus.specs.Syntax.{Protocol}
use Rattle.spec_protocol_scope.specs.Names.{is_variable}
use Rattle.spec_protocol_scope.specs.Words.{IsSymbolWord}
use Rattle.spec_run_text.proofs.Numbers.{numeral-decimal}
use Rattle.spec_terms.specs.Term.{Sym, Ctor, Data, Tuple, Free, Point, Attacker, Term}
use Rattle.spec_certificate_text.specs.Loose.{Applied}
use Rattle.spec_certificate_text.specs.Words.{declared_word, word_at}
use Rattle.spec_certificate_text.specs.OfProtocol.{IsShort, IsSymbolOf, most_side_variables, HasNames}
use Rattle.spec_certificate_text.specs.Sides.{first_bound, variable_word}
use Rattle.spec_certificate_text.specs.Spelled.{IsWord}
use Rattle.spec_certificate_text.proofs.Sides.{own_word, bound_word}
use Rattle.spec_certificate_text.proofs.Apart.{word_begins}
use Rattle.spec_certificate_text.proofs.Sound.{same_byte}
use Rattle.spec_certificate_text.proofs.Names.{constructor_word, free_word, symbol_word_is_word, variable_is_variable}
use Rattle.spec_certificate_text.specs.Names.{symbol_called, name_called}
use Rattle.spec_certificate_text.proofs.Called.{free_called, constructor_called, point_called}
use Rattle.spec_node_tables.specs.Nodes.{TableNode, Variable, Over, term_at, term_of, terms_from}
use Rattle.spec_node_tables.specs.Text.{symbol_head}
use Rattle.spec_node_tables.specs.OfProtocol.{IsNodeOf}
use Rattle.spec_node_faults.specs.Loose.{written_node}
use Rattle.spec_node_faults.specs.Nodes.{is_bound, is_variable_alone, named, value, symbol_over, variable_of, meant, terms_meant}

pub value_decimal : (n : ℕ) → IsShort n → value (decimal n) ≡ n
value_decimal n short = ap (λ o. unwrap_or o 0) (numeral-decimal n short)

values_decimal : (ts : List Term) (ns : List ℕ) → AllByRecursion IsShort ns → map (λ d. term_at ts (value d)) (map decimal ns) ≡ map (term_at ts) ns
values_decimal ts [] short = refl
values_decimal ts (n ∷ ns) short = ap (λ m. term_at ts m ∷ map (λ d. term_at ts (value d)) (map decimal ns)) (value_decimal n short.0) ∙ ap (λ us. term_at ts n ∷ us) (values_decimal ts ns short.1)

-- no symbol's word is a bound variable's
not_bound : (word : List ℕ) → IsWord word → is_bound word ≡ false
not_bound [] is = refl
not_bound (b ∷ word) is = by (b == 63) refl
  where
    by : (mark : Bool) → (b == 63) ≡ mark → (b == 63) ≡ false
    by true e = absurd (word_begins (b ∷ word) [] 63 (word ++ []) is refl (ap (λ c. c ∷ (word ++ [])) (same_byte b 63 e)))
    by false e = e

word_alone : (word : List ℕ) (ds : List (List ℕ)) → IsSymbolWord word → is_variable_alone (Applied word) ds ≡ false
word_alone word [] is = ap (λ b. b || is_bound word) is.1 ∙ not_bound word (symbol_word_is_word word is)
word_alone word (d ∷ ds) is = refl

-- the word of a variable, which may be a bound one, stands alone, and means that variable

pub data VariableWord (x : ℕ) : Type 0 where
  own : IsShort x → variable_word x ≡ 118 ∷ decimal x → VariableWord x
  bound : (i : ℕ) → IsShort i → first_bound + i ≡ x → variable_word x ≡ 63 ∷ decimal i → VariableWord x

pub word_of_variable : (x : ℕ) → x < most_side_variables → VariableWord x
word_of_variable x below = by (nat_lt x first_bound) refl
  where
    by : (low : Bool) → nat_lt x first_bound ≡ low → VariableWord x
    by true e = let short = ltb-true x first_bound e in own short (own_word x short)
    by false e = let over = ltb-false x first_bound e in bound (x - first_bound) (omega (arith, below, over)) (omega (arith, over)) (bound_word x over)

pub stands_alone : (x : ℕ) → x < most_side_variables → is_variable_alone (Applied (variable_word x)) [] ≡ true
stands_alone x below = by (word_of_variable x below)
  where
    by : VariableWord x → is_variable_alone (Applied (variable_word x)) [] ≡ true
    by (own short word) = ap (λ w. is_variable w || is_bound w) word ∙ ap (λ b. b || false) (variable_is_variable x short)
    by (bound i short same word) = ap (λ w. is_variable w || is_bound w) word ∙ or_right (is_variable (63 ∷ decimal i)) true refl

means_itself : (x : ℕ) → x < most_side_variables → variable_of (Applied (variable_word x)) ≡ Leaf x
means_itself x below = by (word_of_variable x below)
  where
    by : VariableWord x → variable_of (Applied (variable_word x)) ≡ Leaf x
    by (own short word) = ap (λ w. variable_of (Applied w)) word ∙ ap Leaf (value_decimal x short)
    by (bound i short same word) = ap (λ w. variable_of (Applied w)) word ∙ (ap (λ n. Leaf (first_bound + n)) (value_decimal i short) ∙ ap Leaf same)

module _ (P : Protocol) (names : HasNames P) where
  pub named_is : (f : Sym) (n : ℕ) → IsSymbolOf P f n → named P (symbol_head P f) n ≡ Some record { symbol = f; arity = n }
  named_is (Ctor f) n is = constructor_called P names false f n is
  named_is (Data f) n is = constructor_called P names true f n is
  named_is (Tuple m) n is = ap (λ k. Some record { symbol = Tuple k; arity = n }) (sym is.0)
  named_is (Free a) n is = free_called P names a is.0 ∙ ap (λ k. Some record { symbol = Free a; arity = k }) (sym is.1)
  named_is (Point p) n is = ap (option_and_then (name_called P (word_at P p))) (numeral-decimal p is.1) ∙ point_called P p n is.0
  named_is Attacker n is = ap (λ k. Some record { symbol = Attacker; arity = k }) (sym is)

  pub not_alone : (f : Sym) (n : ℕ) (ds : List (List ℕ)) → IsSymbolOf P f n → is_variable_alone (symbol_head P f) ds ≡ false
  not_alone (Ctor f) n ds is = word_alone (declared_word P.constructors f) ds (constructor_word P false f n names is)
  not_alone (Data f) n ds is = word_alone (declared_word P.constructors f) ds (constructor_word P true f n names is)
  not_alone (Tuple m) n ds is = refl
  not_alone (Free a) n ds is = word_alone (declared_word P.frees a) ds (free_word P a names is.0)
  not_alone (Point p) n ds is = refl
  not_alone Attacker n ds is = refl

  pub meant_is : (ts : List Term) (n : TableNode) → IsNodeOf P n → meant P ts (written_node P n) ≡ term_of ts n
  meant_is ts (Variable x) is =
      ap (λ b. cond b (variable_of (Applied (variable_word x))) (symbol_over ts (symbol_called P (variable_word x)) [])) (stands_alone x is) ∙ means_itself x is
  meant_is ts (Over f ns) is =
      let ds = map decimal ns in
      let called = named_is f (length ns) is.0 in
      let counted : named P (symbol_head P f) (length ds) ≡ Some record { symbol = f; arity = length ns } = ap (named P (symbol_head P f)) (length-map ns decimal) ∙ called in
      ap (λ b. cond b (variable_of (symbol_head P f)) (symbol_over ts (named P (symbol_head P f) (length ds)) ds)) (not_alone f (length ns) ds is.0)
      ∙ (ap (λ o. symbol_over ts o ds) counted ∙ ap (λ us. node f us) (values_decimal ts ns is.1))

  pub terms_meant_are : (before : List Term) (ns : List TableNode) → AllByRecursion (IsNodeOf P) ns → terms_meant P before (map (written_node P) ns) ≡ terms_from before ns
  terms_meant_are before [] are = refl
  terms_meant_are before (n ∷ ns) are =
      ap (λ t. terms_meant P (before ++ (t ∷ [])) (map (written_node P) ns)) (meant_is before n are.0)
      ∙ terms_meant_are (before ++ (term_of before n ∷ [])) ns are.1
