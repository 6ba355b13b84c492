-- The nodes of a certificate that is made of one of a protocol have no faults.
use Rattle.std.proofs.Common.{◌≡◌, ℕ, suc, ◌+◌, ◌<◌, ◌≤◌, Bool, true, false, not, ◌&&◌, ◌||◌, ◌==◌, nat_le, List, [], ◌∷◌, ◌++◌, map, length, refl, sym, ◌∙◌, ap, subst, arith, length-append}
use Rattle.std.specs.Prelude.{flat_map}
use Rattle.std.specs.Fmt.{decimal}
use Rattle.std.specs.Option.{is_none, option_map_or}
use Rattle.std.specs.List.{AllByRecursion, IsDistinct, list_any}
use Rattle.std.proofs.lemmas.List.{length-map, append_assoc}
use Rattle.std.proofs.lemmas.Bool.Decides.{nat_tests}
use Rattle.spec_trees.specs.Tree.{Leaf, Node, items_of, size}
use Rattle.spec_calculus.specs.Bounds.{most_symbols, most_arguments}
use Rattle.spec_calculus.specs.Syntax.{Protocol}
use Rattle.spec_run_text.proofs.Numbers.{numeral-decimal}
use Rattle.spec_terms.specs.Term.{Sym, Ctor, Data, Tuple, Free, Point, Attacker, Term}
use Rattle.spec_clauses.specs.Fact.{same_term}
use Rattle.spec_clauses.specs.Inclusion.{Has}
use Rattle.spec_certificate_text.specs.Loose.{Applied}
use Rattle.spec_certificate_text.specs.Words.{word_at}
use Rattle.spec_certificate_text.specs.OfProtocol.{IsShort, IsSymbolOf, HasNames}
use Rattle.spec_certificate_text.specs.Sides.{variable_word}
use Rattle.spec_certificate_text.specs.Names.{name_called}
use Rattle.spec_certificate_text.proofs.Called.{point_called}
use Rattle.spec_node_tables.specs.Table.{place_in, number_in, arguments_of}
use Rattle.spec_node_tables.specs.Nodes.{TableNode, Variable, Over, node_of, term_of}
use Rattle.spec_node_tables.specs.Text.{symbol_head, node_head, head_text, node_numbers}
use Rattle.spec_node_tables.specs.OfProtocol.{IsNodeOf}
use Rattle.spec_node_tables.specs.Large.{is_over}
use Rattle.spec_node_tables.proofs.Walks.{ArgumentsFirst}
use Rattle.spec_node_tables.proofs.Numbers.{Lacks, place_before, place_within}
use Rattle.spec_node_tables.proofs.Back.{node_back}
use Rattle.spec_node_tables.proofs.Ordered.{Apart, apart_more}
use Rattle.spec_node_faults.specs.Loose.{node_line, written_node}
use Rattle.spec_node_faults.specs.Nodes as faults
use Rattle.spec_node_faults.specs.Nodes.{placed, place_if, no_number, NodeAt, nodes_at, is_variable_alone, named, head_digits, arguments_at, is_unknown, not_below, is_misapplied, arguments_stand, is_whole, meant, node_symbols, node_arities, node_orders, node_larges}
use Rattle.spec_node_faults.proofs.Meant.{VariableWord, own, bound, word_of_variable, stands_alone, named_is, not_alone, meant_is}

-- Lists of places that are empty.

pub none_of : {X : Type 0} (f : X → List ℕ) (xs : List X) → AllByRecursion (λ x. f x ≡ []) xs → flat_map f xs ≡ []
none_of f [] all = refl
none_of f (x ∷ xs) all = ap (λ ys. ys ++ flat_map f xs) all.0 ∙ none_of f xs all.1

pub not_placed : (b : Bool) (place : ℕ) → b ≡ false → place_if b place ≡ []
not_placed b place e = ap (λ c. place_if c place) e

and_false : (a b : Bool) → b ≡ false → (a && b) ≡ false
and_false true b e = e
and_false false b e = refl

-- Numbers.

pub decimal_clear : (at n : ℕ) → IsShort n → no_number (record { place = at; digits = decimal n }) ≡ []
decimal_clear at n short = ap (λ o. place_if (is_none o) at) (numeral-decimal n short)

pub numbers_clear : (at : ℕ) (ns : List ℕ) → AllByRecursion IsShort ns → flat_map no_number (placed at (map decimal ns)) ≡ []
numbers_clear at [] short = refl
numbers_clear at (n ∷ ns) short =
    ap (λ ys. ys ++ flat_map no_number (placed (at + length (decimal n) + 1) (map decimal ns))) (decimal_clear at n short.0)
    ∙ numbers_clear (at + length (decimal n) + 1) ns short.1

-- numbers from 1 up to those below a node's own
abbrev pub AreBelow : ℕ → List ℕ → Type 0
AreBelow number ns = AllByRecursion (λ n. (1 ≤ n) × (n < number)) ns

one_below : (number at n : ℕ) → IsShort n → 1 ≤ n → n < number → not_below number (record { place = at; digits = decimal n }) ≡ []
one_below number at n short some below =
    let zero_not : (n == 0) ≡ false = grind (arith, nat_tests) in
    let over_not : nat_le number n ≡ false = grind (arith, nat_tests) in
    ap (λ o. option_map_or (λ m. place_if ((m == 0) || nat_le number m) at) o []) (numeral-decimal n short)
    ∙ (ap (λ b. place_if (b || nat_le number n) at) zero_not ∙ ap (λ b. place_if b at) over_not)

below_clear : (number at : ℕ) (ns : List ℕ) → AllByRecursion IsShort ns → AreBelow number ns → flat_map (not_below number) (placed at (map decimal ns)) ≡ []
below_clear number at [] short below = refl
below_clear number at (n ∷ ns) short below =
    ap (λ ys. ys ++ flat_map (not_below number) (placed (at + length (decimal n) + 1) (map decimal ns))) (one_below number at n short.0 below.0.0 below.0.1)
    ∙ below_clear number (at + length (decimal n) + 1) ns short.1 below.1

module _ (P : Protocol) (names : HasNames P) where
  head_clear : (at : ℕ) (n : TableNode) → IsNodeOf P n → flat_map no_number (head_digits at (node_head P n) (is_variable_alone (node_head P n) (map decimal (node_numbers n)))) ≡ []
  head_clear at (Variable x) is = ap (λ b. flat_map no_number (head_digits at (Applied (variable_word x)) b)) (stands_alone x is) ∙ by (word_of_variable x is) where
    by : VariableWord x → flat_map no_number (head_digits at (Applied (variable_word x)) true) ≡ []
    by (own short word) = ap (λ w. flat_map no_number (head_digits at (Applied w) true)) word ∙ ap (λ ys. ys ++ []) (decimal_clear (at + 1) x short)
    by (bound i short same word) = ap (λ w. flat_map no_number (head_digits at (Applied w) true)) word ∙ ap (λ ys. ys ++ []) (decimal_clear (at + 1) i short)
  head_clear at (Over f ns) is = ap (λ b. flat_map no_number (head_digits at (symbol_head P f) b)) (not_alone P names f (length ns) (map decimal ns) is.0) ∙ symbol_clear f (length ns) is.0 where
    symbol_clear : (f : Sym) (n : ℕ) → IsSymbolOf P f n → flat_map no_number (head_digits at (symbol_head P f) false) ≡ []
    symbol_clear (Ctor f) n is = refl
    symbol_clear (Data f) n is = refl
    symbol_clear (Tuple m) n is = refl
    symbol_clear (Free a) n is = refl
    symbol_clear (Point p) n is = ap (λ ys. ys ++ []) (decimal_clear (at + length (word_at P p) + 1) p is.1)
    symbol_clear Attacker n is = refl

  -- the symbol over its numbers, as it is counted in the text
  counted : (f : Sym) (ns : List ℕ) → IsSymbolOf P f (length ns) → IsSymbolOf P f (length (map decimal ns))
  counted f ns is = subst (IsSymbolOf P f) (sym (length-map ns decimal)) is

  symbol_known : (f : Sym) (ds : List (List ℕ)) → IsSymbolOf P f (length ds) → is_unknown P (symbol_head P f) ds ≡ false
  symbol_known (Ctor f) ds is = and_false (not (is_variable_alone (symbol_head P (Ctor f)) ds)) (is_none (named P (symbol_head P (Ctor f)) (length ds))) (ap is_none (named_is P names (Ctor f) (length ds) is))
  symbol_known (Data f) ds is = and_false (not (is_variable_alone (symbol_head P (Data f)) ds)) (is_none (named P (symbol_head P (Data f)) (length ds))) (ap is_none (named_is P names (Data f) (length ds) is))
  symbol_known (Tuple m) ds is = refl
  symbol_known (Free a) ds is = and_false (not (is_variable_alone (symbol_head P (Free a)) ds)) (is_none (named P (symbol_head P (Free a)) (length ds))) (ap is_none (named_is P names (Free a) (length ds) is))
  symbol_known (Point p) ds is = ap (λ o. option_map_or (λ point. is_none (name_called P (word_at P p) point)) o false) (numeral-decimal p is.1) ∙ ap is_none (point_called P p (length ds) is.0)
  symbol_known Attacker ds is = refl

  node_known : (n : TableNode) → IsNodeOf P n → is_unknown P (node_head P n) (map decimal (node_numbers n)) ≡ false
  node_known (Variable x) is = ap (λ b. not b && is_none (named P (Applied (variable_word x)) 0)) (stands_alone x is)
  node_known (Over f ns) is = symbol_known f (map decimal ns) (counted f ns is.0)

  takes : (f : Sym) (ds : List (List ℕ)) → IsSymbolOf P f (length ds) → option_map_or (λ called. not (called.arity == length ds)) (named P (symbol_head P f) (length ds)) false ≡ false
  takes f ds is =
      let itself : (length ds == length ds) ≡ true = grind (arith, nat_tests) in
      ap (λ o. option_map_or (λ called. not (called.arity == length ds)) o false) (named_is P names f (length ds) is) ∙ ap not itself

  symbol_takes : (f : Sym) (ds : List (List ℕ)) → IsSymbolOf P f (length ds) → is_misapplied P (symbol_head P f) ds ≡ false
  symbol_takes (Ctor f) ds is = and_false (not (is_variable_alone (symbol_head P (Ctor f)) ds)) (option_map_or (λ called. not (called.arity == length ds)) (named P (symbol_head P (Ctor f)) (length ds)) false) (takes (Ctor f) ds is)
  symbol_takes (Data f) ds is = and_false (not (is_variable_alone (symbol_head P (Data f)) ds)) (option_map_or (λ called. not (called.arity == length ds)) (named P (symbol_head P (Data f)) (length ds)) false) (takes (Data f) ds is)
  symbol_takes (Tuple m) ds is =
      let least : nat_le 2 (length ds) ≡ true = grind (arith, nat_tests, is.1) in
      let most : nat_le (length ds) most_arguments ≡ true = grind (arith, nat_tests, is.2) in
      ap (λ b. not (b && nat_le (length ds) most_arguments)) least ∙ ap not most
  symbol_takes (Free a) ds is = and_false (not (is_variable_alone (symbol_head P (Free a)) ds)) (option_map_or (λ called. not (called.arity == length ds)) (named P (symbol_head P (Free a)) (length ds)) false) (takes (Free a) ds is)
  symbol_takes (Point p) ds is = takes (Point p) ds is
  symbol_takes Attacker ds is = takes Attacker ds is

  node_takes : (n : TableNode) → IsNodeOf P n → is_misapplied P (node_head P n) (map decimal (node_numbers n)) ≡ false
  node_takes (Variable x) is = ap (λ b. not b && option_map_or (λ called. not (called.arity == 0)) (named P (Applied (variable_word x)) 0) false) (stands_alone x is)
  node_takes (Over f ns) is = symbol_takes f (map decimal ns) (counted f ns is.0)

  short_numbers : (n : TableNode) → IsNodeOf P n → AllByRecursion IsShort (node_numbers n)
  short_numbers (Variable x) is = tt
  short_numbers (Over f ns) is = is.1

  -- A node where it stands, of which the numbers are those of nodes before, and the term is new and within the limit.
  pub record IsNew (number : ℕ) (before : List Term) (n : TableNode) : Type 0 where
    pub is : IsNodeOf P n
    pub below : AreBelow number (node_numbers n)
    pub new : list_any (same_term (term_of before n)) before ≡ false
    pub small : size (term_of before n) ≤ most_symbols

  pub record IsClear (x : NodeAt) : Type 0 where
    pub numbers : faults.node_numbers P x ≡ []
    pub symbols : node_symbols P x ≡ []
    pub arities : node_arities P x ≡ []
    pub orders : node_orders P x ≡ []
    pub larges : node_larges P x ≡ []

  pub node_clear : (place number : ℕ) (before : List Term) (n : TableNode) → IsNew number before n → IsClear (record { place = place; number = number; before = before; node = written_node P n })
  node_clear place number before n new =
      let x : NodeAt = record { place = place; number = number; before = before; node = written_node P n } in
      let first = place + length (head_text (node_head P n) []) + 1 in
      let shorts = short_numbers n new.is in
      let behind = numbers_clear first (node_numbers n) shorts in
      let below = below_clear number first (node_numbers n) shorts new.below in
      let test = is_whole P x in
      let meaning : meant P before (written_node P n) ≡ term_of before n = meant_is P names before n new.is in
      let fresh : list_any (same_term (meant P before (written_node P n))) before ≡ false = ap (λ t. list_any (same_term t) before) meaning ∙ new.new in
      let within = new.small in
      let over : is_over most_symbols (size (term_of before n)) ≡ false = grind (arith, nat_tests, within) in
      let fits : is_over most_symbols (size (meant P before (written_node P n))) ≡ false = ap (λ t. is_over most_symbols (size t)) meaning ∙ over in
      record {
        numbers = ap (λ ys. ys ++ flat_map no_number (arguments_at x)) (head_clear place n new.is) ∙ behind;
        symbols = not_placed (is_unknown P (node_head P n) (map decimal (node_numbers n))) place (node_known n new.is);
        arities = ap (λ b. place_if (b && arguments_stand x) place) (node_takes n new.is);
        orders = ap (λ b. place_if b place ++ flat_map (not_below number) (arguments_at x)) (and_false test (list_any (same_term (meant P before (written_node P n))) before) fresh) ∙ below;
        larges = not_placed (test && is_over most_symbols (size (meant P before (written_node P n)))) place (and_false test (is_over most_symbols (size (meant P before (written_node P n)))) fits);
      }

-- All nodes of a table.

lacks_any : (t : Term) (us : List Term) → Lacks us t → list_any (same_term t) us ≡ false
lacks_any t [] lacks = refl
lacks_any t (u ∷ us) lacks = ap (λ b. b || list_any (same_term t) us) lacks.0 ∙ lacks_any t us lacks.1

module _ (P : Protocol) (names : HasNames P) where
  -- the numbers of arguments are those of terms before
  argument_numbers : (all before : List Term) (number : ℕ) (us : List Term) → ((u : Term) → Has before u → number_in all u < number) → AllByRecursion (Has before) us → AreBelow number (map (number_in all) us)
  argument_numbers all before number [] below stand = tt
  argument_numbers all before number (u ∷ us) below stand = let less = below u stand.0 in ((omega arith, omega arith), argument_numbers all before number us below stand.1)

  node_below : (all before : List Term) (number : ℕ) (t : Term) → ((u : Term) → Has before u → number_in all u < number) → AllByRecursion (Has before) (arguments_of t) → AreBelow number (node_numbers (node_of all t))
  node_below all before number (Leaf x) below stand = tt
  node_below all before number (Node f args) below stand = argument_numbers all before number (items_of args) below stand

  pub nodes_clear : (all before ts : List Term) (at number : ℕ) → before ++ ts ≡ all → number ≡ suc (length before) → ArgumentsFirst before ts → Apart before ts → IsDistinct same_term ts
      → AllByRecursion (λ t. IsNodeOf P (node_of all t)) ts → AllByRecursion (λ t. size t ≤ most_symbols) ts
      → AllByRecursion (IsClear P names) (nodes_at P at number before (map (written_node P) (map (node_of all) ts)))
  unfolding IsDistinct
  nodes_clear all before [] at number whole counted first apart differ are small = tt
  nodes_clear all before (t ∷ ts) at number whole counted first apart differ are small =
      let meaning : term_of before (node_of all t) ≡ t = subst (λ vs. term_of before (node_of vs t) ≡ t) whole (node_back before (t ∷ ts) t first.0) in
      let below : (u : Term) → Has before u → number_in all u < number = λ u h.
      let at_same : place_in all u ≡ place_in before u = subst (λ vs. place_in vs u ≡ place_in before u) whole (place_before before (t ∷ ts) u h) in
      let within = place_within before u h in omega arith in
      let new : IsNew P names number before (node_of all t) = record {
        is = are.0;
        below = node_below all before number t below first.0;
        new = ap (λ v. list_any (same_term v) before) meaning ∙ lacks_any t before apart.0;
        small = subst (λ v. size v ≤ most_symbols) (sym meaning) small.0;
      } in
      let meant_so : meant P before (written_node P (node_of all t)) ≡ t = meant_is P names before (node_of all t) are.0 ∙ meaning in
      let place = at + length (node_line (written_node P (node_of all t)) []) in
      let longer : length (before ++ (t ∷ [])) ≡ length before + 1 = length-append before (t ∷ []) in
      let later = nodes_clear all (before ++ (t ∷ [])) ts place (number + 1) (append_assoc before (t ∷ []) ts ∙ whole) (omega arith) first.1 (apart_more before t ts apart.1 differ.0) differ.1 are.1 small.1 in (
        node_clear P names (at + 2) number before (node_of all t) new,
        subst (λ v. AllByRecursion (IsClear P names) (nodes_at P place (number + 1) (before ++ (v ∷ [])) (map (written_node P) (map (node_of all) ts)))) (sym meant_so) later,
      )
