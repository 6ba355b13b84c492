-- Nodes without faults are those of a table in its order, written with the words of the protocol.
use Rattle.std.proofs.Common.{◌≡◌, ℕ, suc, ◌+◌, ◌-◌, ◌<◌, ◌≤◌, Bool, true, false, not, ◌&&◌, ◌||◌, ◌==◌, nat_le, List, [], ◌∷◌, ◌++◌, map, length, drop, Option, Some, None, refl, sym, ◌∙◌, ap, subst, arith, length-append}
use Rattle.std.specs.Prelude.{flat_map, option_and_then}
use Rattle.std.specs.Fmt.{decimal}
use Rattle.std.specs.Option.{is_none, option_map_or}
use Rattle.std.specs.List.{AllByRecursion, list_any}
use Rattle.std.proofs.lemmas.List.{length-map}
use Rattle.std.proofs.lemmas.Bool.Decides.{nat_tests}
use Rattle.spec_trees.specs.Tree.{size}
use Rattle.spec_calculus.specs.Bounds.{most_symbols, most_arguments}
use Rattle.spec_calculus.specs.Syntax.{Protocol}
use Rattle.spec_protocol_scope.specs.Names.{is_variable}
use Rattle.spec_run_text.specs.Reading.{numeral}
use Rattle.spec_run_text.proofs.Numbers.{numeral_some}
use Rattle.spec_terms.specs.Term.{Sym, Ctor, Data, Tuple, Free, Point, Attacker, Term}
use Rattle.spec_clauses.specs.Fact.{same_term}
use Rattle.spec_clauses.proofs.Lists.{all_append}
use Rattle.spec_certificate_text.specs.Loose.{Head, Applied, Tupled, Made, Attackers}
use Rattle.spec_certificate_text.specs.Sides.{first_bound, variable_word}
use Rattle.spec_certificate_text.specs.Words.{symbol_word}
use Rattle.spec_certificate_text.specs.OfProtocol.{IsShort, IsSymbolOf, IsRestriction, HasNames}
use Rattle.spec_certificate_text.specs.Names.{Named, symbol_called, name_called}
use Rattle.spec_certificate_text.proofs.Named.{IsWorded, symbol_called_is, name_called_is}
use Rattle.spec_certificate_text.proofs.Sides.{own_word, bound_word}
use Rattle.spec_certificate_text.proofs.Sound.{same_byte}
use Rattle.spec_certificate_text.proofs.SoundWords.{variable_rest}
use Rattle.spec_node_tables.specs.Nodes.{TableNode, Variable, Over, term_of, terms_from}
use Rattle.spec_node_tables.specs.Text.{symbol_head}
use Rattle.spec_node_tables.specs.Text as table
use Rattle.spec_node_tables.specs.OfProtocol.{IsNodeOf}
use Rattle.spec_node_tables.specs.Large.{is_over}
use Rattle.spec_node_tables.specs.Order.{IsNumberOf, StandInOrder}
use Rattle.spec_node_faults.specs.Loose.{LooseNode, node_line, written_node}
use Rattle.spec_node_faults.specs.Nodes.{Placed, placed, place_if, no_number, NodeAt, nodes_at, is_bound, is_variable_alone, head_digits, arguments_at, is_unknown, not_below, is_misapplied, is_empty, arguments_stand, is_whole, meant, node_numbers, node_symbols, node_arities, node_orders, node_larges, terms_meant}
use Rattle.spec_node_faults.proofs.Meant.{meant_is}

-- Lists that are empty.

pub first_empty : {X : Type 0} (xs ys : List X) → xs ++ ys ≡ [] → xs ≡ []
first_empty [] ys e = refl
first_empty (x ∷ xs) ys e = absurd (cc)

pub second_empty : {X : Type 0} (xs ys : List X) → xs ++ ys ≡ [] → ys ≡ []
second_empty [] ys e = e
second_empty (x ∷ xs) ys e = absurd (cc)

pub each_empty : {X Y : Type 0} (f : X → List Y) (xs : List X) → flat_map f xs ≡ [] → AllByRecursion (λ x. f x ≡ []) xs
each_empty f [] e = tt
each_empty f (x ∷ xs) e = (first_empty (f x) (flat_map f xs) e, each_empty f xs (second_empty (f x) (flat_map f xs) e))

pub not_wrong : (b : Bool) (place : ℕ) → place_if b place ≡ [] → b ≡ false
not_wrong true place e = absurd (cc)
not_wrong false place e = refl

not_both : (a b : Bool) → a ≡ true → (a && b) ≡ false → b ≡ false
not_both true b holds e = e
not_both false b holds e = absurd (cc)

pub neither_first : (a b : Bool) → (a || b) ≡ false → a ≡ false
neither_first true b e = absurd (cc)
neither_first false b e = refl

pub neither_second : (a b : Bool) → (a || b) ≡ false → b ≡ false
neither_second true b e = absurd (cc)
neither_second false b e = e

not_not : (b : Bool) → not b ≡ false → b ≡ true
not_not true e = refl
not_not false e = absurd (cc)

-- Numbers.

pub some_number : (place : ℕ) (o : Option ℕ) → place_if (is_none o) place ≡ [] → (n : ℕ) × (o ≡ Some n)
some_number place None e = absurd (cc)
some_number place (Some n) e = (n, refl)

-- digits that are no fault are those of a number
pub record IsDecimal (digits : List ℕ) : Type 0 where
  pub number : ℕ
  pub is : numeral digits ≡ Some number
  pub text : decimal number ≡ digits
  pub short : IsShort number

pub digits_are : (p : Placed) → no_number p ≡ [] → IsDecimal p.digits
digits_are p e =
    let some = some_number p.place (numeral p.digits) e in
    let so = numeral_some p.digits some.0 some.1 in
    record { number = some.0; is = some.1; text = sym so.0; short = so.1 }

not_out : (own place n : ℕ) → place_if ((n == 0) || nat_le own n) place ≡ [] → (1 ≤ n) × (n < own)
not_out own place n e =
    let none = not_wrong ((n == 0) || nat_le own n) place e in
    let some : (n == 0) ≡ false = neither_first (n == 0) (nat_le own n) none in
    let below : nat_le own n ≡ false = neither_second (n == 0) (nat_le own n) none in
    (grind (arith, nat_tests, some), grind (arith, nat_tests, below))

-- numbers of nodes before the one of that number
record LowerNumbers (own : ℕ) (ds : List (List ℕ)) : Type 0 where
  numbers : List ℕ
  text : map decimal numbers ≡ ds
  short : AllByRecursion IsShort numbers
  below : AllByRecursion (λ n. (1 ≤ n) × (n < own)) numbers

lower_numbers : (own at : ℕ) (ds : List (List ℕ)) → flat_map no_number (placed at ds) ≡ [] → flat_map (not_below own) (placed at ds) ≡ [] → LowerNumbers own ds
lower_numbers own at [] digits below = record { numbers = []; text = refl; short = tt; below = tt }
lower_numbers own at (d ∷ ds) digits below =
    let p : Placed = record { place = at; digits = d } in
    let ps = placed (at + length d + 1) ds in
    let one = digits_are p (first_empty (no_number p) (flat_map no_number ps) digits) in
    let low : place_if ((one.number == 0) || nat_le own one.number) at ≡ [] =
    subst (λ o. option_map_or (λ n. place_if ((n == 0) || nat_le own n) at) o [] ≡ []) one.is (first_empty (not_below own p) (flat_map (not_below own) ps) below) in
    let others = lower_numbers own (at + length d + 1) ds (second_empty (no_number p) (flat_map no_number ps) digits) (second_empty (not_below own p) (flat_map (not_below own) ps) below) in
    let first = one.text in
    let later = others.text in
    record { numbers = one.number ∷ others.numbers; text = ap (λ x. x ∷ map decimal others.numbers) first ∙ ap (λ xs. d ∷ xs) later; short = (one.short, others.short); below = (not_out own at one.number low, others.below) }

-- Nodes.

-- a node of the table that is written so
record IsWritten (P : Protocol) (own : ℕ) (node : LooseNode) : Type 0 where
  found : TableNode
  text : written_node P found ≡ node
  is : IsNodeOf P found
  below : AllByRecursion (λ n. (1 ≤ n) × (n < own)) (table.node_numbers found)

plain_head : (P : Protocol) (f : Sym) → IsWorded f → symbol_head P f ≡ Applied (symbol_word P f)
plain_head P (Ctor f) worded = refl
plain_head P (Data f) worded = refl
plain_head P (Free a) worded = refl
plain_head P (Tuple n) worded = absurd worded
plain_head P (Point p) worded = absurd worded
plain_head P Attacker worded = absurd worded

module _ (P : Protocol) (own : ℕ) where
  over : (f : Sym) (head : Head) (ds : List (List ℕ)) → symbol_head P f ≡ head → LowerNumbers own ds → IsSymbolOf P f (length ds) → IsWritten P own (record { head = head; numbers = ds })
  over f head ds same low is =
      let texts = low.text in
      let many : length low.numbers ≡ length ds = sym (length-map low.numbers decimal) ∙ ap length texts in
      record {
        found = Over f low.numbers;
        text = λ i. record { head = same i; numbers = texts i };
        is = (subst (IsSymbolOf P f) (sym many) is, low.short);
        below = low.below;
      }

  takes : (o : Option Named) (n : ℕ) → is_none o ≡ false → option_map_or (λ called. not (called.arity == n)) o false ≡ false → (called : Named) × (o ≡ Some called) × (called.arity ≡ n)
  takes None n known right = absurd (cc)
  takes (Some called) n known right = let same : (called.arity == n) ≡ true = not_not (called.arity == n) right in (called, refl, grind (arith, nat_tests, same))

  variable : (at : ℕ) (word : List ℕ) → is_variable word ≡ true → flat_map no_number (record { place = at + 1; digits = drop 1 word } ∷ []) ≡ [] → IsWritten P own (record { head = Applied word; numbers = [] })
  variable at word is digits =
      let p : Placed = record { place = at + 1; digits = drop 1 word } in
      let one = digits_are p (first_empty (no_number p) [] digits) in
      let so : variable_word one.number ≡ word = own_word one.number one.short ∙ (ap (λ ds. 118 ∷ ds) one.text ∙ sym (variable_rest word is)) in
      let small = one.short in
      record { found = Variable one.number; text = λ i. record { head = Applied (so i); numbers = [] }; is = omega (arith, small); below = tt }

  bound : (at : ℕ) (word : List ℕ) → is_bound word ≡ true → flat_map no_number (record { place = at + 1; digits = drop 1 word } ∷ []) ≡ [] → IsWritten P own (record { head = Applied word; numbers = [] })
  bound at [] is digits = absurd (cc)
  bound at (b ∷ ds) is digits =
      let p : Placed = record { place = at + 1; digits = ds } in
      let one = digits_are p (first_empty (no_number p) [] digits) in
      let i = one.number in
      let over : first_bound ≤ first_bound + i = omega arith in
      let back : (first_bound + i) - first_bound ≡ i = omega arith in
      let so : variable_word (first_bound + i) ≡ b ∷ ds = bound_word (first_bound + i) over ∙ (ap (λ n. 63 ∷ decimal n) back ∙ (ap (λ k. 63 ∷ k) one.text ∙ ap (λ c. c ∷ ds) (sym (same_byte b 63 is)))) in
      let small = one.short in
      record { found = Variable (first_bound + i); text = λ j. record { head = Applied (so j); numbers = [] }; is = omega (arith, small); below = tt }

  applied : (word : List ℕ) (ds : List (List ℕ)) → LowerNumbers own ds → is_none (symbol_called P word) ≡ false → option_map_or (λ called. not (called.arity == length ds)) (symbol_called P word) false ≡ false → IsWritten P own (record { head = Applied word; numbers = ds })
  applied word ds low known right =
      let called = takes (symbol_called P word) (length ds) known right in
      let is = symbol_called_is P word called.0 called.1 in
      over called.0.symbol (Applied word) ds (plain_head P called.0.symbol is.worded ∙ ap Applied is.has_word) low (subst (IsSymbolOf P called.0.symbol) called.2 is.is_of)

  made : (at : ℕ) (word digits : List ℕ) (ds : List (List ℕ)) → LowerNumbers own ds → no_number (record { place = at; digits = digits }) ≡ []
      → option_map_or (λ point. is_none (name_called P word point)) (numeral digits) false ≡ false
      → option_map_or (λ called. not (called.arity == length ds)) (option_and_then (name_called P word) (numeral digits)) false ≡ false
      → IsWritten P own (record { head = Made word digits; numbers = ds })
  made at word digits ds low number known right =
      let one = digits_are (record { place = at; digits = digits }) number in
      let there : is_none (name_called P word one.number) ≡ false = subst (λ o. option_map_or (λ point. is_none (name_called P word point)) o false ≡ false) one.is known in
      let counted : option_map_or (λ called. not (called.arity == length ds)) (name_called P word one.number) false ≡ false =
      subst (λ o. option_map_or (λ called. not (called.arity == length ds)) (option_and_then (name_called P word) o) false ≡ false) one.is right in
      let called = takes (name_called P word one.number) (length ds) there counted in
      let is = name_called_is P word one.number called.0 called.1 in
      let texts = one.text in
      let words = is.has_word in
      over (Point one.number) (Made word digits) ds (λ i. Made (words i) (texts i)) low (subst (IsRestriction P one.number) called.2 is.is_of, one.short)

  tuple : (ds : List (List ℕ)) → LowerNumbers own ds → not (nat_le 2 (length ds) && nat_le (length ds) most_arguments) ≡ false → IsWritten P own (record { head = Tupled; numbers = ds })
  tuple ds low right =
      let both = not_not (nat_le 2 (length ds) && nat_le (length ds) most_arguments) right in
      let least = and_first (nat_le 2 (length ds)) (nat_le (length ds) most_arguments) both in
      let most = and_second (nat_le 2 (length ds)) (nat_le (length ds) most_arguments) both in
      over (Tuple (length ds)) Tupled ds refl low (refl, grind (arith, nat_tests, least), grind (arith, nat_tests, most))
    where
      and_first : (a b : Bool) → (a && b) ≡ true → a ≡ true
      and_first true b e = refl
      and_first false b e = absurd (cc)

      and_second : (a b : Bool) → (a && b) ≡ true → b ≡ true
      and_second true b e = e
      and_second false b e = absurd (cc)

  attackers : (ds : List (List ℕ)) → LowerNumbers own ds → not (1 == length ds) ≡ false → IsWritten P own (record { head = Attackers; numbers = ds })
  attackers ds low right =
      let same : (1 == length ds) ≡ true = not_not (1 == length ds) right in
      over Attacker Attackers ds refl low (grind (arith, nat_tests, same))

  -- a head and numbers without faults
  node_is : (at : ℕ) (head : Head) (ds : List (List ℕ)) → LowerNumbers own ds → flat_map no_number (head_digits at head (is_variable_alone head ds)) ≡ [] → is_unknown P head ds ≡ false → is_misapplied P head ds ≡ false
      → IsWritten P own (record { head = head; numbers = ds })
  node_is at (Applied word) [] low digits known right = by (is_variable word) refl (is_bound word) refl digits known right
    where
      by : (a : Bool) → is_variable word ≡ a → (b : Bool) → is_bound word ≡ b → flat_map no_number (head_digits at (Applied word) (a || b)) ≡ [] → (not (a || b) && is_none (symbol_called P word)) ≡ false
          → (not (a || b) && option_map_or (λ called. not (called.arity == 0)) (symbol_called P word) false) ≡ false → IsWritten P own (record { head = Applied word; numbers = [] })
      by true is b other numbers known right = variable at word is numbers
      by false no_variable true is numbers known right = bound at word is numbers
      by false no_variable false no_bound numbers known right = applied word [] low known right
  node_is at (Applied word) (d ∷ ds) low digits known right = applied word (d ∷ ds) low known right
  node_is at Tupled ds low digits known right = tuple ds low right
  node_is at (Made word number) ds low digits known right =
      let p : Placed = record { place = at + length word + 1; digits = number } in
      made (at + length word + 1) word number ds low (first_empty (no_number p) [] digits) known right
  node_is at Attackers ds low digits known right = attackers ds low right

-- a node where it stands, in which no fault stands
pub record HasNone (P : Protocol) (x : NodeAt) : Type 0 where
  pub numbers : node_numbers P x ≡ []
  pub symbols : node_symbols P x ≡ []
  pub arities : node_arities P x ≡ []
  pub orders : node_orders P x ≡ []
  pub larges : node_larges P x ≡ []

-- it is a node of the table, new, and within the limit
record IsNewNode (P : Protocol) (x : NodeAt) : Type 0 where
  found : TableNode
  text : written_node P found ≡ x.node
  is : IsNodeOf P found
  below : AllByRecursion (λ n. (1 ≤ n) × (n < x.number)) (table.node_numbers found)
  new : list_any (same_term (term_of x.before found)) x.before ≡ false
  small : size (term_of x.before found) ≤ most_symbols

module _ (P : Protocol) (names : HasNames P) where
  node_stands : (x : NodeAt) → HasNone P x → IsNewNode P x
  node_stands x none =
      let n = x.node in
      let heads = flat_map no_number (head_digits x.place n.head (is_variable_alone n.head n.numbers)) in
      let behind = flat_map no_number (arguments_at x) in
      let below = flat_map (not_below x.number) (arguments_at x) in
      let no_digits : heads ≡ [] = first_empty heads behind none.numbers in
      let no_behind : behind ≡ [] = second_empty heads behind none.numbers in
      let earlier = place_if (is_whole P x && list_any (same_term (meant P x.before n)) x.before) x.place in
      let no_below : below ≡ [] = second_empty earlier below none.orders in
      let known : is_unknown P n.head n.numbers ≡ false = not_wrong (is_unknown P n.head n.numbers) x.place none.symbols in
      let stand : arguments_stand x ≡ true = ap (λ ys. is_empty ys && is_empty below) no_behind ∙ ap (λ ys. is_empty ys) no_below in
      let right : is_misapplied P n.head n.numbers ≡ false = both_false (is_misapplied P n.head n.numbers) (arguments_stand x) stand (not_wrong (is_misapplied P n.head n.numbers && arguments_stand x) x.place none.arities) in
      let first = x.place + length (table.head_text n.head []) + 1 in
      let low = lower_numbers x.number first n.numbers no_behind no_below in
      let is = node_is P x.number x.place n.head n.numbers low no_digits known right in
      let whole : is_whole P x ≡ true =
      ap (λ ys. is_empty ys && is_empty (node_symbols P x) && is_empty (node_arities P x) && arguments_stand x) none.numbers
      ∙ (ap (λ ys. is_empty ys && is_empty (node_arities P x) && arguments_stand x) none.symbols
      ∙ (ap (λ ys. is_empty ys && arguments_stand x) none.arities ∙ stand)) in
      let means : meant P x.before n ≡ term_of x.before is.found = ap (meant P x.before) (sym is.text) ∙ meant_is P names x.before is.found is.is in
      let old : list_any (same_term (meant P x.before n)) x.before ≡ false = not_both (is_whole P x) (list_any (same_term (meant P x.before n)) x.before) whole (not_wrong (is_whole P x && list_any (same_term (meant P x.before n)) x.before) x.place (first_empty earlier below none.orders)) in
      let fits : is_over most_symbols (size (meant P x.before n)) ≡ false = not_both (is_whole P x) (is_over most_symbols (size (meant P x.before n))) whole (not_wrong (is_whole P x && is_over most_symbols (size (meant P x.before n))) x.place none.larges) in
      let within : is_over most_symbols (size (term_of x.before is.found)) ≡ false = ap (λ t. is_over most_symbols (size t)) (sym means) ∙ fits in
      record {
        found = is.found;
        text = is.text;
        is = is.is;
        below = is.below;
        new = ap (λ t. list_any (same_term t) x.before) (sym means) ∙ old;
        small = grind (arith, nat_tests, within);
      }
    where
      both_false : (a b : Bool) → b ≡ true → (a && b) ≡ false → a ≡ false
      both_false true b holds e = absurd (let never : true ≡ false = sym holds ∙ e in cc)
      both_false false b holds e = refl

  none_same : (t : Term) (us : List Term) → list_any (same_term t) us ≡ false → AllByRecursion (λ u. same_term t u ≡ false) us
  none_same t [] e = tt
  none_same t (u ∷ us) e = (neither_first (same_term t u) (list_any (same_term t) us) e, none_same t us (neither_second (same_term t u) (list_any (same_term t) us) e))

  numbers_of : (own before : ℕ) (ns : List ℕ) → own ≡ suc before → AllByRecursion (λ n. (1 ≤ n) × (n < own)) ns → AllByRecursion (IsNumberOf before) ns
  numbers_of own before [] so below = tt
  numbers_of own before (n ∷ ns) so below = let some = below.0.0 in let less = below.0.1 in ((omega arith, omega arith), numbers_of own before ns so below.1)

  -- Nodes one behind another.

  pub record AreNodes (before : List Term) (nodes : List LooseNode) : Type 0 where
    pub found : List TableNode
    pub text : map (written_node P) found ≡ nodes
    pub are : AllByRecursion (IsNodeOf P) found
    pub order : StandInOrder before found
    pub meant : terms_meant P before nodes ≡ terms_from before found
    pub small : AllByRecursion (λ t. size t ≤ most_symbols) (terms_from before found)

  pub nodes_stand : (at number : ℕ) (before : List Term) (nodes : List LooseNode) → number ≡ suc (length before) → AllByRecursion (λ t. size t ≤ most_symbols) before → AllByRecursion (HasNone P) (nodes_at P at number before nodes) → AreNodes before nodes
  nodes_stand at number before [] counted small none = record { found = []; text = refl; are = tt; order = tt; meant = refl; small = small }
  nodes_stand at number before (n ∷ ns) counted small none =
      let x : NodeAt = record { place = at + 2; number = number; before = before; node = n } in
      let one = node_stands x none.0 in
      let t = term_of before one.found in
      let means : meant P before n ≡ t = ap (meant P before) (sym one.text) ∙ meant_is P names before one.found one.is in
      let longer : length (before ++ (t ∷ [])) ≡ length before + 1 = length-append before (t ∷ []) in
      let place = at + length (node_line n []) in
      let others = nodes_stand place (number + 1) (before ++ (t ∷ [])) ns (omega (arith, counted, longer)) (all_append (λ u. size u ≤ most_symbols) before (t ∷ []) small (one.small, tt))
      (subst (λ u. AllByRecursion (HasNone P) (nodes_at P place (number + 1) (before ++ (u ∷ [])) ns)) means none.1) in
      let first = one.text in
      let later = others.text in
      record {
        found = one.found ∷ others.found;
        text = ap (λ m. m ∷ map (written_node P) others.found) first ∙ ap (λ ms. n ∷ ms) later;
        are = (one.is, others.are);
        order = (numbers_of number (length before) (table.node_numbers one.found) counted one.below, none_same t before one.new, others.order);
        meant = ap (λ u. terms_meant P (before ++ (u ∷ [])) ns) means ∙ others.meant;
        small = others.small;
      }
