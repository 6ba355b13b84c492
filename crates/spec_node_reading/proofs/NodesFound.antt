-- The texts of nodes that stand in the order of a table are read.
use Rattle.std.proofs.Common.{◌≡◌, ℕ, zero, suc, ◌+◌, ◌<◌, ◌≤◌, ◌==◌, ◌&&◌, ◌||◌, not, nat_le, if◌then◌else◌, Bool, true, false, List, [], ◌∷◌, ◌++◌, length, take, drop, Some, codes, refl, sym, ◌∙◌, ap, subst, arith, append_assoc, length-append}
use Rattle.std.specs.Fmt.{decimal}
use Rattle.std.specs.Char.{is_ascii_digit}
use Rattle.std.specs.List.{AllByRecursion, list_any, prefix_len}
use Rattle.std.proofs.Math.Seq.{drop-append_seam, take-append_seam}
use Rattle.std.proofs.lemmas.List.{append-nil}
use Rattle.std.proofs.lemmas.Bool.Decides.{nat_tests}
use Rattle.spec_trees.specs.Tree.{size}
use Rattle.spec_calculus.specs.Bounds.{most_symbols, most_arguments}
use Rattle.spec_calculus.specs.Syntax.{Protocol}
use Rattle.spec_protocol_tokens.specs.Bytes.{begins_word, is_in_word}
use Rattle.spec_protocol_scope.specs.Names.{is_variable}
use Rattle.spec_run_text.specs.Reading.{numeral}
use Rattle.spec_run_text.proofs.Numbers.{numeral-decimal}
use Rattle.spec_terms.specs.Term.{Ctor, Data, Tuple, Free, Point, Attacker, Term}
use Rattle.spec_clauses.specs.Fact.{same_term}
use Rattle.spec_certificate_text.specs.Spelled.{IsWord, Stops}
use Rattle.spec_certificate_text.specs.Words.{symbol_word, word_at}
use Rattle.spec_certificate_text.specs.Text.{numbers_text}
use Rattle.spec_certificate_text.specs.OfProtocol.{IsShort, IsSymbolOf, HasNames, most_side_variables}
use Rattle.spec_certificate_text.proofs.Names.{constructor_word, free_word, symbol_word_is_word, restriction_word_is_word, variable_is_word, variable_is_variable}
use Rattle.spec_certificate_text.specs.Names.{Named, symbol_called, name_called}
use Rattle.spec_certificate_text.proofs.Called.{free_called, constructor_called, point_called}
use Rattle.spec_certificate_text.specs.Terms.{Arity, Count, NodeOrder, NodeLarge}
use Rattle.spec_certificate_text.specs.Outcomes.{Outcome, Found, Faulty, next, front, ended, read_fixed, read_number}
use Rattle.spec_certificate_text.proofs.Parts.{Finds, joined, when_true, when_false, other_byte, same_byte, fixed_found, run_stops, number_found}
use Rattle.spec_certificate_text.specs.Sides.{first_bound, variable_word}
use Rattle.spec_node_tables.specs.Nodes.{TableNode, Variable, Over, term_of, terms_from}
use Rattle.spec_node_tables.specs.Text.{node_numbers, node_text, node_lines}
use Rattle.spec_node_tables.specs.OfProtocol.{IsNodeOf}
use Rattle.spec_node_tables.specs.Large.{is_over}
use Rattle.spec_node_tables.specs.Order.{IsNumberOf, StandInOrder}
use Rattle.spec_node_faults.proofs.Meant as meant
use Rattle.spec_node_faults.proofs.Meant.{VariableWord, word_of_variable}
use Rattle.spec_node_reading.specs.Nodes.{own_number}
use Rattle.spec_node_reading.specs.Loops.{lines_through}
use Rattle.spec_node_reading.specs.ReadNodes.{HeadRead, IsVariable, Names, as_variable, read_bound, as_symbol, word_head, read_head, lower_number, spaced_number, read_spaced, NodeRead, read_body, takes, node_read, judged_node, read_node_line}

-- Numbers.

lower_found : (own n b : ℕ) (rest : List ℕ) (at : ℕ) → IsShort n → 1 ≤ n → n < own → is_ascii_digit b ≡ false → Finds (lower_number own (decimal n ++ b ∷ rest) at) n (b ∷ rest)
lower_found own n b rest at short some below stops =
    let zero_not : (n == 0) ≡ false = grind (arith, nat_tests, some) in
    let over_not : nat_le own n ≡ false = grind (arith, nat_tests, below) in
    let right : ((n == 0) || nat_le own n) ≡ false = ap (λ c. c || nat_le own n) zero_not ∙ over_not in
    joined (read_number (decimal n ++ b ∷ rest) at) (λ m p k. if (m == 0) || nat_le own m then Faulty at NodeOrder else Found m p k) n (b ∷ rest) n (b ∷ rest) (number_found n b rest at short stops)
    (λ p. when_false ((n == 0) || nat_le own n) (Faulty at NodeOrder) (Found n p (b ∷ rest)) n (b ∷ rest) right record { place = p; is = refl })

abbrev AreLower : ℕ → List ℕ → Type 0
AreLower own ns = AllByRecursion (λ n. (1 ≤ n) × (n < own)) ns

spaced_more : (own most : ℕ) (ns bytes : List ℕ) (at : ℕ) → lines_through 32 (spaced_number own) (suc most) ns bytes at ≡ (if front bytes == 32 then next (spaced_number own ns bytes at) (λ ms p k. lines_through 32 (spaced_number own) most ms k p) else Found ns at bytes)
unfolding lines_through
spaced_more own most ns bytes at = refl

spaced_full : (own : ℕ) (ns bytes : List ℕ) (at : ℕ) → lines_through 32 (spaced_number own) 0 ns bytes at ≡ (if front bytes == 32 then Faulty at Count else Found ns at bytes)
unfolding lines_through
spaced_full own ns bytes at = refl

-- a further number, before one more or the end of the line
further_found : (own : ℕ) (ms : List ℕ) (n : ℕ) (ns rest : List ℕ) (at : ℕ) → IsShort n → 1 ≤ n → n < own → Finds (spaced_number own ms (32 ∷ (decimal n ++ numbers_text ns (10 ∷ rest))) at) (ms ++ n ∷ []) (numbers_text ns (10 ∷ rest))
further_found own ms n [] rest at short some below =
    joined (read_fixed (codes " ") (32 ∷ (decimal n ++ 10 ∷ rest)) at) (λ _ p r. next (lower_number own r p) (λ n p r. Found (ms ++ n ∷ []) p r)) tt (decimal n ++ 10 ∷ rest) (ms ++ n ∷ []) (10 ∷ rest) (fixed_found (codes " ") (decimal n ++ 10 ∷ rest) at)
    (λ p. joined (lower_number own (decimal n ++ 10 ∷ rest) p) (λ n p r. Found (ms ++ n ∷ []) p r) n (10 ∷ rest) (ms ++ n ∷ []) (10 ∷ rest) (lower_found own n 10 rest p short some below refl) (λ q. record { place = q; is = refl }))
further_found own ms n (m ∷ ns) rest at short some below =
    let later = decimal m ++ numbers_text ns (10 ∷ rest) in
    joined (read_fixed (codes " ") (32 ∷ (decimal n ++ 32 ∷ later)) at) (λ _ p r. next (lower_number own r p) (λ n p r. Found (ms ++ n ∷ []) p r)) tt (decimal n ++ 32 ∷ later) (ms ++ n ∷ []) (32 ∷ later) (fixed_found (codes " ") (decimal n ++ 32 ∷ later) at)
    (λ p. joined (lower_number own (decimal n ++ 32 ∷ later) p) (λ n p r. Found (ms ++ n ∷ []) p r) n (32 ∷ later) (ms ++ n ∷ []) (32 ∷ later) (lower_found own n 32 later p short some below refl) (λ q. record { place = q; is = refl }))

spaced_found : (own most : ℕ) (ms ns rest : List ℕ) (at : ℕ) → length ns ≤ most → AllByRecursion IsShort ns → AreLower own ns → Finds (lines_through 32 (spaced_number own) most ms (numbers_text ns (10 ∷ rest)) at) (ms ++ ns) (10 ∷ rest)
spaced_found own zero ms [] rest at few short lower =
    subst (λ ns. Finds (lines_through 32 (spaced_number own) 0 ms (10 ∷ rest) at) ns (10 ∷ rest)) (sym (append-nil ms)) record { place = at; is = spaced_full own ms (10 ∷ rest) at }
spaced_found own zero ms (n ∷ ns) rest at few short lower = absurd (omega (arith, few))
spaced_found own (suc most) ms [] rest at few short lower =
    subst (λ ns. Finds (lines_through 32 (spaced_number own) (suc most) ms (10 ∷ rest) at) ns (10 ∷ rest)) (sym (append-nil ms)) record { place = at; is = spaced_more own most ms (10 ∷ rest) at }
spaced_found own (suc most) ms (n ∷ ns) rest at few short lower =
    let bytes = numbers_text (n ∷ ns) (10 ∷ rest) in
    let same : (ms ++ n ∷ []) ++ ns ≡ ms ++ n ∷ ns = append_assoc ms (n ∷ []) ns in
    let found = joined (spaced_number own ms bytes at) (λ ms p k. lines_through 32 (spaced_number own) most ms k p) (ms ++ n ∷ []) (numbers_text ns (10 ∷ rest)) (ms ++ n ∷ ns) (10 ∷ rest) (further_found own ms n ns rest at short.0 lower.0.0 lower.0.1)
    (λ p. subst (λ xs. Finds (lines_through 32 (spaced_number own) most (ms ++ n ∷ []) (numbers_text ns (10 ∷ rest)) p) xs (10 ∷ rest)) same (spaced_found own most (ms ++ n ∷ []) ns rest p (omega (arith, few)) short.1 lower.1)) in
    record { place = found.place; is = spaced_more own most ms bytes at ∙ found.is }

numbers_long : (ns k : List ℕ) → length ns ≤ length (numbers_text ns k)
numbers_long [] k = omega arith
numbers_long (n ∷ ns) k = let more = numbers_long ns k in omega (arith, more, length-append (decimal n) (numbers_text ns k))

read_spaced-found : (own : ℕ) (ns rest : List ℕ) (at : ℕ) → AllByRecursion IsShort ns → AreLower own ns → Finds (read_spaced own (numbers_text ns (10 ∷ rest)) at) ns (10 ∷ rest)
read_spaced-found own ns rest at short lower =
    let bytes = numbers_text ns (10 ∷ rest) in
    joined (lines_through 32 (spaced_number own) (length bytes) [] bytes at) (λ ns p r. ended p r (Found ns p r)) ns (10 ∷ rest) ns (10 ∷ rest) (spaced_found own (length bytes) [] ns rest at (numbers_long ns (10 ∷ rest)) short lower)
    (λ p. record { place = p; is = refl })

-- What stands behind a head.

abbrev behind_head : List ℕ → List ℕ → List ℕ
behind_head ns rest = numbers_text ns (10 ∷ rest)

stops_word : (ns rest : List ℕ) → Stops is_in_word (behind_head ns rest)
stops_word [] rest = refl
stops_word (n ∷ ns) rest = refl

goes_on : {A : Type 0} (ns rest : List ℕ) (place : ℕ) (o : Outcome A) → ended place (behind_head ns rest) o ≡ o
goes_on [] rest place o = refl
goes_on (n ∷ ns) rest place o = refl

no_point : (ns rest : List ℕ) → (front (behind_head ns rest) == 64) ≡ false
no_point [] rest = refl
no_point (n ∷ ns) rest = refl

-- Heads.

abbrev head_for : TableNode → HeadRead
head_for (Variable x) = IsVariable x
head_for (Over (Ctor f) ns) = Names record { symbol = Ctor f; arity = length ns }
head_for (Over (Data f) ns) = Names record { symbol = Data f; arity = length ns }
head_for (Over (Tuple m) ns) = Names record { symbol = Tuple 0; arity = 0 }
head_for (Over (Free a) ns) = Names record { symbol = Free a; arity = length ns }
head_for (Over (Point p) ns) = Names record { symbol = Point p; arity = length ns }
head_for (Over Attacker ns) = Names record { symbol = Attacker; arity = 1 }

word_begins : (word k : List ℕ) → IsWord word → begins_word (front (word ++ k)) ≡ true
word_begins [] k is = absurd (let never : false ≡ true = is.begins in cc)
word_begins (b ∷ word) k is = is.begins

-- no byte stands before a word's that begins none
word_front : (word k : List ℕ) (b : ℕ) → IsWord word → begins_word b ≡ false → (front (word ++ k) == b) ≡ false
word_front word k b is none = other_byte (front (word ++ k)) b (λ same. let never : false ≡ true = sym none ∙ (ap begins_word (sym same) ∙ word_begins word k is) in cc)

module _ (P : Protocol) where
  -- a word that does not go on, and what is found behind it
  word_found : (word k : List ℕ) (at : ℕ) (head : HeadRead) (rest : List ℕ) → IsWord word → Stops is_in_word k → ((place : ℕ) (o : Outcome HeadRead) → ended place k o ≡ o) → ((place : ℕ) → Finds (word_head P word at place k) head rest) → Finds (read_head P (word ++ k) at) head rest
  word_found word k at head rest is stops on found =
      let bytes = word ++ k in
      let long = prefix_len is_in_word bytes in
      let so : long ≡ length word = run_stops is_in_word word k is.goes_on stops in
      let first : take long bytes ≡ word = ap (λ n. take n bytes) so ∙ take-append_seam word k in
      let later : drop long bytes ≡ k = ap (λ n. drop n bytes) so ∙ drop-append_seam word k in
      let named = found (at + long) in
      let read : ended (at + long) (drop long bytes) (word_head P (take long bytes) at (at + long) (drop long bytes)) ≡ word_head P word at (at + long) k =
      ap (λ bs. ended (at + long) bs (word_head P (take long bytes) at (at + long) bs)) later ∙ (on (at + long) (word_head P (take long bytes) at (at + long) k) ∙ ap (λ w. word_head P w at (at + long) k) first) in
      when_true (begins_word (front bytes)) (ended (at + long) (drop long bytes) (word_head P (take long bytes) at (at + long) (drop long bytes))) (next (read_fixed (codes "()") bytes at) (λ _ p r. Found (Names record { symbol = Tuple 0; arity = 0 }) p r)) head rest (word_begins word k is) record { place = named.place; is = read ∙ named.is }

  -- a word that is that of a symbol, and no variable's
  symbol_found : (word : List ℕ) (named : Named) (ns rest : List ℕ) (at : ℕ) → IsWord word → is_variable word ≡ false → symbol_called P word ≡ Some named → Finds (read_head P (word ++ behind_head ns rest) at) (Names named) (behind_head ns rest)
  symbol_found word named ns rest at is other called =
      let k = behind_head ns rest in
      word_found word k at (Names named) k is (stops_word ns rest) (λ place o. goes_on ns rest place o)
      (λ place.
      let point = next (read_number (drop 1 k) (place + 1)) (λ point p r. as_symbol at (name_called P word point) p r) in
      let alone = is_variable word && not (front k == 32) in
      let no_variable : alone ≡ false = ap (λ b. b && not (front k == 32)) other in
      when_false (front k == 64) point (if alone then as_variable at (numeral (drop 1 word)) place k else as_symbol at (symbol_called P word) place k) (Names named) k (no_point ns rest)
      (when_false alone (as_variable at (numeral (drop 1 word)) place k) (as_symbol at (symbol_called P word) place k) (Names named) k no_variable record { place = place; is = ap (λ o. as_symbol at o place k) called }))

  variable_found : (x : ℕ) (rest : List ℕ) (at : ℕ) → IsShort x → Finds (read_head P ((118 ∷ decimal x) ++ (10 ∷ rest)) at) (IsVariable x) (10 ∷ rest)
  variable_found x rest at short =
      let word = 118 ∷ decimal x in
      word_found word (10 ∷ rest) at (IsVariable x) (10 ∷ rest) (variable_is_word x short) refl (λ place o. refl)
      (λ place. when_true (is_variable word && true) (as_variable at (numeral (decimal x)) place (10 ∷ rest)) (as_symbol at (symbol_called P word) place (10 ∷ rest)) (IsVariable x) (10 ∷ rest) (ap (λ b. b && true) (variable_is_variable x short))
      record { place = place; is = ap (λ o. as_variable at o place (10 ∷ rest)) (numeral-decimal x short) })

  point_found : (names : HasNames P) (p : ℕ) (ns rest : List ℕ) (at : ℕ) → IsSymbolOf P (Point p) (length ns) → Finds (read_head P (word_at P p ++ (64 ∷ (decimal p ++ behind_head ns rest))) at) (Names record { symbol = Point p; arity = length ns }) (behind_head ns rest)
  point_found names p ns rest at is =
      let word = word_at P p in
      let k = behind_head ns rest in
      let named : Named = record { symbol = Point p; arity = length ns } in
      word_found word (64 ∷ (decimal p ++ k)) at (Names named) k (restriction_word_is_word P p (length ns) names is.0) refl (λ place o. refl)
      (λ place. joined (read_number (decimal p ++ k) (place + 1)) (λ point p r. as_symbol at (name_called P word point) p r) p k (Names named) k (digits p (place + 1) ns is.1)
      (λ q. record { place = q; is = ap (λ o. as_symbol at o q k) (point_called P p (length ns) is.0) }))
    where
      digits : (p : ℕ) (place : ℕ) (ns : List ℕ) → IsShort p → Finds (read_number (decimal p ++ behind_head ns rest) place) p (behind_head ns rest)
      digits p place [] short = number_found p 10 rest place short refl
      digits p place (n ∷ ns) short = number_found p 32 (decimal n ++ numbers_text ns (10 ∷ rest)) place short refl

  -- a symbol but the attacker's over numbers
  abbrev IsPlainNode : TableNode → Type 0
  IsPlainNode (Variable x) = ⊥
  IsPlainNode (Over Attacker ns) = ⊥
  IsPlainNode (Over f ns) = Unit {0}

  head_found : HasNames P → (node : TableNode) (rest : List ℕ) (at : ℕ) → IsNodeOf P node → IsPlainNode node → Finds (read_head P (node_text P node (10 ∷ rest)) at) (head_for node) (behind_head (node_numbers node) rest)
  head_found names (Variable x) rest at is other = absurd other
  head_found names (Over (Ctor f) ns) rest at is other = let word = constructor_word P false f (length ns) names is.0 in symbol_found (symbol_word P (Ctor f)) record { symbol = Ctor f; arity = length ns } ns rest at (symbol_word_is_word (symbol_word P (Ctor f)) word) word.1 (constructor_called P names false f (length ns) is.0)
  head_found names (Over (Data f) ns) rest at is other = let word = constructor_word P true f (length ns) names is.0 in symbol_found (symbol_word P (Data f)) record { symbol = Data f; arity = length ns } ns rest at (symbol_word_is_word (symbol_word P (Data f)) word) word.1 (constructor_called P names true f (length ns) is.0)
  head_found names (Over (Tuple m) ns) rest at is other =
      let k = behind_head ns rest in
      let tuple : HeadRead = Names record { symbol = Tuple 0; arity = 0 } in
      joined (read_fixed (codes "()") (40 ∷ 41 ∷ k) at) (λ _ p r. Found tuple p r) tt k tuple k (fixed_found (codes "()") k at) (λ q. record { place = q; is = refl })
  head_found names (Over (Free a) ns) rest at is other =
      let word = free_word P a names is.0.0 in
      let none : length ns ≡ 0 = is.0.1 in
      symbol_found (symbol_word P (Free a)) record { symbol = Free a; arity = length ns } ns rest at (symbol_word_is_word (symbol_word P (Free a)) word) word.1 (free_called P names a is.0.0 ∙ ap (λ n. Some record { symbol = Free a; arity = n }) (sym none))
  head_found names (Over (Point p) ns) rest at is other = point_found names p ns rest at is.0
  head_found names (Over Attacker ns) rest at is other = absurd other

  -- Whole nodes.

  abbrev as_read : HeadRead → List ℕ → NodeRead
  as_read head ns = record { head = head; numbers = ns }

  short_numbers : (node : TableNode) → IsNodeOf P node → AllByRecursion IsShort (node_numbers node)
  short_numbers (Variable x) is = tt
  short_numbers (Over f ns) is = is.1

  -- no byte stands before its head that begins no word, but `(`
  head_front : HasNames P → (node : TableNode) (k : List ℕ) (b : ℕ) → begins_word b ≡ false → (40 == b) ≡ false → IsNodeOf P node → IsPlainNode node → (front (node_text P node k) == b) ≡ false
  head_front names (Variable x) k b none other is plain = absurd plain
  head_front names (Over (Ctor f) ns) k b none other is plain = word_front (symbol_word P (Ctor f)) (numbers_text ns k) b (symbol_word_is_word (symbol_word P (Ctor f)) (constructor_word P false f (length ns) names is.0)) none
  head_front names (Over (Data f) ns) k b none other is plain = word_front (symbol_word P (Data f)) (numbers_text ns k) b (symbol_word_is_word (symbol_word P (Data f)) (constructor_word P true f (length ns) names is.0)) none
  head_front names (Over (Tuple m) ns) k b none other is plain = other
  head_front names (Over (Free a) ns) k b none other is plain = word_front (symbol_word P (Free a)) (numbers_text ns k) b (symbol_word_is_word (symbol_word P (Free a)) (free_word P a names is.0.0)) none
  head_front names (Over (Point p) ns) k b none other is plain = word_front (word_at P p) (64 ∷ (decimal p ++ numbers_text ns k)) b (restriction_word_is_word P p (length ns) names is.0.0) none
  head_front names (Over Attacker ns) k b none other is plain = absurd plain

  abbrev read_attacker : ℕ → List ℕ → ℕ → Outcome NodeRead
  read_attacker own bytes at = next (read_fixed (codes "@ ") bytes at) (λ _ p r. next (lower_number own r p) (λ n p r. Found (as_read (Names record { symbol = Attacker; arity = 1 }) (n ∷ [])) p r))

  abbrev read_bound_one : List ℕ → ℕ → Outcome NodeRead
  read_bound_one bytes at = next (read_bound (drop 1 bytes) (at + 1)) (λ head p r. Found (as_read head []) p r)

  abbrev read_headed : ℕ → List ℕ → ℕ → Outcome NodeRead
  read_headed own bytes at = next (read_head P bytes at) (λ head p r. next (read_spaced own r p) (λ ns p r. Found (as_read head ns) p r))

  plain_found : HasNames P → (own : ℕ) (node : TableNode) (rest : List ℕ) (at : ℕ) → IsNodeOf P node → IsPlainNode node → AreLower own (node_numbers node) → Finds (read_body P own (node_text P node (10 ∷ rest)) at) (as_read (head_for node) (node_numbers node)) (10 ∷ rest)
  plain_found names own node rest at is plain lower =
      let ns = node_numbers node in
      let bytes = node_text P node (10 ∷ rest) in
      let end = as_read (head_for node) ns in
      when_false (front bytes == 64) (read_attacker own bytes at) (if front bytes == 63 then read_bound_one bytes at else read_headed own bytes at) end (10 ∷ rest) (head_front names node (10 ∷ rest) 64 refl refl is plain)
      (when_false (front bytes == 63) (read_bound_one bytes at) (read_headed own bytes at) end (10 ∷ rest) (head_front names node (10 ∷ rest) 63 refl refl is plain)
      (joined (read_head P bytes at) (λ head p r. next (read_spaced own r p) (λ ns p r. Found (as_read head ns) p r)) (head_for node) (behind_head ns rest) end (10 ∷ rest) (head_found names node rest at is plain)
      (λ p. joined (read_spaced own (behind_head ns rest) p) (λ ns p r. Found (as_read (head_for node) ns) p r) ns (10 ∷ rest) end (10 ∷ rest) (read_spaced-found own ns rest p (short_numbers node is) lower) (λ q. record { place = q; is = refl }))))

  -- a variable, which may be a bound one
  leaf_found : (own x : ℕ) (rest : List ℕ) (at : ℕ) → x < most_side_variables → Finds (read_body P own (node_text P (Variable x) (10 ∷ rest)) at) (as_read (IsVariable x) []) (10 ∷ rest)
  leaf_found own x rest at below = by (word_of_variable x below)
    where
      own_found : IsShort x → Finds (read_body P own ((118 ∷ decimal x) ++ (10 ∷ rest)) at) (as_read (IsVariable x) []) (10 ∷ rest)
      own_found short =
          let bytes = (118 ∷ decimal x) ++ (10 ∷ rest) in
          let end = as_read (IsVariable x) [] in
          joined (read_head P bytes at) (λ head p r. next (read_spaced own r p) (λ ns p r. Found (as_read head ns) p r)) (IsVariable x) (10 ∷ rest) end (10 ∷ rest) (variable_found x rest at short)
          (λ p. joined (read_spaced own (10 ∷ rest) p) (λ ns p r. Found (as_read (IsVariable x) ns) p r) [] (10 ∷ rest) end (10 ∷ rest) (read_spaced-found own [] rest p tt tt) (λ q. record { place = q; is = refl }))

      bound_found : (i : ℕ) → IsShort i → Finds (read_body P own ((63 ∷ decimal i) ++ (10 ∷ rest)) at) (as_read (IsVariable (first_bound + i)) []) (10 ∷ rest)
      bound_found i short =
          let inner = decimal i ++ (10 ∷ rest) in
          let head : HeadRead = IsVariable (first_bound + i) in
          joined (read_bound inner (at + 1)) (λ head p r. Found (as_read head []) p r) head (10 ∷ rest) (as_read head []) (10 ∷ rest)
          (joined (read_number inner (at + 1)) (λ i p r. Found (IsVariable (first_bound + i)) p r) i (10 ∷ rest) head (10 ∷ rest) (number_found i 10 rest (at + 1) short refl) (λ p. record { place = p; is = refl })) (λ p. record { place = p; is = refl })

      by : VariableWord x → Finds (read_body P own (variable_word x ++ (10 ∷ rest)) at) (as_read (IsVariable x) []) (10 ∷ rest)
      by (meant.own short word) = subst (λ w. Finds (read_body P own (w ++ (10 ∷ rest)) at) (as_read (IsVariable x) []) (10 ∷ rest)) (sym word) (own_found short)
      by (meant.bound i short same word) =
          subst (λ w. Finds (read_body P own (w ++ (10 ∷ rest)) at) (as_read (IsVariable x) []) (10 ∷ rest)) (sym word)
          (subst (λ y. Finds (read_body P own ((63 ∷ decimal i) ++ (10 ∷ rest)) at) (as_read (IsVariable y) []) (10 ∷ rest)) same (bound_found i short))

  attacker_found : (own : ℕ) (ns rest : List ℕ) (at : ℕ) → length ns ≡ 1 → AllByRecursion IsShort ns → AreLower own ns → Finds (read_body P own (64 ∷ numbers_text ns (10 ∷ rest)) at) (as_read (Names record { symbol = Attacker; arity = 1 }) ns) (10 ∷ rest)
  attacker_found own [] rest at one short lower = absurd (omega (arith, one))
  attacker_found own (n ∷ []) rest at one short lower =
      let attacker : HeadRead = Names record { symbol = Attacker; arity = 1 } in
      let inner = decimal n ++ 10 ∷ rest in
      joined (read_fixed (codes "@ ") (64 ∷ 32 ∷ inner) at) (λ _ p r. next (lower_number own r p) (λ n p r. Found (as_read attacker (n ∷ [])) p r)) tt inner (as_read attacker (n ∷ [])) (10 ∷ rest) (fixed_found (codes "@ ") inner at)
      (λ p. joined (lower_number own inner p) (λ n p r. Found (as_read attacker (n ∷ [])) p r) n (10 ∷ rest) (as_read attacker (n ∷ [])) (10 ∷ rest) (lower_found own n 10 rest p short.0 lower.0.0 lower.0.1 refl) (λ q. record { place = q; is = refl }))
  attacker_found own (m ∷ n ∷ ns) rest at one short lower = absurd (omega (arith, one))

  body_found : HasNames P → (own : ℕ) (node : TableNode) (rest : List ℕ) (at : ℕ) → IsNodeOf P node → AreLower own (node_numbers node) → Finds (read_body P own (node_text P node (10 ∷ rest)) at) (as_read (head_for node) (node_numbers node)) (10 ∷ rest)
  body_found names own (Variable x) rest at is lower = leaf_found own x rest at is
  body_found names own (Over (Ctor f) ns) rest at is lower = plain_found names own (Over (Ctor f) ns) rest at is tt lower
  body_found names own (Over (Data f) ns) rest at is lower = plain_found names own (Over (Data f) ns) rest at is tt lower
  body_found names own (Over (Tuple m) ns) rest at is lower = plain_found names own (Over (Tuple m) ns) rest at is tt lower
  body_found names own (Over (Free a) ns) rest at is lower = plain_found names own (Over (Free a) ns) rest at is tt lower
  body_found names own (Over (Point p) ns) rest at is lower = plain_found names own (Over (Point p) ns) rest at is tt lower
  body_found names own (Over Attacker ns) rest at is lower = attacker_found own ns rest at is.0 is.1 lower

  takes_so : (node : TableNode) → IsNodeOf P node → takes (head_for node) (length (node_numbers node)) ≡ true
  takes_so (Variable x) is = refl
  takes_so (Over (Ctor f) ns) is = same_byte (length ns)
  takes_so (Over (Data f) ns) is = same_byte (length ns)
  takes_so (Over (Tuple m) ns) is =
      let least = is.0.1 in
      let most = is.0.2 in
      let one : nat_le 2 (length ns) ≡ true = grind (arith, nat_tests, least) in
      let two : nat_le (length ns) most_arguments ≡ true = grind (arith, nat_tests, most) in
      ap (λ b. b && nat_le (length ns) most_arguments) one ∙ two
  takes_so (Over (Free a) ns) is = same_byte (length ns)
  takes_so (Over (Point p) ns) is = same_byte (length ns)
  takes_so (Over Attacker ns) is = ap (λ n. n == 1) is.0

  read_again : (node : TableNode) → IsNodeOf P node → node_read (head_for node) (node_numbers node) ≡ node
  read_again (Variable x) is = refl
  read_again (Over (Ctor f) ns) is = refl
  read_again (Over (Data f) ns) is = refl
  read_again (Over (Tuple m) ns) is = ap (λ k. Over (Tuple k) ns) (sym is.0.0)
  read_again (Over (Free a) ns) is = refl
  read_again (Over (Point p) ns) is = refl
  read_again (Over Attacker ns) is = refl

  not_there : (t : Term) (us : List Term) → AllByRecursion (λ u. same_term t u ≡ false) us → list_any (same_term t) us ≡ false
  not_there t [] new = refl
  not_there t (u ∷ us) new = ap (λ b. b || list_any (same_term t) us) new.0 ∙ not_there t us new.1

  -- what a node is judged to be
  abbrev judged_as : List Term → ℕ → Bool → TableNode → ℕ → List ℕ → Outcome (List Term)
  judged_as before from fits node place rest =
      if not fits then Faulty from Arity
      else (if list_any (same_term (term_of before node)) before then Faulty from NodeOrder
      else (if is_over most_symbols (size (term_of before node)) then Faulty from NodeLarge
      else Found (before ++ (term_of before node ∷ [])) place rest))

  judged_found : (before : List Term) (from : ℕ) (node : TableNode) (place : ℕ) (rest : List ℕ) → IsNodeOf P node → AllByRecursion (λ t. same_term (term_of before node) t ≡ false) before → size (term_of before node) ≤ most_symbols
      → judged_node before from (as_read (head_for node) (node_numbers node)) place rest ≡ Found (before ++ (term_of before node ∷ [])) place rest
  judged_found before from node place rest is new small =
      let t = term_of before node in
      let found = Found (before ++ (t ∷ [])) place rest in
      let fits : is_over most_symbols (size t) ≡ false = grind (arith, nat_tests, small) in
      ap (λ m. judged_as before from (takes (head_for node) (length (node_numbers node))) m place rest) (read_again node is)
      ∙ (ap (λ b. judged_as before from b node place rest) (takes_so node is)
      ∙ (ap (λ b. if b then Faulty from NodeOrder else (if is_over most_symbols (size t) then Faulty from NodeLarge else found)) (not_there t before new)
      ∙ ap (λ b. if b then Faulty from NodeLarge else found) fits))

  lower_than : (before : List Term) (ns : List ℕ) → AllByRecursion (IsNumberOf (length before)) ns → AreLower (own_number before) ns
  lower_than before [] numbers = tt
  lower_than before (n ∷ ns) numbers = let some = numbers.0.0 in let most = numbers.0.1 in ((some, omega arith), lower_than before ns numbers.1)

  pub node_line-found : HasNames P → (before : List Term) (node : TableNode) (rest : List ℕ) (at : ℕ) → IsNodeOf P node → AllByRecursion (IsNumberOf (length before)) (node_numbers node) → AllByRecursion (λ t. same_term (term_of before node) t ≡ false) before
      → size (term_of before node) ≤ most_symbols → Finds (read_node_line P before (110 ∷ 32 ∷ node_text P node (10 ∷ rest)) at) (before ++ (term_of before node ∷ [])) rest
  node_line-found names before node rest at is numbers new small =
      let x = as_read (head_for node) (node_numbers node) in
      let inner = node_text P node (10 ∷ rest) in
      let after = before ++ (term_of before node ∷ []) in
      joined (read_fixed (codes "n ") (110 ∷ 32 ∷ inner) at) (λ _ from r. next (read_body P (own_number before) r from) (λ x p r. next (judged_node before from x p r) (λ after p r. next (read_fixed (codes "\n") r p) (λ _ p r. Found after p r)))) tt inner after rest (fixed_found (codes "n ") inner at)
      (λ from. joined (read_body P (own_number before) inner from) (λ x p r. next (judged_node before from x p r) (λ after p r. next (read_fixed (codes "\n") r p) (λ _ p r. Found after p r))) x (10 ∷ rest) after rest (body_found names (own_number before) node rest from is (lower_than before (node_numbers node) numbers))
      (λ p. joined (judged_node before from x p (10 ∷ rest)) (λ after p r. next (read_fixed (codes "\n") r p) (λ _ p r. Found after p r)) after (10 ∷ rest) after rest record { place = p; is = judged_found before from node p (10 ∷ rest) is new small }
      (λ q. joined (read_fixed (codes "\n") (10 ∷ rest) q) (λ _ p r. Found after p r) tt rest after rest (fixed_found (codes "\n") rest q) (λ i. record { place = i; is = refl }))))

  -- Nodes one behind another.

  lines_more : (most : ℕ) (ts : List Term) (bytes : List ℕ) (at : ℕ) → lines_through 110 (read_node_line P) (suc most) ts bytes at ≡ (if front bytes == 110 then next (read_node_line P ts bytes at) (λ us p k. lines_through 110 (read_node_line P) most us k p) else Found ts at bytes)
  unfolding lines_through
  lines_more most ts bytes at = refl

  lines_full : (ts : List Term) (bytes : List ℕ) (at : ℕ) → lines_through 110 (read_node_line P) 0 ts bytes at ≡ (if front bytes == 110 then Faulty at Count else Found ts at bytes)
  unfolding lines_through
  lines_full ts bytes at = refl

  -- their terms are within the limit
  abbrev pub AreSmall : List Term → List TableNode → Type 0
  AreSmall before [] = Unit {0}
  AreSmall before (n ∷ ns) = (size (term_of before n) ≤ most_symbols) × AreSmall (before ++ (term_of before n ∷ [])) ns

  pub nodes_found : HasNames P → (most : ℕ) (before : List Term) (nodes : List TableNode) (rest : List ℕ) (at : ℕ) → length nodes ≤ most → (front rest == 110) ≡ false → AllByRecursion (IsNodeOf P) nodes → StandInOrder before nodes → AreSmall before nodes
      → Finds (lines_through 110 (read_node_line P) most before (node_lines P nodes rest) at) (terms_from before nodes) rest
  nodes_found names zero before [] rest at few other are order small =
      let found = when_false (front rest == 110) (Faulty at Count) (Found before at rest) before rest other record { place = at; is = refl } in
      record { place = found.place; is = lines_full before rest at ∙ found.is }
  nodes_found names zero before (n ∷ ns) rest at few other are order small = absurd (omega (arith, few))
  nodes_found names (suc most) before [] rest at few other are order small =
      let found = when_false (front rest == 110) (next (read_node_line P before rest at) (λ us p k. lines_through 110 (read_node_line P) most us k p)) (Found before at rest) before rest other record { place = at; is = refl } in
      record { place = found.place; is = lines_more most before rest at ∙ found.is }
  nodes_found names (suc most) before (n ∷ ns) rest at few other are order small =
      let after = before ++ (term_of before n ∷ []) in
      let inner = node_lines P ns rest in
      let bytes = 110 ∷ 32 ∷ node_text P n (10 ∷ inner) in
      let found = joined (read_node_line P before bytes at) (λ us p k. lines_through 110 (read_node_line P) most us k p) after inner (terms_from after ns) rest (node_line-found names before n inner at are.0 order.0 order.1 small.0)
      (λ p. nodes_found names most after ns rest p (omega (arith, few)) other are.1 order.2 small.1) in
      record { place = found.place; is = lines_more most before bytes at ∙ found.is }
