-- Clauses whose items are without faults by themselves are clauses of the protocol by numbers, written with its words.
use Rattle.std.proofs.Common.{◌≡◌, ℕ, zero, suc, ◌+◌, true, false, not, ◌&&◌, ◌==◌, Bool, List, [], ◌∷◌, map, length, Option, Some, None, refl, sym, ◌∙◌, ap, subst, arith}
use Rattle.std.specs.Prelude.{flat_map, take}
use Rattle.std.specs.Fmt.{decimal}
use Rattle.std.specs.Option.{is_none, option_map_or}
use Rattle.std.specs.List.{AllByRecursion, list_any}
use Rattle.std.proofs.lemmas.List.{length-map}
use Rattle.std.proofs.lemmas.Bool.Decides.{nat_tests}
use Rattle.spec_calculus.specs.Syntax.{Protocol}
use Rattle.spec_run_text.specs.Reading.{numeral}
use Rattle.spec_run_text.proofs.Numbers.{numeral_some}
use Rattle.spec_terms.specs.Term.{Term}
use Rattle.spec_clauses.specs.Fact.{Fact, terms_of}
use Rattle.spec_clauses.specs.Fact as fact
use Rattle.spec_clauses.proofs.Lists.{all_first, all_second}
use Rattle.spec_certificate_text.specs.OfProtocol.{IsShort, IsEvent, IsTable, IsPhase}
use Rattle.spec_certificate_text.specs.Sides.{SidesOf, SpelledClause, holds_bound}
use Rattle.spec_certificate_text.specs.Names.{CalledEvent, event_called, table_called}
use Rattle.spec_certificate_text.specs.Facts.{is_later_phase}
use Rattle.spec_certificate_text.proofs.FactsThere.{later_is_phase}
use Rattle.spec_certificate_text.proofs.Called.{event_called_is, called_in_is}
use Rattle.spec_node_tables.specs.Nodes.{term_at}
use Rattle.spec_node_tables.specs.OfProtocol.{IsFactOver, AreSidesOver, IsClauseOver}
use Rattle.spec_node_faults.specs.Loose.{Predicate, Att, Mess, Tab, Ev, Mev, Bad, LooseFact, LooseDiff, LooseClause, commas, phase_digits, fact_onto, diff_onto, clause_line, written_fact, written_diff, written_clause}
use Rattle.spec_node_faults.specs.Nodes.{Placed, placed, place_if}
use Rattle.spec_node_faults.specs.Clauses.{Item, Begins, Signs, Event, Entry, Phase, Paired, Number, Side, number_items, phase_items, phase_width, fact_items, diff_items, later_diff_items, diffs_items, later_items, premise_items, clause_items, item_numbers, item_symbols, stands_at, item_arities}
use Rattle.spec_node_faults.specs.Grammar.{IsPredicateOf, MayBeSupposed, MayBeConcluded, IsHypothesis, IsConclusion, IsDiff, IsClause, MayBeHypothesis, MayBeConclusion, StandsRight}
use Rattle.spec_node_faults.proofs.Items.{IsGood, AreOwn, HasOwnNumbers}
use Rattle.spec_node_faults.proofs.FoundNodes.{first_empty, second_empty, not_wrong, some_number}

-- Items of which no fault is told are good.

not_not : (b : Bool) → not b ≡ false → b ≡ true
not_not true e = refl
not_not false e = absurd (cc)

module _ (P : Protocol) (table : List Term) where
  none_at : (items : List Item) → list_any (stands_at []) items ≡ false
  none_at [] = refl
  none_at (Begins place ∷ items) = none_at items
  none_at (Signs symbols ∷ items) = none_at items
  none_at (Event place word arguments ∷ items) = none_at items
  none_at (Entry place word arguments ∷ items) = none_at items
  none_at (Phase p ∷ items) = none_at items
  none_at (Paired place left right ∷ items) = none_at items
  none_at (Number p ∷ items) = none_at items
  none_at (Side p ∷ items) = none_at items

  -- what a word calls, of which neither fault is told
  called_with : {found : Option CalledEvent} (o : Option CalledEvent) → found ≡ o → (arguments : ℕ) (items : List Item) (place : ℕ) → place_if (is_none o) place ≡ []
      → (option_map_or (λ called. not (called.arity == arguments)) o false && not (list_any (stands_at []) (take arguments items))) ≡ false → (called : CalledEvent) × (found ≡ Some called) × (called.arity ≡ arguments)
  called_with None e arguments items place none wrong = absurd (cc)
  called_with (Some called) e arguments items place none wrong =
      let fewer : (not (called.arity == arguments) && not false) ≡ false = subst (λ b. (not (called.arity == arguments) && not b) ≡ false) (none_at (take arguments items)) wrong in
      (called, e, same (called.arity == arguments) refl fewer)
    where
      same : (b : Bool) → (called.arity == arguments) ≡ b → (not b && true) ≡ false → called.arity ≡ arguments
      same true is e = grind (arith, nat_tests, is)
      same false is e = absurd (cc)

  event_good : (place : ℕ) (word : List ℕ) (arguments : ℕ) (items : List Item) → place_if (is_none (event_called P word)) place ≡ []
      → place_if (option_map_or (λ called. not (called.arity == arguments)) (event_called P word) false && not (list_any (stands_at []) (take arguments items))) place ≡ [] → IsGood P table (Event place word arguments)
  unfolding IsGood
  event_good place word arguments items known right = called_with (event_called P word) refl arguments items place known (not_wrong _ place right)

  entry_good : (place : ℕ) (word : List ℕ) (arguments : ℕ) (items : List Item) → place_if (is_none (table_called P word)) place ≡ []
      → place_if (option_map_or (λ called. not (called.arity == arguments)) (table_called P word) false && not (list_any (stands_at []) (take arguments items))) place ≡ [] → IsGood P table (Entry place word arguments)
  unfolding IsGood
  entry_good place word arguments items known right = called_with (table_called P word) refl arguments items place known (not_wrong _ place right)

  -- a phase of which no fault is told
  later_good : (p : Placed) → place_if (is_none (numeral p.digits)) p.place ≡ [] → place_if (option_map_or (λ k. not (is_later_phase P k)) (numeral p.digits) false) p.place ≡ [] → IsGood P table (Phase p)
  unfolding IsGood
  later_good p known later =
      let some = some_number p.place (numeral p.digits) known in
      let within = subst (λ o. option_map_or (λ k. not (is_later_phase P k)) o false ≡ false) some.1 (not_wrong _ p.place later) in
      (some.0, some.1, not_not (is_later_phase P some.0) within)

  -- a constraint, and a number of a fact, of which no fault is told
  paired_good : (place left right : ℕ) (items : List Item) → place_if (not (left == right) && not (list_any (stands_at []) (take (left + right) items))) place ≡ [] → IsGood P table (Paired place left right)
  unfolding IsGood
  paired_good place left right items none =
      let fewer : (not (left == right) && not false) ≡ false = subst (λ b. (not (left == right) && not b) ≡ false) (none_at (take (left + right) items)) (not_wrong _ place none) in
      same (left == right) refl fewer
    where
      same : (b : Bool) → (left == right) ≡ b → (not b && true) ≡ false → left ≡ right
      same true is e = grind (arith, nat_tests, is)
      same false is e = absurd (cc)

  number_good : (p : Placed) → place_if (is_none (numeral p.digits)) p.place ≡ [] → place_if (option_map_or (λ n. holds_bound (term_at table n)) (numeral p.digits) false) p.place ≡ [] → IsGood P table (Number p)
  unfolding IsGood
  number_good p known own =
      let some = some_number p.place (numeral p.digits) known in
      (some.0, some.1, subst (λ o. option_map_or (λ n. holds_bound (term_at table n)) o false ≡ false) some.1 (not_wrong _ p.place own))

  pub items_good : (items : List Item) → flat_map item_numbers items ≡ [] → flat_map (item_symbols P table) items ≡ [] → item_arities P [] items ≡ [] → AllByRecursion (IsGood P table) items
  unfolding IsGood
  items_good [] numbers symbols arities = tt
  items_good (Begins place ∷ items) numbers symbols arities = (tt, items_good items numbers symbols arities)
  items_good (Signs n ∷ items) numbers symbols arities = (tt, items_good items numbers symbols arities)
  items_good (Event place word arguments ∷ items) numbers symbols arities =
      let one = place_if (is_none (event_called P word)) place in
      let two = place_if (option_map_or (λ called. not (called.arity == arguments)) (event_called P word) false && not (list_any (stands_at []) (take arguments items))) place in (
        event_good place word arguments items (first_empty one (flat_map (item_symbols P table) items) symbols) (first_empty two (item_arities P [] items) arities),
        items_good items numbers (second_empty one (flat_map (item_symbols P table) items) symbols) (second_empty two (item_arities P [] items) arities),
      )
  items_good (Entry place word arguments ∷ items) numbers symbols arities =
      let one = place_if (is_none (table_called P word)) place in
      let two = place_if (option_map_or (λ called. not (called.arity == arguments)) (table_called P word) false && not (list_any (stands_at []) (take arguments items))) place in (
        entry_good place word arguments items (first_empty one (flat_map (item_symbols P table) items) symbols) (first_empty two (item_arities P [] items) arities),
        items_good items numbers (second_empty one (flat_map (item_symbols P table) items) symbols) (second_empty two (item_arities P [] items) arities),
      )
  items_good (Phase p ∷ items) numbers symbols arities =
      let one = item_numbers (Phase p) in
      let two = item_symbols P table (Phase p) in (
        later_good p (first_empty one (flat_map item_numbers items) numbers) (first_empty two (flat_map (item_symbols P table) items) symbols),
        items_good items (second_empty one (flat_map item_numbers items) numbers) (second_empty two (flat_map (item_symbols P table) items) symbols) arities,
      )
  items_good (Paired place left right ∷ items) numbers symbols arities =
      let one = place_if (not (left == right) && not (list_any (stands_at []) (take (left + right) items))) place in (
        paired_good place left right items (first_empty one (item_arities P [] items) arities),
        items_good items numbers symbols (second_empty one (item_arities P [] items) arities),
      )
  items_good (Number p ∷ items) numbers symbols arities =
      let one = item_numbers (Number p) in
      let two = item_symbols P table (Number p) in (
        number_good p (first_empty one (flat_map item_numbers items) numbers) (first_empty two (flat_map (item_symbols P table) items) symbols),
        items_good items (second_empty one (flat_map item_numbers items) numbers) (second_empty two (flat_map (item_symbols P table) items) symbols) arities,
      )
  items_good (Side p ∷ items) numbers symbols arities =
      let one = item_numbers (Side p) in (
        some_number p.place _ (first_empty one (flat_map item_numbers items) numbers),
        items_good items (second_empty one (flat_map item_numbers items) numbers) symbols arities,
      )

  -- Facts.

  record NumbersFound (ds : List (List ℕ)) : Type 0 where
    found : List ℕ
    text : map decimal found ≡ ds
    short : AllByRecursion IsShort found
    own : AreOwn table found

  numbers_found : (at : ℕ) (ds : List (List ℕ)) → AllByRecursion (IsGood P table) (number_items at ds) → NumbersFound ds
  unfolding IsGood
  numbers_found at [] good = record { found = []; text = refl; short = tt; own = tt }
  numbers_found at (d ∷ ds) good =
      let so = numeral_some d good.0.0 good.0.1 in
      let others = numbers_found (at + length d + 1) ds good.1 in
      let first = sym so.0 in
      let later = others.text in
      record { found = good.0.0 ∷ others.found; text = ap (λ x. x ∷ map decimal others.found) first ∙ ap (λ xs. d ∷ xs) later; short = (so.1, others.short); own = (good.0.2, others.own) }

  -- those of the sides of constraints
  record SidesFound (ds : List (List ℕ)) : Type 0 where
    found : List ℕ
    text : map decimal found ≡ ds
    short : AllByRecursion IsShort found

  sides_found : (at : ℕ) (ds : List (List ℕ)) → AllByRecursion (IsGood P table) (map Side (placed at ds)) → SidesFound ds
  unfolding IsGood
  sides_found at [] good = record { found = []; text = refl; short = tt }
  sides_found at (d ∷ ds) good =
      let so = numeral_some d good.0.0 good.0.1 in
      let others = sides_found (at + length d + 1) ds good.1 in
      let first = sym so.0 in
      let later = others.text in
      record { found = good.0.0 ∷ others.found; text = ap (λ x. x ∷ map decimal others.found) first ∙ ap (λ xs. d ∷ xs) later; short = (so.1, others.short) }

  -- a phase that is written so
  record PhaseFound (o : Option (List ℕ)) : Type 0 where
    found : ℕ
    text : phase_digits found ≡ o
    is : IsPhase P found

  later_phase : (k : ℕ) (d : List ℕ) → d ≡ decimal k → is_later_phase P k ≡ true → IsShort k → PhaseFound (Some d)
  later_phase zero d text later short = absurd (let never : false ≡ true = later in cc)
  later_phase (suc k) d text later short = record { found = suc k; text = ap Some (sym text); is = ((later_is_phase P (suc k) later).1, short) }

  phase_found : (at : ℕ) (o : Option (List ℕ)) → AllByRecursion (IsGood P table) (phase_items at o) → PhaseFound o
  unfolding IsGood
  phase_found at None good = record { found = 0; text = refl; is = (omega arith, omega arith) }
  phase_found at (Some d) good =
      let so = numeral_some d good.0.0 good.0.1 in
      later_phase good.0.0 d so.0 good.0.2 so.1

  -- a fact by numbers that is written so
  record FactFound (f : LooseFact) : Type 0 where
    found : Fact ℕ
    text : written_fact P found ≡ f
    is : IsFactOver IsShort P found
    own : AreOwn table (terms_of found)

  many : (ds : List (List ℕ)) (low : NumbersFound ds) → length ds ≡ length low.found
  many ds low = let texts = low.text in ap length (sym texts) ∙ length-map low.found decimal

  fact_found : (at : ℕ) (p : Predicate) (ds : List (List ℕ)) → IsPredicateOf p (length ds) → AllByRecursion (IsGood P table) (fact_items at (record { predicate = p; numbers = ds })) → FactFound (record { predicate = p; numbers = ds })
  unfolding IsGood
  fact_found at (Att phase) [] one good = absurd (let many = one.1 in omega (arith, many))
  fact_found at (Att phase) (d ∷ []) one good =
      let items = number_items (at + 3 + phase_width phase + 1) (d ∷ []) in
      let in_phase = phase_found (at + 3) phase (all_first (IsGood P table) (phase_items (at + 3) phase) items good.1) in
      let term = all_second (IsGood P table) (phase_items (at + 3) phase) items good.1 in
      let so = numeral_some d term.0.0 term.0.1 in
      let named = in_phase.text in
      let text = sym so.0 in
      record { found = fact.Att in_phase.found term.0.0; text = λ i. record { predicate = Att (named i); numbers = text i ∷ [] }; is = (in_phase.is, (so.1, tt)); own = (term.0.2, tt) }
  fact_found at (Att phase) (d ∷ e ∷ ds) one good = absurd (let many = one.1 in omega (arith, many))
  fact_found at (Mess phase) [] two good = absurd (let many = two.1 in omega (arith, many))
  fact_found at (Mess phase) (d ∷ []) two good = absurd (let many = two.1 in omega (arith, many))
  fact_found at (Mess phase) (d ∷ e ∷ []) two good =
      let items = number_items (at + 4 + phase_width phase + 1) (d ∷ e ∷ []) in
      let in_phase = phase_found (at + 4) phase (all_first (IsGood P table) (phase_items (at + 4) phase) items good.1) in
      let terms = all_second (IsGood P table) (phase_items (at + 4) phase) items good.1 in
      let first = numeral_some d terms.0.0 terms.0.1 in
      let second = numeral_some e terms.1.0.0 terms.1.0.1 in
      let named = in_phase.text in
      let text = sym first.0 in
      let later = sym second.0 in
      record { found = fact.Mess in_phase.found terms.0.0 terms.1.0.0; text = λ i. record { predicate = Mess (named i); numbers = text i ∷ later i ∷ [] }; is = (in_phase.is, (first.1, (second.1, tt))); own = (terms.0.2, (terms.1.0.2, tt)) }
  fact_found at (Mess phase) (d ∷ e ∷ f ∷ ds) two good = absurd (let many = two.1 in omega (arith, many))
  fact_found at (Tab word) ds is good =
      let called = good.1.0 in
      let named = called_in_is P.tables word called.0 called.1 in
      let low = numbers_found (at + 4 + length word + 1) ds good.1.1 in
      let text = low.text in
      let words = named.has_word in
      record {
        found = fact.Tab called.0.number low.found;
        text = λ i. record { predicate = Tab (words i); numbers = text i };
        is = (subst (IsTable P called.0.number) (called.2 ∙ many ds low) named.is_of, low.short);
        own = low.own;
      }
  fact_found at (Ev word) ds is good =
      let called = good.1.0 in
      let named = event_called_is P word called.0 called.1 in
      let low = numbers_found (at + 3 + length word + 1) ds good.1.1 in
      let text = low.text in
      let words = named.has_word in
      record {
        found = fact.Ev called.0.number low.found;
        text = λ i. record { predicate = Ev (words i); numbers = text i };
        is = (subst (IsEvent P called.0.number) (called.2 ∙ many ds low) named.is_of, low.short);
        own = low.own;
      }
  fact_found at (Mev word) ds is good =
      let called = good.1.0 in
      let named = event_called_is P word called.0 called.1 in
      let low = numbers_found (at + 4 + length word + 1) ds good.1.1 in
      let text = low.text in
      let words = named.has_word in
      record {
        found = fact.Mev called.0.number low.found;
        text = λ i. record { predicate = Mev (words i); numbers = text i };
        is = (subst (IsEvent P called.0.number) (called.2 ∙ many ds low) named.is_of, low.short);
        own = low.own;
      }
  fact_found at Bad ds is good =
      let low = numbers_found (at + 4) ds good.1 in
      let text = low.text in
      record { found = fact.Bad low.found; text = λ i. record { predicate = Bad; numbers = text i }; is = (tt, low.short); own = low.own }

  may_suppose : (g : Fact ℕ) (f : LooseFact) → written_fact P g ≡ f → MayBeSupposed f.predicate → MayBeHypothesis g
  may_suppose (fact.Att phase n) f e may = tt
  may_suppose (fact.Mess phase m n) f e may = tt
  may_suppose (fact.Tab n ns) f e may = tt
  may_suppose (fact.Ev e ns) f same may = tt
  may_suppose (fact.Mev e ns) f same may = tt
  may_suppose (fact.Bad ns) f e may = subst (λ g. MayBeSupposed g.predicate) (sym e) may

  may_conclude : (g : Fact ℕ) (f : LooseFact) → written_fact P g ≡ f → MayBeConcluded f.predicate → MayBeConclusion g
  may_conclude (fact.Att phase n) f e may = tt
  may_conclude (fact.Mess phase m n) f e may = tt
  may_conclude (fact.Tab n ns) f e may = tt
  may_conclude (fact.Ev e ns) f same may = tt
  may_conclude (fact.Mev e ns) f same may = subst (λ g. MayBeConcluded g.predicate) (sym same) may
  may_conclude (fact.Bad ns) f e may = tt

  -- Clauses.

  record HypothesesFound (hs : List LooseFact) : Type 0 where
    found : List (Fact ℕ)
    text : map (written_fact P) found ≡ hs
    are : AllByRecursion (IsFactOver IsShort P) found
    own : AllByRecursion (λ f. AreOwn table (terms_of f)) found
    supposed : AllByRecursion MayBeHypothesis found

  no_hypotheses : HypothesesFound []
  no_hypotheses = record { found = []; text = refl; are = tt; own = tt; supposed = tt }

  more_found : (h : LooseFact) (hs : List LooseFact) → IsHypothesis h → FactFound h → HypothesesFound hs → HypothesesFound (h ∷ hs)
  more_found h hs is one others =
      let first = one.text in
      let later = others.text in
      record {
        found = one.found ∷ others.found;
        text = ap (λ m. m ∷ map (written_fact P) others.found) first ∙ ap (λ ms. h ∷ ms) later;
        are = (one.is, others.are);
        own = (one.own, others.own);
        supposed = (may_suppose one.found h first is.supposed, others.supposed);
      }

  -- a constraint by numbers that is written so
  record DiffFound (d : LooseDiff) : Type 0 where
    found : SidesOf ℕ
    text : written_diff found ≡ d
    is : AreSidesOver IsShort found

  diff_found : (at : ℕ) (d : LooseDiff) → IsDiff d → AllByRecursion (IsGood P table) (diff_items at d) → DiffFound d
  unfolding IsGood
  diff_found at d is good =
      let behind = at + 6 + length (commas d.left []) in
      let lefts = map Side (placed (at + 5) d.left) in
      let rights = map Side (placed behind d.right) in
      let left = sides_found (at + 5) d.left (all_first (IsGood P table) lefts rights good.1.1) in
      let right = sides_found behind d.right (all_second (IsGood P table) lefts rights good.1.1) in
      let left_text = left.text in
      let right_text = right.text in
      let left_long : length left.found ≡ length d.left = sym (length-map left.found decimal) ∙ ap length left_text in
      let right_long : length right.found ≡ length d.right = sym (length-map right.found decimal) ∙ ap length right_text in
      record {
        found = record { left = left.found; right = right.found };
        text = λ i. record { left = left_text i; right = right_text i };
        is = record { left = left.short; right = right.short; paired = left_long ∙ (good.1.0 ∙ sym right_long); some = omega (arith, left_long, is.left_some) };
      }

  record DiffsFound (ds : List LooseDiff) : Type 0 where
    found : List (SidesOf ℕ)
    text : map written_diff found ≡ ds
    are : AllByRecursion (AreSidesOver IsShort) found

  no_diffs : DiffsFound []
  no_diffs = record { found = []; text = refl; are = tt }

  more_diffs : (d : LooseDiff) (ds : List LooseDiff) → DiffFound d → DiffsFound ds → DiffsFound (d ∷ ds)
  more_diffs d ds one others =
      let first = one.text in
      let later = others.text in
      record { found = one.found ∷ others.found; text = ap (λ m. m ∷ map written_diff others.found) first ∙ ap (λ ms. d ∷ ms) later; are = (one.is, others.are) }

  record RestFound (ds : List LooseDiff) (f : LooseFact) : Type 0 where
    diffs : DiffsFound ds
    conclusion : FactFound f

  record PremisesFound (hs : List LooseFact) (ds : List LooseDiff) (f : LooseFact) : Type 0 where
    hypotheses : HypothesesFound hs
    rest : RestFound ds f

  later_diffs_found : (at : ℕ) (ds : List LooseDiff) (f : LooseFact) → AllByRecursion IsDiff ds → IsConclusion f → AllByRecursion (IsGood P table) (later_diff_items at ds f) → RestFound ds f
  later_diffs_found at [] f all is good = record { diffs = no_diffs; conclusion = fact_found (at + 4) f.predicate f.numbers is.predicate good }
  later_diffs_found at (d ∷ ds) f all is good =
      let place = at + 2 + length (diff_onto d []) in
      let items = diff_items (at + 2) d in
      let later = later_diff_items place ds f in
      let one = diff_found (at + 2) d all.0 (all_first (IsGood P table) items later good) in
      let others = later_diffs_found place ds f all.1 is (all_second (IsGood P table) items later good) in
      record { diffs = more_diffs d ds one others.diffs; conclusion = others.conclusion }

  diffs_found : (at : ℕ) (ds : List LooseDiff) (f : LooseFact) → AllByRecursion IsDiff ds → IsConclusion f → AllByRecursion (IsGood P table) (diffs_items at ds f) → RestFound ds f
  diffs_found at [] f all is good = record { diffs = no_diffs; conclusion = fact_found (at + 3) f.predicate f.numbers is.predicate good }
  diffs_found at (d ∷ ds) f all is good =
      let place = at + length (diff_onto d []) in
      let items = diff_items at d in
      let later = later_diff_items place ds f in
      let one = diff_found at d all.0 (all_first (IsGood P table) items later good) in
      let others = later_diffs_found place ds f all.1 is (all_second (IsGood P table) items later good) in
      record { diffs = more_diffs d ds one others.diffs; conclusion = others.conclusion }

  later_found : (at : ℕ) (hs : List LooseFact) (ds : List LooseDiff) (f : LooseFact) → AllByRecursion IsHypothesis hs → AllByRecursion IsDiff ds → IsConclusion f → AllByRecursion (IsGood P table) (later_items at hs ds f) → PremisesFound hs ds f
  later_found at [] ds f are all is good = record { hypotheses = no_hypotheses; rest = later_diffs_found at ds f all is good }
  later_found at (h ∷ hs) ds f are all is good =
      let place = at + 2 + length (fact_onto h []) in
      let items = fact_items (at + 2) h in
      let later = later_items place hs ds f in
      let one = fact_found (at + 2) h.predicate h.numbers are.0.predicate (all_first (IsGood P table) items later good) in
      let others = later_found place hs ds f are.1 all is (all_second (IsGood P table) items later good) in
      record { hypotheses = more_found h hs are.0 one others.hypotheses; rest = others.rest }

  premises_found : (at : ℕ) (hs : List LooseFact) (ds : List LooseDiff) (f : LooseFact) → AllByRecursion IsHypothesis hs → AllByRecursion IsDiff ds → IsConclusion f → AllByRecursion (IsGood P table) (premise_items at hs ds f) → PremisesFound hs ds f
  premises_found at [] ds f are all is good = record { hypotheses = no_hypotheses; rest = diffs_found at ds f all is good }
  premises_found at (h ∷ hs) ds f are all is good =
      let place = at + length (fact_onto h []) in
      let items = fact_items at h in
      let later = later_items place hs ds f in
      let one = fact_found at h.predicate h.numbers are.0.predicate (all_first (IsGood P table) items later good) in
      let others = later_found place hs ds f are.1 all is (all_second (IsGood P table) items later good) in
      record { hypotheses = more_found h hs are.0 one others.hypotheses; rest = others.rest }

  pub record ClausesFound (cs : List LooseClause) : Type 0 where
    pub found : List (SpelledClause ℕ)
    pub text : map (written_clause P) found ≡ cs
    pub are : AllByRecursion (IsClauseOver IsShort P) found
    pub own : AllByRecursion (HasOwnNumbers table) found
    pub stand : AllByRecursion StandsRight found

  pub clauses_found : (at : ℕ) (cs : List LooseClause) → AllByRecursion IsClause cs → AllByRecursion (IsGood P table) (clause_items at cs) → ClausesFound cs
  unfolding IsGood
  clauses_found at [] are good = record { found = []; text = refl; are = tt; own = tt; stand = tt }
  clauses_found at (c ∷ cs) are good =
      let place = at + length (clause_line c []) in
      let items = premise_items (at + 2) c.hypotheses c.diffs c.conclusion in
      let one = premises_found (at + 2) c.hypotheses c.diffs c.conclusion are.0.hypotheses are.0.diffs are.0.conclusion (all_first (IsGood P table) items (clause_items place cs) good.1) in
      let others = clauses_found place cs are.1 (all_second (IsGood P table) items (clause_items place cs) good.1) in
      let hs = one.hypotheses.text in
      let ds = one.rest.diffs.text in
      let f = one.rest.conclusion.text in
      let found : SpelledClause ℕ = record { hypotheses = one.hypotheses.found; diffs = one.rest.diffs.found; conclusion = one.rest.conclusion.found } in
      let first : written_clause P found ≡ c = λ i. record { hypotheses = hs i; diffs = ds i; conclusion = f i } in
      let later = others.text in
      record {
        found = found ∷ others.found;
        text = ap (λ m. m ∷ map (written_clause P) others.found) first ∙ ap (λ ms. c ∷ ms) later;
        are = (record { hypotheses = one.hypotheses.are; diffs = one.rest.diffs.are; conclusion = one.rest.conclusion.is }, others.are);
        own = (record { hypotheses = one.hypotheses.own; conclusion = one.rest.conclusion.own }, others.own);
        stand = (record { hypotheses = one.hypotheses.supposed; conclusion = may_conclude one.rest.conclusion.found c.conclusion f are.0.conclusion.concluded }, others.stand);
      }
