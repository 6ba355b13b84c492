-- The clauses of a certificate that is made of one of a protocol have no faults.
use Rattle.std.proofs.Common.{◌≡◌, ℕ, zero, suc, ◌+◌, ◌≤◌, true, false, not, ◌&&◌, ◌==◌, List, [], ◌∷◌, ◌++◌, map, length, Some, refl, sym, ◌∙◌, ap, arith, length-append}
use Rattle.std.specs.Prelude.{flat_map, take, drop}
use Rattle.std.specs.Fmt.{decimal}
use Rattle.std.specs.Option.{is_none, option_map_or}
use Rattle.std.specs.List.{AllByRecursion, list_any}
use Rattle.std.proofs.lemmas.List.{length-map, append_assoc}
use Rattle.std.proofs.lemmas.Grind.{flat_map-append}
use Rattle.std.proofs.lemmas.Bool.Decides.{nat_tests}
use Rattle.spec_calculus.specs.Bounds.{most_clauses}
use Rattle.spec_calculus.specs.Syntax.{Protocol}
use Rattle.spec_run_text.specs.Reading.{numeral}
use Rattle.spec_run_text.proofs.Numbers.{numeral-decimal}
use Rattle.spec_terms.specs.Term.{Term}
use Rattle.spec_clauses.specs.Fact.{Fact, terms_of}
use Rattle.spec_clauses.specs.Fact as fact
use Rattle.spec_clauses.proofs.Lists.{all_append}
use Rattle.spec_certificate_text.specs.Sides.{SidesOf, SpelledClause, sides_in_order, holds_bound}
use Rattle.spec_certificate_text.specs.Words.{event_word, table_word}
use Rattle.spec_certificate_text.specs.OfProtocol.{IsShort, IsEvent, IsTable, IsPhase, HasNames}
use Rattle.spec_certificate_text.specs.Names.{CalledEvent, event_called, table_called}
use Rattle.spec_certificate_text.specs.Facts.{is_later_phase}
use Rattle.spec_certificate_text.proofs.Called.{event_word_called, table_word_called}
use Rattle.spec_certificate_text.proofs.FactsFound.{phase_is_later}
use Rattle.spec_node_tables.specs.Table.{spelled_terms}
use Rattle.spec_node_tables.specs.Nodes.{term_at}
use Rattle.spec_node_tables.specs.OfProtocol.{IsFactOver, AreSidesOver, IsClauseOver}
use Rattle.spec_node_faults.specs.Loose.{commas, phase_digits, fact_onto, diff_onto, clause_line, written_fact, written_diff, written_clause}
use Rattle.spec_node_faults.specs.Nodes.{placed, place_if}
use Rattle.spec_node_faults.specs.Clauses.{Item, Begins, Signs, Event, Entry, Phase, Paired, Number, Side, number_items, event_items, entry_items, phase_items, phase_width, fact_items, diff_items, later_diff_items, diffs_items, later_items, premise_items, clause_items, item_numbers, item_symbols, item_begins, clause_counts, stands_at, item_arities}

-- Items that are without faults by themselves: events take as many numbers, constraints have as many left sides as right ones, and digits are
-- numbers, outside constraints of terms without bound variables.

unfoldable pub IsGood : Protocol → List Term → Item → Type 0
IsGood P table (Begins place) = Unit {0}
IsGood P table (Signs symbols) = Unit {0}
IsGood P table (Event place word arguments) = (called : CalledEvent) × (event_called P word ≡ Some called) × (called.arity ≡ arguments)
IsGood P table (Entry place word arguments) = (called : CalledEvent) × (table_called P word ≡ Some called) × (called.arity ≡ arguments)
IsGood P table (Phase p) = (k : ℕ) × (numeral p.digits ≡ Some k) × (is_later_phase P k ≡ true)
IsGood P table (Paired place left right) = left ≡ right
IsGood P table (Number p) = (n : ℕ) × (numeral p.digits ≡ Some n) × (holds_bound (term_at table n) ≡ false)
IsGood P table (Side p) = (n : ℕ) × (numeral p.digits ≡ Some n)

-- the numbers of facts are of terms without bound variables
abbrev pub AreOwn : List Term → List ℕ → Type 0
AreOwn table ns = AllByRecursion (λ n. holds_bound (term_at table n) ≡ false) ns

pub record HasOwnNumbers (table : List Term) (c : SpelledClause ℕ) : Type 0 where
  pub hypotheses : AllByRecursion (λ f. AreOwn table (terms_of f)) c.hypotheses
  pub conclusion : AreOwn table (terms_of c.conclusion)

module _ (P : Protocol) (names : HasNames P) (table : List Term) where
  good_numbers : (at : ℕ) (ns : List ℕ) → AllByRecursion IsShort ns → AreOwn table ns → AllByRecursion (IsGood P table) (number_items at (map decimal ns))
  unfolding IsGood
  good_numbers at [] short own = tt
  good_numbers at (n ∷ ns) short own = ((n, numeral-decimal n short.0, own.0), good_numbers (at + length (decimal n) + 1) ns short.1 own.1)

  good_sides : (at : ℕ) (ns : List ℕ) → AllByRecursion IsShort ns → AllByRecursion (IsGood P table) (map Side (placed at (map decimal ns)))
  unfolding IsGood
  good_sides at [] short = tt
  good_sides at (n ∷ ns) short = ((n, numeral-decimal n short.0), good_sides (at + length (decimal n) + 1) ns short.1)

  good_event : (at e : ℕ) (ns : List ℕ) → IsEvent P e (length ns) → AllByRecursion IsShort ns → AreOwn table ns → AllByRecursion (IsGood P table) (event_items at (event_word P e) (map decimal ns))
  unfolding IsGood
  good_event at e ns is short own =
      (tt, ((record { number = e; arity = length ns }, event_word_called P names e (length ns) is, sym (length-map ns decimal)), good_numbers (at + length (event_word P e) + 1) ns short own))

  good_entry : (at t : ℕ) (ns : List ℕ) → IsTable P t (length ns) → AllByRecursion IsShort ns → AreOwn table ns → AllByRecursion (IsGood P table) (entry_items at (table_word P t) (map decimal ns))
  unfolding IsGood
  good_entry at t ns is short own =
      (tt, ((record { number = t; arity = length ns }, table_word_called P names t (length ns) is, sym (length-map ns decimal)), good_numbers (at + length (table_word P t) + 1) ns short own))

  good_phase : (at k : ℕ) → IsPhase P k → AllByRecursion (IsGood P table) (phase_items at (phase_digits k))
  unfolding IsGood
  good_phase at zero is = tt
  good_phase at (suc k) is = ((suc k, numeral-decimal (suc k) is.1, phase_is_later P k is.0), tt)

  good_fact : (at : ℕ) (f : Fact ℕ) → IsFactOver IsShort P f → AreOwn table (terms_of f) → AllByRecursion (IsGood P table) (fact_items at (written_fact P f))
  unfolding IsGood
  good_fact at (fact.Att phase n) is own =
      let place = at + 3 + phase_width (phase_digits phase) + 1 in
      (tt, all_append (IsGood P table) (phase_items (at + 3) (phase_digits phase)) (number_items place (map decimal (n ∷ []))) (good_phase (at + 3) phase is.0) (good_numbers place (n ∷ []) is.1 own))
  good_fact at (fact.Mess phase m n) is own =
      let place = at + 4 + phase_width (phase_digits phase) + 1 in
      (tt, all_append (IsGood P table) (phase_items (at + 4) (phase_digits phase)) (number_items place (map decimal (m ∷ n ∷ []))) (good_phase (at + 4) phase is.0) (good_numbers place (m ∷ n ∷ []) is.1 own))
  good_fact at (fact.Tab n ns) is own = good_entry (at + 4) n ns is.0 is.1 own
  good_fact at (fact.Ev e ns) is own = good_event (at + 3) e ns is.0 is.1 own
  good_fact at (fact.Mev e ns) is own = good_event (at + 4) e ns is.0 is.1 own
  good_fact at (fact.Bad ns) is own = (tt, good_numbers (at + 4) ns is.1 own)

  good_diff : (at : ℕ) (s : SidesOf ℕ) → AreSidesOver IsShort s → AllByRecursion (IsGood P table) (diff_items at (written_diff s))
  unfolding IsGood
  good_diff at s is =
      let behind = at + 6 + length (commas (map decimal s.left) []) in (
        tt,
        (
          length-map s.left decimal ∙ (is.paired ∙ sym (length-map s.right decimal)),
          all_append (IsGood P table) (map Side (placed (at + 5) (map decimal s.left))) (map Side (placed behind (map decimal s.right))) (good_sides (at + 5) s.left is.left) (good_sides behind s.right is.right),
        ),
      )

  good_later_diffs : (at : ℕ) (ds : List (SidesOf ℕ)) (f : Fact ℕ) → AllByRecursion (AreSidesOver IsShort) ds → IsFactOver IsShort P f → AreOwn table (terms_of f) → AllByRecursion (IsGood P table) (later_diff_items at (map written_diff ds) (written_fact P f))
  good_later_diffs at [] f all is own = good_fact (at + 4) f is own
  good_later_diffs at (d ∷ ds) f all is own =
      let place = at + 2 + length (diff_onto (written_diff d) []) in
      all_append (IsGood P table) (diff_items (at + 2) (written_diff d)) (later_diff_items place (map written_diff ds) (written_fact P f))
      (good_diff (at + 2) d all.0) (good_later_diffs place ds f all.1 is own)

  good_diffs : (at : ℕ) (ds : List (SidesOf ℕ)) (f : Fact ℕ) → AllByRecursion (AreSidesOver IsShort) ds → IsFactOver IsShort P f → AreOwn table (terms_of f) → AllByRecursion (IsGood P table) (diffs_items at (map written_diff ds) (written_fact P f))
  good_diffs at [] f all is own = good_fact (at + 3) f is own
  good_diffs at (d ∷ ds) f all is own =
      let place = at + length (diff_onto (written_diff d) []) in
      all_append (IsGood P table) (diff_items at (written_diff d)) (later_diff_items place (map written_diff ds) (written_fact P f))
      (good_diff at d all.0) (good_later_diffs place ds f all.1 is own)

  -- what is known of the premises and the conclusion of a clause
  record AreGood (hs : List (Fact ℕ)) (ds : List (SidesOf ℕ)) (f : Fact ℕ) : Type 0 where
    hypotheses : AllByRecursion (IsFactOver IsShort P) hs
    own : AllByRecursion (λ h. AreOwn table (terms_of h)) hs
    diffs : AllByRecursion (AreSidesOver IsShort) ds
    conclusion : IsFactOver IsShort P f
    concluded : AreOwn table (terms_of f)

  good_rest : (h : Fact ℕ) (hs : List (Fact ℕ)) (ds : List (SidesOf ℕ)) (f : Fact ℕ) → AreGood (h ∷ hs) ds f → AreGood hs ds f
  good_rest h hs ds f all = record { hypotheses = all.hypotheses.1; own = all.own.1; diffs = all.diffs; conclusion = all.conclusion; concluded = all.concluded }

  good_later : (at : ℕ) (hs : List (Fact ℕ)) (ds : List (SidesOf ℕ)) (f : Fact ℕ) → AreGood hs ds f → AllByRecursion (IsGood P table) (later_items at (map (written_fact P) hs) (map written_diff ds) (written_fact P f))
  good_later at [] ds f all = good_later_diffs at ds f all.diffs all.conclusion all.concluded
  good_later at (h ∷ hs) ds f all =
      let place = at + 2 + length (fact_onto (written_fact P h) []) in
      all_append (IsGood P table) (fact_items (at + 2) (written_fact P h)) (later_items place (map (written_fact P) hs) (map written_diff ds) (written_fact P f))
      (good_fact (at + 2) h all.hypotheses.0 all.own.0) (good_later place hs ds f (good_rest h hs ds f all))

  good_premises : (at : ℕ) (hs : List (Fact ℕ)) (ds : List (SidesOf ℕ)) (f : Fact ℕ) → AreGood hs ds f → AllByRecursion (IsGood P table) (premise_items at (map (written_fact P) hs) (map written_diff ds) (written_fact P f))
  good_premises at [] ds f all = good_diffs at ds f all.diffs all.conclusion all.concluded
  good_premises at (h ∷ hs) ds f all =
      let place = at + length (fact_onto (written_fact P h) []) in
      all_append (IsGood P table) (fact_items at (written_fact P h)) (later_items place (map (written_fact P) hs) (map written_diff ds) (written_fact P f))
      (good_fact at h all.hypotheses.0 all.own.0) (good_later place hs ds f (good_rest h hs ds f all))

  pub good_clauses : (at : ℕ) (cs : List (SpelledClause ℕ)) → AllByRecursion (IsClauseOver IsShort P) cs → AllByRecursion (HasOwnNumbers table) cs → AllByRecursion (IsGood P table) (clause_items at (map (written_clause P) cs))
  unfolding IsGood
  good_clauses at [] are own = tt
  good_clauses at (c ∷ cs) are own =
      let place = at + length (clause_line (written_clause P c) []) in
      let all : AreGood c.hypotheses c.diffs c.conclusion = record { hypotheses = are.0.hypotheses; own = own.0.hypotheses; diffs = are.0.diffs; conclusion = are.0.conclusion; concluded = own.0.conclusion } in (
        tt,
        all_append (IsGood P table) (premise_items (at + 2) (map (written_fact P) c.hypotheses) (map written_diff c.diffs) (written_fact P c.conclusion)) (clause_items place (map (written_clause P) cs))
            (good_premises (at + 2) c.hypotheses c.diffs c.conclusion all) (good_clauses place cs are.1 own.1),
      )

  -- Number, Symbol and Arity

  pub numbers_clear : (items : List Item) → AllByRecursion (IsGood P table) items → flat_map item_numbers items ≡ []
  unfolding IsGood
  numbers_clear [] good = refl
  numbers_clear (Begins place ∷ items) good = numbers_clear items good.1
  numbers_clear (Signs symbols ∷ items) good = numbers_clear items good.1
  numbers_clear (Event place word arguments ∷ items) good = numbers_clear items good.1
  numbers_clear (Entry place word arguments ∷ items) good = numbers_clear items good.1
  numbers_clear (Phase p ∷ items) good = ap (λ o. place_if (is_none o) p.place ++ flat_map item_numbers items) good.0.1 ∙ numbers_clear items good.1
  numbers_clear (Paired place left right ∷ items) good = numbers_clear items good.1
  numbers_clear (Number p ∷ items) good = ap (λ o. place_if (is_none o) p.place ++ flat_map item_numbers items) good.0.1 ∙ numbers_clear items good.1
  numbers_clear (Side p ∷ items) good = ap (λ o. place_if (is_none o) p.place ++ flat_map item_numbers items) good.0.1 ∙ numbers_clear items good.1

  pub symbols_clear : (items : List Item) → AllByRecursion (IsGood P table) items → flat_map (item_symbols P table) items ≡ []
  unfolding IsGood
  symbols_clear [] good = refl
  symbols_clear (Begins place ∷ items) good = symbols_clear items good.1
  symbols_clear (Signs symbols ∷ items) good = symbols_clear items good.1
  symbols_clear (Event place word arguments ∷ items) good = ap (λ o. place_if (is_none o) place ++ flat_map (item_symbols P table) items) good.0.1 ∙ symbols_clear items good.1
  symbols_clear (Entry place word arguments ∷ items) good = ap (λ o. place_if (is_none o) place ++ flat_map (item_symbols P table) items) good.0.1 ∙ symbols_clear items good.1
  symbols_clear (Phase p ∷ items) good =
      ap (λ o. place_if (option_map_or (λ k. not (is_later_phase P k)) o false) p.place ++ flat_map (item_symbols P table) items) good.0.1
      ∙ (ap (λ b. place_if (not b) p.place ++ flat_map (item_symbols P table) items) good.0.2 ∙ symbols_clear items good.1)
  symbols_clear (Paired place left right ∷ items) good = symbols_clear items good.1
  symbols_clear (Number p ∷ items) good =
      ap (λ o. place_if (option_map_or (λ n. holds_bound (term_at table n)) o false) p.place ++ flat_map (item_symbols P table) items) good.0.1
      ∙ (ap (λ b. place_if b p.place ++ flat_map (item_symbols P table) items) good.0.2 ∙ symbols_clear items good.1)
  symbols_clear (Side p ∷ items) good = symbols_clear items good.1

  pub arities_clear : (others : List ℕ) (items : List Item) → AllByRecursion (IsGood P table) items → item_arities P others items ≡ []
  unfolding IsGood
  arities_clear others [] good = refl
  arities_clear others (Begins place ∷ items) good = arities_clear others items good.1
  arities_clear others (Signs symbols ∷ items) good = arities_clear others items good.1
  arities_clear others (Event place word arguments ∷ items) good =
      let arity = good.0.2 in
      let same : (good.0.0.arity == arguments) ≡ true = grind (arith, nat_tests, arity) in
      ap (λ o. place_if (option_map_or (λ called. not (called.arity == arguments)) o false && not (list_any (stands_at others) (take arguments items))) place ++ item_arities P others items) good.0.1
      ∙ (ap (λ b. place_if (not b && not (list_any (stands_at others) (take arguments items))) place ++ item_arities P others items) same
      ∙ arities_clear others items good.1)
  arities_clear others (Entry place word arguments ∷ items) good =
      let arity = good.0.2 in
      let same : (good.0.0.arity == arguments) ≡ true = grind (arith, nat_tests, arity) in
      ap (λ o. place_if (option_map_or (λ called. not (called.arity == arguments)) o false && not (list_any (stands_at others) (take arguments items))) place ++ item_arities P others items) good.0.1
      ∙ (ap (λ b. place_if (not b && not (list_any (stands_at others) (take arguments items))) place ++ item_arities P others items) same
      ∙ arities_clear others items good.1)
  arities_clear others (Phase p ∷ items) good = arities_clear others items good.1
  arities_clear others (Paired place left right ∷ items) good =
      let equal = good.0 in
      let same : (left == right) ≡ true = grind (arith, nat_tests, equal) in
      ap (λ b. place_if (not b && not (list_any (stands_at others) (take (left + right) items))) place ++ item_arities P others items) same ∙ arities_clear others items good.1
  arities_clear others (Number p ∷ items) good = arities_clear others items good.1
  arities_clear others (Side p ∷ items) good = arities_clear others items good.1

-- Count: as many clauses begin as there are.

begins_append : (xs ys : List Item) → length (flat_map item_begins (xs ++ ys)) ≡ length (flat_map item_begins xs) + length (flat_map item_begins ys)
begins_append xs ys = ap length (flat_map-append item_begins xs ys) ∙ length-append (flat_map item_begins xs) (flat_map item_begins ys)

number_begins : (at : ℕ) (ds : List (List ℕ)) → flat_map item_begins (number_items at ds) ≡ []
number_begins at [] = refl
number_begins at (d ∷ ds) = number_begins (at + length d + 1) ds

side_begins : (at : ℕ) (ds : List (List ℕ)) → flat_map item_begins (map Side (placed at ds)) ≡ []
side_begins at [] = refl
side_begins at (d ∷ ds) = side_begins (at + length d + 1) ds

phase_begins : (at phase : ℕ) (items : List Item) → flat_map item_begins (phase_items at (phase_digits phase) ++ items) ≡ flat_map item_begins items
phase_begins at zero items = refl
phase_begins at (suc k) items = refl

module _ (P : Protocol) where
  fact_begins : (at : ℕ) (f : Fact ℕ) → length (flat_map item_begins (fact_items at (written_fact P f))) ≡ 0
  fact_begins at (fact.Att phase n) = ap length (phase_begins (at + 3) phase (number_items (at + 3 + phase_width (phase_digits phase) + 1) (map decimal (n ∷ []))))
  fact_begins at (fact.Mess phase m n) = ap length (phase_begins (at + 4) phase (number_items (at + 4 + phase_width (phase_digits phase) + 1) (map decimal (m ∷ n ∷ []))))
  fact_begins at (fact.Tab n ns) = ap length (number_begins (at + 4 + length (table_word P n) + 1) (map decimal ns))
  fact_begins at (fact.Ev e ns) = ap length (number_begins (at + 3 + length (event_word P e) + 1) (map decimal ns))
  fact_begins at (fact.Mev e ns) = ap length (number_begins (at + 4 + length (event_word P e) + 1) (map decimal ns))
  fact_begins at (fact.Bad ns) = ap length (number_begins (at + 4) (map decimal ns))

  diff_begins : (at : ℕ) (s : SidesOf ℕ) → length (flat_map item_begins (diff_items at (written_diff s))) ≡ 0
  diff_begins at s =
      let behind = at + 6 + length (commas (map decimal s.left) []) in
      let lefts : flat_map item_begins (map Side (placed (at + 5) (map decimal s.left))) ≡ [] = side_begins (at + 5) (map decimal s.left) in
      let rights : flat_map item_begins (map Side (placed behind (map decimal s.right))) ≡ [] = side_begins behind (map decimal s.right) in
      begins_append (map Side (placed (at + 5) (map decimal s.left))) (map Side (placed behind (map decimal s.right))) ∙ (λ i. length (lefts i) + length (rights i))

  later_diffs_begin : (at : ℕ) (ds : List (SidesOf ℕ)) (f : Fact ℕ) → length (flat_map item_begins (later_diff_items at (map written_diff ds) (written_fact P f))) ≡ 0
  later_diffs_begin at [] f = fact_begins (at + 4) f
  later_diffs_begin at (d ∷ ds) f =
      let place = at + 2 + length (diff_onto (written_diff d) []) in
      let both = begins_append (diff_items (at + 2) (written_diff d)) (later_diff_items place (map written_diff ds) (written_fact P f)) in
      let first = diff_begins (at + 2) d in
      let later = later_diffs_begin place ds f in omega arith

  diffs_begin : (at : ℕ) (ds : List (SidesOf ℕ)) (f : Fact ℕ) → length (flat_map item_begins (diffs_items at (map written_diff ds) (written_fact P f))) ≡ 0
  diffs_begin at [] f = fact_begins (at + 3) f
  diffs_begin at (d ∷ ds) f =
      let place = at + length (diff_onto (written_diff d) []) in
      let both = begins_append (diff_items at (written_diff d)) (later_diff_items place (map written_diff ds) (written_fact P f)) in
      let first = diff_begins at d in
      let later = later_diffs_begin place ds f in omega arith

  later_begins : (at : ℕ) (hs : List (Fact ℕ)) (ds : List (SidesOf ℕ)) (f : Fact ℕ) → length (flat_map item_begins (later_items at (map (written_fact P) hs) (map written_diff ds) (written_fact P f))) ≡ 0
  later_begins at [] ds f = later_diffs_begin at ds f
  later_begins at (h ∷ hs) ds f =
      let place = at + 2 + length (fact_onto (written_fact P h) []) in
      let both = begins_append (fact_items (at + 2) (written_fact P h)) (later_items place (map (written_fact P) hs) (map written_diff ds) (written_fact P f)) in
      let first = fact_begins (at + 2) h in
      let later = later_begins place hs ds f in omega arith

  premises_begin : (at : ℕ) (hs : List (Fact ℕ)) (ds : List (SidesOf ℕ)) (f : Fact ℕ) → length (flat_map item_begins (premise_items at (map (written_fact P) hs) (map written_diff ds) (written_fact P f))) ≡ 0
  premises_begin at [] ds f = diffs_begin at ds f
  premises_begin at (h ∷ hs) ds f =
      let place = at + length (fact_onto (written_fact P h) []) in
      let both = begins_append (fact_items at (written_fact P h)) (later_items place (map (written_fact P) hs) (map written_diff ds) (written_fact P f)) in
      let first = fact_begins at h in
      let later = later_begins place hs ds f in omega arith

  pub clause_begins : (at : ℕ) (cs : List (SpelledClause ℕ)) → length (flat_map item_begins (clause_items at (map (written_clause P) cs))) ≡ length cs
  clause_begins at [] = refl
  clause_begins at (c ∷ cs) =
      let place = at + length (clause_line (written_clause P c) []) in
      let both = begins_append (premise_items (at + 2) (map (written_fact P) c.hypotheses) (map written_diff c.diffs) (written_fact P c.conclusion)) (clause_items place (map (written_clause P) cs)) in
      let first = premises_begin (at + 2) c.hypotheses c.diffs c.conclusion in
      let later = clause_begins place cs in omega arith

  pub counts_clear : (at : ℕ) (cs : List (SpelledClause ℕ)) → length cs ≤ most_clauses → clause_counts (clause_items at (map (written_clause P) cs)) ≡ []
  counts_clear at cs few =
      let begun = flat_map item_begins (clause_items at (map (written_clause P) cs)) in
      let as_many = clause_begins at cs in
      ap (λ ys. take 1 ys) (drop_all begun most_clauses (omega arith))
    where
      drop_all : (ys : List ℕ) (n : ℕ) → length ys ≤ n → drop n ys ≡ []
      drop_all [] zero less = refl
      drop_all [] (suc n) less = refl
      drop_all (y ∷ ys) zero less = absurd (omega (arith, less))
      drop_all (y ∷ ys) (suc n) less = drop_all ys n (omega arith)

-- NodeOrder, by the numbers in order.

abbrev pub item_values : Item → List ℕ
item_values (Number p) = option_map_or (λ n. n ∷ []) (numeral p.digits) []
item_values (Side p) = option_map_or (λ n. n ∷ []) (numeral p.digits) []
item_values _ = []

number_values : (at : ℕ) (ns : List ℕ) → AllByRecursion IsShort ns → flat_map item_values (number_items at (map decimal ns)) ≡ ns
number_values at [] short = refl
number_values at (n ∷ ns) short =
    ap (λ o. option_map_or (λ m. m ∷ []) o [] ++ flat_map item_values (number_items (at + length (decimal n) + 1) (map decimal ns))) (numeral-decimal n short.0)
    ∙ ap (λ ms. n ∷ ms) (number_values (at + length (decimal n) + 1) ns short.1)

side_values : (at : ℕ) (ns : List ℕ) → AllByRecursion IsShort ns → flat_map item_values (map Side (placed at (map decimal ns))) ≡ ns
side_values at [] short = refl
side_values at (n ∷ ns) short =
    ap (λ o. option_map_or (λ m. m ∷ []) o [] ++ flat_map item_values (map Side (placed (at + length (decimal n) + 1) (map decimal ns)))) (numeral-decimal n short.0)
    ∙ ap (λ ms. n ∷ ms) (side_values (at + length (decimal n) + 1) ns short.1)

values_append : (xs ys : List Item) (ms ns : List ℕ) → flat_map item_values xs ≡ ms → flat_map item_values ys ≡ ns → flat_map item_values (xs ++ ys) ≡ ms ++ ns
values_append xs ys ms ns first later = flat_map-append item_values xs ys ∙ (ap (λ zs. zs ++ flat_map item_values ys) first ∙ ap (λ zs. ms ++ zs) later)

phase_values : (at phase : ℕ) (items : List Item) → flat_map item_values (phase_items at (phase_digits phase) ++ items) ≡ flat_map item_values items
phase_values at zero items = refl
phase_values at (suc k) items = refl

module _ (P : Protocol) where
  fact_values : (at : ℕ) (f : Fact ℕ) → IsFactOver IsShort P f → flat_map item_values (fact_items at (written_fact P f)) ≡ terms_of f
  fact_values at (fact.Att phase n) is =
      let place = at + 3 + phase_width (phase_digits phase) + 1 in
      phase_values (at + 3) phase (number_items place (map decimal (n ∷ []))) ∙ number_values place (n ∷ []) is.1
  fact_values at (fact.Mess phase m n) is =
      let place = at + 4 + phase_width (phase_digits phase) + 1 in
      phase_values (at + 4) phase (number_items place (map decimal (m ∷ n ∷ []))) ∙ number_values place (m ∷ n ∷ []) is.1
  fact_values at (fact.Tab n ns) is = number_values (at + 4 + length (table_word P n) + 1) ns is.1
  fact_values at (fact.Ev e ns) is = number_values (at + 3 + length (event_word P e) + 1) ns is.1
  fact_values at (fact.Mev e ns) is = number_values (at + 4 + length (event_word P e) + 1) ns is.1
  fact_values at (fact.Bad ns) is = number_values (at + 4) ns is.1

  diff_values : (at : ℕ) (s : SidesOf ℕ) → AreSidesOver IsShort s → flat_map item_values (diff_items at (written_diff s)) ≡ sides_in_order s
  diff_values at s is =
      let behind = at + 6 + length (commas (map decimal s.left) []) in
      values_append (map Side (placed (at + 5) (map decimal s.left))) (map Side (placed behind (map decimal s.right))) s.left s.right (side_values (at + 5) s.left is.left) (side_values behind s.right is.right)

  later_diffs_values : (at : ℕ) (ds : List (SidesOf ℕ)) (f : Fact ℕ) → AllByRecursion (AreSidesOver IsShort) ds → IsFactOver IsShort P f
      → flat_map item_values (later_diff_items at (map written_diff ds) (written_fact P f)) ≡ flat_map sides_in_order ds ++ terms_of f
  later_diffs_values at [] f all is = fact_values (at + 4) f is
  later_diffs_values at (d ∷ ds) f all is =
      let place = at + 2 + length (diff_onto (written_diff d) []) in
      values_append (diff_items (at + 2) (written_diff d)) (later_diff_items place (map written_diff ds) (written_fact P f)) (sides_in_order d) (flat_map sides_in_order ds ++ terms_of f)
      (diff_values (at + 2) d all.0) (later_diffs_values place ds f all.1 is)
      ∙ sym (append_assoc (sides_in_order d) (flat_map sides_in_order ds) (terms_of f))

  diffs_values : (at : ℕ) (ds : List (SidesOf ℕ)) (f : Fact ℕ) → AllByRecursion (AreSidesOver IsShort) ds → IsFactOver IsShort P f
      → flat_map item_values (diffs_items at (map written_diff ds) (written_fact P f)) ≡ flat_map sides_in_order ds ++ terms_of f
  diffs_values at [] f all is = fact_values (at + 3) f is
  diffs_values at (d ∷ ds) f all is =
      let place = at + length (diff_onto (written_diff d) []) in
      values_append (diff_items at (written_diff d)) (later_diff_items place (map written_diff ds) (written_fact P f)) (sides_in_order d) (flat_map sides_in_order ds ++ terms_of f)
      (diff_values at d all.0) (later_diffs_values place ds f all.1 is)
      ∙ sym (append_assoc (sides_in_order d) (flat_map sides_in_order ds) (terms_of f))

  -- the numbers of a clause, from its hypotheses on
  abbrev numbers_in : List (Fact ℕ) → List (SidesOf ℕ) → Fact ℕ → List ℕ
  numbers_in hs ds f = flat_map terms_of hs ++ (flat_map sides_in_order ds ++ terms_of f)

  later_values : (at : ℕ) (hs : List (Fact ℕ)) (ds : List (SidesOf ℕ)) (f : Fact ℕ) → AllByRecursion (IsFactOver IsShort P) hs → AllByRecursion (AreSidesOver IsShort) ds → IsFactOver IsShort P f
      → flat_map item_values (later_items at (map (written_fact P) hs) (map written_diff ds) (written_fact P f)) ≡ numbers_in hs ds f
  later_values at [] ds f are all is = later_diffs_values at ds f all is
  later_values at (h ∷ hs) ds f are all is =
      let place = at + 2 + length (fact_onto (written_fact P h) []) in
      values_append (fact_items (at + 2) (written_fact P h)) (later_items place (map (written_fact P) hs) (map written_diff ds) (written_fact P f)) (terms_of h) (numbers_in hs ds f)
      (fact_values (at + 2) h are.0) (later_values place hs ds f are.1 all is)
      ∙ sym (append_assoc (terms_of h) (flat_map terms_of hs) (flat_map sides_in_order ds ++ terms_of f))

  premises_values : (at : ℕ) (hs : List (Fact ℕ)) (ds : List (SidesOf ℕ)) (f : Fact ℕ) → AllByRecursion (IsFactOver IsShort P) hs → AllByRecursion (AreSidesOver IsShort) ds → IsFactOver IsShort P f
      → flat_map item_values (premise_items at (map (written_fact P) hs) (map written_diff ds) (written_fact P f)) ≡ numbers_in hs ds f
  premises_values at [] ds f are all is = diffs_values at ds f all is
  premises_values at (h ∷ hs) ds f are all is =
      let place = at + length (fact_onto (written_fact P h) []) in
      values_append (fact_items at (written_fact P h)) (later_items place (map (written_fact P) hs) (map written_diff ds) (written_fact P f)) (terms_of h) (numbers_in hs ds f)
      (fact_values at h are.0) (later_values place hs ds f are.1 all is)
      ∙ sym (append_assoc (terms_of h) (flat_map terms_of hs) (flat_map sides_in_order ds ++ terms_of f))

  pub clause_values : (at : ℕ) (cs : List (SpelledClause ℕ)) → AllByRecursion (IsClauseOver IsShort P) cs → flat_map item_values (clause_items at (map (written_clause P) cs)) ≡ flat_map spelled_terms cs
  clause_values at [] are = refl
  clause_values at (c ∷ cs) are =
      let place = at + length (clause_line (written_clause P c) []) in
      values_append (premise_items (at + 2) (map (written_fact P) c.hypotheses) (map written_diff c.diffs) (written_fact P c.conclusion)) (clause_items place (map (written_clause P) cs))
      (spelled_terms c) (flat_map spelled_terms cs)
      (premises_values (at + 2) c.hypotheses c.diffs c.conclusion are.0.hypotheses are.0.diffs are.0.conclusion) (clause_values place cs are.1)
