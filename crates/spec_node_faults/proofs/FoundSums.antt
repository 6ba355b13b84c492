-- Where no number of clauses is told too large, what they mean is within the limits.
use Rattle.std.proofs.Common.{◌≡◌, ℕ, ◌+◌, ◌≤◌, false, ◌||◌, List, [], ◌∷◌, ◌++◌, map, length, refl, sym, ◌∙◌, ap, subst, arith}
use Rattle.std.specs.Fmt.{decimal}
use Rattle.std.specs.Option.{option_map_or}
use Rattle.std.specs.List.{AllByRecursion}
use Rattle.std.proofs.lemmas.List.{append_assoc}
use Rattle.std.proofs.lemmas.Bool.Decides.{nat_tests}
use Rattle.spec_trees.specs.Tree.{size}
use Rattle.spec_calculus.specs.Bounds.{most_symbols}
use Rattle.spec_calculus.specs.Syntax.{Protocol}
use Rattle.spec_run_text.proofs.Numbers.{numeral-decimal}
use Rattle.spec_terms.specs.Term.{Term}
use Rattle.spec_clauses.specs.Fact.{Fact, Clause, terms_of, map_fact, total, clause_size}
use Rattle.spec_clauses.specs.Fact as fact
use Rattle.spec_clauses.proofs.Lists.{all_append}
use Rattle.spec_certificate_text.specs.Sides.{SidesOf, SpelledClause, sides_in_order, meant_diff, meant_clause, map_sides, map_spelled}
use Rattle.spec_certificate_text.specs.Words.{event_word, table_word}
use Rattle.spec_certificate_text.specs.OfProtocol.{IsShort}
use Rattle.spec_certificate_text.proofs.Sides.{diff_spelled}
use Rattle.spec_node_tables.specs.Nodes.{term_at}
use Rattle.spec_node_tables.specs.OfProtocol.{IsFactOver, AreSidesOver, IsClauseOver}
use Rattle.spec_node_tables.specs.Large.{most_certificate_symbols, up_to_terms, Piece, fact_piece, diff_piece, pieces, piece_size, up_to_piece, up_to_pieces, up_to_clause, up_to_clauses, AreUpTo, is_over}
use Rattle.spec_node_tables.proofs.Sizes.{total-append, pieces_total}
use Rattle.spec_node_faults.specs.Loose.{commas, phase_digits, fact_onto, diff_onto, clause_line, written_fact, written_diff, written_clause}
use Rattle.spec_node_faults.specs.Nodes.{Placed, placed, place_if}
use Rattle.spec_node_faults.specs.Clauses.{Item, Number, Side, fact_items, diff_items, later_diff_items, diffs_items, later_items, premise_items, clause_items, item_larges, phase_width}
use Rattle.spec_node_faults.proofs.Sums.{CountsTerm, numbers_count, sides_count, up_to_append, same_sums, behind_phase}
use Rattle.spec_node_faults.proofs.FoundNodes.{first_empty, second_empty, not_wrong, neither_first, neither_second}

-- the symbols up to these terms are within both limits
record Within (clause all : ℕ) (ts : List Term) : Type 0 where
  small : AreUpTo most_symbols (up_to_terms clause ts)
  together : AreUpTo most_certificate_symbols (up_to_terms all ts)

module _ (table : List Term) (P : Protocol) where
  abbrev meant : Fact ℕ → Fact Term
  meant f = map_fact (term_at table) f

  numbers_within : (item : Placed → Item) → CountsTerm table item → (ns : List ℕ) (clause sum at : ℕ) (k : List Item) → AllByRecursion IsShort ns → item_larges table clause sum (map item (placed at (map decimal ns)) ++ k) ≡ []
      → Within clause sum (map (term_at table) ns) × (item_larges table (clause + total size (map (term_at table) ns)) (sum + total size (map (term_at table) ns)) k ≡ [])
  numbers_within item counts [] clause sum at k short none = (record { small = tt; together = tt }, same_sums table (clause + 0) (sum + 0) clause sum k (omega arith) (omega arith) ∙ none)
  numbers_within item counts (n ∷ ns) clause sum at k short none =
      let t = term_at table n in
      let rest = map item (placed (at + length (decimal n) + 1) (map decimal ns)) ++ k in
      let test = is_over most_symbols (clause + size t) || is_over most_certificate_symbols (sum + size t) in
      let later = item_larges table (clause + size t) (sum + size t) rest in
      let both : place_if test at ++ later ≡ [] =
      subst (λ o. option_map_or (λ m. place_if (is_over most_symbols (clause + size (term_at table m)) || is_over most_certificate_symbols (sum + size (term_at table m))) at ++ item_larges table (clause + size (term_at table m)) (sum + size (term_at table m)) rest) o (item_larges table clause sum rest) ≡ [])
      (numeral-decimal n short.0) (sym (counts clause sum record { place = at; digits = decimal n } rest) ∙ none) in
      let over : test ≡ false = not_wrong test at (first_empty (place_if test at) later both) in
      let one : is_over most_symbols (clause + size t) ≡ false = neither_first (is_over most_symbols (clause + size t)) (is_over most_certificate_symbols (sum + size t)) over in
      let two : is_over most_certificate_symbols (sum + size t) ≡ false = neither_second (is_over most_symbols (clause + size t)) (is_over most_certificate_symbols (sum + size t)) over in
      let others = numbers_within item counts ns (clause + size t) (sum + size t) (at + length (decimal n) + 1) k short.1 (second_empty (place_if test at) later both) in
      let sizes = total size (map (term_at table) ns) in (
        record { small = (grind (arith, nat_tests, one), others.0.small); together = (grind (arith, nat_tests, two), others.0.together) },
        same_sums table (clause + (size t + sizes)) (sum + (size t + sizes)) (clause + size t + sizes) (sum + size t + sizes) k (omega arith) (omega arith) ∙ others.1,
      )

  -- a part of a clause of which no item is told too large, and parts one behind another

  record PieceWithin (clause sum : ℕ) (p : Piece) (k : List Item) : Type 0 where
    small : AreUpTo most_symbols (up_to_piece clause p)
    together : AreUpTo most_certificate_symbols (up_to_piece sum p)
    later : item_larges table (clause + piece_size p) (sum + piece_size p) k ≡ []

  record PiecesWithin (clause sum : ℕ) (ps : List Piece) (k : List Item) : Type 0 where
    small : AreUpTo most_symbols (up_to_pieces clause ps)
    together : AreUpTo most_certificate_symbols (up_to_pieces sum ps)
    later : item_larges table (clause + total piece_size ps) (sum + total piece_size ps) k ≡ []

  abbrev Bounds : Piece → List Item → Type 0
  Bounds p items = (clause sum : ℕ) (k : List Item) → item_larges table clause sum (items ++ k) ≡ [] → PieceWithin clause sum p k

  abbrev AllBound : List Piece → List Item → Type 0
  AllBound ps items = (clause sum : ℕ) (k : List Item) → item_larges table clause sum (items ++ k) ≡ [] → PiecesWithin clause sum ps k

  one_bounds : (p : Piece) (items : List Item) → Bounds p items → AllBound (p ∷ []) items
  one_bounds p items bounds clause sum k none =
      let one = bounds clause sum k none in
      let s = piece_size p in
      record {
        small = all_append (λ n. n ≤ most_symbols) (up_to_piece clause p) [] one.small tt;
        together = all_append (λ n. n ≤ most_certificate_symbols) (up_to_piece sum p) [] one.together tt;
        later = same_sums table (clause + (s + 0)) (sum + (s + 0)) (clause + s) (sum + s) k (omega arith) (omega arith) ∙ one.later;
      }

  more_bound : (p : Piece) (ps : List Piece) (items later : List Item) → Bounds p items → AllBound ps later → AllBound (p ∷ ps) (items ++ later)
  more_bound p ps items later first rest clause sum k none =
      let one = first clause sum (later ++ k) (ap (item_larges table clause sum) (sym (append_assoc items later k)) ∙ none) in
      let s = piece_size p in
      let all = total piece_size ps in
      let others = rest (clause + s) (sum + s) k one.later in
      record {
        small = all_append (λ n. n ≤ most_symbols) (up_to_piece clause p) (up_to_pieces (clause + s) ps) one.small others.small;
        together = all_append (λ n. n ≤ most_certificate_symbols) (up_to_piece sum p) (up_to_pieces (sum + s) ps) one.together others.together;
        later = same_sums table (clause + (s + all)) (sum + (s + all)) (clause + s + all) (sum + s + all) k (omega arith) (omega arith) ∙ others.later;
      }

  fact_bounds : (f : Fact ℕ) (at : ℕ) → AllByRecursion IsShort (terms_of f) → Bounds (fact_piece (meant f)) (fact_items at (written_fact P f))
  fact_bounds (fact.Att phase n) at short clause sum k none =
      let place = at + 3 + phase_width (phase_digits phase) + 1 in
      let so = numbers_within Number (numbers_count table) (n ∷ []) (clause + 1) (sum + 1) place k short (sym (behind_phase table (clause + 1) (sum + 1) (at + 3) place phase (n ∷ []) k) ∙ none) in
      let sizes = total size (map (term_at table) (n ∷ [])) in
      record { small = so.0.small; together = so.0.together; later = same_sums table (clause + (1 + sizes)) (sum + (1 + sizes)) (clause + 1 + sizes) (sum + 1 + sizes) k (omega arith) (omega arith) ∙ so.1 }
  fact_bounds (fact.Mess phase m n) at short clause sum k none =
      let place = at + 4 + phase_width (phase_digits phase) + 1 in
      let so = numbers_within Number (numbers_count table) (m ∷ n ∷ []) (clause + 1) (sum + 1) place k short (sym (behind_phase table (clause + 1) (sum + 1) (at + 4) place phase (m ∷ n ∷ []) k) ∙ none) in
      let sizes = total size (map (term_at table) (m ∷ n ∷ [])) in
      record { small = so.0.small; together = so.0.together; later = same_sums table (clause + (1 + sizes)) (sum + (1 + sizes)) (clause + 1 + sizes) (sum + 1 + sizes) k (omega arith) (omega arith) ∙ so.1 }
  fact_bounds (fact.Tab n ns) at short clause sum k none =
      let so = numbers_within Number (numbers_count table) ns (clause + 2) (sum + 2) (at + 4 + length (table_word P n) + 1) k short none in
      let sizes = total size (map (term_at table) ns) in
      record { small = so.0.small; together = so.0.together; later = same_sums table (clause + (2 + sizes)) (sum + (2 + sizes)) (clause + 2 + sizes) (sum + 2 + sizes) k (omega arith) (omega arith) ∙ so.1 }
  fact_bounds (fact.Ev e ns) at short clause sum k none =
      let so = numbers_within Number (numbers_count table) ns (clause + 2) (sum + 2) (at + 3 + length (event_word P e) + 1) k short none in
      let sizes = total size (map (term_at table) ns) in
      record { small = so.0.small; together = so.0.together; later = same_sums table (clause + (2 + sizes)) (sum + (2 + sizes)) (clause + 2 + sizes) (sum + 2 + sizes) k (omega arith) (omega arith) ∙ so.1 }
  fact_bounds (fact.Mev e ns) at short clause sum k none =
      let so = numbers_within Number (numbers_count table) ns (clause + 2) (sum + 2) (at + 4 + length (event_word P e) + 1) k short none in
      let sizes = total size (map (term_at table) ns) in
      record { small = so.0.small; together = so.0.together; later = same_sums table (clause + (2 + sizes)) (sum + (2 + sizes)) (clause + 2 + sizes) (sum + 2 + sizes) k (omega arith) (omega arith) ∙ so.1 }
  fact_bounds (fact.Bad ns) at short clause sum k none =
      let so = numbers_within Number (numbers_count table) ns (clause + 1) (sum + 1) (at + 4) k short none in
      let sizes = total size (map (term_at table) ns) in
      record { small = so.0.small; together = so.0.together; later = same_sums table (clause + (1 + sizes)) (sum + (1 + sizes)) (clause + 1 + sizes) (sum + 1 + sizes) k (omega arith) (omega arith) ∙ so.1 }

  -- a constraint as it is spelled
  abbrev sides_piece : SidesOf Term → Piece
  sides_piece s = record { signs = 1; terms = sides_in_order s }

  sides_bound : (s : SidesOf ℕ) (at : ℕ) → AreSidesOver IsShort s → Bounds (sides_piece (map_sides (term_at table) s)) (diff_items at (written_diff s))
  sides_bound s at is clause sum k none =
      let lefts = map decimal s.left in
      let rights = map decimal s.right in
      let behind = at + 6 + length (commas lefts []) in
      let left_items = map Side (placed (at + 5) lefts) in
      let right_items = map Side (placed behind rights) in
      let ts = map (term_at table) s.left in
      let us = map (term_at table) s.right in
      let a = total size ts in
      let b = total size us in
      let first = numbers_within Side (sides_count table) s.left (clause + 1) (sum + 1) (at + 5) (right_items ++ k) is.left (ap (item_larges table (clause + 1) (sum + 1)) (sym (append_assoc left_items right_items k)) ∙ none) in
      let later = numbers_within Side (sides_count table) s.right (clause + 1 + a) (sum + 1 + a) behind k is.right first.1 in
      let sizes = total-append size ts us in
      record {
        small = subst (AreUpTo most_symbols) (sym (up_to_append (clause + 1) ts us)) (all_append (λ n. n ≤ most_symbols) (up_to_terms (clause + 1) ts) (up_to_terms (clause + 1 + a) us) first.0.small later.0.small);
        together = subst (AreUpTo most_certificate_symbols) (sym (up_to_append (sum + 1) ts us)) (all_append (λ n. n ≤ most_certificate_symbols) (up_to_terms (sum + 1) ts) (up_to_terms (sum + 1 + a) us) first.0.together later.0.together);
        later = same_sums table (clause + (1 + total size (ts ++ us))) (sum + (1 + total size (ts ++ us))) (clause + 1 + a + b) (sum + 1 + a + b) k (omega (arith, sizes)) (omega (arith, sizes)) ∙ later.1;
      }

  abbrev meant_sides : SidesOf ℕ → SidesOf Term
  meant_sides s = map_sides (term_at table) s

  diff_bounds : (s : SidesOf ℕ) (at : ℕ) → AreSidesOver IsShort s → Bounds (diff_piece (meant_diff (meant_sides s))) (diff_items at (written_diff s))
  diff_bounds s at is = subst (λ d. Bounds (sides_piece d) (diff_items at (written_diff s))) (sym (diff_spelled (meant_sides s))) (sides_bound s at is)

  abbrev last_pieces : List (SidesOf ℕ) → Fact ℕ → List Piece
  last_pieces ds f = map diff_piece (map meant_diff (map (map_sides (term_at table)) ds)) ++ (fact_piece (meant f) ∷ [])

  abbrev all_pieces : List (Fact ℕ) → List (SidesOf ℕ) → Fact ℕ → List Piece
  all_pieces hs ds f = map fact_piece (map (map_fact (term_at table)) hs) ++ last_pieces ds f

  later_diffs_bound : (ds : List (SidesOf ℕ)) (f : Fact ℕ) (at : ℕ) → AllByRecursion (AreSidesOver IsShort) ds → IsFactOver IsShort P f → AllBound (last_pieces ds f) (later_diff_items at (map written_diff ds) (written_fact P f))
  later_diffs_bound [] f at all is = one_bounds (fact_piece (meant f)) (fact_items (at + 4) (written_fact P f)) (fact_bounds f (at + 4) is.1)
  later_diffs_bound (d ∷ ds) f at all is =
      let place = at + 2 + length (diff_onto (written_diff d) []) in
      more_bound (diff_piece (meant_diff (meant_sides d))) (last_pieces ds f) (diff_items (at + 2) (written_diff d)) (later_diff_items place (map written_diff ds) (written_fact P f)) (diff_bounds d (at + 2) all.0) (later_diffs_bound ds f place all.1 is)

  diffs_bound : (ds : List (SidesOf ℕ)) (f : Fact ℕ) (at : ℕ) → AllByRecursion (AreSidesOver IsShort) ds → IsFactOver IsShort P f → AllBound (last_pieces ds f) (diffs_items at (map written_diff ds) (written_fact P f))
  diffs_bound [] f at all is = one_bounds (fact_piece (meant f)) (fact_items (at + 3) (written_fact P f)) (fact_bounds f (at + 3) is.1)
  diffs_bound (d ∷ ds) f at all is =
      let place = at + length (diff_onto (written_diff d) []) in
      more_bound (diff_piece (meant_diff (meant_sides d))) (last_pieces ds f) (diff_items at (written_diff d)) (later_diff_items place (map written_diff ds) (written_fact P f)) (diff_bounds d at all.0) (later_diffs_bound ds f place all.1 is)

  later_bound : (hs : List (Fact ℕ)) (ds : List (SidesOf ℕ)) (f : Fact ℕ) (at : ℕ) → AllByRecursion (IsFactOver IsShort P) hs → AllByRecursion (AreSidesOver IsShort) ds → IsFactOver IsShort P f
      → AllBound (all_pieces hs ds f) (later_items at (map (written_fact P) hs) (map written_diff ds) (written_fact P f))
  later_bound [] ds f at are all is = later_diffs_bound ds f at all is
  later_bound (h ∷ hs) ds f at are all is =
      let place = at + 2 + length (fact_onto (written_fact P h) []) in
      more_bound (fact_piece (meant h)) (all_pieces hs ds f) (fact_items (at + 2) (written_fact P h)) (later_items place (map (written_fact P) hs) (map written_diff ds) (written_fact P f)) (fact_bounds h (at + 2) are.0.1) (later_bound hs ds f place are.1 all is)

  premises_bound : (hs : List (Fact ℕ)) (ds : List (SidesOf ℕ)) (f : Fact ℕ) (at : ℕ) → AllByRecursion (IsFactOver IsShort P) hs → AllByRecursion (AreSidesOver IsShort) ds → IsFactOver IsShort P f
      → AllBound (all_pieces hs ds f) (premise_items at (map (written_fact P) hs) (map written_diff ds) (written_fact P f))
  premises_bound [] ds f at are all is = diffs_bound ds f at all is
  premises_bound (h ∷ hs) ds f at are all is =
      let place = at + length (fact_onto (written_fact P h) []) in
      more_bound (fact_piece (meant h)) (all_pieces hs ds f) (fact_items at (written_fact P h)) (later_items place (map (written_fact P) hs) (map written_diff ds) (written_fact P f)) (fact_bounds h at are.0.1) (later_bound hs ds f place are.1 all is)

  pub record ClausesWithin (sum : ℕ) (cs : List (Clause Term)) : Type 0 where
    pub small : AllByRecursion (λ c. AreUpTo most_symbols (up_to_clause 0 c)) cs
    pub together : AreUpTo most_certificate_symbols (up_to_clauses sum cs)

  pub clauses_within : (cs : List (SpelledClause ℕ)) (clause sum at : ℕ) → AllByRecursion (IsClauseOver IsShort P) cs → item_larges table clause sum (clause_items at (map (written_clause P) cs)) ≡ []
      → ClausesWithin sum (map (λ c. meant_clause (map_spelled (term_at table) c)) cs)
  clauses_within [] clause sum at are none = record { small = tt; together = tt }
  clauses_within (c ∷ cs) clause sum at are none =
      let place = at + length (clause_line (written_clause P c) []) in
      let rest = clause_items place (map (written_clause P) cs) in
      let d : Clause Term = meant_clause (map_spelled (term_at table) c) in
      let one = premises_bound c.hypotheses c.diffs c.conclusion (at + 2) are.0.hypotheses are.0.diffs are.0.conclusion 0 sum rest none in
      let whole = pieces_total d in
      let sizes = total piece_size (pieces d) in
      let others = clauses_within cs (0 + sizes) (sum + clause_size d) place are.1 (same_sums table (0 + sizes) (sum + clause_size d) (0 + sizes) (sum + sizes) rest refl (omega arith) ∙ one.later) in
      record { small = (one.small, others.small); together = all_append (λ n. n ≤ most_certificate_symbols) (up_to_clause sum d) (up_to_clauses (sum + clause_size d) (map (λ e. meant_clause (map_spelled (term_at table) e)) cs)) one.together others.together }
