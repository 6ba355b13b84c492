-- The symbols up to each number of a certificate's clauses are those up to each term.
use Rattle.std.proofs.Common.{◌≡◌, ℕ, zero, suc, ◌+◌, ◌≤◌, false, ◌||◌, List, [], ◌∷◌, ◌++◌, map, length, unwrap_or, refl, sym, ◌∙◌, ap, subst, arith}
use Rattle.std.specs.Fmt.{decimal}
use Rattle.std.specs.Option.{option_map_or}
use Rattle.std.specs.List.{AllByRecursion}
use Rattle.std.proofs.lemmas.List.{append_assoc}
use Rattle.std.proofs.lemmas.Bool.Decides.{nat_tests}
use Rattle.spec_trees.specs.Tree.{Leaf, size}
use Rattle.spec_calculus.specs.Bounds.{most_symbols}
use Rattle.spec_calculus.specs.Syntax.{Protocol}
use Rattle.spec_run_text.specs.Reading.{numeral}
use Rattle.spec_run_text.proofs.Numbers.{numeral-decimal}
use Rattle.spec_terms.specs.Term.{Term}
use Rattle.spec_clauses.specs.Diff.{Diff}
use Rattle.spec_clauses.specs.Fact.{Fact, Att, Mess, Tab, Ev, Mev, Bad, Clause, map_fact, total, clause_size}
use Rattle.spec_clauses.specs.Inclusion.{Has}
use Rattle.spec_clauses.proofs.Lists.{all_first, all_second, all-from_flat_map}
use Rattle.spec_certificate_text.specs.Sides.{spelled_diff, spelled_clause, map_sides, map_spelled}
use Rattle.spec_certificate_text.specs.Words.{event_word, table_word}
use Rattle.spec_certificate_text.specs.OfProtocol.{IsShort}
use Rattle.spec_node_tables.specs.Table.{spelled_terms, number_in}
use Rattle.spec_node_tables.specs.Nodes.{term_at}
use Rattle.spec_node_tables.specs.Large.{most_certificate_symbols, up_to_terms, Piece, fact_piece, diff_piece, pieces, piece_size, up_to_piece, up_to_pieces, up_to_clause, up_to_clauses, AreUpTo, is_over}
use Rattle.spec_node_tables.proofs.Numbers.{at_place}
use Rattle.spec_node_tables.proofs.Sizes.{total-append, piece_terms, pieces_terms, pieces_total}
use Rattle.spec_node_faults.specs.Loose.{LooseFact, LooseDiff, commas, phase_digits, fact_onto, diff_onto, clause_line, written_fact, written_diff, written_clause}
use Rattle.spec_node_faults.specs.Nodes.{Placed, placed, place_if}
use Rattle.spec_node_faults.specs.Clauses.{Item, Number, Side, number_items, fact_items, diff_items, later_diff_items, diffs_items, later_items, premise_items, clause_items, item_larges, phase_items, phase_width}

-- a term of the table, with a number within the limit of digits
pub record IsCounted (all : List Term) (t : Term) : Type 0 where
  pub there : Has all t
  pub short : IsShort (number_in all t)

-- what is told of a number of a fact, or of a side
abbrev pub CountsTerm : List Term → (Placed → Item) → Type 0
CountsTerm all item = (clause sum : ℕ) (p : Placed) (k : List Item) → item_larges all clause sum (item p ∷ k)
    ≡ option_map_or (λ n. place_if (is_over most_symbols (clause + size (term_at all n)) || is_over most_certificate_symbols (sum + size (term_at all n))) p.place ++ item_larges all (clause + size (term_at all n)) (sum + size (term_at all n)) k)
    (numeral p.digits) (item_larges all clause sum k)

pub numbers_count : (all : List Term) → CountsTerm all Number
numbers_count all clause sum p k = refl

pub sides_count : (all : List Term) → CountsTerm all Side
sides_count all clause sum p k = refl

-- terms one behind another
pub up_to_append : (before : ℕ) (ts us : List Term) → up_to_terms before (ts ++ us) ≡ up_to_terms before ts ++ up_to_terms (before + total size ts) us
up_to_append before [] us = let same : before ≡ before + 0 = omega arith in ap (λ n. up_to_terms n us) same
up_to_append before (t ∷ ts) us =
    let same : before + size t + total size ts ≡ before + (size t + total size ts) = omega arith in
    ap (λ ns. (before + size t) ∷ ns) (up_to_append (before + size t) ts us ∙ ap (λ n. up_to_terms (before + size t) ts ++ up_to_terms n us) same)

module _ (all : List Term) where
  pub same_sums : (a b c d : ℕ) (k : List Item) → a ≡ c → b ≡ d → item_larges all a b k ≡ item_larges all c d k
  same_sums a b c d k first second = ap (λ x. item_larges all x b k) first ∙ ap (λ x. item_larges all c x k) second

  one_within : (clause sum place : ℕ) (t : Term) → clause + size t ≤ most_symbols → sum + size t ≤ most_certificate_symbols → place_if (is_over most_symbols (clause + size t) || is_over most_certificate_symbols (sum + size t)) place ≡ []
  one_within clause sum place t small together =
      let first : is_over most_symbols (clause + size t) ≡ false = grind (arith, nat_tests, small) in
      let second : is_over most_certificate_symbols (sum + size t) ≡ false = grind (arith, nat_tests, together) in
      ap (λ b. place_if (b || is_over most_certificate_symbols (sum + size t)) place) first ∙ ap (λ b. place_if b place) second

  terms_summed : (item : Placed → Item) → CountsTerm all item → (ts : List Term) (clause sum at : ℕ) (k : List Item) → AllByRecursion (IsCounted all) ts → AreUpTo most_symbols (up_to_terms clause ts) → AreUpTo most_certificate_symbols (up_to_terms sum ts)
      → item_larges all clause sum (map item (placed at (map decimal (map (number_in all) ts))) ++ k) ≡ item_larges all (clause + total size ts) (sum + total size ts) k
  terms_summed item counts [] clause sum at k stand small together = same_sums clause sum (clause + 0) (sum + 0) k (omega arith) (omega arith)
  terms_summed item counts (t ∷ ts) clause sum at k stand small together =
      let n = number_in all t in
      let rest = map item (placed (at + length (decimal n) + 1) (map decimal (map (number_in all) ts))) ++ k in
      let meaning : term_at all n ≡ t = ap (λ o. unwrap_or o (Leaf 0)) (at_place all t stand.0.there) in
      counts clause sum record { place = at; digits = decimal n } rest
      ∙ (ap (λ o. option_map_or (λ m. place_if (is_over most_symbols (clause + size (term_at all m)) || is_over most_certificate_symbols (sum + size (term_at all m))) at ++ item_larges all (clause + size (term_at all m)) (sum + size (term_at all m)) rest) o (item_larges all clause sum rest)) (numeral-decimal n stand.0.short)
      ∙ (ap (λ u. place_if (is_over most_symbols (clause + size u) || is_over most_certificate_symbols (sum + size u)) at ++ item_larges all (clause + size u) (sum + size u) rest) meaning
      ∙ (ap (λ ys. ys ++ item_larges all (clause + size t) (sum + size t) rest) (one_within clause sum at t small.0 together.0)
      ∙ (terms_summed item counts ts (clause + size t) (sum + size t) (at + length (decimal n) + 1) k stand.1 small.1 together.1
      ∙ same_sums (clause + size t + total size ts) (sum + size t + total size ts) (clause + (size t + total size ts)) (sum + (size t + total size ts)) k (omega arith) (omega arith)))))

  phase_summed : (clause sum at phase : ℕ) (k : List Item) → item_larges all clause sum (phase_items at (phase_digits phase) ++ k) ≡ item_larges all clause sum k
  phase_summed clause sum at zero k = refl
  phase_summed clause sum at (suc phase) k = refl

  pub behind_phase : (clause sum at place phase : ℕ) (ns : List ℕ) (k : List Item) → item_larges all clause sum ((phase_items at (phase_digits phase) ++ number_items place (map decimal ns)) ++ k) ≡ item_larges all clause sum (number_items place (map decimal ns) ++ k)
  behind_phase clause sum at place phase ns k =
      let numbers = number_items place (map decimal ns) in
      ap (item_larges all clause sum) (append_assoc (phase_items at (phase_digits phase)) numbers k) ∙ phase_summed clause sum at phase (numbers ++ k)

  -- items that have the symbols of a part of a clause, and of parts one behind another

  abbrev Sums : Piece → List Item → Type 0
  Sums p items = (clause sum : ℕ) (k : List Item) → AllByRecursion (IsCounted all) p.terms → AreUpTo most_symbols (up_to_piece clause p) → AreUpTo most_certificate_symbols (up_to_piece sum p)
      → item_larges all clause sum (items ++ k) ≡ item_larges all (clause + piece_size p) (sum + piece_size p) k

  abbrev AreCounted : List Piece → Type 0
  AreCounted ps = AllByRecursion (λ p. AllByRecursion (IsCounted all) p.terms) ps

  abbrev AllSum : List Piece → List Item → Type 0
  AllSum ps items = (clause sum : ℕ) (k : List Item) → AreCounted ps → AreUpTo most_symbols (up_to_pieces clause ps) → AreUpTo most_certificate_symbols (up_to_pieces sum ps)
      → item_larges all clause sum (items ++ k) ≡ item_larges all (clause + total piece_size ps) (sum + total piece_size ps) k

  one_sums : (p : Piece) (items : List Item) → Sums p items → AllSum (p ∷ []) items
  one_sums p items sums clause sum k stand small together =
      sums clause sum k stand.0 (all_first (λ n. n ≤ most_symbols) (up_to_piece clause p) [] small) (all_first (λ n. n ≤ most_certificate_symbols) (up_to_piece sum p) [] together)
      ∙ same_sums (clause + piece_size p) (sum + piece_size p) (clause + (piece_size p + 0)) (sum + (piece_size p + 0)) k (omega arith) (omega arith)

  more_sum : (p : Piece) (ps : List Piece) (items later : List Item) → Sums p items → AllSum ps later → AllSum (p ∷ ps) (items ++ later)
  more_sum p ps items later first others clause sum k stand small together =
      let s = piece_size p in
      let total_s = total piece_size ps in
      ap (item_larges all clause sum) (append_assoc items later k)
      ∙ (first clause sum (later ++ k) stand.0 (all_first (λ n. n ≤ most_symbols) (up_to_piece clause p) (up_to_pieces (clause + s) ps) small) (all_first (λ n. n ≤ most_certificate_symbols) (up_to_piece sum p) (up_to_pieces (sum + s) ps) together)
      ∙ (others (clause + s) (sum + s) k stand.1 (all_second (λ n. n ≤ most_symbols) (up_to_piece clause p) (up_to_pieces (clause + s) ps) small) (all_second (λ n. n ≤ most_certificate_symbols) (up_to_piece sum p) (up_to_pieces (sum + s) ps) together)
      ∙ same_sums (clause + s + total_s) (sum + s + total_s) (clause + (s + total_s)) (sum + (s + total_s)) k (omega arith) (omega arith)))

  module _ (P : Protocol) where
    abbrev loose_fact : Fact Term → LooseFact
    loose_fact f = written_fact P (map_fact (number_in all) f)

    fact_sums : (f : Fact Term) (at : ℕ) → Sums (fact_piece f) (fact_items at (loose_fact f))
    fact_sums (Att phase t) at clause sum k stand small together =
        let place = at + 3 + phase_width (phase_digits phase) + 1 in
        behind_phase (clause + 1) (sum + 1) (at + 3) place phase (number_in all t ∷ []) k
        ∙ (terms_summed Number (numbers_count all) (t ∷ []) (clause + 1) (sum + 1) place k stand small together
        ∙ same_sums (clause + 1 + (size t + 0)) (sum + 1 + (size t + 0)) (clause + (1 + (size t + 0))) (sum + (1 + (size t + 0))) k (omega arith) (omega arith))
    fact_sums (Mess phase t u) at clause sum k stand small together =
        let place = at + 4 + phase_width (phase_digits phase) + 1 in
        behind_phase (clause + 1) (sum + 1) (at + 4) place phase (number_in all t ∷ number_in all u ∷ []) k
        ∙ (terms_summed Number (numbers_count all) (t ∷ u ∷ []) (clause + 1) (sum + 1) place k stand small together
        ∙ same_sums (clause + 1 + (size t + (size u + 0))) (sum + 1 + (size t + (size u + 0))) (clause + (1 + (size t + (size u + 0)))) (sum + (1 + (size t + (size u + 0)))) k (omega arith) (omega arith))
    fact_sums (Tab n ts) at clause sum k stand small together =
        terms_summed Number (numbers_count all) ts (clause + 2) (sum + 2) (at + 4 + length (table_word P n) + 1) k stand small together
        ∙ same_sums (clause + 2 + total size ts) (sum + 2 + total size ts) (clause + (2 + total size ts)) (sum + (2 + total size ts)) k (omega arith) (omega arith)
    fact_sums (Ev e ts) at clause sum k stand small together =
        terms_summed Number (numbers_count all) ts (clause + 2) (sum + 2) (at + 3 + length (event_word P e) + 1) k stand small together
        ∙ same_sums (clause + 2 + total size ts) (sum + 2 + total size ts) (clause + (2 + total size ts)) (sum + (2 + total size ts)) k (omega arith) (omega arith)
    fact_sums (Mev e ts) at clause sum k stand small together =
        terms_summed Number (numbers_count all) ts (clause + 2) (sum + 2) (at + 4 + length (event_word P e) + 1) k stand small together
        ∙ same_sums (clause + 2 + total size ts) (sum + 2 + total size ts) (clause + (2 + total size ts)) (sum + (2 + total size ts)) k (omega arith) (omega arith)
    fact_sums (Bad ts) at clause sum k stand small together =
        terms_summed Number (numbers_count all) ts (clause + 1) (sum + 1) (at + 4) k stand small together
        ∙ same_sums (clause + 1 + total size ts) (sum + 1 + total size ts) (clause + (1 + total size ts)) (sum + (1 + total size ts)) k (omega arith) (omega arith)

    abbrev loose_diff : Diff → LooseDiff
    loose_diff d = written_diff (map_sides (number_in all) (spelled_diff d))

    diff_sums : (d : Diff) (at : ℕ) → Sums (diff_piece d) (diff_items at (loose_diff d))
    diff_sums d at clause sum k stand small together =
        let s = spelled_diff d in
        let lefts = map decimal (map (number_in all) s.left) in
        let rights = map decimal (map (number_in all) s.right) in
        let behind = at + 6 + length (commas lefts []) in
        let left_items = map Side (placed (at + 5) lefts) in
        let right_items = map Side (placed behind rights) in
        let a = total size s.left in
        let b = total size s.right in
        let split = up_to_append (clause + 1) s.left s.right in
        let split_all = up_to_append (sum + 1) s.left s.right in
        let small_so = subst (AreUpTo most_symbols) split small in
        let together_so = subst (AreUpTo most_certificate_symbols) split_all together in
        let first_small = up_to_terms (clause + 1) s.left in
        let later_small = up_to_terms (clause + 1 + a) s.right in
        let first_all = up_to_terms (sum + 1) s.left in
        let later_all = up_to_terms (sum + 1 + a) s.right in
        let sizes = total-append size s.left s.right in
        ap (item_larges all (clause + 1) (sum + 1)) (append_assoc left_items right_items k)
        ∙ (terms_summed Side (sides_count all) s.left (clause + 1) (sum + 1) (at + 5) (right_items ++ k) (all_first (IsCounted all) s.left s.right stand) (all_first (λ n. n ≤ most_symbols) first_small later_small small_so) (all_first (λ n. n ≤ most_certificate_symbols) first_all later_all together_so)
        ∙ (terms_summed Side (sides_count all) s.right (clause + 1 + a) (sum + 1 + a) behind k (all_second (IsCounted all) s.left s.right stand) (all_second (λ n. n ≤ most_symbols) first_small later_small small_so) (all_second (λ n. n ≤ most_certificate_symbols) first_all later_all together_so)
        ∙ same_sums (clause + 1 + a + b) (sum + 1 + a + b) (clause + piece_size (diff_piece d)) (sum + piece_size (diff_piece d)) k (omega (arith, sizes)) (omega (arith, sizes))))

    abbrev loose_diffs : List Diff → List LooseDiff
    loose_diffs ds = map written_diff (map (map_sides (number_in all)) (map spelled_diff ds))

    abbrev loose_facts : List (Fact Term) → List LooseFact
    loose_facts hs = map (written_fact P) (map (map_fact (number_in all)) hs)

    later_diffs_sum : (ds : List Diff) (f : Fact Term) (at : ℕ) → AllSum (map diff_piece ds ++ (fact_piece f ∷ [])) (later_diff_items at (loose_diffs ds) (loose_fact f))
    later_diffs_sum [] f at = one_sums (fact_piece f) (fact_items (at + 4) (loose_fact f)) (fact_sums f (at + 4))
    later_diffs_sum (d ∷ ds) f at =
        let place = at + 2 + length (diff_onto (loose_diff d) []) in
        more_sum (diff_piece d) (map diff_piece ds ++ (fact_piece f ∷ [])) (diff_items (at + 2) (loose_diff d)) (later_diff_items place (loose_diffs ds) (loose_fact f)) (diff_sums d (at + 2)) (later_diffs_sum ds f place)

    diffs_sum : (ds : List Diff) (f : Fact Term) (at : ℕ) → AllSum (map diff_piece ds ++ (fact_piece f ∷ [])) (diffs_items at (loose_diffs ds) (loose_fact f))
    diffs_sum [] f at = one_sums (fact_piece f) (fact_items (at + 3) (loose_fact f)) (fact_sums f (at + 3))
    diffs_sum (d ∷ ds) f at =
        let place = at + length (diff_onto (loose_diff d) []) in
        more_sum (diff_piece d) (map diff_piece ds ++ (fact_piece f ∷ [])) (diff_items at (loose_diff d)) (later_diff_items place (loose_diffs ds) (loose_fact f)) (diff_sums d at) (later_diffs_sum ds f place)

    abbrev all_pieces : List (Fact Term) → List Diff → Fact Term → List Piece
    all_pieces hs ds f = map fact_piece hs ++ (map diff_piece ds ++ (fact_piece f ∷ []))

    later_sum : (hs : List (Fact Term)) (ds : List Diff) (f : Fact Term) (at : ℕ) → AllSum (all_pieces hs ds f) (later_items at (loose_facts hs) (loose_diffs ds) (loose_fact f))
    later_sum [] ds f at = later_diffs_sum ds f at
    later_sum (h ∷ hs) ds f at =
        let place = at + 2 + length (fact_onto (loose_fact h) []) in
        more_sum (fact_piece h) (all_pieces hs ds f) (fact_items (at + 2) (loose_fact h)) (later_items place (loose_facts hs) (loose_diffs ds) (loose_fact f)) (fact_sums h (at + 2)) (later_sum hs ds f place)

    premises_sum : (hs : List (Fact Term)) (ds : List Diff) (f : Fact Term) (at : ℕ) → AllSum (all_pieces hs ds f) (premise_items at (loose_facts hs) (loose_diffs ds) (loose_fact f))
    premises_sum [] ds f at = diffs_sum ds f at
    premises_sum (h ∷ hs) ds f at =
        let place = at + length (fact_onto (loose_fact h) []) in
        more_sum (fact_piece h) (all_pieces hs ds f) (fact_items at (loose_fact h)) (later_items place (loose_facts hs) (loose_diffs ds) (loose_fact f)) (fact_sums h at) (later_sum hs ds f place)

    pub clauses_summed : (cs : List (Clause Term)) (clause sum at : ℕ) → AllByRecursion (λ c. AllByRecursion (IsCounted all) (spelled_terms (spelled_clause c))) cs
        → AllByRecursion (λ c. AreUpTo most_symbols (up_to_clause 0 c)) cs → AreUpTo most_certificate_symbols (up_to_clauses sum cs)
        → item_larges all clause sum (clause_items at (map (written_clause P) (map (λ c. map_spelled (number_in all) (spelled_clause c)) cs))) ≡ []
    clauses_summed [] clause sum at stand small together = refl
    clauses_summed (c ∷ cs) clause sum at stand small together =
        let place = at + length (clause_line (written_clause P (map_spelled (number_in all) (spelled_clause c))) []) in
        let ps = pieces c in
        let counted = all-from_flat_map (IsCounted all) piece_terms ps (subst (AllByRecursion (IsCounted all)) (sym (pieces_terms c)) stand.0) in
        let whole = pieces_total c in
        let first = up_to_clause sum c in
        let later = up_to_clauses (sum + clause_size c) cs in
        let rest = clause_items place (map (written_clause P) (map (λ d. map_spelled (number_in all) (spelled_clause d)) cs)) in
        premises_sum c.hypotheses c.diffs c.conclusion (at + 2) 0 sum rest counted small.0 (all_first (λ n. n ≤ most_certificate_symbols) first later together)
        ∙ (same_sums (0 + total piece_size ps) (sum + total piece_size ps) (0 + total piece_size ps) (sum + clause_size c) rest refl (omega arith)
        ∙ clauses_summed cs (0 + total piece_size ps) (sum + clause_size c) place stand.1 small.1 (all_second (λ n. n ≤ most_certificate_symbols) first later together))
