-- The texts of certificates are read, in whichever format.
use Rattle.std.proofs.Common.{◌≡◌, ℕ, ◌≤◌, ◌==◌, ◌&&◌, not, Bool, true, false, List, [], ◌∷◌, ◌++◌, map, length, codes, refl, sym, ◌∙◌, ap, subst, arith, length-append, inl, inr}
use Rattle.std.specs.Prelude.{flat_map}
use Rattle.std.specs.Fmt.{decimal}
use Rattle.std.specs.List.{AllByRecursion}
use Rattle.std.proofs.lemmas.List.{append-nil, length-map}
use Rattle.spec_trees.specs.Tree.{size}
use Rattle.spec_calculus.specs.Bounds.{most_symbols, most_clauses}
use Rattle.spec_calculus.specs.Syntax.{Protocol}
use Rattle.spec_terms.specs.Term.{Term}
use Rattle.spec_clauses.specs.Fact.{Clause}
use Rattle.spec_clauses.specs.Inclusion.{Has}
use Rattle.spec_clauses.proofs.Lists.{all_weaker, all_first, all_second, all-flat_map}
use Rattle.spec_certificates.specs.Certificate.{Certificate}
use Rattle.spec_certificate_text.specs.Loose.{Head, Applied, Tupled, Made, Attackers}
use Rattle.spec_certificate_text.specs.Sides.{SpelledClause, spelled_clause, map_spelled}
use Rattle.spec_certificate_text.specs.Text.{numbers_text, row_lines}
use Rattle.spec_certificate_text.specs.OfProtocol.{IsShort, HasNames}
use Rattle.spec_certificate_text.specs.Terms.{NodeOrder}
use Rattle.spec_certificate_text.specs.Outcomes.{Faulty, next, front, read_fixed}
use Rattle.spec_certificate_text.specs.Certificates.{certificate_end}
use Rattle.spec_certificate_text.proofs.Parts.{Finds, joined, when_false, fixed_found}
use Rattle.spec_certificate_text.proofs.CertificatesRead.{read_certificate-found}
use Rattle.spec_node_tables.specs.Table.{spelled_terms, terms_in_order, table, number_in}
use Rattle.spec_node_tables.specs.Nodes.{TableNode, node_of, term_at, term_of, terms_from}
use Rattle.spec_node_tables.specs.Text.{node_head, head_text, node_numbers, node_lines, number_text, clause_lines_over, text_with_nodes}
use Rattle.spec_node_tables.specs.Large.{most_certificate_symbols, up_to_clause, up_to_clauses, AreUpTo}
use Rattle.spec_node_tables.proofs.Back.{mapped_back, table_back, terms_stand, certificate_back}
use Rattle.spec_node_tables.proofs.Certificates.{with_nodes_is, short_diffs}
use Rattle.spec_node_tables.proofs.Ordered.{with_nodes_ordered}
use Rattle.spec_node_tables.proofs.Sizes.{few_nodes}
use Rattle.spec_node_faults.specs.Clauses.{is_front, completed}
use Rattle.spec_node_faults.specs.Grammar.{StandsRight, IsNumberable}
use Rattle.spec_node_faults.proofs.Items.{HasOwnNumbers}
use Rattle.spec_node_faults.proofs.Orders.{InOrder, front_self, term_there, numbers_in_order}
use Rattle.spec_node_faults.proofs.Spelled.{values_mapped}
use Rattle.spec_node_faults.proofs.Own.{clauses_own}
use Rattle.spec_node_reading.specs.Walked.{nothing_yet}
use Rattle.spec_node_reading.specs.Loops.{with, lines_through}
use Rattle.spec_node_reading.specs.ReadNodes.{read_nodes}
use Rattle.spec_node_reading.specs.ReadClauses.{read_clause_line}
use Rattle.spec_node_reading.specs.Readable.{SpellsCertificate}
use Rattle.spec_node_reading.specs.Reading.{ends_clauses, behind_clauses, behind_nodes, read_numbered, read_in_both}
use Rattle.spec_node_reading.proofs.RowsFound.{end_text, end_found}
use Rattle.spec_node_reading.proofs.Parts.{clause_parts, numbers_of, all_numbers, clause_meant}
use Rattle.spec_node_reading.proofs.NodesFound.{AreSmall, nodes_found}
use Rattle.spec_node_reading.proofs.ClausesFound.{past_clauses, clauses_found}
use Rattle.spec_node_reading.proofs.Goes.{clauses_go, clauses_seen}

-- nodes whose terms are within the limit
small_each : (P : Protocol) (before : List Term) (ns : List TableNode) → AllByRecursion (λ t. size t ≤ most_symbols) (terms_from before ns) → AreSmall P before ns × AllByRecursion (λ t. size t ≤ most_symbols) before
small_each P before [] small = (tt, small)
small_each P before (n ∷ ns) small =
    let t = term_of before n in
    let later = small_each P (before ++ (t ∷ [])) ns small in
    let one = all_second (λ u. size u ≤ most_symbols) before (t ∷ []) later.1 in
    ((one.0, later.0), all_first (λ u. size u ≤ most_symbols) before (t ∷ []) later.1)

-- There are as many bytes as nodes.

spaced_long : (ns k : List ℕ) → length k ≤ length (numbers_text ns k)
spaced_long [] k = omega arith
spaced_long (n ∷ ns) k = let more = spaced_long ns k in omega (arith, more, length-append (decimal n) (numbers_text ns k))

head_long : (h : Head) (k : List ℕ) → length k ≤ length (head_text h k)
head_long (Applied word) k = omega (arith, length-append word k)
head_long Tupled k = omega arith
head_long (Made word digits) k = omega (arith, length-append word (64 ∷ (digits ++ k)), length-append digits k)
head_long Attackers k = omega arith

nodes_long : (P : Protocol) (ns : List TableNode) (k : List ℕ) → length ns ≤ length (node_lines P ns k)
nodes_long P [] k = omega arith
nodes_long P (n ∷ ns) k =
    let inner = 10 ∷ node_lines P ns k in
    let more = nodes_long P ns k in
    let numbers = spaced_long (node_numbers n) inner in
    let head = head_long (node_head P n) (numbers_text (node_numbers n) inner) in
    omega (arith, more, numbers, head)

-- What follows the nodes and the clauses.

no_node : (P : Protocol) (cs : List (SpelledClause ℕ)) (rows goals : List (List ℕ)) (rest : List ℕ) → (front (clause_lines_over number_text P cs (row_lines 114 rows (row_lines 103 goals (codes "end\n" ++ rest)))) == 110) ≡ false
no_node P [] [] [] rest = refl
no_node P [] [] (g ∷ goals) rest = refl
no_node P [] (r ∷ rows) goals rest = refl
no_node P (c ∷ cs) rows goals rest = refl

no_clause : (rows goals : List (List ℕ)) (rest : List ℕ) → (front (row_lines 114 rows (row_lines 103 goals (codes "end\n" ++ rest))) == 99) ≡ false
no_clause [] [] rest = refl
no_clause [] (g ∷ goals) rest = refl
no_clause (r ∷ rows) goals rest = refl

module _ (P : Protocol) (names : HasNames P) (c : Certificate) (may : IsNumberable P c) where
  abbrev all : List Term
  all = table c.clauses

  abbrev nodes : List TableNode
  nodes = map (node_of all) all

  abbrev numbered : List (SpelledClause ℕ)
  numbered = map (λ d. map_spelled (number_in all) (spelled_clause d)) c.clauses

  abbrev meant : SpelledClause ℕ → Clause Term
  meant d = clause_meant all d

  few_short : IsShort (length all)
  few_short = let few = few_nodes c.clauses may.fits in omega (arith, few)

  -- the clauses that are meant are the certificate's
  back : map meant numbered ≡ c.clauses
  back = ap (λ ts. map (clause_meant ts) numbered) (sym (table_back c.clauses)) ∙ ap (λ d. d.clauses) (certificate_back c (short_diffs P c.clauses may.is.clauses))

  stand : AllByRecursion (Has all) (terms_in_order c.clauses)
  stand = all-flat_map (Has all) (λ d. spelled_terms (spelled_clause d)) c.clauses (terms_stand c.clauses)

  order : InOrder all [] (numbers_of (flat_map clause_parts numbered))
  order = subst (InOrder all []) (sym (all_numbers numbered ∙ values_mapped (number_in all) c.clauses)) (numbers_in_order c.clauses [] (terms_in_order c.clauses) refl stand)

  own : AllByRecursion (HasOwnNumbers all) numbered
  own = clauses_own P c.clauses c.clauses may.is.clauses (terms_stand c.clauses)

  small : AreSmall P [] nodes
  small = (small_each P [] nodes (subst (AllByRecursion (λ t. size t ≤ most_symbols)) (sym (table_back c.clauses)) may.fits.nodes)).0

  -- behind the clauses all nodes were reached
  reached : is_front all (completed (past_clauses P names all nothing_yet numbered).seen) ≡ true
  reached =
      let numbers = numbers_of (flat_map clause_parts numbered) in
      let terms : map (term_at all) numbers ≡ terms_in_order c.clauses =
      ap (map (term_at all)) (all_numbers numbered ∙ values_mapped (number_in all) c.clauses)
      ∙ mapped_back (term_at all) (number_in all) (terms_in_order c.clauses) (all_weaker (Has all) (λ t. term_at all (number_in all t) ≡ t) (λ t h. term_there c.clauses t h) (terms_in_order c.clauses) stand) in
      ap (λ us. is_front all (completed us)) (clauses_seen P names all nothing_yet numbered ∙ terms)
      ∙ (ap (is_front all) (sym (append-nil all)) ∙ front_self all [])

  ends_found : (rest : List ℕ) (at : ℕ) → Finds (behind_clauses all (with c.clauses (past_clauses P names all nothing_yet numbered)) (end_text c rest) at) c rest
  ends_found rest at =
      let bytes = end_text c rest in
      let seen = (past_clauses P names all nothing_yet numbered).seen in
      let right : (ends_clauses (front bytes) && not (is_front all (completed seen))) ≡ false = ap (λ b. ends_clauses (front bytes) && not b) reached ∙ and_false (ends_clauses (front bytes)) in
      when_false (ends_clauses (front bytes) && not (is_front all (completed seen))) (Faulty at NodeOrder) (certificate_end c.clauses bytes at) c rest right (end_found c rest at may.rows may.goals)
    where
      and_false : (b : Bool) → (b && false) ≡ false
      and_false true = refl
      and_false false = refl

  clauses_read : (rest : List ℕ) (at : ℕ) → Finds (behind_nodes P all (clause_lines_over number_text P numbered (end_text c rest)) at) c rest
  clauses_read rest at =
      let lines = clause_lines_over number_text P numbered (end_text c rest) in
      let made = with_nodes_is P c may.is few_short in
      let many : length numbered ≡ length c.clauses = length-map c.clauses (λ d. map_spelled (number_in all) (spelled_clause d)) in
      let few = may.few in
      let go = clauses_go P names all nothing_yet numbered made.clauses own (subst (AllByRecursion StandsRight) (sym back) may.stands) order
      (subst (AllByRecursion (λ d. AreUpTo most_symbols (up_to_clause 0 d))) (sym back) may.fits.clauses) (subst (λ ds. AreUpTo most_certificate_symbols (up_to_clauses 0 ds)) (sym back) may.fits.together) in
      let found = clauses_found P names all most_clauses [] nothing_yet numbered (end_text c rest) at (omega (arith, many, few)) (no_clause c.rows c.goals rest) go in
      joined (lines_through 99 (read_clause_line P all) most_clauses (with [] nothing_yet) lines at) (λ cs p r. behind_clauses all cs r p) (with c.clauses (past_clauses P names all nothing_yet numbered)) (end_text c rest) c rest
      (subst (λ ds. Finds (lines_through 99 (read_clause_line P all) most_clauses (with [] nothing_yet) lines at) (with ds (past_clauses P names all nothing_yet numbered)) (end_text c rest)) back found)
      (λ p. ends_found rest p)

  pub numbered_found : (rest : List ℕ) (at : ℕ) → Finds (read_numbered P (text_with_nodes P c rest) at) c rest
  numbered_found rest at =
      let lines = clause_lines_over number_text P numbered (end_text c rest) in
      let inner = node_lines P nodes lines in
      let made = with_nodes_is P c may.is few_short in
      let ordered = with_nodes_ordered c in
      joined (read_fixed (codes "cert 2\n") (codes "cert 2\n" ++ inner) at) (λ _ p r. next (read_nodes P r p) (λ ts p r. behind_nodes P ts r p)) tt inner c rest (fixed_found (codes "cert 2\n") inner at)
      (λ p. joined (read_nodes P inner p) (λ ts p r. behind_nodes P ts r p) all lines c rest
      (subst (λ ts. Finds (read_nodes P inner p) ts lines) (table_back c.clauses) (nodes_found P names (length inner) [] nodes lines p (nodes_long P nodes lines) (no_node P numbered c.rows c.goals rest) made.nodes ordered.nodes small))
      (λ q. clauses_read rest q))

-- In whichever format.
pub both_found : (P : Protocol) → HasNames P → (bytes : List ℕ) (c : Certificate) (rest : List ℕ) (at : ℕ) → SpellsCertificate P bytes c rest → Finds (read_in_both P bytes at) c rest
both_found P names bytes c rest at (inl plain) =
    let found = read_certificate-found P names c rest at plain.may in
    subst (λ bs. Finds (read_in_both P bs at) c rest) (sym plain.text) record { place = found.place; is = found.is }
both_found P names bytes c rest at (inr numbered) = subst (λ bs. Finds (read_in_both P bs at) c rest) (sym numbered.text) (numbered_found P names c numbered.may rest at)
