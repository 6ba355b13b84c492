-- Through the clauses of a certificate that may be written by a table the walk may go.
use Rattle.std.proofs.Common.{◌≡◌, ℕ, ◌+◌, ◌≤◌, true, false, List, [], ◌∷◌, ◌++◌, map, sym, ◌∙◌, ap, subst, append_assoc}
use Rattle.std.specs.Prelude.{flat_map}
use Rattle.std.specs.List.{AllByRecursion}
use Rattle.std.proofs.lemmas.List.{append-nil, map-append}
use Rattle.std.proofs.lemmas.Grind.{flat_map-append}
use Rattle.spec_calculus.specs.Bounds.{most_symbols}
use Rattle.spec_calculus.specs.Syntax.{Protocol}
use Rattle.spec_terms.specs.Term.{Term}
use Rattle.spec_clauses.specs.Fact.{Fact, Att, Mess, Tab, Ev, Mev, Bad, terms_of, map_fact, total, clause_size}
use Rattle.spec_clauses.proofs.Lists.{all_append, all_first, all_second}
use Rattle.spec_certificate_text.specs.OfProtocol.{IsShort, HasNames}
use Rattle.spec_certificate_text.specs.Sides.{SidesOf, SpelledClause}
use Rattle.spec_node_tables.specs.Nodes.{term_at}
use Rattle.spec_node_tables.specs.OfProtocol.{IsFactOver, AreSidesOver, IsClauseOver}
use Rattle.spec_node_tables.specs.Large.{most_certificate_symbols, piece_size, up_to_pieces, up_to_clause, up_to_clauses, AreUpTo}
use Rattle.spec_node_tables.proofs.Sizes.{pieces_total}
use Rattle.spec_node_faults.specs.Grammar.{MayBeHypothesis, MayBeConclusion, StandsRight}
use Rattle.spec_node_faults.proofs.Items.{AreOwn, HasOwnNumbers}
use Rattle.spec_node_faults.proofs.Orders.{InOrder}
use Rattle.spec_node_reading.specs.Walked.{Walked, next_clause}
use Rattle.spec_node_reading.proofs.Parts.{fact_part, diff_part, clause_parts, part_numbers, numbers_of, terms_at, clause_meant, pieces_are, past_parts, parts_past, parts_seen, parts_symbols, IsFit, order_first, order_second, parts_go, go_first, go_second}
use Rattle.spec_node_reading.proofs.ClausesFound.{IsSupposed, past_clause, ClauseGoes, past_clauses, ClausesGo}

module _ (P : Protocol) (names : HasNames P) (table : List Term) where
  abbrev meant : Fact ℕ → Fact Term
  meant f = map_fact (term_at table) f

  -- Each part fits.

  facts_fit : (gs : List (Fact ℕ)) → AllByRecursion (IsFactOver IsShort P) gs → AllByRecursion (λ f. AreOwn table (terms_of f)) gs → AllByRecursion (IsFit table) (map fact_part gs)
  facts_fit [] are own = tt
  facts_fit (g ∷ gs) are own = (record { short = are.0.1; own = λ outside. own.0 }, facts_fit gs are.1 own.1)

  diffs_fit : (ds : List (SidesOf ℕ)) → AllByRecursion (AreSidesOver IsShort) ds → AllByRecursion (IsFit table) (map diff_part ds)
  diffs_fit [] are = tt
  diffs_fit (d ∷ ds) are = (record { short = all_append IsShort d.left d.right are.0.left are.0.right; own = λ outside. absurd (let never : true ≡ false = outside in cc) }, diffs_fit ds are.1)

  clause_fits : (c : SpelledClause ℕ) → IsClauseOver IsShort P c → HasOwnNumbers table c → AllByRecursion (IsFit table) (clause_parts c)
  clause_fits c is own =
      all_append (IsFit table) (map fact_part c.hypotheses) (map diff_part c.diffs ++ (fact_part c.conclusion ∷ [])) (facts_fit c.hypotheses is.hypotheses own.hypotheses)
      (all_append (IsFit table) (map diff_part c.diffs) (fact_part c.conclusion ∷ []) (diffs_fit c.diffs is.diffs) (record { short = is.conclusion.1; own = λ outside. own.conclusion }, tt))

  -- Clauses.

  supposed : (gs : List (Fact ℕ)) → AllByRecursion (IsFactOver IsShort P) gs → AllByRecursion MayBeHypothesis (map meant gs) → AllByRecursion (IsSupposed P names table) gs
  supposed [] are may = tt
  supposed (Att phase n ∷ gs) are may = ((are.0.0, tt), supposed gs are.1 may.1)
  supposed (Mess phase m n ∷ gs) are may = ((are.0.0, tt), supposed gs are.1 may.1)
  supposed (Tab n ns ∷ gs) are may = ((are.0.0, tt), supposed gs are.1 may.1)
  supposed (Ev e ns ∷ gs) are may = ((are.0.0, tt), supposed gs are.1 may.1)
  supposed (Mev e ns ∷ gs) are may = ((are.0.0, tt), supposed gs are.1 may.1)
  supposed (Bad ns ∷ gs) are may = absurd may.0

  concluded : (g : Fact ℕ) → MayBeConclusion (meant g) → MayBeConclusion g
  concluded (Att phase n) may = tt
  concluded (Mess phase m n) may = tt
  concluded (Tab n ns) may = tt
  concluded (Ev e ns) may = tt
  concluded (Mev e ns) may = absurd may
  concluded (Bad ns) may = tt

  clause_goes : (w : Walked) (c : SpelledClause ℕ) → IsClauseOver IsShort P c → HasOwnNumbers table c → StandsRight (clause_meant table c) → InOrder table w.seen (numbers_of (clause_parts c)) → AreUpTo most_symbols (up_to_clause 0 (clause_meant table c)) → AreUpTo most_certificate_symbols (up_to_clause w.all (clause_meant table c))
      → ClauseGoes P names table w c
  clause_goes w c is own right order small together =
      let v = next_clause w in
      let hs = map fact_part c.hypotheses in
      let ds = map diff_part c.diffs in
      let behind = ds ++ (fact_part c.conclusion ∷ []) in
      let go = parts_go table v (clause_parts c) (clause_fits c is own) order (subst (λ ps. AreUpTo most_symbols (up_to_pieces 0 ps)) (sym (pieces_are table c)) small) (subst (λ ps. AreUpTo most_certificate_symbols (up_to_pieces w.all ps)) (sym (pieces_are table c)) together) in
      let further = go_second table v hs behind go in
      let last = go_second table (past_parts table v hs) ds (fact_part c.conclusion ∷ []) further in
      record {
        are = supposed c.hypotheses is.hypotheses right.hypotheses;
        paired = is.diffs;
        event = is.conclusion.0;
        is = concluded c.conclusion right.conclusion;
        hypotheses = go_first table v hs behind go;
        diffs = go_first table (past_parts table v hs) ds (fact_part c.conclusion ∷ []) further;
        conclusion = last.0;
      }

  clause_past : (w : Walked) (c : SpelledClause ℕ) → past_clause P names table w c ≡ past_parts table (next_clause w) (clause_parts c)
  clause_past w c =
      let v = next_clause w in
      let hs = map fact_part c.hypotheses in
      let ds = map diff_part c.diffs in
      sym (parts_past table v hs (ds ++ (fact_part c.conclusion ∷ [])) ∙ parts_past table (past_parts table v hs) ds (fact_part c.conclusion ∷ []))

  clause_seen : (w : Walked) (c : SpelledClause ℕ) → (past_clause P names table w c).seen ≡ w.seen ++ terms_at table (numbers_of (clause_parts c))
  clause_seen w c = ap (λ v. v.seen) (clause_past w c) ∙ parts_seen table (next_clause w) (clause_parts c)

  clause_symbols : (w : Walked) (c : SpelledClause ℕ) → (past_clause P names table w c).all ≡ w.all + clause_size (clause_meant table c)
  clause_symbols w c =
      ap (λ v. v.all) (clause_past w c) ∙ (parts_symbols table (next_clause w) (clause_parts c) ∙ (ap (λ ps. w.all + total piece_size ps) (pieces_are table c) ∙ ap (λ n. w.all + n) (pieces_total (clause_meant table c))))

  pub clauses_go : (w : Walked) (cs : List (SpelledClause ℕ)) → AllByRecursion (IsClauseOver IsShort P) cs → AllByRecursion (HasOwnNumbers table) cs → AllByRecursion StandsRight (map (clause_meant table) cs) → InOrder table w.seen (numbers_of (flat_map clause_parts cs))
      → AllByRecursion (λ c. AreUpTo most_symbols (up_to_clause 0 c)) (map (clause_meant table) cs) → AreUpTo most_certificate_symbols (up_to_clauses w.all (map (clause_meant table) cs)) → ClausesGo P names table w cs
  clauses_go w [] are own right order small together = tt
  clauses_go w (c ∷ cs) are own right order small together =
      let ms = numbers_of (clause_parts c) in
      let ns = numbers_of (flat_map clause_parts cs) in
      let parted : InOrder table w.seen (ms ++ ns) = subst (InOrder table w.seen) (flat_map-append part_numbers (clause_parts c) (flat_map clause_parts cs)) order in
      let first = up_to_clause w.all (clause_meant table c) in
      let later = up_to_clauses (w.all + clause_size (clause_meant table c)) (map (clause_meant table) cs) in (
        clause_goes w c are.0 own.0 right.0 (order_first table w.seen ms ns parted) small.0 (all_first (λ n. n ≤ most_certificate_symbols) first later together),
        clauses_go (past_clause P names table w c) cs are.1 own.1 right.1
            (subst (λ us. InOrder table us ns) (sym (clause_seen w c)) (order_second table w.seen ms ns parted)) small.1
            (subst (λ n. AreUpTo most_certificate_symbols (up_to_clauses n (map (clause_meant table) cs))) (sym (clause_symbols w c)) (all_second (λ n. n ≤ most_certificate_symbols) first later together)),
      )

  pub clauses_seen : (w : Walked) (cs : List (SpelledClause ℕ)) → (past_clauses P names table w cs).seen ≡ w.seen ++ terms_at table (numbers_of (flat_map clause_parts cs))
  clauses_seen w [] = sym (append-nil w.seen)
  clauses_seen w (c ∷ cs) =
      let ms = numbers_of (clause_parts c) in
      let ns = numbers_of (flat_map clause_parts cs) in
      clauses_seen (past_clause P names table w c) cs
      ∙ (ap (λ us. us ++ terms_at table ns) (clause_seen w c)
      ∙ (append_assoc w.seen (terms_at table ms) (terms_at table ns)
      ∙ (ap (λ us. w.seen ++ us) (sym (map-append (term_at table) ms ns))
      ∙ ap (λ us. w.seen ++ terms_at table us) (sym (flat_map-append part_numbers (clause_parts c) (flat_map clause_parts cs))))))
