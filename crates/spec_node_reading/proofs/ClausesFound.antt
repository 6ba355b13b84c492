-- The texts of clauses by numbers are read, where the walk may go through their numbers.
use Rattle.std.proofs.Common.{◌≡◌, ℕ, zero, suc, ◌+◌, ◌≤◌, ◌==◌, if◌then◌else◌, true, false, List, [], ◌∷◌, ◌++◌, map, length, codes, refl, sym, ◌∙◌, subst, arith, append_assoc, length-append}
use Rattle.std.specs.Fmt.{decimal}
use Rattle.std.specs.List.{AllByRecursion}
use Rattle.std.proofs.lemmas.List.{append-nil}
use Rattle.spec_calculus.specs.Syntax.{Declared, Protocol}
use Rattle.spec_terms.specs.Term.{Term}
use Rattle.spec_clauses.specs.Fact.{Fact, Att, Mess, Tab, Ev, Mev, Bad, Clause, map_fact}
use Rattle.spec_certificate_text.specs.OfProtocol.{IsShort, HasNames}
use Rattle.spec_certificate_text.specs.Sides.{SidesOf, SpelledClause, meant_clause, map_sides}
use Rattle.spec_certificate_text.specs.Clauses.{has_next_hypothesis, Premises}
use Rattle.spec_certificate_text.specs.Terms.{Count}
use Rattle.spec_certificate_text.specs.Outcomes.{Outcome, Found, Faulty, next, front, read_fixed}
use Rattle.spec_certificate_text.proofs.Parts.{Finds, joined, when_true, when_false, fixed_found}
use Rattle.spec_node_tables.specs.Nodes.{term_at}
use Rattle.spec_certificate_text.specs.Words.{declared_word}
use Rattle.spec_certificate_text.specs.Text.{phase_text}
use Rattle.spec_node_tables.specs.Text.{number_text, later_terms, terms_text, call_over, sides_over, later_diffs, diffs_over, later_hypotheses, hypotheses_over, fact_over, clause_over, clause_lines_over}
use Rattle.spec_node_tables.specs.OfProtocol.{HasPredicate, AreSidesOver}
use Rattle.spec_node_faults.specs.Grammar.{MayBeHypothesis, MayBeConclusion}
use Rattle.spec_node_reading.specs.Walked.{Walked, next_clause}
use Rattle.spec_node_reading.specs.Loops.{Behind, with, row_from, lines_through}
use Rattle.spec_node_reading.specs.ReadClauses.{read_hypothesis, read_conclusion, read_diff, hypotheses_from, read_hypotheses, read_diffs, read_diffs_behind, with_diffs, read_premises, read_clause_line}
use Rattle.spec_node_reading.proofs.Parts.{fact_part, diff_part, clause_meant, past_part, past_parts, PartsGo}
use Rattle.spec_node_reading.proofs.FactsFound.{MayGo, past_fact, read_as, hypothesis_found, conclusion_found, diff_read-as, diff_found}

module _ (P : Protocol) (names : HasNames P) (table : List Term) where
  abbrev meant : Fact ℕ → Fact Term
  meant f = map_fact (term_at table) f

  abbrev meant_sides : SidesOf ℕ → SidesOf Term
  meant_sides s = map_sides (term_at table) s

  -- facts that may be hypotheses
  abbrev pub IsSupposed : Fact ℕ → Type 0
  IsSupposed g = HasPredicate P g × MayBeHypothesis g

  abbrev pub past_facts : Walked → List (Fact ℕ) → Walked
  past_facts w gs = past_parts table w (map fact_part gs)

  abbrev pub past_diffs : Walked → List (SidesOf ℕ) → Walked
  past_diffs w ds = past_parts table w (map diff_part ds)

  -- How many bytes there are.

  later_terms_long : (ns k : List ℕ) → length k ≤ length (later_terms number_text P ns k)
  later_terms_long [] k = omega arith
  later_terms_long (n ∷ ns) k = let more = later_terms_long ns k in omega (arith, more, length-append (decimal n) (later_terms number_text P ns k))

  terms_long : (ns k : List ℕ) → length k ≤ length (terms_text number_text P ns k)
  terms_long [] k = omega arith
  terms_long (n ∷ ns) k = let more = later_terms_long ns k in omega (arith, more, length-append (decimal n) (later_terms number_text P ns k))

  call_long : (ds : List Declared) (e : ℕ) (ns k : List ℕ) → length k ≤ length (call_over number_text P ds e ns k)
  call_long ds e [] k = omega (arith, length-append (declared_word ds e) k)
  call_long ds e (n ∷ ns) k =
      let more = terms_long (n ∷ ns) (41 ∷ k) in omega (arith, more, length-append (declared_word ds e) (40 ∷ terms_text number_text P (n ∷ ns) (41 ∷ k)))

  phase_long : (phase : ℕ) (k : List ℕ) → length k ≤ length (phase_text phase k)
  phase_long zero k = omega arith
  phase_long (suc n) k = omega (arith, length-append (decimal (suc n)) k)

  fact_long : (g : Fact ℕ) (k : List ℕ) → length k + 1 ≤ length (fact_over number_text P g k)
  fact_long (Att phase n) k = let more = phase_long phase (40 ∷ (decimal n ++ 41 ∷ k)) in omega (arith, more, length-append (decimal n) (41 ∷ k))
  fact_long (Mess phase m n) k =
      let more = phase_long phase (40 ∷ (decimal m ++ 44 ∷ (decimal n ++ 41 ∷ k))) in omega (arith, more, length-append (decimal m) (44 ∷ (decimal n ++ 41 ∷ k)), length-append (decimal n) (41 ∷ k))
  fact_long (Tab n ns) k = let more = call_long P.tables n ns (41 ∷ k) in omega (arith, more)
  fact_long (Ev e ns) k = let more = call_long P.events e ns (41 ∷ k) in omega (arith, more)
  fact_long (Mev e ns) k = let more = call_long P.events e ns (41 ∷ k) in omega (arith, more)
  fact_long (Bad ns) k = let more = terms_long ns (41 ∷ k) in omega (arith, more)

  sides_long : (s : SidesOf ℕ) (k : List ℕ) → length k + 1 ≤ length (sides_over number_text P s k)
  sides_long s k = let first = terms_long s.left (59 ∷ terms_text number_text P s.right (41 ∷ k)) in let second = terms_long s.right (41 ∷ k) in omega (arith, first, second)

  later_diffs-long : (ds : List (SidesOf ℕ)) (k : List ℕ) → length ds + length k ≤ length (later_diffs number_text P ds k)
  later_diffs-long [] k = omega arith
  later_diffs-long (d ∷ ds) k = let more = later_diffs-long ds k in let one = sides_long d (later_diffs number_text P ds k) in omega (arith, more, one)

  later_long : (gs : List (Fact ℕ)) (ds : List (SidesOf ℕ)) (k : List ℕ) → length gs ≤ length (later_hypotheses number_text P gs ds k)
  later_long [] ds k = omega arith
  later_long (h ∷ hs) ds k = let more = later_long hs ds k in let one = fact_long h (later_hypotheses number_text P hs ds k) in omega (arith, more, one)

  -- Constraints.

  abbrev more_diffs : ℕ → Behind (List (SidesOf Term)) → List ℕ → ℕ → Outcome (Behind (List (SidesOf Term)))
  more_diffs most xs bytes at = row_from (read_diff P table) 44 (32 ∷ []) (codes " => ") most xs bytes at

  abbrev behind_diff : ℕ → List (SidesOf Term) → Behind (SidesOf Term) → ℕ → List ℕ → Outcome (Behind (List (SidesOf Term)))
  behind_diff most ds x p r =
      if front r == 44 then next (read_fixed (44 ∷ 32 ∷ []) r p) (λ _ p r. more_diffs most (with (ds ++ x.value ∷ []) x.walked) r p)
      else next (read_fixed (codes " => ") r p) (λ _ p r. Found (with (ds ++ x.value ∷ []) x.walked) p r)

  diffs_more : (most : ℕ) (ds : List (SidesOf Term)) (w : Walked) (bytes : List ℕ) (at : ℕ) → more_diffs (suc most) (with ds w) bytes at ≡ next (read_diff P table w bytes at) (λ x p r. behind_diff most ds x p r)
  unfolding row_from
  diffs_more most ds w bytes at = refl

  diffs_found-within : (most : ℕ) (ds : List (SidesOf Term)) (w : Walked) (s : SidesOf ℕ) (ss : List (SidesOf ℕ)) (rest : List ℕ) (at : ℕ) → length ss + 1 ≤ most → AllByRecursion (AreSidesOver IsShort) (s ∷ ss) → PartsGo table w (map diff_part (s ∷ ss))
      → Finds (more_diffs most (with ds w) (diffs_over number_text P (s ∷ ss) (61 ∷ 62 ∷ 32 ∷ rest)) at) (with (ds ++ map meant_sides (s ∷ ss)) (past_diffs w (s ∷ ss))) rest
  diffs_found-within zero ds w s ss rest at room are go = absurd (omega (arith, room))
  diffs_found-within (suc most) ds w s [] rest at room are go =
      let v = past_part table w (diff_part s) in
      let behind = 32 ∷ 61 ∷ 62 ∷ 32 ∷ rest in
      let end = with (ds ++ meant_sides s ∷ []) v in
      let found = joined (read_diff P table w (sides_over number_text P s behind) at) (λ x p r. behind_diff most ds x p r) (diff_read-as P names table w s) behind end rest (diff_found P names table w s behind at are.0 go.0)
      (λ p. joined (read_fixed (codes " => ") behind p) (λ _ p r. Found end p r) tt rest end rest (fixed_found (codes " => ") rest p) (λ q. record { place = q; is = refl })) in
      record { place = found.place; is = diffs_more most ds w (sides_over number_text P s behind) at ∙ found.is }
  diffs_found-within (suc most) ds w s (t ∷ ss) rest at room are go =
      let v = past_part table w (diff_part s) in
      let inner = diffs_over number_text P (t ∷ ss) (61 ∷ 62 ∷ 32 ∷ rest) in
      let behind = 44 ∷ 32 ∷ inner in
      let end = with (ds ++ map meant_sides (s ∷ t ∷ ss)) (past_diffs v (t ∷ ss)) in
      let same : (ds ++ meant_sides s ∷ []) ++ map meant_sides (t ∷ ss) ≡ ds ++ map meant_sides (s ∷ t ∷ ss) = append_assoc ds (meant_sides s ∷ []) (map meant_sides (t ∷ ss)) in
      let found = joined (read_diff P table w (sides_over number_text P s behind) at) (λ x p r. behind_diff most ds x p r) (diff_read-as P names table w s) behind end rest (diff_found P names table w s behind at are.0 go.0)
      (λ p. joined (read_fixed (44 ∷ 32 ∷ []) behind p) (λ _ p r. more_diffs most (with (ds ++ meant_sides s ∷ []) v) r p) tt inner end rest (fixed_found (44 ∷ 32 ∷ []) inner p)
      (λ q. subst (λ es. Finds (more_diffs most (with (ds ++ meant_sides s ∷ []) v) inner q) (with es (past_diffs v (t ∷ ss))) rest) same (diffs_found-within most (ds ++ meant_sides s ∷ []) v t ss rest q (omega (arith, room)) are.1 go.1))) in
      record { place = found.place; is = diffs_more most ds w (sides_over number_text P s behind) at ∙ found.is }

  diffs_found : (w : Walked) (s : SidesOf ℕ) (ss : List (SidesOf ℕ)) (rest : List ℕ) (at : ℕ) → AllByRecursion (AreSidesOver IsShort) (s ∷ ss) → PartsGo table w (map diff_part (s ∷ ss))
      → Finds (read_diffs P table w (diffs_over number_text P (s ∷ ss) (61 ∷ 62 ∷ 32 ∷ rest)) at) (with (map meant_sides (s ∷ ss)) (past_diffs w (s ∷ ss))) rest
  diffs_found w s ss rest at are go =
      let bytes = diffs_over number_text P (s ∷ ss) (61 ∷ 62 ∷ 32 ∷ rest) in
      let long = later_diffs-long ss (61 ∷ 62 ∷ 32 ∷ rest) in
      let one = sides_long s (later_diffs number_text P ss (61 ∷ 62 ∷ 32 ∷ rest)) in
      diffs_found-within (suc (length bytes)) [] w s ss rest at (omega (arith, long, one)) are go

  -- behind hypotheses
  behind_found : (w : Walked) (ss : List (SidesOf ℕ)) (rest : List ℕ) (at : ℕ) → AllByRecursion (AreSidesOver IsShort) ss → PartsGo table w (map diff_part ss)
      → Finds (read_diffs_behind P table w (later_diffs number_text P ss (61 ∷ 62 ∷ 32 ∷ rest)) at) (with (map meant_sides ss) (past_diffs w ss)) rest
  behind_found w [] rest at are go =
      joined (read_fixed (codes " => ") (32 ∷ 61 ∷ 62 ∷ 32 ∷ rest) at) (λ _ p r. Found (with [] w) p r) tt rest (with [] w) rest (fixed_found (codes " => ") rest at) (λ q. record { place = q; is = refl })
  behind_found w (s ∷ ss) rest at are go =
      let inner = diffs_over number_text P (s ∷ ss) (61 ∷ 62 ∷ 32 ∷ rest) in
      joined (read_fixed (codes ", ") (44 ∷ 32 ∷ inner) at) (λ _ p r. read_diffs P table w r p) tt inner (with (map meant_sides (s ∷ ss)) (past_diffs w (s ∷ ss))) rest (fixed_found (codes ", ") inner at)
      (λ p. diffs_found w s ss rest p are go)

  -- Hypotheses.

  abbrev read_more : ℕ → Behind (List (Fact Term)) → List ℕ → ℕ → Outcome (Behind (List (Fact Term)))
  read_more most xs bytes at = hypotheses_from P table most xs bytes at

  abbrev behind_one : ℕ → List (Fact Term) → Behind (Fact Term) → ℕ → List ℕ → Outcome (Behind (List (Fact Term)))
  behind_one most hs x p r =
      if has_next_hypothesis r then next (read_fixed (codes ", ") r p) (λ _ p r. read_more most (with (hs ++ x.value ∷ []) x.walked) r p) else Found (with (hs ++ x.value ∷ []) x.walked) p r

  hypotheses_more : (most : ℕ) (hs : List (Fact Term)) (w : Walked) (bytes : List ℕ) (at : ℕ) → read_more (suc most) (with hs w) bytes at ≡ next (read_hypothesis P table w bytes at) (λ x p r. behind_one most hs x p r)
  unfolding hypotheses_from
  hypotheses_more most hs w bytes at = refl

  -- no hypothesis begins with `d`
  goes_on : (g : Fact ℕ) (k : List ℕ) → has_next_hypothesis (44 ∷ 32 ∷ fact_over number_text P g k) ≡ true
  goes_on (Att phase n) k = refl
  goes_on (Mess phase m n) k = refl
  goes_on (Tab n ns) k = refl
  goes_on (Ev e ns) k = refl
  goes_on (Mev e ns) k = refl
  goes_on (Bad ns) k = refl

  ends : (ds : List (SidesOf ℕ)) (k : List ℕ) → has_next_hypothesis (later_diffs number_text P ds k) ≡ false
  ends [] k = refl
  ends (d ∷ ds) k = refl

  hypotheses_found : (most : ℕ) (hs : List (Fact Term)) (w : Walked) (g : Fact ℕ) (gs : List (Fact ℕ)) (ds : List (SidesOf ℕ)) (k : List ℕ) (at : ℕ) → length gs + 1 ≤ most → AllByRecursion IsSupposed (g ∷ gs) → PartsGo table w (map fact_part (g ∷ gs))
      → Finds (read_more most (with hs w) (hypotheses_over number_text P (g ∷ gs) ds k) at) (with (hs ++ map meant (g ∷ gs)) (past_facts w (g ∷ gs))) (later_diffs number_text P ds k)
  hypotheses_found zero hs w g gs ds k at room are go = absurd (omega (arith, room))
  hypotheses_found (suc most) hs w g [] ds k at room are go =
      let v = past_fact P names table w g in
      let behind = later_diffs number_text P ds k in
      let end = with (hs ++ meant g ∷ []) v in
      let found = joined (read_hypothesis P table w (fact_over number_text P g behind) at) (λ x p r. behind_one most hs x p r) (read_as P names table w g) behind end behind (hypothesis_found P names table w g behind at are.0.0 are.0.1 go.0)
      (λ p. when_false (has_next_hypothesis behind) (next (read_fixed (codes ", ") behind p) (λ _ p r. read_more most end r p)) (Found end p behind) end behind (ends ds k) record { place = p; is = refl }) in
      record { place = found.place; is = hypotheses_more most hs w (fact_over number_text P g behind) at ∙ found.is }
  hypotheses_found (suc most) hs w g (h ∷ gs) ds k at room are go =
      let v = past_fact P names table w g in
      let rest = later_diffs number_text P ds k in
      let inner = hypotheses_over number_text P (h ∷ gs) ds k in
      let behind = 44 ∷ 32 ∷ inner in
      let end = with (hs ++ map meant (g ∷ h ∷ gs)) (past_facts v (h ∷ gs)) in
      let same : (hs ++ meant g ∷ []) ++ map meant (h ∷ gs) ≡ hs ++ map meant (g ∷ h ∷ gs) = append_assoc hs (meant g ∷ []) (map meant (h ∷ gs)) in
      let found = joined (read_hypothesis P table w (fact_over number_text P g behind) at) (λ x p r. behind_one most hs x p r) (read_as P names table w g) behind end rest (hypothesis_found P names table w g behind at are.0.0 are.0.1 go.0)
      (λ p. when_true (has_next_hypothesis behind) (next (read_fixed (codes ", ") behind p) (λ _ p r. read_more most (with (hs ++ meant g ∷ []) v) r p)) (Found (with (hs ++ meant g ∷ []) v) p behind) end rest (goes_on h (later_hypotheses number_text P gs ds k))
      (joined (read_fixed (codes ", ") behind p) (λ _ p r. read_more most (with (hs ++ meant g ∷ []) v) r p) tt inner end rest (fixed_found (codes ", ") inner p)
      (λ q. subst (λ fs. Finds (read_more most (with (hs ++ meant g ∷ []) v) inner q) (with fs (past_facts v (h ∷ gs))) rest) same (hypotheses_found most (hs ++ meant g ∷ []) v h gs ds k q (omega (arith, room)) are.1 go.1)))) in
      record { place = found.place; is = hypotheses_more most hs w (fact_over number_text P g behind) at ∙ found.is }

  -- Premises.

  abbrev premises_of : List (Fact Term) → List (SidesOf Term) → Premises
  premises_of hs ds = record { hypotheses = hs; diffs = ds }

  -- no fact begins with `=` or `d`
  fact_front : (g : Fact ℕ) (rest : List ℕ) → (front (fact_over number_text P g rest) == 61) ≡ false × ((front (fact_over number_text P g rest) == 100) ≡ false)
  fact_front (Att phase n) rest = (refl, refl)
  fact_front (Mess phase m n) rest = (refl, refl)
  fact_front (Tab n ns) rest = (refl, refl)
  fact_front (Ev e ns) rest = (refl, refl)
  fact_front (Mev e ns) rest = (refl, refl)
  fact_front (Bad ns) rest = (refl, refl)

  premises_found : (w : Walked) (gs : List (Fact ℕ)) (ds : List (SidesOf ℕ)) (rest : List ℕ) (at : ℕ) → AllByRecursion IsSupposed gs → AllByRecursion (AreSidesOver IsShort) ds → PartsGo table w (map fact_part gs) → PartsGo table (past_facts w gs) (map diff_part ds)
      → Finds (read_premises P table w (hypotheses_over number_text P gs ds (61 ∷ 62 ∷ 32 ∷ rest)) at) (with (premises_of (map meant gs) (map meant_sides ds)) (past_diffs (past_facts w gs) ds)) rest
  premises_found w [] [] rest at are paired go further =
      let end = with (premises_of [] []) w in
      joined (read_fixed (codes "=> ") (61 ∷ 62 ∷ 32 ∷ rest) at) (λ _ p r. Found end p r) tt rest end rest (fixed_found (codes "=> ") rest at) (λ q. record { place = q; is = refl })
  premises_found w [] (d ∷ ds) rest at are paired go further =
      let bytes = diffs_over number_text P (d ∷ ds) (61 ∷ 62 ∷ 32 ∷ rest) in
      let end = with (premises_of [] (map meant_sides (d ∷ ds))) (past_diffs w (d ∷ ds)) in
      joined (read_diffs P table w bytes at) (λ es p r. Found (with (premises_of [] es.value) es.walked) p r) (with (map meant_sides (d ∷ ds)) (past_diffs w (d ∷ ds))) rest end rest (diffs_found w d ds rest at paired further) (λ q. record { place = q; is = refl })
  premises_found w (g ∷ gs) ds rest at are paired go further =
      let k = 61 ∷ 62 ∷ 32 ∷ rest in
      let bytes = hypotheses_over number_text P (g ∷ gs) ds k in
      let behind = later_diffs number_text P ds k in
      let hs = map meant (g ∷ gs) in
      let v = past_facts w (g ∷ gs) in
      let u = past_diffs v ds in
      let end = with (premises_of hs (map meant_sides ds)) u in
      let more = later_long gs ds k in
      let one = fact_long g (later_hypotheses number_text P gs ds k) in
      let fronts = fact_front g (later_hypotheses number_text P gs ds k) in
      let both = next (read_hypotheses P table w bytes at) (λ hs q k. with_diffs P table hs.value (read_diffs_behind P table hs.walked k q)) in
      when_false (front bytes == 61) (next (read_fixed (codes "=> ") bytes at) (λ _ p r. Found (with (premises_of [] []) w) p r)) (if front bytes == 100 then with_diffs P table [] (read_diffs P table w bytes at) else both) end rest fronts.0
      (when_false (front bytes == 100) (with_diffs P table [] (read_diffs P table w bytes at)) both end rest fronts.1
      (joined (read_hypotheses P table w bytes at) (λ hs q k. with_diffs P table hs.value (read_diffs_behind P table hs.walked k q)) (with hs v) behind end rest (hypotheses_found (suc (length bytes)) [] w g gs ds k at (omega (arith, more, one)) are go)
      (λ p. joined (read_diffs_behind P table v behind p) (λ es q k. Found (with (premises_of hs es.value) es.walked) q k) (with (map meant_sides ds) u) rest end rest (behind_found v ds rest p paired further) (λ q. record { place = q; is = refl }))))

  -- Clauses.

  abbrev pub past_clause : Walked → SpelledClause ℕ → Walked
  past_clause w c = past_fact P names table (past_diffs (past_facts (next_clause w) c.hypotheses) c.diffs) c.conclusion

  -- the walk may go through the clause, which stands right
  pub record ClauseGoes (w : Walked) (c : SpelledClause ℕ) : Type 0 where
    pub are : AllByRecursion IsSupposed c.hypotheses
    pub paired : AllByRecursion (AreSidesOver IsShort) c.diffs
    pub event : HasPredicate P c.conclusion
    pub is : MayBeConclusion c.conclusion
    pub hypotheses : PartsGo table (next_clause w) (map fact_part c.hypotheses)
    pub diffs : PartsGo table (past_facts (next_clause w) c.hypotheses) (map diff_part c.diffs)
    pub conclusion : MayGo P names table (past_diffs (past_facts (next_clause w) c.hypotheses) c.diffs) c.conclusion

  abbrev spelled : Premises → Fact Term → Clause Term
  spelled ps f = meant_clause record { hypotheses = ps.hypotheses; diffs = ps.diffs; conclusion = f }

  clause_found : (before : Behind (List (Clause Term))) (c : SpelledClause ℕ) (rest : List ℕ) (at : ℕ) → ClauseGoes before.walked c
      → Finds (read_clause_line P table before (99 ∷ 32 ∷ clause_over number_text P c (10 ∷ rest)) at) (with (before.value ++ clause_meant table c ∷ []) (past_clause before.walked c)) rest
  clause_found before c rest at goes =
      let w = next_clause before.walked in
      let v = past_diffs (past_facts w c.hypotheses) c.diffs in
      let ps = premises_of (map meant c.hypotheses) (map meant_sides c.diffs) in
      let f = meant c.conclusion in
      let u = past_fact P names table v c.conclusion in
      let last = fact_over number_text P c.conclusion (10 ∷ rest) in
      let inner = hypotheses_over number_text P c.hypotheses c.diffs (61 ∷ 62 ∷ 32 ∷ last) in
      let end = with (before.value ++ clause_meant table c ∷ []) u in
      joined (read_fixed (codes "c ") (99 ∷ 32 ∷ inner) at)
      (λ _ p r. next (read_premises P table w r p) (λ ps p r. next (read_conclusion P table ps.walked r p) (λ f p r. next (read_fixed (codes "\n") r p) (λ _ p r. Found (with (before.value ++ spelled ps.value f.value ∷ []) f.walked) p r))))
      tt inner end rest (fixed_found (codes "c ") inner at)
      (λ p. joined (read_premises P table w inner p) (λ ps p r. next (read_conclusion P table ps.walked r p) (λ f p r. next (read_fixed (codes "\n") r p) (λ _ p r. Found (with (before.value ++ spelled ps.value f.value ∷ []) f.walked) p r)))
      (with ps v) last end rest (premises_found w c.hypotheses c.diffs last p goes.are goes.paired goes.hypotheses goes.diffs)
      (λ q. joined (read_conclusion P table v last q) (λ f p r. next (read_fixed (codes "\n") r p) (λ _ p r. Found (with (before.value ++ spelled ps f.value ∷ []) f.walked) p r))
      (with f u) (10 ∷ rest) end rest (conclusion_found P names table v c.conclusion (10 ∷ rest) q goes.event goes.is goes.conclusion)
      (λ i. joined (read_fixed (codes "\n") (10 ∷ rest) i) (λ _ p r. Found (with (before.value ++ spelled ps f ∷ []) u) p r) tt rest end rest (fixed_found (codes "\n") rest i) (λ j. record { place = j; is = refl }))))

  -- All clauses.

  abbrev pub past_clauses : Walked → List (SpelledClause ℕ) → Walked
  past_clauses w [] = w
  past_clauses w (c ∷ cs) = past_clauses (past_clause w c) cs

  abbrev pub ClausesGo : Walked → List (SpelledClause ℕ) → Type 0
  ClausesGo w [] = Unit {0}
  ClausesGo w (c ∷ cs) = ClauseGoes w c × ClausesGo (past_clause w c) cs

  abbrev read_lines : ℕ → Behind (List (Clause Term)) → List ℕ → ℕ → Outcome (Behind (List (Clause Term)))
  read_lines most xs bytes at = lines_through 99 (read_clause_line P table) most xs bytes at

  lines_more : (most : ℕ) (xs : Behind (List (Clause Term))) (bytes : List ℕ) (at : ℕ) → read_lines (suc most) xs bytes at ≡ (if front bytes == 99 then next (read_clause_line P table xs bytes at) (λ y p k. read_lines most y k p) else Found xs at bytes)
  unfolding lines_through
  lines_more most xs bytes at = refl

  lines_full : (xs : Behind (List (Clause Term))) (bytes : List ℕ) (at : ℕ) → read_lines 0 xs bytes at ≡ (if front bytes == 99 then Faulty at Count else Found xs at bytes)
  unfolding lines_through
  lines_full xs bytes at = refl

  pub clauses_found : (most : ℕ) (cs : List (Clause Term)) (w : Walked) (ds : List (SpelledClause ℕ)) (rest : List ℕ) (at : ℕ) → length ds ≤ most → (front rest == 99) ≡ false → ClausesGo w ds
      → Finds (read_lines most (with cs w) (clause_lines_over number_text P ds rest) at) (with (cs ++ map (clause_meant table) ds) (past_clauses w ds)) rest
  clauses_found zero cs w [] rest at few other go =
      let same : cs ≡ cs ++ [] = sym (append-nil cs) in
      let found = when_false (front rest == 99) (Faulty at Count) (Found (with cs w) at rest) (with cs w) rest other record { place = at; is = refl } in
      subst (λ ds. Finds (read_lines 0 (with cs w) rest at) (with ds w) rest) same record { place = found.place; is = lines_full (with cs w) rest at ∙ found.is }
  clauses_found zero cs w (d ∷ ds) rest at few other go = absurd (omega (arith, few))
  clauses_found (suc most) cs w [] rest at few other go =
      let same : cs ≡ cs ++ [] = sym (append-nil cs) in
      let found = when_false (front rest == 99) (next (read_clause_line P table (with cs w) rest at) (λ y p k. read_lines most y k p)) (Found (with cs w) at rest) (with cs w) rest other record { place = at; is = refl } in
      subst (λ ds. Finds (read_lines (suc most) (with cs w) rest at) (with ds w) rest) same record { place = found.place; is = lines_more most (with cs w) rest at ∙ found.is }
  clauses_found (suc most) cs w (d ∷ ds) rest at few other go =
      let v = past_clause w d in
      let inner = clause_lines_over number_text P ds rest in
      let bytes = 99 ∷ 32 ∷ clause_over number_text P d (10 ∷ inner) in
      let end = with (cs ++ map (clause_meant table) (d ∷ ds)) (past_clauses v ds) in
      let same : (cs ++ clause_meant table d ∷ []) ++ map (clause_meant table) ds ≡ cs ++ map (clause_meant table) (d ∷ ds) = append_assoc cs (clause_meant table d ∷ []) (map (clause_meant table) ds) in
      let found = joined (read_clause_line P table (with cs w) bytes at) (λ y p k. read_lines most y k p) (with (cs ++ clause_meant table d ∷ []) v) inner end rest (clause_found (with cs w) d inner at go.0)
      (λ p. subst (λ fs. Finds (read_lines most (with (cs ++ clause_meant table d ∷ []) v) inner p) (with fs (past_clauses v ds)) rest) same (clauses_found most (cs ++ clause_meant table d ∷ []) v ds rest p (omega (arith, few)) other go.1)) in
      record { place = found.place; is = lines_more most (with cs w) bytes at ∙ found.is }
