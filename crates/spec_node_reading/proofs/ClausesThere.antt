-- Clauses by numbers that were read are what the bytes begin with, and the walk has gone through them.
use Rattle.std.proofs.Common.{◌≡◌, ℕ, zero, suc, ◌+◌, ◌≤◌, ◌==◌, if◌then◌else◌, List, [], ◌∷◌, ◌++◌, map, length, codes, refl, sym, ◌∙◌, ap, subst, arith, append_assoc}
use Rattle.std.specs.Prelude.{flat_map}
use Rattle.std.specs.List.{AllByRecursion}
use Rattle.std.proofs.lemmas.List.{append-nil, map-append}
use Rattle.std.proofs.lemmas.Grind.{flat_map-append}
use Rattle.spec_calculus.specs.Bounds.{most_symbols}
use Rattle.spec_calculus.specs.Syntax.{Protocol}
use Rattle.spec_terms.specs.Term.{Term}
use Rattle.spec_clauses.specs.Fact.{Fact, Clause, terms_of, map_fact, total, clause_size}
use Rattle.spec_clauses.proofs.Lists.{all_append}
use Rattle.spec_certificate_text.specs.OfProtocol.{IsShort}
use Rattle.spec_certificate_text.specs.Sides.{SidesOf, SpelledClause, meant_clause, map_sides}
use Rattle.spec_certificate_text.specs.Clauses.{has_next_hypothesis, Premises}
use Rattle.spec_certificate_text.specs.Terms.{Syntax, Count}
use Rattle.spec_certificate_text.specs.Outcomes.{Outcome, Found, Faulty, next, front, read_fixed}
use Rattle.spec_certificate_text.proofs.Parts.{parts, chosen, fixed_there}
use Rattle.spec_node_tables.specs.Nodes.{term_at}
use Rattle.spec_node_tables.specs.Text.{number_text, fact_over, sides_over, later_diffs, diffs_over, hypotheses_over, clause_over, clause_lines_over}
use Rattle.spec_node_tables.specs.OfProtocol.{IsFactOver, AreSidesOver, IsClauseOver}
use Rattle.spec_node_tables.specs.Large.{most_certificate_symbols, piece_size, up_to_pieces, up_to_clause, up_to_clauses, AreUpTo}
use Rattle.spec_node_tables.proofs.Sizes.{pieces_total}
use Rattle.spec_node_faults.specs.Grammar.{MayBeHypothesis, MayBeConclusion, StandsRight}
use Rattle.spec_node_faults.proofs.Items.{AreOwn, HasOwnNumbers}
use Rattle.spec_node_faults.proofs.Orders.{InOrder}
use Rattle.spec_node_reading.specs.Walked.{Walked, next_clause}
use Rattle.spec_node_reading.specs.Loops.{Behind, with, row_from, lines_through}
use Rattle.spec_node_reading.specs.ReadClauses.{read_hypothesis, read_conclusion, read_diff, hypotheses_from, read_hypotheses, read_diffs, read_diffs_behind, with_diffs, read_premises, read_clause_line}
use Rattle.spec_node_reading.proofs.Parts.{fact_part, diff_part, clause_parts, part_numbers, numbers_of, terms_at, piece_at, clause_meant, pieces_are, order_append, Gone, gone_none, gone_append}
use Rattle.spec_node_reading.proofs.FactsThere.{FactThere, hypothesis_there, conclusion_there, DiffThere, diff_there}

module _ (P : Protocol) (table : List Term) where
  abbrev meant : Fact ℕ → Fact Term
  meant f = map_fact (term_at table) f

  abbrev meant_sides : SidesOf ℕ → SidesOf Term
  meant_sides s = map_sides (term_at table) s

  -- Constraints.

  -- constraints, one at least, and the space and `=> ` behind the last
  record DiffsThere (w : Walked) (bytes : List ℕ) (x : Behind (List (SidesOf Term))) (before : List (SidesOf Term)) (rest : List ℕ) : Type 0 where
    first : SidesOf ℕ
    others : List (SidesOf ℕ)
    value : x.value ≡ before ++ map meant_sides (first ∷ others)
    are : AllByRecursion (AreSidesOver IsShort) (first ∷ others)
    text : bytes ≡ diffs_over number_text P (first ∷ others) (61 ∷ 62 ∷ 32 ∷ rest)
    gone : Gone table w (map diff_part (first ∷ others)) x.walked

  abbrev more_diffs : ℕ → Behind (List (SidesOf Term)) → List ℕ → ℕ → Outcome (Behind (List (SidesOf Term)))
  more_diffs most xs bytes at = row_from (read_diff P table) 44 (32 ∷ []) (codes " => ") most xs bytes at

  abbrev behind_diff : ℕ → List (SidesOf Term) → Behind (SidesOf Term) → ℕ → List ℕ → Outcome (Behind (List (SidesOf Term)))
  behind_diff most ds x p r =
      if front r == 44 then next (read_fixed (44 ∷ 32 ∷ []) r p) (λ _ p r. more_diffs most (with (ds ++ x.value ∷ []) x.walked) r p)
      else next (read_fixed (codes " => ") r p) (λ _ p r. Found (with (ds ++ x.value ∷ []) x.walked) p r)

  diffs_more : (most : ℕ) (ds : List (SidesOf Term)) (w : Walked) (bytes : List ℕ) (at : ℕ) → more_diffs (suc most) (with ds w) bytes at ≡ next (read_diff P table w bytes at) (λ x p r. behind_diff most ds x p r)
  unfolding row_from
  diffs_more most ds w bytes at = refl

  diffs_none : (xs : Behind (List (SidesOf Term))) (bytes : List ℕ) (at : ℕ) → more_diffs 0 xs bytes at ≡ Faulty at Syntax
  unfolding row_from
  diffs_none xs bytes at = refl

  diffs_there : (most : ℕ) (ds : List (SidesOf Term)) (w : Walked) (bytes : List ℕ) (at : ℕ) (y : Behind (List (SidesOf Term))) (p : ℕ) (r : List ℕ) → more_diffs most (with ds w) bytes at ≡ Found y p r → DiffsThere w bytes y ds r
  diffs_there zero ds w bytes at y p r e = let never : Faulty at Syntax ≡ Found y p r = sym (diffs_none (with ds w) bytes at) ∙ e in absurd (cc)
  diffs_there (suc most) ds w bytes at y p r e =
      let cut = parts (read_diff P table w bytes at) (λ x q k. behind_diff most ds x q k) y p r (sym (diffs_more most ds w bytes at) ∙ e) in
      by (λ es v bs from z q k told. diffs_there most es v bs from z q k told) cut.value cut.place cut.rest (diff_there P table w bytes at cut.value cut.place cut.rest cut.first) cut.later
    where
      by : ((es : List (SidesOf Term)) (v : Walked) (bs : List ℕ) (from : ℕ) (z : Behind (List (SidesOf Term))) (q : ℕ) (k : List ℕ) → more_diffs most (with es v) bs from ≡ Found z q k → DiffsThere v bs z es k)
          → (x : Behind (SidesOf Term)) (q : ℕ) (k : List ℕ) → DiffThere P table w bytes x k → behind_diff most ds x q k ≡ Found y p r → DiffsThere w bytes y ds r
      by again x q k one found =
          let s = one.numbered in
          let means = one.meant in
          let comma = next (read_fixed (44 ∷ 32 ∷ []) k q) (λ _ q k. more_diffs most (with (ds ++ x.value ∷ []) x.walked) k q) in
          let close = next (read_fixed (codes " => ") k q) (λ _ q k. Found (with (ds ++ x.value ∷ []) x.walked) q k) in
          chosen (front k == 44) comma close y p r (DiffsThere w bytes y ds r) found
          (λ is goes.
          let end = parts (read_fixed (44 ∷ 32 ∷ []) k q) (λ _ q k. more_diffs most (with (ds ++ x.value ∷ []) x.walked) k q) y p r goes in
          let commas = fixed_there (44 ∷ 32 ∷ []) k q end.value end.place end.rest end.first in
          let others = again (ds ++ x.value ∷ []) x.walked end.rest end.place y p r end.later in
          let later = others.first ∷ others.others in
          record {
            first = s;
            others = later;
            value = others.value ∙ (append_assoc ds (x.value ∷ []) (map meant_sides later) ∙ ap (λ d. ds ++ d ∷ map meant_sides later) (sym means));
            are = (one.is, others.are);
            text = one.text ∙ ap (sides_over number_text P s) (commas ∙ ap (λ t. 44 ∷ 32 ∷ t) others.text);
            gone = gone_append table w x.walked y.walked (diff_part s ∷ []) (map diff_part later) one.gone others.gone;
          })
          (λ isnt ends.
          let end = parts (read_fixed (codes " => ") k q) (λ _ q k. Found (with (ds ++ x.value ∷ []) x.walked) q k) y p r ends in
          let closes = fixed_there (codes " => ") k q end.value end.place end.rest end.first in
          let last : with (ds ++ x.value ∷ []) x.walked ≡ y = cc in
          let rests : end.rest ≡ r = cc in
          record {
            first = s;
            others = [];
            value = ap (λ z. z.value) (sym last) ∙ ap (λ d. ds ++ d ∷ []) (sym means);
            are = (one.is, tt);
            text = one.text ∙ ap (sides_over number_text P s) (closes ∙ ap (λ t. 32 ∷ 61 ∷ 62 ∷ 32 ∷ t) rests);
            gone = subst (λ z. Gone table w (diff_part s ∷ []) z.walked) last one.gone;
          })

  some_diffs-there : (w : Walked) (bytes : List ℕ) (at : ℕ) (y : Behind (List (SidesOf Term))) (p : ℕ) (r : List ℕ) → read_diffs P table w bytes at ≡ Found y p r → DiffsThere w bytes y [] r
  some_diffs-there w bytes at y p r e = diffs_there (suc (length bytes)) [] w bytes at y p r e

  -- behind hypotheses
  record DiffsBehind (w : Walked) (bytes : List ℕ) (x : Behind (List (SidesOf Term))) (rest : List ℕ) : Type 0 where
    numbered : List (SidesOf ℕ)
    value : x.value ≡ map meant_sides numbered
    are : AllByRecursion (AreSidesOver IsShort) numbered
    text : bytes ≡ later_diffs number_text P numbered (61 ∷ 62 ∷ 32 ∷ rest)
    gone : Gone table w (map diff_part numbered) x.walked

  behind_there : (w : Walked) (bytes : List ℕ) (at : ℕ) (x : Behind (List (SidesOf Term))) (p : ℕ) (r : List ℕ) → read_diffs_behind P table w bytes at ≡ Found x p r → DiffsBehind w bytes x r
  behind_there w bytes at x p r e =
      chosen (front bytes == 44) (next (read_fixed (codes ", ") bytes at) (λ _ q k. read_diffs P table w k q)) (next (read_fixed (codes " => ") bytes at) (λ _ q k. Found (with [] w) q k)) x p r (DiffsBehind w bytes x r) e
      (λ is goes.
      let comma = parts (read_fixed (codes ", ") bytes at) (λ _ q k. read_diffs P table w k q) x p r goes in
      let commas = fixed_there (codes ", ") bytes at comma.value comma.place comma.rest comma.first in
      let there = some_diffs-there w comma.rest comma.place x p r comma.later in
      record { numbered = there.first ∷ there.others; value = there.value; are = there.are; text = commas ∙ ap (λ s. 44 ∷ 32 ∷ s) there.text; gone = there.gone })
      (λ isnt none.
      let end = parts (read_fixed (codes " => ") bytes at) (λ _ q k. Found (with [] w) q k) x p r none in
      let closes = fixed_there (codes " => ") bytes at end.value end.place end.rest end.first in
      let last : with [] w ≡ x = cc in
      let rests : end.rest ≡ r = cc in
      record { numbered = []; value = ap (λ z. z.value) (sym last); are = tt; text = closes ∙ ap (λ s. 32 ∷ 61 ∷ 62 ∷ 32 ∷ s) rests; gone = subst (λ z. Gone table w [] z.walked) last (gone_none table w) })

  -- Hypotheses.

  -- hypotheses, one at least, whatever constraints stand behind them
  record HypothesesThere (w : Walked) (bytes : List ℕ) (x : Behind (List (Fact Term))) (before : List (Fact Term)) (rest : List ℕ) : Type 0 where
    first : Fact ℕ
    others : List (Fact ℕ)
    value : x.value ≡ before ++ map meant (first ∷ others)
    are : AllByRecursion (IsFactOver IsShort P) (first ∷ others)
    own : AllByRecursion (λ f. AreOwn table (terms_of f)) (first ∷ others)
    may : AllByRecursion MayBeHypothesis (map meant (first ∷ others))
    text : (ds : List (SidesOf ℕ)) (k : List ℕ) → rest ≡ later_diffs number_text P ds k → bytes ≡ hypotheses_over number_text P (first ∷ others) ds k
    gone : Gone table w (map fact_part (first ∷ others)) x.walked

  abbrev read_more : ℕ → Behind (List (Fact Term)) → List ℕ → ℕ → Outcome (Behind (List (Fact Term)))
  read_more most xs bytes at = hypotheses_from P table most xs bytes at

  abbrev behind_hypothesis : ℕ → List (Fact Term) → Behind (Fact Term) → ℕ → List ℕ → Outcome (Behind (List (Fact Term)))
  behind_hypothesis most hs x p r =
      if has_next_hypothesis r then next (read_fixed (codes ", ") r p) (λ _ p r. read_more most (with (hs ++ x.value ∷ []) x.walked) r p) else Found (with (hs ++ x.value ∷ []) x.walked) p r

  hypotheses_more : (most : ℕ) (hs : List (Fact Term)) (w : Walked) (bytes : List ℕ) (at : ℕ) → read_more (suc most) (with hs w) bytes at ≡ next (read_hypothesis P table w bytes at) (λ x p r. behind_hypothesis most hs x p r)
  unfolding hypotheses_from
  hypotheses_more most hs w bytes at = refl

  hypotheses_none : (xs : Behind (List (Fact Term))) (bytes : List ℕ) (at : ℕ) → read_more 0 xs bytes at ≡ Faulty at Syntax
  unfolding hypotheses_from
  hypotheses_none xs bytes at = refl

  hypotheses_there : (most : ℕ) (hs : List (Fact Term)) (w : Walked) (bytes : List ℕ) (at : ℕ) (y : Behind (List (Fact Term))) (p : ℕ) (r : List ℕ) → read_more most (with hs w) bytes at ≡ Found y p r → HypothesesThere w bytes y hs r
  hypotheses_there zero hs w bytes at y p r e = let never : Faulty at Syntax ≡ Found y p r = sym (hypotheses_none (with hs w) bytes at) ∙ e in absurd (cc)
  hypotheses_there (suc most) hs w bytes at y p r e =
      let cut = parts (read_hypothesis P table w bytes at) (λ x q k. behind_hypothesis most hs x q k) y p r (sym (hypotheses_more most hs w bytes at) ∙ e) in
      by (λ fs v bs from z q k told. hypotheses_there most fs v bs from z q k told) cut.value cut.place cut.rest (hypothesis_there P table w bytes at cut.value cut.place cut.rest cut.first) cut.later
    where
      by : ((fs : List (Fact Term)) (v : Walked) (bs : List ℕ) (from : ℕ) (z : Behind (List (Fact Term))) (q : ℕ) (k : List ℕ) → read_more most (with fs v) bs from ≡ Found z q k → HypothesesThere v bs z fs k)
          → (x : Behind (Fact Term)) (q : ℕ) (k : List ℕ) → FactThere P table MayBeHypothesis w bytes x k → behind_hypothesis most hs x q k ≡ Found y p r → HypothesesThere w bytes y hs r
      by again x q k one found =
          let g = one.numbered in
          let means = one.meant in
          let comma = next (read_fixed (codes ", ") k q) (λ _ q k. read_more most (with (hs ++ x.value ∷ []) x.walked) k q) in
          chosen (has_next_hypothesis k) comma (Found (with (hs ++ x.value ∷ []) x.walked) q k) y p r (HypothesesThere w bytes y hs r) found
          (λ is goes.
          let end = parts (read_fixed (codes ", ") k q) (λ _ q k. read_more most (with (hs ++ x.value ∷ []) x.walked) k q) y p r goes in
          let commas = fixed_there (codes ", ") k q end.value end.place end.rest end.first in
          let others = again (hs ++ x.value ∷ []) x.walked end.rest end.place y p r end.later in
          let later = others.first ∷ others.others in
          record {
            first = g;
            others = later;
            value = others.value ∙ (append_assoc hs (x.value ∷ []) (map meant later) ∙ ap (λ f. hs ++ f ∷ map meant later) (sym means));
            are = (one.is, others.are);
            own = (one.own, others.own);
            may = (subst MayBeHypothesis (sym means) one.may, others.may);
            text = λ ds i behind. one.text ∙ ap (fact_over number_text P g) (commas ∙ ap (λ s. 44 ∷ 32 ∷ s) (others.text ds i behind));
            gone = gone_append table w x.walked y.walked (fact_part g ∷ []) (map fact_part later) one.gone others.gone;
          })
          (λ isnt ends.
          let last : with (hs ++ x.value ∷ []) x.walked ≡ y = cc in
          let rests : k ≡ r = cc in
          record {
            first = g;
            others = [];
            value = ap (λ z. z.value) (sym last) ∙ ap (λ f. hs ++ f ∷ []) (sym means);
            are = (one.is, tt);
            own = (one.own, tt);
            may = (subst MayBeHypothesis (sym means) one.may, tt);
            text = λ ds i behind. one.text ∙ ap (fact_over number_text P g) (rests ∙ behind);
            gone = subst (λ z. Gone table w (fact_part g ∷ []) z.walked) last one.gone;
          })

  -- Premises.

  record PremisesThere (w : Walked) (bytes : List ℕ) (x : Behind Premises) (rest : List ℕ) : Type 0 where
    hypotheses : List (Fact ℕ)
    diffs : List (SidesOf ℕ)
    value : x.value ≡ record { hypotheses = map meant hypotheses; diffs = map meant_sides diffs }
    are : AllByRecursion (IsFactOver IsShort P) hypotheses
    own : AllByRecursion (λ f. AreOwn table (terms_of f)) hypotheses
    paired : AllByRecursion (AreSidesOver IsShort) diffs
    may : AllByRecursion MayBeHypothesis (map meant hypotheses)
    text : bytes ≡ hypotheses_over number_text P hypotheses diffs (61 ∷ 62 ∷ 32 ∷ rest)
    gone : Gone table w (map fact_part hypotheses ++ map diff_part diffs) x.walked

  abbrev premises_of : List (Fact Term) → List (SidesOf Term) → Premises
  premises_of hs ds = record { hypotheses = hs; diffs = ds }

  premises_there : (w : Walked) (bytes : List ℕ) (at : ℕ) (x : Behind Premises) (p : ℕ) (r : List ℕ) → read_premises P table w bytes at ≡ Found x p r → PremisesThere w bytes x r
  premises_there w bytes at x p r e =
      let none = next (read_fixed (codes "=> ") bytes at) (λ _ q k. Found (with (premises_of [] []) w) q k) in
      let only_diffs = with_diffs P table [] (read_diffs P table w bytes at) in
      let both = next (read_hypotheses P table w bytes at) (λ hs q k. with_diffs P table hs.value (read_diffs_behind P table hs.walked k q)) in
      chosen (front bytes == 61) none (if front bytes == 100 then only_diffs else both) x p r (PremisesThere w bytes x r) e
      (λ is told.
      let end = parts (read_fixed (codes "=> ") bytes at) (λ _ q k. Found (with (premises_of [] []) w) q k) x p r told in
      let closes = fixed_there (codes "=> ") bytes at end.value end.place end.rest end.first in
      let last : with (premises_of [] []) w ≡ x = cc in
      let rests : end.rest ≡ r = cc in
      record {
        hypotheses = [];
        diffs = [];
        value = ap (λ z. z.value) (sym last);
        are = tt;
        own = tt;
        paired = tt;
        may = tt;
        text = closes ∙ ap (λ s. 61 ∷ 62 ∷ 32 ∷ s) rests;
        gone = subst (λ z. Gone table w [] z.walked) last (gone_none table w);
      })
      (λ isnt some. chosen (front bytes == 100) only_diffs both x p r (PremisesThere w bytes x r) some
      (λ is told.
      let cut = parts (read_diffs P table w bytes at) (λ ds q k. Found (with (premises_of [] ds.value) ds.walked) q k) x p r told in
      let there = some_diffs-there w bytes at cut.value cut.place cut.rest cut.first in
      let last : with (premises_of [] cut.value.value) cut.value.walked ≡ x = cc in
      let rests : cut.rest ≡ r = cc in
      let ds = there.first ∷ there.others in
      record {
        hypotheses = [];
        diffs = ds;
        value = ap (λ z. z.value) (sym last) ∙ ap (premises_of []) there.value;
        are = tt;
        own = tt;
        paired = there.are;
        may = tt;
        text = there.text ∙ ap (λ s. diffs_over number_text P ds (61 ∷ 62 ∷ 32 ∷ s)) rests;
        gone = subst (λ z. Gone table w (map diff_part ds) z.walked) last there.gone;
      })
      (λ no_diff told.
      let cut = parts (read_hypotheses P table w bytes at) (λ hs q k. with_diffs P table hs.value (read_diffs_behind P table hs.walked k q)) x p r told in
      let hs = hypotheses_there (suc (length bytes)) [] w bytes at cut.value cut.place cut.rest cut.first in
      let again = parts (read_diffs_behind P table cut.value.walked cut.rest cut.place) (λ ds q k. Found (with (premises_of cut.value.value ds.value) ds.walked) q k) x p r cut.later in
      let ds = behind_there cut.value.walked cut.rest cut.place again.value again.place again.rest again.first in
      let last : with (premises_of cut.value.value again.value.value) again.value.walked ≡ x = cc in
      let rests : again.rest ≡ r = cc in
      let gs = hs.first ∷ hs.others in
      let first = hs.value in
      let second = ds.value in
      record {
        hypotheses = gs;
        diffs = ds.numbered;
        value = ap (λ z. z.value) (sym last) ∙ (λ i. premises_of (first i) (second i));
        are = hs.are;
        own = hs.own;
        paired = ds.are;
        may = hs.may;
        text = hs.text ds.numbered (61 ∷ 62 ∷ 32 ∷ r) (ds.text ∙ ap (λ s. later_diffs number_text P ds.numbered (61 ∷ 62 ∷ 32 ∷ s)) rests);
        gone = subst (λ z. Gone table w (map fact_part gs ++ map diff_part ds.numbered) z.walked) last (gone_append table w cut.value.walked again.value.walked (map fact_part gs) (map diff_part ds.numbered) hs.gone ds.gone);
      }))

  -- Clauses.

  record ClauseThere (w : Walked) (bytes : List ℕ) (cs : List (Clause Term)) (x : Behind (List (Clause Term))) (rest : List ℕ) : Type 0 where
    numbered : SpelledClause ℕ
    value : x.value ≡ cs ++ clause_meant table numbered ∷ []
    is : IsClauseOver IsShort P numbered
    own : HasOwnNumbers table numbered
    right : StandsRight (clause_meant table numbered)
    text : bytes ≡ 99 ∷ 32 ∷ clause_over number_text P numbered (10 ∷ rest)
    gone : Gone table (next_clause w) (clause_parts numbered) x.walked

  clause_there : (before : Behind (List (Clause Term))) (bytes : List ℕ) (at : ℕ) (x : Behind (List (Clause Term))) (p : ℕ) (r : List ℕ) → read_clause_line P table before bytes at ≡ Found x p r → ClauseThere before.walked bytes before.value x r
  clause_there before bytes at x p r e =
      let begin = parts (read_fixed (codes "c ") bytes at) _ x p r e in
      let opens = fixed_there (codes "c ") bytes at begin.value begin.place begin.rest begin.first in
      let cut = parts (read_premises P table (next_clause before.walked) begin.rest begin.place) _ x p r begin.later in
      let ps = premises_there (next_clause before.walked) begin.rest begin.place cut.value cut.place cut.rest cut.first in
      let again = parts (read_conclusion P table cut.value.walked cut.rest cut.place) _ x p r cut.later in
      let one = conclusion_there P table cut.value.walked cut.rest cut.place again.value again.place again.rest again.first in
      let end = parts (read_fixed (codes "\n") again.rest again.place) _ x p r again.later in
      let closes = fixed_there (codes "\n") again.rest again.place end.value end.place end.rest end.first in
      let spelled : Premises → Fact Term → Clause Term = λ qs f. meant_clause record { hypotheses = qs.hypotheses; diffs = qs.diffs; conclusion = f } in
      let last : with (before.value ++ spelled cut.value.value again.value.value ∷ []) again.value.walked ≡ x = cc in
      let rests : end.rest ≡ r = cc in
      let numbered : SpelledClause ℕ = record { hypotheses = ps.hypotheses; diffs = ps.diffs; conclusion = one.numbered } in
      let first = ps.value in
      let second = one.meant in
      let means : spelled cut.value.value again.value.value ≡ clause_meant table numbered = λ i. spelled (first i) (sym second i) in
      let hs = map fact_part ps.hypotheses in
      let ds = map diff_part ps.diffs in
      let walked = gone_append table (next_clause before.walked) cut.value.walked again.value.walked (hs ++ ds) (fact_part one.numbered ∷ []) ps.gone one.gone in
      record {
        numbered = numbered;
        value = ap (λ z. z.value) (sym last) ∙ ap (λ c. before.value ++ c ∷ []) means;
        is = record { hypotheses = ps.are; diffs = ps.paired; conclusion = one.is };
        own = record { hypotheses = ps.own; conclusion = one.own };
        right = record { hypotheses = ps.may; conclusion = subst MayBeConclusion (sym second) one.may };
        text = opens ∙ ap (λ s. 99 ∷ 32 ∷ s) (ps.text ∙ ap (λ s. hypotheses_over number_text P ps.hypotheses ps.diffs (61 ∷ 62 ∷ 32 ∷ s)) (one.text ∙ ap (fact_over number_text P one.numbered) (closes ∙ ap (λ s. 10 ∷ s) rests)));
        gone = subst (λ z. Gone table (next_clause before.walked) (clause_parts numbered) z.walked) last
            (subst (λ ps. Gone table (next_clause before.walked) ps again.value.walked) (append_assoc hs ds (fact_part one.numbered ∷ [])) walked);
      }

  -- All clauses.

  pub record ClausesThere (w : Walked) (most : ℕ) (bytes : List ℕ) (cs : List (Clause Term)) (x : Behind (List (Clause Term))) (rest : List ℕ) : Type 0 where
    pub numbered : List (SpelledClause ℕ)
    pub value : x.value ≡ cs ++ map (clause_meant table) numbered
    pub are : AllByRecursion (IsClauseOver IsShort P) numbered
    pub own : AllByRecursion (HasOwnNumbers table) numbered
    pub right : AllByRecursion StandsRight (map (clause_meant table) numbered)
    pub text : bytes ≡ clause_lines_over number_text P numbered rest
    pub order : InOrder table w.seen (numbers_of (flat_map clause_parts numbered))
    pub seen : x.walked.seen ≡ w.seen ++ terms_at table (numbers_of (flat_map clause_parts numbered))
    pub small : AllByRecursion (λ c. AreUpTo most_symbols (up_to_clause 0 c)) (map (clause_meant table) numbered)
    pub together : AreUpTo most_certificate_symbols (up_to_clauses w.all (map (clause_meant table) numbered))
    pub few : length numbered ≤ most

  abbrev read_lines : ℕ → Behind (List (Clause Term)) → List ℕ → ℕ → Outcome (Behind (List (Clause Term)))
  read_lines most xs bytes at = lines_through 99 (read_clause_line P table) most xs bytes at

  lines_more : (most : ℕ) (xs : Behind (List (Clause Term))) (bytes : List ℕ) (at : ℕ) → read_lines (suc most) xs bytes at ≡ (if front bytes == 99 then next (read_clause_line P table xs bytes at) (λ y p k. read_lines most y k p) else Found xs at bytes)
  unfolding lines_through
  lines_more most xs bytes at = refl

  lines_full : (xs : Behind (List (Clause Term))) (bytes : List ℕ) (at : ℕ) → read_lines 0 xs bytes at ≡ (if front bytes == 99 then Faulty at Count else Found xs at bytes)
  unfolding lines_through
  lines_full xs bytes at = refl

  no_clauses : (most : ℕ) (bytes : List ℕ) (xs x : Behind (List (Clause Term))) (rest : List ℕ) → xs ≡ x → bytes ≡ rest → ClausesThere xs.walked most bytes xs.value x rest
  no_clauses most bytes xs x rest same rests = record {
    numbered = [];
    value = ap (λ z. z.value) (sym same) ∙ sym (append-nil xs.value);
    are = tt;
    own = tt;
    right = tt;
    text = rests;
    order = tt;
    seen = ap (λ z. z.walked.seen) (sym same) ∙ sym (append-nil xs.walked.seen);
    small = tt;
    together = tt;
    few = omega arith;
  }

  pub clauses_there : (most : ℕ) (xs : Behind (List (Clause Term))) (bytes : List ℕ) (at : ℕ) (x : Behind (List (Clause Term))) (p : ℕ) (r : List ℕ) → read_lines most xs bytes at ≡ Found x p r → ClausesThere xs.walked most bytes xs.value x r
  clauses_there zero xs bytes at x p r e =
      chosen (front bytes == 99) (Faulty at Count) (Found xs at bytes) x p r (ClausesThere xs.walked 0 bytes xs.value x r) (sym (lines_full xs bytes at) ∙ e)
      (λ is never. absurd (cc))
      (λ isnt end. no_clauses 0 bytes xs x r (cc) (cc))
  clauses_there (suc most) xs bytes at x p r e =
      chosen (front bytes == 99) (next (read_clause_line P table xs bytes at) (λ y q k. read_lines most y k q)) (Found xs at bytes) x p r (ClausesThere xs.walked (suc most) bytes xs.value x r) (sym (lines_more most xs bytes at) ∙ e)
      (λ is goes.
      let cut = parts (read_clause_line P table xs bytes at) (λ y q k. read_lines most y k q) x p r goes in
      let one = clause_there xs bytes at cut.value cut.place cut.rest cut.first in
      let others = clauses_there most cut.value cut.rest cut.place x p r cut.later in
      let c = one.numbered in
      let ds = others.numbered in
      let first = one.gone in
      let ns = numbers_of (clause_parts c) in
      let later = numbers_of (flat_map clause_parts ds) in
      let numbers : numbers_of (clause_parts c ++ flat_map clause_parts ds) ≡ ns ++ later = flat_map-append part_numbers (clause_parts c) (flat_map clause_parts ds) in
      let meant_so = pieces_are table c in
      let whole = pieces_total (clause_meant table c) in
      let all_is = first.all in
      let counted : total piece_size (map (piece_at table) (clause_parts c)) ≡ clause_size (clause_meant table c) = ap (total piece_size) meant_so ∙ whole in
      let sums : cut.value.walked.all ≡ xs.walked.all + clause_size (clause_meant table c) = omega (arith, all_is, counted) in
      let fewer = others.few in
      record {
        numbered = c ∷ ds;
        value = others.value ∙ (ap (λ vs. vs ++ map (clause_meant table) ds) one.value ∙ append_assoc xs.value (clause_meant table c ∷ []) (map (clause_meant table) ds));
        are = (one.is, others.are);
        own = (one.own, others.own);
        right = (one.right, others.right);
        text = one.text ∙ ap (λ s. 99 ∷ 32 ∷ clause_over number_text P c (10 ∷ s)) others.text;
        order = subst (InOrder table xs.walked.seen) (sym numbers) (order_append table xs.walked.seen ns later first.order (subst (λ us. InOrder table us later) first.seen others.order));
        seen = others.seen ∙ (ap (λ us. us ++ terms_at table later) first.seen ∙ (append_assoc xs.walked.seen (terms_at table ns) (terms_at table later)
            ∙ ap (λ us. xs.walked.seen ++ us) (sym (map-append (term_at table) ns later) ∙ ap (terms_at table) (sym numbers))));
        small = (subst (λ ps. AreUpTo most_symbols (up_to_pieces 0 ps)) meant_so first.small, others.small);
        together = all_append (λ n. n ≤ most_certificate_symbols) (up_to_clause xs.walked.all (clause_meant table c)) (up_to_clauses (xs.walked.all + clause_size (clause_meant table c)) (map (clause_meant table) ds))
            (subst (λ ps. AreUpTo most_certificate_symbols (up_to_pieces xs.walked.all ps)) meant_so first.together)
            (subst (λ n. AreUpTo most_certificate_symbols (up_to_clauses n (map (clause_meant table) ds))) sums others.together);
        few = omega (arith, fewer);
      })
      (λ isnt end. no_clauses (suc most) bytes xs x r (cc) (cc))
