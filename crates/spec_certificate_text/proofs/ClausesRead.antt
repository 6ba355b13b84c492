-- Clauses that were read are what the bytes begin with, and texts of clauses are read as these.
use Rattle.std.proofs.Common.{◌≡◌, ℕ, ◌+◌, ◌≤◌, ◌==◌, not, if◌then◌else◌, Bool, true, false, List, [], ◌∷◌, length, map, refl, sym, ◌∙◌, ap, subst, arith, codes}
use Rattle.std.proofs.lemmas.List.{length-map}
use Rattle.std.specs.List.{AllByRecursion}
use Rattle.spec_trees.specs.Tree.{Leaf, bind}
use Rattle.spec_calculus.specs.Syntax.{Protocol}
use Rattle.spec_terms.specs.Term.{Term}
use Rattle.spec_clauses.specs.Diff.{Side, Diff}
use Rattle.spec_clauses.specs.Fact.{Fact, Att, Mess, Tab, Ev, Mev, Bad}
use Rattle.spec_clauses.specs.Shown.{slot_shown}
use Rattle.spec_certificate_text.specs.OfProtocol.{HasNames}
use Rattle.spec_certificate_text.specs.Sides.{first_bound, side_term, SidesOf, SpelledClause, spelled_diff, meant_diff, spelled_clause, meant_clause}
use Rattle.spec_certificate_text.specs.Written.{written_fact}
use Rattle.spec_certificate_text.specs.Text.{fact_text, sides_text, diff_text, later_diffs, later_hypotheses, hypotheses_text, clause_text}
use Rattle.spec_certificate_text.specs.Outcomes.{Outcome, Found, next, front, read_fixed, things}
use Rattle.spec_certificate_text.specs.Facts.{read_hypothesis, read_conclusion}
use Rattle.spec_certificate_text.specs.Clauses.{has_next_hypothesis, one_hypothesis, one_diff, read_diffs, Premises, spaced, some_premises, read_premises, read_spelled_clause, read_clause}
use Rattle.spec_certificate_text.specs.Readable.{SideMayStand, IsHypothesisOf, IsConclusionOf, IsReadableDiff, IsReadable}
use Rattle.spec_certificate_text.proofs.Parts.{IsThere, Sound, Finds, parts, joined, chosen, when_true, when_false, fixed_there, fixed_found}
use Rattle.spec_certificate_text.proofs.Sides.{diff_meant, sides_spelled, diffs_spelled, meant_own}
use Rattle.spec_certificate_text.proofs.Things.{things_text, IsOne, Complete, things_there, things_found_before}
use Rattle.spec_certificate_text.proofs.Long.{fact_long, things_long}
use Rattle.spec_certificate_text.proofs.FactsThere.{hypothesis_there, conclusion_there}
use Rattle.spec_certificate_text.proofs.FactsFound.{hypothesis_found, conclusion_found}
use Rattle.spec_certificate_text.proofs.SidesRead.{AreSidesReadable, one_text, one_diff_there, begins_diff, some_diffs_found, behind_text, diffs_there, diffs_found}

-- Hypotheses in a row.

-- a hypothesis, and `, ` where another follows
abbrev pub hypothesis_text : Protocol → Fact Term × Bool → List ℕ → List ℕ
hypothesis_text P (h, true) rest = fact_text P h (44 ∷ 32 ∷ rest)
hypothesis_text P (h, false) rest = fact_text P h rest

abbrev behind_fact : Fact Term → ℕ → List ℕ → Outcome (Fact Term × Bool)
behind_fact h place rest =
    if has_next_hypothesis rest then next (read_fixed (codes ", ") rest place) (λ _ p r. Found (h, true) p r) else Found (h, false) place rest

pub one_hypothesis_there : (P : Protocol) → Sound (hypothesis_text P) (IsOne (IsHypothesisOf P)) (one_hypothesis P)
one_hypothesis_there P bytes at x p r e =
    let cut = parts (read_hypothesis P bytes at) behind_fact x p r e in
    by cut.value cut.place cut.rest (hypothesis_there P bytes at cut.value cut.place cut.rest cut.first) cut.later
  where
    by : (h : Fact Term) (q : ℕ) (k : List ℕ) → IsThere (fact_text P) (IsHypothesisOf P) bytes h k → behind_fact h q k ≡ Found x p r → IsThere (hypothesis_text P) (IsOne (IsHypothesisOf P)) bytes x r
    by h q k here found =
        chosen (has_next_hypothesis k) (next (read_fixed (codes ", ") k q) (λ _ p r. Found (h, true) p r)) (Found (h, false) q k) x p r (IsThere (hypothesis_text P) (IsOne (IsHypothesisOf P)) bytes x r) found
        (λ another more.
        let mark = parts (read_fixed (codes ", ") k q) (λ _ p r. Found (h, true) p r) x p r more in
        let stands = fixed_there (codes ", ") k q mark.value mark.place mark.rest mark.first in
        let same : (h, true) ≡ x = cc in
        let rests : mark.rest ≡ r = cc in
        subst (λ y. IsThere (hypothesis_text P) (IsOne (IsHypothesisOf P)) bytes y r) same record { text = here.text ∙ ap (fact_text P h) (stands ∙ ap (λ s. 44 ∷ 32 ∷ s) rests); is = here.is })
        (λ last end.
        let same : (h, false) ≡ x = cc in
        let rests : k ≡ r = cc in
        subst (λ y. IsThere (hypothesis_text P) (IsOne (IsHypothesisOf P)) bytes y r) same record { text = here.text ∙ ap (fact_text P h) rests; is = here.is })

-- behind `, ` no constraint follows, and behind the last hypothesis no other
abbrev may_follow : Bool → List ℕ → Type 0
may_follow true rest = (front rest == 100) ≡ false
may_follow false rest = has_next_hypothesis rest ≡ false

one_hypothesis_found : (P : Protocol) → HasNames P → (x : Fact Term × Bool) (rest : List ℕ) (at : ℕ) → IsHypothesisOf P x.0 → may_follow x.1 rest → Finds (one_hypothesis P (hypothesis_text P x rest) at) x rest
one_hypothesis_found P names (h, true) rest at is may =
    joined (read_hypothesis P (fact_text P h (44 ∷ 32 ∷ rest)) at) behind_fact h (44 ∷ 32 ∷ rest) (h, true) rest (hypothesis_found P names h (44 ∷ 32 ∷ rest) at is)
    (λ p. when_true (has_next_hypothesis (44 ∷ 32 ∷ rest)) (next (read_fixed (codes ", ") (44 ∷ 32 ∷ rest) p) (λ _ q r. Found (h, true) q r)) (Found (h, false) p (44 ∷ 32 ∷ rest)) (h, true) rest (ap not may)
    (joined (read_fixed (codes ", ") (44 ∷ 32 ∷ rest) p) (λ _ q r. Found (h, true) q r) tt rest (h, true) rest (fixed_found (codes ", ") rest p) (λ q. record { place = q; is = refl })))
one_hypothesis_found P names (h, false) rest at is may =
    joined (read_hypothesis P (fact_text P h rest) at) behind_fact h rest (h, false) rest (hypothesis_found P names h rest at is)
    (λ p. when_false (has_next_hypothesis rest) (next (read_fixed (codes ", ") rest p) (λ _ q r. Found (h, true) q r)) (Found (h, false) p rest) (h, false) rest may record { place = p; is = refl })

pub hypothesis_long : (P : Protocol) (x : Fact Term × Bool) (k : List ℕ) → length k + 1 ≤ length (hypothesis_text P x k)
hypothesis_long P (h, true) k = omega (arith, fact_long (written_fact P h) (44 ∷ 32 ∷ k))
hypothesis_long P (h, false) k = fact_long (written_fact P h) k

-- a hypothesis begins with neither `=` nor `d`
no_arrow : (P : Protocol) (h : Fact Term) (k : List ℕ) → IsHypothesisOf P h → (front (fact_text P h k) == 61) ≡ false
no_arrow P (Att phase t) k may = refl
no_arrow P (Mess phase t u) k may = refl
no_arrow P (Tab n ts) k may = refl
no_arrow P (Ev e ts) k may = refl
no_arrow P (Mev e ts) k may = refl
no_arrow P (Bad ts) k may = absurd may

no_diff : (P : Protocol) (h : Fact Term) (k : List ℕ) → IsHypothesisOf P h → (front (fact_text P h k) == 100) ≡ false
no_diff P (Att phase t) k may = refl
no_diff P (Mess phase t u) k may = refl
no_diff P (Tab n ts) k may = refl
no_diff P (Ev e ts) k may = refl
no_diff P (Mev e ts) k may = refl
no_diff P (Bad ts) k may = absurd may

next_no_diff : (P : Protocol) (x : Fact Term × Bool) (k : List ℕ) → IsHypothesisOf P x.0 → (front (hypothesis_text P x k) == 100) ≡ false
next_no_diff P (h, true) k may = no_diff P h (44 ∷ 32 ∷ k) may
next_no_diff P (h, false) k may = no_diff P h k may

-- Premises.

-- hypotheses and constraints, and the space behind the last of them
abbrev premises_onto : Protocol → List (Fact Term) → List (SidesOf Term) → List ℕ → List ℕ
premises_onto P [] [] rest = rest
premises_onto P [] (d ∷ ds) rest = things_text (one_text P) d ds (32 ∷ rest)
premises_onto P (h ∷ hs) ds rest = things_text (hypothesis_text P) h hs (behind_text P ds (32 ∷ rest))

abbrev premises_text : Protocol → Premises → List ℕ → List ℕ
premises_text P ps rest = premises_onto P ps.hypotheses ps.diffs rest

pub record ArePremises (P : Protocol) (ps : Premises) : Type 0 where
  pub hypotheses : AllByRecursion (IsHypothesisOf P) ps.hypotheses
  pub diffs : AllByRecursion (AreSidesReadable P) ps.diffs

-- they are the text of the constraints that are spelled so
sides_are : (P : Protocol) (d : Diff) (ds : List Diff) (rest : List ℕ) → things_text (one_text P) (spelled_diff d) (map spelled_diff ds) (32 ∷ rest) ≡ diff_text P d (later_diffs P ds rest)
sides_are P d [] rest = refl
sides_are P d (e ∷ es) rest = ap (λ k. sides_text P (spelled_diff d) (44 ∷ 32 ∷ k)) (sides_are P e es rest)

behind_is : (P : Protocol) (ds : List Diff) (rest : List ℕ) → behind_text P (map spelled_diff ds) (32 ∷ rest) ≡ later_diffs P ds rest
behind_is P [] rest = refl
behind_is P (d ∷ ds) rest = ap (λ k. 44 ∷ 32 ∷ k) (sides_are P d ds rest)

hypotheses_are : (P : Protocol) (h : Fact Term) (hs : List (Fact Term)) (ds : List Diff) (rest : List ℕ) → things_text (hypothesis_text P) h hs (later_diffs P ds rest) ≡ fact_text P h (later_hypotheses P hs ds rest)
hypotheses_are P h [] ds rest = refl
hypotheses_are P h (g ∷ gs) ds rest = ap (λ k. fact_text P h (44 ∷ 32 ∷ k)) (hypotheses_are P g gs ds rest)

premises_are : (P : Protocol) (hs : List (Fact Term)) (ds : List Diff) (rest : List ℕ) → premises_onto P hs (map spelled_diff ds) rest ≡ hypotheses_text P hs ds rest
premises_are P [] [] rest = refl
premises_are P [] (d ∷ ds) rest = sides_are P d ds rest
premises_are P (h ∷ hs) ds rest = ap (things_text (hypothesis_text P) h hs) (behind_is P ds rest) ∙ hypotheses_are P h hs ds rest

abbrev made_of : List (Fact Term) → List (SidesOf Term) → Premises
made_of hs ds = record { hypotheses = hs; diffs = ds }

-- behind which the space was read
pub record SpaceBehind (P : Protocol) (hs : List (Fact Term)) (o : Outcome (List (SidesOf Term))) (ps : Premises) (p : ℕ) (r : List ℕ) : Type 0 where
  pub diffs : List (SidesOf Term)
  pub place : ℕ
  pub found : o ≡ Found diffs place (32 ∷ r)
  pub is : made_of hs diffs ≡ ps

space_behind : (P : Protocol) (hs : List (Fact Term)) (o : Outcome (List (SidesOf Term))) (ps : Premises) (p : ℕ) (r : List ℕ) → spaced hs o ≡ Found ps p r → SpaceBehind P hs o ps p r
space_behind P hs o ps p r e =
    let cut = parts o (λ ds p r. next (read_fixed (codes " ") r p) (λ _ p r. Found (made_of hs ds) p r)) ps p r e in
    let mark = parts (read_fixed (codes " ") cut.rest cut.place) (λ _ p r. Found (made_of hs cut.value) p r) ps p r cut.later in
    let stands = fixed_there (codes " ") cut.rest cut.place mark.value mark.place mark.rest mark.first in
    let same : made_of hs cut.value ≡ ps = cc in
    let rests : mark.rest ≡ r = cc in
    record { diffs = cut.value; place = cut.place; found = cut.first ∙ ap (Found cut.value cut.place) (stands ∙ ap (λ k. 32 ∷ k) rests); is = same }

some_premises_there : (P : Protocol) → Sound (premises_text P) (ArePremises P) (some_premises P)
some_premises_there P bytes at ps p r e =
    chosen (front bytes == 100) (spaced [] (things (one_diff P) bytes at)) (next (things (one_hypothesis P) bytes at) (λ hs p r. spaced hs (read_diffs P r p))) ps p r (IsThere (premises_text P) (ArePremises P) bytes ps r) e
    (λ diff found.
    let end = space_behind P [] (things (one_diff P) bytes at) ps p r found in
    let all = things_there (one_text P) (AreSidesReadable P) (one_diff P) (one_diff_there P) (length bytes) [] bytes at end.diffs end.place (32 ∷ r) end.found in
    let there : IsThere (premises_text P) (ArePremises P) bytes (made_of [] (all.first ∷ all.others)) r = record { text = all.text; is = record { hypotheses = tt; diffs = all.each } } in
    subst (λ qs. IsThere (premises_text P) (ArePremises P) bytes qs r) (ap (made_of []) (sym all.is) ∙ end.is) there)
    (λ no_diff found.
    let cut = parts (things (one_hypothesis P) bytes at) (λ hs p r. spaced hs (read_diffs P r p)) ps p r found in
    let all = things_there (hypothesis_text P) (IsHypothesisOf P) (one_hypothesis P) (one_hypothesis_there P) (length bytes) [] bytes at cut.value cut.place cut.rest cut.first in
    let end = space_behind P cut.value (read_diffs P cut.rest cut.place) ps p r cut.later in
    let behind = diffs_there P cut.rest cut.place end.diffs end.place (32 ∷ r) end.found in
    let there : IsThere (premises_text P) (ArePremises P) bytes (made_of (all.first ∷ all.others) end.diffs) r = record {
      text = all.text ∙ ap (things_text (hypothesis_text P) all.first all.others) behind.text;
      is = record { hypotheses = all.each; diffs = behind.is };
    } in
    subst (λ qs. IsThere (premises_text P) (ArePremises P) bytes qs r) (ap (λ hs. made_of hs end.diffs) (sym all.is) ∙ end.is) there)

premises_there : (P : Protocol) → Sound (premises_text P) (ArePremises P) (read_premises P)
premises_there P bytes at ps p r e =
    chosen (front bytes == 61) (Found (made_of [] []) at bytes) (some_premises P bytes at) ps p r (IsThere (premises_text P) (ArePremises P) bytes ps r) e
    (λ arrow none.
    let same : made_of [] [] ≡ ps = cc in
    let rests : bytes ≡ r = cc in
    let there : IsThere (premises_text P) (ArePremises P) bytes (made_of [] []) r = record { text = rests; is = record { hypotheses = tt; diffs = tt } } in
    subst (λ qs. IsThere (premises_text P) (ArePremises P) bytes qs r) same there)
    (λ no_arrow some. some_premises_there P bytes at ps p r some)

space_found : (hs : List (Fact Term)) (ds : List (SidesOf Term)) (o : Outcome (List (SidesOf Term))) (rest : List ℕ) → Finds o ds (32 ∷ rest) → Finds (spaced hs o) (made_of hs ds) rest
space_found hs ds o rest found =
    joined o (λ ds p r. next (read_fixed (codes " ") r p) (λ _ p r. Found (made_of hs ds) p r)) ds (32 ∷ rest) (made_of hs ds) rest found
    (λ p. joined (read_fixed (codes " ") (32 ∷ rest) p) (λ _ q r. Found (made_of hs ds) q r) tt rest (made_of hs ds) rest (fixed_found (codes " ") rest p) (λ q. record { place = q; is = refl }))

-- behind the last hypothesis stands a constraint, or a space
no_other : (P : Protocol) (ds : List (SidesOf Term)) (rest : List ℕ) → has_next_hypothesis (behind_text P ds (32 ∷ rest)) ≡ false
no_other P [] rest = refl
no_other P (d ∷ ds) rest = ap (λ b. not (b == 100)) (begins_diff P d ds (32 ∷ rest))

-- before `=> `
premises_found : (P : Protocol) → HasNames P → (hs : List (Fact Term)) (ds : List (SidesOf Term)) (rest : List ℕ) (at : ℕ) → AllByRecursion (IsHypothesisOf P) hs → AllByRecursion (AreSidesReadable P) ds → front rest ≡ 61 → Finds (read_premises P (premises_onto P hs ds rest) at) (made_of hs ds) rest
premises_found P names [] [] rest at each all arrow =
    when_true (front rest == 61) (Found (made_of [] []) at rest) (some_premises P rest at) (made_of [] []) rest (ap (λ b. b == 61) arrow) record { place = at; is = refl }
premises_found P names [] (d ∷ ds) rest at each all arrow =
    let bytes = things_text (one_text P) d ds (32 ∷ rest) in
    let begins = begins_diff P d ds (32 ∷ rest) in
    when_false (front bytes == 61) (Found (made_of [] []) at bytes) (some_premises P bytes at) (made_of [] (d ∷ ds)) rest (ap (λ b. b == 61) begins)
    (when_true (front bytes == 100) (spaced [] (things (one_diff P) bytes at)) (next (things (one_hypothesis P) bytes at) (λ gs p r. spaced gs (read_diffs P r p))) (made_of [] (d ∷ ds)) rest (ap (λ b. b == 100) begins)
    (space_found [] (d ∷ ds) (things (one_diff P) bytes at) rest (some_diffs_found P names d ds (32 ∷ rest) at all refl)))
premises_found P names (h ∷ hs) ds rest at each all arrow =
    let behind = behind_text P ds (32 ∷ rest) in
    let bytes = things_text (hypothesis_text P) h hs behind in
    when_false (front bytes == 61) (Found (made_of [] []) at bytes) (some_premises P bytes at) (made_of (h ∷ hs) ds) rest (no_arrow_first h hs behind each.0)
    (when_false (front bytes == 100) (spaced [] (things (one_diff P) bytes at)) (next (things (one_hypothesis P) bytes at) (λ gs p r. spaced gs (read_diffs P r p))) (made_of (h ∷ hs) ds) rest (no_diff_first h hs behind each.0)
    (joined (things (one_hypothesis P) bytes at) (λ gs p r. spaced gs (read_diffs P r p)) (h ∷ hs) behind (made_of (h ∷ hs) ds) rest
    (things_found_before (hypothesis_text P) (IsHypothesisOf P) may_follow (one_hypothesis P) record { found = one_hypothesis_found P names; follows = next_no_diff P } (length bytes) [] h hs behind at (things_long (hypothesis_text P) (hypothesis_long P) h hs behind) each (no_other P ds rest))
    (λ p. space_found (h ∷ hs) ds (read_diffs P behind p) rest (diffs_found P names ds (32 ∷ rest) p all refl))))
  where
    no_arrow_first : (g : Fact Term) (gs : List (Fact Term)) (k : List ℕ) → IsHypothesisOf P g → (front (things_text (hypothesis_text P) g gs k) == 61) ≡ false
    no_arrow_first g [] k may = no_arrow P g k may
    no_arrow_first g (f ∷ fs) k may = no_arrow P g (44 ∷ 32 ∷ things_text (hypothesis_text P) f fs k) may

    no_diff_first : (g : Fact Term) (gs : List (Fact Term)) (k : List ℕ) → IsHypothesisOf P g → (front (things_text (hypothesis_text P) g gs k) == 100) ≡ false
    no_diff_first g [] k may = no_diff P g k may
    no_diff_first g (f ∷ fs) k may = no_diff P g (44 ∷ 32 ∷ things_text (hypothesis_text P) f fs k) may

-- Clauses.

-- what is meant by sides that may stand is a constraint that may, and what is spelled of one are sides that may
meant_readable : (P : Protocol) (s : SidesOf Term) → AreSidesReadable P s → IsReadableDiff P (meant_diff s)
meant_readable P s is =
    let there : Term → Side = bind (λ x. Leaf (slot_shown first_bound x)) in
    record {
      left = subst (AllByRecursion (SideMayStand P)) (sym (sides_spelled s.left)) is.left;
      right = subst (AllByRecursion (SideMayStand P)) (sym (sides_spelled s.right)) is.right;
      own = meant_own s;
      paired = length-map s.left there ∙ (is.paired ∙ sym (length-map s.right there));
      some = omega (arith, length-map s.left there, is.some);
    }

all_meant : (P : Protocol) (ds : List (SidesOf Term)) → AllByRecursion (AreSidesReadable P) ds → AllByRecursion (IsReadableDiff P) (map meant_diff ds)
all_meant P [] are = tt
all_meant P (d ∷ ds) are = (meant_readable P d are.0, all_meant P ds are.1)

spelled_readable : (P : Protocol) (d : Diff) → IsReadableDiff P d → AreSidesReadable P (spelled_diff d)
spelled_readable P d is = record {
  left = is.left;
  right = is.right;
  paired = length-map d.left side_term ∙ (is.paired ∙ sym (length-map d.right side_term));
  some = omega (arith, length-map d.left side_term, is.some);
}

all_spelled : (P : Protocol) (ds : List Diff) → AllByRecursion (IsReadableDiff P) ds → AllByRecursion (AreSidesReadable P) (map spelled_diff ds)
all_spelled P [] are = tt
all_spelled P (d ∷ ds) are = (spelled_readable P d are.0, all_spelled P ds are.1)

all_back : (P : Protocol) (ds : List Diff) → AllByRecursion (IsReadableDiff P) ds → map meant_diff (map spelled_diff ds) ≡ ds
all_back P [] are = refl
all_back P (d ∷ ds) are = let first = diff_meant d are.0.own in let others = all_back P ds are.1 in λ i. first i ∷ others i

abbrev concluded : Premises → Fact Term → SpelledClause Term
concluded ps f = record { hypotheses = ps.hypotheses; diffs = ps.diffs; conclusion = f }

-- a clause as it is spelled was read
pub record SpelledThere (P : Protocol) (bytes : List ℕ) (c : SpelledClause Term) (rest : List ℕ) : Type 0 where
  pub premises : Premises
  pub conclusion : Fact Term
  pub is : concluded premises conclusion ≡ c
  pub text : bytes ≡ premises_text P premises (61 ∷ 62 ∷ 32 ∷ fact_text P conclusion rest)
  pub are : ArePremises P premises
  pub may : IsConclusionOf P conclusion

spelled_there : (P : Protocol) (bytes : List ℕ) (at : ℕ) (c : SpelledClause Term) (p : ℕ) (r : List ℕ) → read_spelled_clause P bytes at ≡ Found c p r → SpelledThere P bytes c r
spelled_there P bytes at c p r e =
    let begin = parts (read_premises P bytes at) (λ ps p r. next (read_fixed (codes "=> ") r p) (λ _ p r. next (read_conclusion P r p) (λ f p r. Found (concluded ps f) p r))) c p r e in
    let premises = premises_there P bytes at begin.value begin.place begin.rest begin.first in
    let mark = parts (read_fixed (codes "=> ") begin.rest begin.place) (λ _ p r. next (read_conclusion P r p) (λ f p r. Found (concluded begin.value f) p r)) c p r begin.later in
    let arrow = fixed_there (codes "=> ") begin.rest begin.place mark.value mark.place mark.rest mark.first in
    let end = parts (read_conclusion P mark.rest mark.place) (λ f p r. Found (concluded begin.value f) p r) c p r mark.later in
    let conclusion = conclusion_there P mark.rest mark.place end.value end.place end.rest end.first in
    let same : concluded begin.value end.value ≡ c = cc in
    let rests : end.rest ≡ r = cc in
    record {
      premises = begin.value;
      conclusion = end.value;
      is = same;
      text = premises.text ∙ ap (premises_text P begin.value) (arrow ∙ ap (λ k. 61 ∷ 62 ∷ 32 ∷ k) (conclusion.text ∙ ap (fact_text P end.value) rests));
      are = premises.is;
      may = conclusion.is;
    }

pub clause_there : (P : Protocol) → Sound (clause_text P) (IsReadable P) (read_clause P)
clause_there P bytes at c p r e =
    let cut = parts (read_spelled_clause P bytes at) (λ s p r. Found (meant_clause s) p r) c p r e in
    let there = spelled_there P bytes at cut.value cut.place cut.rest cut.first in
    let same : meant_clause cut.value ≡ c = cc in
    let rests : cut.rest ≡ r = cc in
    let ps = there.premises in
    let arrow = 61 ∷ 62 ∷ 32 ∷ fact_text P there.conclusion r in
    let spelled : premises_onto P ps.hypotheses ps.diffs arrow ≡ premises_onto P ps.hypotheses (map spelled_diff (map meant_diff ps.diffs)) arrow = ap (λ ds. premises_onto P ps.hypotheses ds arrow) (sym (diffs_spelled ps.diffs)) in
    subst (λ d. IsThere (clause_text P) (IsReadable P) bytes d r) (ap meant_clause there.is ∙ same) record {
      text = there.text ∙ (ap (λ k. premises_text P ps (61 ∷ 62 ∷ 32 ∷ fact_text P there.conclusion k)) rests ∙ (spelled ∙ premises_are P ps.hypotheses (map meant_diff ps.diffs) arrow));
      is = record { hypotheses = there.are.hypotheses; diffs = all_meant P ps.diffs there.are.diffs; conclusion = there.may };
    }

spelled_found : (P : Protocol) → HasNames P → (ps : Premises) (f : Fact Term) (rest : List ℕ) (at : ℕ) → ArePremises P ps → IsConclusionOf P f
    → Finds (read_spelled_clause P (premises_text P ps (61 ∷ 62 ∷ 32 ∷ fact_text P f rest)) at) (concluded ps f) rest
spelled_found P names ps f rest at are may =
    let behind = fact_text P f rest in
    joined (read_premises P (premises_text P ps (61 ∷ 62 ∷ 32 ∷ behind)) at) (λ qs p r. next (read_fixed (codes "=> ") r p) (λ _ p r. next (read_conclusion P r p) (λ g p r. Found (concluded qs g) p r))) ps (61 ∷ 62 ∷ 32 ∷ behind) (concluded ps f) rest
    (premises_found P names ps.hypotheses ps.diffs (61 ∷ 62 ∷ 32 ∷ behind) at are.hypotheses are.diffs refl) (λ p.
    joined (read_fixed (codes "=> ") (61 ∷ 62 ∷ 32 ∷ behind) p) (λ _ p r. next (read_conclusion P r p) (λ g p r. Found (concluded ps g) p r)) tt behind (concluded ps f) rest (fixed_found (codes "=> ") behind p) (λ q.
    joined (read_conclusion P behind q) (λ g p r. Found (concluded ps g) p r) f rest (concluded ps f) rest (conclusion_found P names f rest q may) (λ z. record { place = z; is = refl })))

pub clause_found : (P : Protocol) → HasNames P → Complete (clause_text P) (IsReadable P) (read_clause P)
clause_found P names c rest at is =
    let ps = made_of c.hypotheses (map spelled_diff c.diffs) in
    let arrow = 61 ∷ 62 ∷ 32 ∷ fact_text P c.conclusion rest in
    let found = spelled_found P names ps c.conclusion rest at record { hypotheses = is.hypotheses; diffs = all_spelled P c.diffs is.diffs } is.conclusion in
    let back : meant_clause (spelled_clause c) ≡ c = ap (λ ds. record { hypotheses = c.hypotheses; diffs = ds; conclusion = c.conclusion }) (all_back P c.diffs is.diffs) in
    joined (read_spelled_clause P (clause_text P c rest) at) (λ s p r. Found (meant_clause s) p r) (spelled_clause c) rest c rest
    (subst (λ bytes. Finds (read_spelled_clause P bytes at) (spelled_clause c) rest) (premises_are P c.hypotheses c.diffs arrow) found)
    (λ p. record { place = p; is = ap (λ d. Found d p rest) back })
