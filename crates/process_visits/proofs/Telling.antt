-- What a raw clause tells of sources, by the visit that adds it.
use Rattle.std.proofs.Common.{◌≡◌, ◌∙◌, ℕ, Bool, true, Result, Ok, Err, Option, None, Some, List, ◌++◌, map, option_map, refl, ap, sym, subst}
use Rattle.std.specs.Prelude.{IfOk, IfSome}
use Rattle.spec_terms.specs.Term.{Term}
use Rattle.spec_clauses.specs.Diff.{numbered_diff}
use Rattle.spec_clauses.specs.Fact.{Fact, Clause}
use Rattle.spec_clauses.specs.Renaming.{DifferInBound}
use Rattle.spec_translation.specs.Visit.{Visit, raw_clause}
use Rattle.term_tree.specs.Bank.{Grows}
use Rattle.term_tree.proofs.BankLaws.{trees_at-grow}
use Rattle.clause_diffs.specs.Diffs.{diffs_at}
use Rattle.clause_form.specs.Seen.{clause_at, IsClauseIn, NamesClause, IdClause}
use Rattle.clause_form.proofs.Copying.{NamesClause-grows}
use Rattle.clause_sources.specs.Bound.{numbered_in_bound}
use Rattle.spec_attack_runs.specs.Source.{Reaches, Source, sources_of}
use Rattle.process_visits.specs.declared.listing.Listing.{Listing}
use Rattle.unified_visits.specs.declared.visit.Visit as source
use Rattle.unified_visits.specs.Visits.{visit_at, IsVisitIn}
use Rattle.process_visits.specs.Telling.{way_at, Told, TellsRaw, TellsVisit}
use Rattle.process_visits.proofs.Adding.{numbered_twice}
use Rattle.unified_visits.proofs.Named.{if_ok}

-- a raw clause in a bank that grew
pub raw_later : (old now : List Term) (raw : IdClause) → Grows old now → IsClauseIn old raw → NamesClause now raw (clause_at old raw)
raw_later old now raw grows known = NamesClause-grows old now raw (clause_at old raw) grows record { known = known; is = refl }

-- what is told by a bank that grew, of a listing that keeps its sources and choices
pub told_before : (old mid : List Term) (point : ℕ) (w : source.Visit) (raw : IdClause) (before low after : Listing) → Grows old mid → IsVisitIn old w → IsClauseIn old raw → low.sources ≡ before.sources → low.choices ≡ before.choices
    → TellsRaw (way_at mid point w low.choices) (clause_at mid raw) low after → TellsRaw (way_at old point w before.choices) (clause_at old raw) before after
told_before old mid point w raw before low after grows known raw_known same chosen told =
    let messages = trees_at-grow old mid w.messages grows known.messages in
    let sessions = trees_at-grow old mid w.sessions grows known.sessions in
    let named = (raw_later old mid raw grows raw_known).is in
    record {
      sources = told.sources ∙ (λ i. option_map (λ (xs : List Source). xs ++ sources_of (Reaches (record { point = point; choices = chosen i; messages = messages i; sessions = sessions i; phase = w.phase })) (numbered_in_bound (named i))) (same i));
      choices = told.choices ∙ chosen;
    }

-- the raw clause over ids, with the variables that its constraints bind numbered, is the visit's
named_raw : (all : List Term) (w : source.Visit) (v : Visit) (conclusion : Fact Term) (raw : IdClause) → visit_at all w ≡ v → DifferInBound (clause_at all raw) (raw_clause v conclusion) → numbered_in_bound (clause_at all raw) ≡ raw_clause v conclusion
named_raw all w v conclusion raw is differ =
    let own : map numbered_diff (diffs_at all w.diffs) ≡ v.diffs = ap (λ (x : Visit). x.diffs) is in
    let diffs = differ.diffs ∙ (sym (numbered_twice (diffs_at all w.diffs) v.diffs own) ∙ own) in
    λ i. record { hypotheses = differ.hypotheses i; diffs = diffs i; conclusion = differ.conclusion i }

-- the sources of a raw clause over ids are those of the visit's
pub told_as : (all : List Term) (point : ℕ) (w : source.Visit) (v : Visit) (conclusion : Fact Term) (raw : IdClause) (before after : Listing) → visit_at all w ≡ v → DifferInBound (clause_at all raw) (raw_clause v conclusion)
    → TellsRaw (way_at all point w before.choices) (clause_at all raw) before after → TellsVisit point v conclusion before after
told_as all point w v conclusion raw before after is differ told =
    subst (λ (x : Visit). Told (sources_of (Reaches (record { point = point; choices = before.choices; messages = x.messages; sessions = x.sessions; phase = x.phase })) (raw_clause v conclusion)) before after) is
    (subst (λ (c : Clause Term). Told (sources_of (Reaches (way_at all point w before.choices)) c) before after) (named_raw all w v conclusion raw is differ) told)

pub told_visit : {E : Type 0} (r : Result Bool E) (all : List Term) (point : ℕ) (w : source.Visit) (v : Visit) (conclusion : Fact Term) (raw : IdClause) (before after : Listing) → visit_at all w ≡ v → DifferInBound (clause_at all raw) (raw_clause v conclusion)
    → IfOk r (λ added. added ≡ true → TellsRaw (way_at all point w before.choices) (clause_at all raw) before after) → IfOk r (λ added. added ≡ true → TellsVisit point v conclusion before after)
told_visit r all point w v conclusion raw before after is differ h =
    if_ok r (λ added. added ≡ true → TellsRaw (way_at all point w before.choices) (clause_at all raw) before after) (λ added. added ≡ true → TellsVisit point v conclusion before after)
    (λ added k yes. told_as all point w v conclusion raw before after is differ (k yes)) h

-- what holds whatever is found
pub all_found : {E A : Type 0} (r : Result (Option A) E) (Q : Type 0) → Q → IfOk r (λ found. IfSome found (λ made. Q))
all_found (Err e) Q h = tt
all_found (Ok None) Q h = tt
all_found (Ok (Some made)) Q h = h
