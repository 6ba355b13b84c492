use Rattle.std.proofs.Common.{◌≡◌, ◌∙◌, Some, None, length, map, sym, ap, arith}
use Rattle.std.proofs.lemmas.List.{length-map}
use Rattle.std.proofs.lemmas.Simd.{map-map}
use borrow.Author.Tests.{ltb-true, ltb-false}
use Rattle.spec_clauses.specs.Fact.{fact_under}
use Rattle.spec_clauses.specs.Subsumption.{hypothesis_at}
use Rattle.clause_form.specs.Facts.{fact_of}
use Rattle.clause_form.specs.Seen.{fact_at}
use Rattle.clause_form.proofs.Walks.{fact_known_at}
use Rattle.query_derive.specs.Wanted.{event_fact}
use Rattle.query_derive.proofs.Narrowing.{yes_same, no_same, some_made, none_made, hypothesis_there, hypothesis_past}
use Rattle.std.proofs.lemmas.Bool.{false≢true}
use Rattle.query_derive.proofs.matching.match_at.Goals as goal

pub match_event-requires-clause-known : goal.match_event-requires-clause-known
match_event-requires-clause-known g c =
    let found = c.in-Some-get.ensures.lookup in
    fact_known_at (g.B.Bank.trees c.args.bank.now) c.args.hyps.now c.in-Some.index c.in-Some-get.hypothesis.now found.1 c.requires.known (ltb-true c.in-Some.index (length c.args.hyps.now) (sym found.0))

pub returns-in-None-get-clause-no : goal.returns-in-None-get-clause-no
returns-in-None-get-clause-no g c = λ _ s agrees made.
    let all = g.B.Bank.trees c.args.bank.now in
    let hyps = map (fact_at all) (map fact_of c.args.hyps.now) in
    let past = ltb-false c.in-Some.index (length c.args.hyps.now) (sym c.in-None-get.ensures.lookup.0) in
    let none : hypothesis_at hyps c.args.position ≡ None = hypothesis_past hyps c.args.position (omega (arith, past, length-map (map fact_of c.args.hyps.now) (fact_at all), length-map c.args.hyps.now fact_of)) in
    none_made s (event_fact c.args.event.now) (hypothesis_at hyps c.args.position) none made

pub returns-in-Some-get-clause-yes : goal.returns-in-Some-get-clause-yes
returns-in-Some-get-clause-yes g c =
    let all = g.B.Bank.trees c.args.bank.now in
    let h = fact_at all (fact_of c.in-Some-get.hypothesis.now) in
    let found = c.in-Some-get.ensures.lookup in
    let there : hypothesis_at (map (fact_at all) (map fact_of c.args.hyps.now)) c.args.position ≡ Some h =
    ap (λ hs. hypothesis_at hs c.args.position) (map-map (fact_at all) fact_of c.args.hyps.now)
    ∙ hypothesis_there (λ f. fact_at all (fact_of f)) c.args.hyps.now c.in-Some.index c.args.position c.in-Some-get.hypothesis.now (omega arith) (ltb-true c.in-Some.index (length c.args.hyps.now) (sym found.0)) found.1 in
    yes_same all c.args.binds.now.pairs c.match_event.new.binds.pairs (λ s. fact_under s (event_fact c.args.event.now) ≡ h)
    (λ s. Some (fact_under s (event_fact c.args.event.now)) ≡ hypothesis_at (map (fact_at all) (map fact_of c.args.hyps.now)) c.args.position) c.match_event.result
    (λ s. some_made s (event_fact c.args.event.now) h (hypothesis_at (map (fact_at all) (map fact_of c.args.hyps.now)) c.args.position) there) c.match_event.ensures.yes

pub returns-in-Some-get-clause-no : goal.returns-in-Some-get-clause-no
returns-in-Some-get-clause-no g c =
    let all = g.B.Bank.trees c.args.bank.now in
    let h = fact_at all (fact_of c.in-Some-get.hypothesis.now) in
    let found = c.in-Some-get.ensures.lookup in
    let there : hypothesis_at (map (fact_at all) (map fact_of c.args.hyps.now)) c.args.position ≡ Some h =
    ap (λ hs. hypothesis_at hs c.args.position) (map-map (fact_at all) fact_of c.args.hyps.now)
    ∙ hypothesis_there (λ f. fact_at all (fact_of f)) c.args.hyps.now c.in-Some.index c.args.position c.in-Some-get.hypothesis.now (omega arith) (ltb-true c.in-Some.index (length c.args.hyps.now) (sym found.0)) found.1 in
    no_same all c.args.binds.now.pairs c.match_event.new.binds.pairs (λ s. fact_under s (event_fact c.args.event.now) ≡ h)
    (λ s. Some (fact_under s (event_fact c.args.event.now)) ≡ hypothesis_at (map (fact_at all) (map fact_of c.args.hyps.now)) c.args.position) c.match_event.result
    (λ s. some_made s (event_fact c.args.event.now) h (hypothesis_at (map (fact_at all) (map fact_of c.args.hyps.now)) c.args.position) there) c.match_event.ensures.no

pub returns-in-None-get-clause-yes : goal.returns-in-None-get-clause-yes
returns-in-None-get-clause-yes g c = λ e. absurd (false≢true e)

pub returns-in-None-clause-yes : goal.returns-in-None-clause-yes
returns-in-None-clause-yes g c = λ e. absurd (false≢true e)
