use Rattle.std.proofs.Common.{◌≡◌, ◌+◌, Some, length, map, drop, get_or, arith}
use Rattle.spec_clauses.specs.Fact.{fact_under}
use Rattle.spec_clauses.specs.Subsumption.{hypothesis_at}
use Rattle.clause_form.specs.Facts.{fact_of}
use Rattle.clause_form.specs.Seen.{fact_at}
use Rattle.query_derive.specs.Wanted.{event_fact}
use Rattle.query_derive.specs.Sought.{AreAt}
use Rattle.query_derive.proofs.Narrowing.{remains_on, remains_fail, remains_end}
use Rattle.query_derive.proofs.Searching.{at_next, at_past, placed_by, never_placed}
use Rattle.std.proofs.lemmas.Bool.{false≢true}
use Rattle.query_derive.proofs.placing.stand_at.Goals as goal

pub returns-then-not-branch-clause-no : goal.returns-then-not-branch-clause-no
returns-then-not-branch-clause-no g c = λ _.
    let all = g.B.Bank.trees c.args.bank.now in
    let hs = map (fact_at all) (map fact_of c.args.hyps.now) in
    let es = c.args.events.now in
    let row = c.args.positions.now in
    let even : length es ≡ length row = c.if-events-positions.false in
    never_placed all c.args.binds.now.pairs (map event_fact es) hs row
    (remains_fail all c.args.binds.now.pairs c.each.binds.pairs (λ s. AreAt s (map event_fact es) hs row) (λ s. AreAt s (map event_fact (drop c.each.k es)) hs (drop c.each.k row))
    (λ s. Some (fact_under s (event_fact c.index-events-k.result)) ≡ hypothesis_at hs (get_or row c.each.k 0)) c.each.invariant
    (λ s h. ((at_next s es hs row c.each.k c.index-events-k.result 0 c.each-test.true (omega (arith, c.each-test.true, even)) c.index-events-k.is).0 h).0) (c.in_ok-match_at.ensures.no c.if-not-branch.true))

pub each-preserved : goal.each-preserved
each-preserved g c =
    let all = g.B.Bank.trees c.args.bank.now in
    let hs = map (fact_at all) (map fact_of c.args.hyps.now) in
    let es = c.args.events.now in
    let row = c.args.positions.now in
    let even : length es ≡ length row = c.if-events-positions.false in
    remains_on all c.args.binds.now.pairs c.each.binds.pairs c.match_at.new.binds.pairs (λ s. AreAt s (map event_fact es) hs row) (λ s. AreAt s (map event_fact (drop c.each.k es)) hs (drop c.each.k row))
    (λ s. Some (fact_under s (event_fact c.index-events-k.result)) ≡ hypothesis_at hs (get_or row c.each.k 0)) (λ s. AreAt s (map event_fact (drop (c.each.k + 1) es)) hs (drop (c.each.k + 1) row)) c.each.invariant
    (λ s. at_next s es hs row c.each.k c.index-events-k.result 0 c.each-test.true (omega (arith, c.each-test.true, even)) c.index-events-k.is)
    c.match_at.ensures.bindings c.match_at.ensures.extends (c.in_ok-match_at.ensures.yes c.if-not-branch.false)

pub returns-clause-yes : goal.returns-clause-yes
returns-clause-yes g c = λ _.
    let all = g.B.Bank.trees c.args.bank.now in
    let hs = map (fact_at all) (map fact_of c.args.hyps.now) in
    let es = c.args.events.now in
    let row = c.args.positions.now in
    let even : length es ≡ length row = c.if-events-positions.false in
    placed_by all c.args.binds.now.pairs c.each.binds.pairs (map event_fact es) hs row c.each.invariant.bindings
    (remains_end all c.args.binds.now.pairs c.each.binds.pairs (λ s. AreAt s (map event_fact es) hs row) (λ s. AreAt s (map event_fact (drop c.each.k es)) hs (drop c.each.k row)) c.each.invariant
    (λ s. at_past s es hs row c.each.k c.each-test.false (omega (arith, c.each-test.false, even))))

pub returns-then-not-branch-clause-yes : goal.returns-then-not-branch-clause-yes
returns-then-not-branch-clause-yes g c = λ e. absurd (false≢true e)

pub returns-then-events-positions-clause-yes : goal.returns-then-events-positions-clause-yes
returns-then-events-positions-clause-yes g c = λ e. absurd (false≢true e)
