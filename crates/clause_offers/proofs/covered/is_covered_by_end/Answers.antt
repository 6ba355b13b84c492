use Rattle.std.proofs.Common.{◌≡◌, None, Some, rules}
use Rattle.clause_form.specs.Seen.{clause_at}
use Rattle.log_entries.specs.Ends.{closed_end_of}
use Rattle.log_entries.specs.Live.{CoversAmong}
use Rattle.log_entries.proofs.Marking.{when_true, when_false}
use Rattle.clause_offers.proofs.Covers.{covers_seen, some_among}
use Rattle.clause_offers.proofs.Covering.{among_seen, those_within, unclosed_uncovered, ended_told}
use Rattle.clause_offers.proofs.covered.is_covered_by_end.Goals as goal

pub covers_among-requires-clause-numbers : goal.covers_among-requires-clause-numbers
covers_among-requires-clause-numbers g c =
    let walk = c.args.walk.now in
    let numbers : c.deref.result.now ≡ walk.live.unclosed.items = search rules in
    λ n among. c.requires.listed.unclosed.within n (among_seen n numbers among)

pub returns-then-branch : goal.returns-then-branch
returns-then-branch g c =
    let all = g.B.Bank.trees c.args.bank.now in
    let walk = c.args.walk.now in
    let clause = clause_at all c.args.offer.now.clause.now in
    let numbers : c.deref.result.now ≡ walk.live.unclosed.items = search rules in
    let covers = CoversAmong all walk.items.items walk.live.unclosed.items clause in
    let found = covers_seen all walk.items.items walk.live.unclosed.items c.deref.result.now clause c.in_ok-covers_among.field-0 numbers c.in_ok-covers_among.ensures in
    some_among all walk.items.items walk.live.unclosed.items clause (when_true covers (covers → ⊥) c.in_ok-covers_among.field-0 c.if-branch.true found)

pub returns-in-None : goal.returns-in-None
returns-in-None g c =
    let all = g.B.Bank.trees c.args.bank.now in
    let walk = c.args.walk.now in
    let clause = c.args.offer.now.clause.now in
    let numbers : c.deref.result.now ≡ walk.live.unclosed.items = search rules in
    let covers = CoversAmong all walk.items.items walk.live.unclosed.items (clause_at all clause) in
    let found = covers_seen all walk.items.items walk.live.unclosed.items c.deref.result.now (clause_at all clause) c.in_ok-covers_among.field-0 numbers c.in_ok-covers_among.ensures in
    let none = when_false covers (covers → ⊥) c.in_ok-covers_among.field-0 c.if-branch.false found in
    let end : closed_end_of all clause ≡ None = search rules in
    unclosed_uncovered all walk.items.items walk.live clause c.requires.shared c.requires.entries c.requires.listed c.requires.clause.known end none

pub covers_among-requires-in-Some-clause-numbers : goal.covers_among-requires-in-Some-clause-numbers
covers_among-requires-in-Some-clause-numbers g c =
    let walk = c.args.walk.now in
    let numbers : c.deref-in-Some.result.now ≡ c.in_ok-numbers-in-Some.numbers.items = search rules in
    λ n among. those_within walk.items.items c.in-Some.id c.in_ok-numbers-in-Some.numbers.items c.in_ok-numbers-in-Some.ensures n (among_seen n numbers among)

pub returns-in_ok-found-in-Some : goal.returns-in_ok-found-in-Some
returns-in_ok-found-in-Some g c =
    let all = g.B.Bank.trees c.args.bank.now in
    let walk = c.args.walk.now in
    let clause = c.args.offer.now.clause.now in
    let unclosed : c.deref.result.now ≡ walk.live.unclosed.items = search rules in
    let covers = CoversAmong all walk.items.items walk.live.unclosed.items (clause_at all clause) in
    let first = covers_seen all walk.items.items walk.live.unclosed.items c.deref.result.now (clause_at all clause) c.in_ok-covers_among.field-0 unclosed c.in_ok-covers_among.ensures in
    let none = when_false covers (covers → ⊥) c.in_ok-covers_among.field-0 c.if-branch.false first in
    let end : closed_end_of all clause ≡ Some c.in-Some.id = search rules in
    let numbers : c.deref-in-Some.result.now ≡ c.in_ok-numbers-in-Some.numbers.items = search rules in
    let found = covers_seen all walk.items.items c.in_ok-numbers-in-Some.numbers.items c.deref-in-Some.result.now (clause_at all clause) c.in_ok-found-in-Some.found numbers c.in_ok-found-in-Some.ensures in
    ended_told all walk.items.items walk.live clause c.in-Some.id c.in_ok-numbers-in-Some.numbers.items c.in_ok-found-in-Some.found c.requires.shared c.requires.entries c.requires.listed c.requires.clause.known end c.in_ok-numbers-in-Some.ensures none found
