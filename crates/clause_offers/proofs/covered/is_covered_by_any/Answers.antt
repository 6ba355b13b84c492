use Rattle.std.proofs.Common.{◌≡◌, true, false, rules}
use Rattle.clause_form.specs.Seen.{clause_at}
use Rattle.log_entries.specs.Live.{CoversAmong}
use Rattle.log_entries.proofs.Marking.{when_true, when_false}
use Rattle.clause_offers.proofs.Covers.{listed_within, covers_seen, some_among, covers_told}
use Rattle.clause_offers.proofs.covered.is_covered_by_any.Goals as goal

pub covers_among-requires-clause-numbers : goal.covers_among-requires-clause-numbers
covers_among-requires-clause-numbers g c =
    let walk = c.args.walk.now in
    let numbers : c.deref.result.now ≡ walk.live.solved.items = search rules in
    listed_within (g.B.Bank.trees c.args.bank.now) walk.items.items true walk.live.solved.items c.deref.result.now numbers c.requires.listed.solved

pub returns-then-branch : goal.returns-then-branch
returns-then-branch g c =
    let all = g.B.Bank.trees c.args.bank.now in
    let walk = c.args.walk.now in
    let clause = clause_at all c.args.offer.now.clause.now in
    let numbers : c.deref.result.now ≡ walk.live.solved.items = search rules in
    let covers = CoversAmong all walk.items.items walk.live.solved.items clause in
    let found = covers_seen all walk.items.items walk.live.solved.items c.deref.result.now clause c.in_ok-covers_among.field-0 numbers c.in_ok-covers_among.ensures in
    some_among all walk.items.items walk.live.solved.items clause (when_true covers (covers → ⊥) c.in_ok-covers_among.field-0 c.if-branch.true found)

pub covers_among-requires-2-clause-numbers : goal.covers_among-requires-2-clause-numbers
covers_among-requires-2-clause-numbers g c =
    let walk = c.args.walk.now in
    let numbers : c.deref-2.result.now ≡ walk.live.unsolved.items = search rules in
    listed_within (g.B.Bank.trees c.args.bank.now) walk.items.items false walk.live.unsolved.items c.deref-2.result.now numbers c.requires.listed.unsolved

pub returns : goal.returns
returns g c =
    let all = g.B.Bank.trees c.args.bank.now in
    let walk = c.args.walk.now in
    let clause = clause_at all c.args.offer.now.clause.now in
    let numbers : c.deref.result.now ≡ walk.live.solved.items = search rules in
    let covers = CoversAmong all walk.items.items walk.live.solved.items clause in
    let first = covers_seen all walk.items.items walk.live.solved.items c.deref.result.now clause c.in_ok-covers_among.field-0 numbers c.in_ok-covers_among.ensures in
    let none = when_false covers (covers → ⊥) c.in_ok-covers_among.field-0 c.if-branch.false first in
    let unsolved : c.deref-2.result.now ≡ walk.live.unsolved.items = search rules in
    covers_told all walk.items.items walk.live clause c.in_ok-found.found c.requires.listed none
    (covers_seen all walk.items.items walk.live.unsolved.items c.deref-2.result.now clause c.in_ok-found.found unsolved c.in_ok-found.ensures)
