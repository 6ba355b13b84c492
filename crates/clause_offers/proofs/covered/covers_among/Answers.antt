use Rattle.std.proofs.Common.{get_or, arith}
use Rattle.clause_form.specs.Seen.{clause_at}
use Rattle.log_entries.specs.Live.{NumberCovers}
use Rattle.log_entries.proofs.Marking.{when_true, when_false}
use Rattle.log_entries.proofs.Numbers.{place_among}
use Rattle.clause_offers.proofs.Covers.{covers_behind, covers_none}
use Rattle.clause_offers.proofs.covered.covers_among.Goals as goal

pub covers_at-requires-clause-some : goal.covers_at-requires-clause-some
covers_at-requires-clause-some g c = (c.requires.numbers (get_or c.args.numbers.now c.each.number-index 0) (place_among c.args.numbers.now c.each.number-index 0 c.each-test.true)).0

pub covers_at-requires-clause-within : goal.covers_at-requires-clause-within
covers_at-requires-clause-within g c = (c.requires.numbers (get_or c.args.numbers.now c.each.number-index 0) (place_among c.args.numbers.now c.each.number-index 0 c.each-test.true)).1

pub returns-then-branch : goal.returns-then-branch
returns-then-branch g c =
    let all = g.B.Bank.trees c.args.bank.now in
    let number = get_or c.args.numbers.now c.each.number-index 0 in
    let covers = NumberCovers all c.args.walk.now.items.items (clause_at all c.args.offer.now.clause.now) number in
    record {
      number = number;
      among = place_among c.args.numbers.now c.each.number-index 0 c.each-test.true;
      covers = when_true covers (covers → ⊥) c.in_ok-covers_at.field-0 c.if-branch.true c.in_ok-covers_at.ensures;
    }

pub each-preserved : goal.each-preserved
each-preserved g c =
    let all = g.B.Bank.trees c.args.bank.now in
    let clause = clause_at all c.args.offer.now.clause.now in
    let covers = NumberCovers all c.args.walk.now.items.items clause (get_or c.args.numbers.now c.each.number-index 0) in
    λ h. covers_behind all c.args.walk.now.items.items c.args.numbers.now c.each.number-index clause c.each-test.true
    (when_false covers (covers → ⊥) c.in_ok-covers_at.field-0 c.if-branch.false c.in_ok-covers_at.ensures) (c.each.invariant h)

pub returns : goal.returns
returns g c =
    let all = g.B.Bank.trees c.args.bank.now in
    λ h. covers_none all c.args.walk.now.items.items c.args.numbers.now c.each.number-index (clause_at all c.args.offer.now.clause.now) (omega arith) (c.each.invariant h)
