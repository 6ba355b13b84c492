use Rattle.std.proofs.Common.{get_or, length, ◌-◌, ◌<◌, ◌∙◌, refl, ap, sym, arith, rules}
use Rattle.clause_form.specs.Seen.{clause_at}
use Rattle.spec_features.specs.Features.{features_of}
use Rattle.feature_index.specs.declared.lanes.Features.{Features}
use Rattle.fact_fingerprint.specs.Seen.{fingerprint_seen}
use Rattle.log_entries.proofs.Beside.{conclusion_seen, told_length, told_same, told_got}
use Rattle.log_entries.proofs.Marking.{none_yet, but_clauses, but_length, but_fit, marked_on, marked_all, none_marked, got_at, number_there}
use Rattle.log_entries.proofs.beating.mark_among.Goals as goal

pub each-init : goal.each-init
each-init g c =
    let all = g.B.Bank.trees c.args.bank.now in
    record { marked = none_yet all (clause_at all c.args.offer.now.clause.now) c.args.offer.now.number c.args.numbers.now c.args.entries.now c.requires.numbers; same = λ h. refl }

pub overflow_sub-place : goal.overflow_sub-place
overflow_sub-place g c =
    let all = g.B.Bank.trees c.args.bank.now in
    let there = number_there all c.args.entries.now (clause_at all c.args.offer.now.clause.now) c.args.numbers.now c.each.number-index c.requires.numbers c.each-test.true in
    let some = there.0 in
    omega (arith, some)

pub index-kept-requires : goal.index-kept-requires
index-kept-requires g c =
    let all = g.B.Bank.trees c.args.bank.now in
    let there = number_there all c.args.entries.now (clause_at all c.args.offer.now.clause.now) c.args.numbers.now c.each.number-index c.requires.numbers c.each-test.true in
    let some = there.0 in
    let few = there.1 in
    let kept = told_length features_of (λ (f : Features). f.lanes) all c.args.entries.now c.args.live.now.features.items c.requires.kept in
    let within : get_or c.args.numbers.now c.each.number-index 0 - 1 < length c.args.live.now.features.items = omega (arith, some, few, kept) in
    search rules

pub index-requires : goal.index-requires
index-requires g c =
    let all = g.B.Bank.trees c.args.bank.now in
    let there = number_there all c.args.entries.now (clause_at all c.args.offer.now.clause.now) c.args.numbers.now c.each.number-index c.requires.numbers c.each-test.true in
    let some = there.0 in
    let few = there.1 in
    let kept = told_length conclusion_seen fingerprint_seen all c.args.entries.now c.args.live.now.conclusions.items c.requires.conclusions in
    let within : get_or c.args.numbers.now c.each.number-index 0 - 1 < length c.args.live.now.conclusions.items = omega (arith, some, few, kept) in
    search rules

pub bounds-entries-place : goal.bounds-entries-place
bounds-entries-place g c =
    let all = g.B.Bank.trees c.args.bank.now in
    let there = number_there all c.args.entries.now (clause_at all c.args.offer.now.clause.now) c.args.numbers.now c.each.number-index c.requires.numbers c.each-test.true in
    let some = there.0 in
    let few = there.1 in
    let same = but_length all (clause_at all c.args.offer.now.clause.now) c.args.offer.now.number _ c.args.entries.now c.each.entries c.each.invariant.marked in
    omega (arith, some, few, same)

pub offset_bounds-entries-place : goal.offset_bounds-entries-place
offset_bounds-entries-place g c =
    let all = g.B.Bank.trees c.args.bank.now in
    let there = number_there all c.args.entries.now (clause_at all c.args.offer.now.clause.now) c.args.numbers.now c.each.number-index c.requires.numbers c.each-test.true in
    let some = there.0 in
    let few = there.1 in
    let same = but_length all (clause_at all c.args.offer.now.clause.now) c.args.offer.now.number _ c.args.entries.now c.each.entries c.each.invariant.marked in
    omega (arith, some, few, same)

pub mark-requires-clause-entry : goal.mark-requires-clause-entry
mark-requires-clause-entry g c =
    let all = g.B.Bank.trees c.args.bank.now in
    let there = number_there all c.args.entries.now (clause_at all c.args.offer.now.clause.now) c.args.numbers.now c.each.number-index c.requires.numbers c.each-test.true in
    let some = there.0 in
    let few = there.1 in
    let same = but_length all (clause_at all c.args.offer.now.clause.now) c.args.offer.now.number _ c.args.entries.now c.each.entries c.each.invariant.marked in
    let fit = but_fit all (clause_at all c.args.offer.now.clause.now) c.args.offer.now.number _ c.args.entries.now c.each.entries c.each.invariant.marked c.requires.entries in
    got_at all c.each.entries (get_or c.args.numbers.now c.each.number-index 0 - 1) c.index-entries-place.result fit (omega (arith, some, few, same))

pub mark-requires-clause-kept : goal.mark-requires-clause-kept
mark-requires-clause-kept g c =
    let all = g.B.Bank.trees c.args.bank.now in
    let there = number_there all c.args.entries.now (clause_at all c.args.offer.now.clause.now) c.args.numbers.now c.each.number-index c.requires.numbers c.each-test.true in
    let some = there.0 in
    let few = there.1 in
    let same = but_length all (clause_at all c.args.offer.now.clause.now) c.args.offer.now.number _ c.args.entries.now c.each.entries c.each.invariant.marked in
    let clauses = but_clauses all (clause_at all c.args.offer.now.clause.now) c.args.offer.now.number _ 1 c.args.entries.now c.each.entries c.each.invariant.marked in
    ap (λ (f : Features). f.lanes) c.index-kept.ensures
    ∙ told_got features_of (λ (f : Features). f.lanes) all c.each.entries c.args.live.now.features.items (get_or c.args.numbers.now c.each.number-index 0 - 1) c.index-entries-place.result c.index-kept.result.now (c.requires.kept ∙ sym (told_same features_of all c.args.entries.now c.each.entries clauses)) (omega (arith, some, few, same))

pub mark-requires-clause-conclusion : goal.mark-requires-clause-conclusion
mark-requires-clause-conclusion g c =
    let all = g.B.Bank.trees c.args.bank.now in
    let there = number_there all c.args.entries.now (clause_at all c.args.offer.now.clause.now) c.args.numbers.now c.each.number-index c.requires.numbers c.each-test.true in
    let some = there.0 in
    let few = there.1 in
    let same = but_length all (clause_at all c.args.offer.now.clause.now) c.args.offer.now.number _ c.args.entries.now c.each.entries c.each.invariant.marked in
    let clauses = but_clauses all (clause_at all c.args.offer.now.clause.now) c.args.offer.now.number _ 1 c.args.entries.now c.each.entries c.each.invariant.marked in
    ap fingerprint_seen c.index.ensures
    ∙ told_got conclusion_seen fingerprint_seen all c.each.entries c.args.live.now.conclusions.items (get_or c.args.numbers.now c.each.number-index 0 - 1) c.index-entries-place.result c.index.result.now (c.requires.conclusions ∙ sym (told_same conclusion_seen all c.args.entries.now c.each.entries clauses)) (omega (arith, some, few, same))

pub each-preserved : goal.each-preserved
each-preserved g c =
    let all = g.B.Bank.trees c.args.bank.now in
    let there = number_there all c.args.entries.now (clause_at all c.args.offer.now.clause.now) c.args.numbers.now c.each.number-index c.requires.numbers c.each-test.true in
    let some = there.0 in
    let few = there.1 in
    let same = but_length all (clause_at all c.args.offer.now.clause.now) c.args.offer.now.number _ c.args.entries.now c.each.entries c.each.invariant.marked in
    record {
      marked = marked_on all (clause_at all c.args.offer.now.clause.now) c.args.offer.now.number c.args.numbers.now c.each.number-index c.args.entries.now c.each.entries c.index-entries-place.result c.mark.new.entry c.each-test.true (some, omega (arith, few, same)) c.each.invariant.marked c.in_ok-yes.ensures.marked;
      same = none_marked c.each.entries c.args.entries.now (get_or c.args.numbers.now c.each.number-index 0 - 1) c.index-entries-place.result c.mark.new.entry c.each.some c.in_ok-yes.yes c.in_ok-yes.ensures.same c.each.invariant.same;
    }

pub returns-clause-marked : goal.returns-clause-marked
returns-clause-marked g c =
    let all = g.B.Bank.trees c.args.bank.now in
    marked_all all (clause_at all c.args.offer.now.clause.now) c.args.offer.now.number c.args.numbers.now c.each.number-index c.args.entries.now c.each.entries (omega arith) c.each.invariant.marked
