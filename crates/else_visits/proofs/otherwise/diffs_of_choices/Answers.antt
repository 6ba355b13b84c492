use Rattle.std.proofs.Common.{◌<◌, ◌≤◌, length, subst, arith}
use Rattle.pi_tree.specs.Patterns.{pattern_of}
use Rattle.spec_translation.specs.Otherwise.{choice_diff}
use Rattle.spec_translation.specs.Visit.{Visit}
use Rattle.term_tree.proofs.BankLaws.{Grows_trans}
use Rattle.unified_visits.specs.Places.{protocol_at}
use Rattle.unified_visits.specs.Visits.{visit_at, ShowsDiff}
use Rattle.visit_choices.specs.Walks.{choices_of}
use Rattle.unified_visits.proofs.Named.{visit_later}
use Rattle.else_visits.proofs.SideListing.{none_made, one_more_made, all_made}
use Rattle.else_visits.proofs.SideWalking.{choices_long, choice_there}
use Rattle.else_visits.proofs.otherwise.diffs_of_choices.Goals as goal

pub each-init : goal.each-init
each-init g c =
    let old = g.B.Bank.trees c.args.bank.now in
    let choosing = c.args.choosing.now in
    none_made old (choice_diff (protocol_at choosing.place.now) (visit_at old choosing.visit.now).scope (pattern_of choosing.pattern.now)) (choices_of choosing) c.new-made.result c.new-made.ensures

pub diff_of_choice-requires-clause-known : goal.diff_of_choice-requires-clause-known
diff_of_choice-requires-clause-known g c =
    let choosing = c.args.choosing.now in
    record { visit = (visit_later (g.B.Bank.trees c.args.bank.now) (g.B.Bank.trees c.each.bank) choosing.visit.now c.each.invariant.grows c.requires.visit).known; fit = c.requires.fit; count = c.requires.count }

pub each-preserved : goal.each-preserved
each-preserved g c =
    let old = g.B.Bank.trees c.args.bank.now in
    let now = g.B.Bank.trees c.each.bank in
    let next = g.B.Bank.trees c.diff_of_choice.new.bank in
    let choosing = c.args.choosing.now in
    let P = protocol_at choosing.place.now in
    let pattern = pattern_of choosing.pattern.now in
    let w = choosing.visit.now in
    let i = c.each.number in
    let diff = c.in_ok-diff.diff in
    let later = visit_later old now w c.each.invariant.grows c.requires.visit in
    let within : i < length (choices_of choosing) = omega (arith, c.each-test.true, choices_long old choosing c.requires) in
    one_more_made old (choice_diff P (visit_at old w).scope pattern) (choices_of choosing) now next i (choice_there old choosing i c.requires c.each-test.true).0 c.each.made c.push.new.self diff c.each.invariant within c.diff_of_choice.ensures.grows
    (λ y others is. subst (λ (v : Visit). ShowsDiff next diff (choice_diff P v.scope pattern y)) later.is (c.in_ok-diff.ensures.shows y others is)) c.in_ok-push.ensures.ok

pub returns-clause-show : goal.returns-clause-show
returns-clause-show g c =
    let old = g.B.Bank.trees c.args.bank.now in
    let choosing = c.args.choosing.now in
    let past : length (choices_of choosing) ≤ c.each.number = omega (arith, c.each-test.false, choices_long old choosing c.requires) in
    all_made old (choice_diff (protocol_at choosing.place.now) (visit_at old choosing.visit.now).scope (pattern_of choosing.pattern.now)) (choices_of choosing) (g.B.Bank.trees c.each.bank) c.each.number c.each.made c.each.invariant past

pub returns-in_err-diff-clause-grows : goal.returns-in_err-diff-clause-grows
returns-in_err-diff-clause-grows g c = Grows_trans (g.B.Bank.trees c.args.bank.now) (g.B.Bank.trees c.each.bank) (g.B.Bank.trees c.diff_of_choice.new.bank) c.each.invariant.grows c.diff_of_choice.ensures.grows

pub returns-in_err-push-clause-grows : goal.returns-in_err-push-clause-grows
returns-in_err-push-clause-grows g c = Grows_trans (g.B.Bank.trees c.args.bank.now) (g.B.Bank.trees c.each.bank) (g.B.Bank.trees c.diff_of_choice.new.bank) c.each.invariant.grows c.diff_of_choice.ensures.grows

pub returns-clause-grows : goal.returns-clause-grows
returns-clause-grows g c = c.each.invariant.grows
