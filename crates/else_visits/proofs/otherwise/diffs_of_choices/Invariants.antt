use Rattle.pi_tree.specs.Patterns.{pattern_of}
use Rattle.spec_translation.specs.Otherwise.{choice_diff}
use Rattle.unified_visits.specs.Places.{protocol_at}
use Rattle.unified_visits.specs.Visits.{visit_at}
use Rattle.visit_choices.specs.Walks.{choices_of}
use Rattle.else_visits.proofs.SideListing.{AreMadeUpTo}
use Rattle.else_visits.proofs.otherwise.diffs_of_choices.Given as goal

abbrev pub invariant-each : goal.invariant-each
invariant-each g l =
    let old = g.B.Bank.trees l.fn.bank in
    let choosing = l.choosing in
    AreMadeUpTo old (g.B.Bank.trees l.bank) (choice_diff (protocol_at choosing.place.now) (visit_at old choosing.visit.now).scope (pattern_of choosing.pattern.now)) (choices_of choosing) l.number l.made
