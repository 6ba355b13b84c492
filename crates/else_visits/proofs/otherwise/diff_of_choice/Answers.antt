use Rattle.std.proofs.Common.{◌≡◌, List, ◌∷◌, [], drop}
use Rattle.pi_tree.specs.Patterns.{pattern_of}
use Rattle.spec_calculus.specs.Syntax.{Ruled}
use Rattle.spec_translation.specs.Otherwise.{choice_diff}
use Rattle.spec_translation.specs.Visit.{Visit}
use Rattle.clause_diffs.specs.Diffs.{DiffOf}
use Rattle.term_tree.specs.declared.bank.Id.{Id}
use Rattle.term_tree.proofs.BankLaws.{Grows_trans}
use Rattle.unified_visits.specs.Places.{protocol_at}
use Rattle.else_visits.specs.Sides.{AreSidesOf}
use Rattle.unified_visits.specs.Visits.{visit_at, ShowsDiff}
use Rattle.visit_choices.specs.Walks.{choices_of}
use Rattle.unified_visits.proofs.Named.{if_ok}
use Rattle.else_visits.proofs.SideWalking.{choice_there, sides_before, sides_of_end}
use Rattle.else_visits.proofs.otherwise.diff_of_choice.Goals as goal

pub follow_sides-requires : goal.follow_sides-requires
follow_sides-requires g c =
    let old = g.B.Bank.trees c.args.bank.now in
    let choosing = c.args.choosing.now in
    let sides = c.new-sides.ensures in
    let has = choice_there old choosing c.args.number c.requires.known c.requires.within in
    record { stands = (visit_at old choosing.visit.now, has.0, sides_before old choosing c.new-sides.result c.args.number has.0 has.1 c.requires.known c.requires.within sides.ids sides.left sides.right sides.next has.2) }

pub finish_side-requires : goal.finish_side-requires
finish_side-requires g c =
    let old = g.B.Bank.trees c.args.bank.now in
    let new = g.B.Bank.trees c.follow_sides.new.bank in
    let choosing = c.args.choosing.now in
    let P = protocol_at choosing.place.now in
    let v = visit_at old choosing.visit.now in
    let sides = c.new-sides.ensures in
    let has = choice_there old choosing c.args.number c.requires.known c.requires.within in
    let end = c.in_ok-follow_sides.ensures.along v has.0 (sides_before old choosing c.new-sides.result c.args.number has.0 has.1 c.requires.known c.requires.within sides.ids sides.left sides.right sides.next has.2) in
    (v, has.0, sides_of_end P choosing.visit.now v new c.follow_sides.new.walk has.0 end)

pub returns-clause-shows : goal.returns-clause-shows
returns-clause-shows g c =
    let old = g.B.Bank.trees c.args.bank.now in
    let mid = g.B.Bank.trees c.follow_sides.new.bank in
    let new = g.B.Bank.trees c.finish_side.new.bank in
    let choosing = c.args.choosing.now in
    let P = protocol_at choosing.place.now in
    let w = choosing.visit.now in
    let pattern = pattern_of choosing.pattern.now in
    let walk = c.follow_sides.new.walk in
    let v = visit_at old w in
    let sides = c.new-sides.ensures in
    if_ok c.finish_side.result (λ (diff : DiffOf Id). (v : Visit) → (ruled : Ruled) → AreSidesOf P w v (ruled ∷ []) mid walk.sides → ShowsDiff new diff (choice_diff P v.scope pattern ruled))
    (λ (diff : DiffOf Id). (ruled : Ruled) → (others : List Ruled) → drop c.args.number (choices_of choosing) ≡ ruled ∷ others → ShowsDiff new diff (choice_diff P v.scope pattern ruled))
    (λ diff told. λ ruled others is. told v ruled
    (sides_of_end P w v mid walk ruled (c.in_ok-follow_sides.ensures.along v ruled (sides_before old choosing c.new-sides.result c.args.number ruled others c.requires.known c.requires.within sides.ids sides.left sides.right sides.next is)))) c.finish_side.ensures.shows

pub returns-in_err-follow_sides-clause-grows : goal.returns-in_err-follow_sides-clause-grows
returns-in_err-follow_sides-clause-grows g c = c.follow_sides.ensures.grows

pub returns-clause-grows : goal.returns-clause-grows
returns-clause-grows g c = Grows_trans (g.B.Bank.trees c.args.bank.now) (g.B.Bank.trees c.follow_sides.new.bank) (g.B.Bank.trees c.finish_side.new.bank) c.follow_sides.ensures.grows c.finish_side.ensures.grows
