use Rattle.std.proofs.Common.{map, IfOk, MatchOption}
use Rattle.clause_form.specs.Facts.{fact_of}
use Rattle.multiset_subsume.proofs.Keeping.{placing_as, linked_as, as_before-trans, as_back}
use Rattle.fact_placing.proofs.Listing.{unref}
use Rattle.fact_placing.specs.Boards.{CanPlaceOn, HoldsOn}
use Rattle.multiset_subsume.proofs.parts.placed_apart.Goals as goal

pub can_place-requires-2-clause-placing : goal.can_place-requires-2-clause-placing
can_place-requires-2-clause-placing g c = placing_as (g.B.Bank.trees c.args.board.now.bank.now) (map fact_of c.args.board.now.hyps.now) c.args.placing.now.binds.pairs c.parts_may_stand.new.placing.binds.pairs c.args.placing.now.taken.items c.parts_may_stand.new.placing.taken.items c.parts_may_stand.ensures.same c.requires.placing

pub can_place-requires-2-clause-linked : goal.can_place-requires-2-clause-linked
can_place-requires-2-clause-linked g c = linked_as (g.B.Bank.trees c.args.board.now.bank.now) c.args.board.now.ending c.args.placing.now.binds.pairs c.parts_may_stand.new.placing.binds.pairs c.args.placing.now.taken.items c.parts_may_stand.new.placing.taken.items (map unref c.args.facts.now) c.parts_may_stand.ensures.same c.requires.linked

pub can_place-requires-2-clause-facts : goal.can_place-requires-2-clause-facts
can_place-requires-2-clause-facts g c = c.requires.facts

pub can_place-requires-2-clause-board : goal.can_place-requires-2-clause-board
can_place-requires-2-clause-board g c = c.requires.board

pub can_place-requires-2-clause-ending : goal.can_place-requires-2-clause-ending
can_place-requires-2-clause-ending g c = c.requires.ending

pub can_place-requires-then-not-is_divided-clause-ending : goal.can_place-requires-then-not-is_divided-clause-ending
can_place-requires-then-not-is_divided-clause-ending g c = c.requires.ending

pub parts_may_stand-requires-clause-facts : goal.parts_may_stand-requires-clause-facts
parts_may_stand-requires-clause-facts g c = c.requires.facts

pub parts_may_stand-requires-clause-placing : goal.parts_may_stand-requires-clause-placing
parts_may_stand-requires-clause-placing g c = c.requires.placing

pub parts_may_stand-requires-clause-board : goal.parts_may_stand-requires-clause-board
parts_may_stand-requires-clause-board g c = c.requires.board

pub can_place-requires-then-not-is_divided-clause-facts : goal.can_place-requires-then-not-is_divided-clause-facts
can_place-requires-then-not-is_divided-clause-facts g c = c.requires.facts

pub can_place-requires-then-not-is_divided-clause-placing : goal.can_place-requires-then-not-is_divided-clause-placing
can_place-requires-then-not-is_divided-clause-placing g c = c.requires.placing

pub can_place-requires-then-not-is_divided-clause-board : goal.can_place-requires-then-not-is_divided-clause-board
can_place-requires-then-not-is_divided-clause-board g c = c.requires.board

pub can_place-requires-then-not-is_divided-clause-linked : goal.can_place-requires-then-not-is_divided-clause-linked
can_place-requires-then-not-is_divided-clause-linked g c = c.requires.linked

pub returns-clause-same : goal.returns-clause-same
returns-clause-same g c = as_before-trans c.args.placing.now.binds.pairs c.parts_may_stand.new.placing.binds.pairs c.can_place-2.new.placing.binds.pairs c.args.placing.now.taken.items c.parts_may_stand.new.placing.taken.items c.can_place-2.new.placing.taken.items c.parts_may_stand.ensures.same c.can_place-2.ensures.same

pub returns-clause-outcome : goal.returns-clause-outcome
returns-clause-outcome g c = as_back (λ pairs flags. IfOk c.can_place-2.result (λ found. MatchOption found (CanPlaceOn (g.B.Bank.trees c.args.board.now.bank.now) (map fact_of c.args.board.now.hyps.now) c.args.board.now.ending pairs flags (map unref c.args.facts.now) → ⊥) (λ row. HoldsOn (g.B.Bank.trees c.args.board.now.bank.now) (map fact_of c.args.board.now.hyps.now) c.args.board.now.ending pairs flags (map unref c.args.facts.now) row.items))) c.args.placing.now.binds.pairs c.parts_may_stand.new.placing.binds.pairs c.args.placing.now.taken.items c.parts_may_stand.new.placing.taken.items c.parts_may_stand.ensures.same c.can_place-2.ensures.outcome

pub returns-then-not-branch-clause-outcome : goal.returns-then-not-branch-clause-outcome
returns-then-not-branch-clause-outcome g c = c.in_ok-parts_may_stand.ensures.refused c.if-not-branch.true

pub returns-then-not-branch-clause-same : goal.returns-then-not-branch-clause-same
returns-then-not-branch-clause-same g c = c.parts_may_stand.ensures.same

pub returns-then-not-is_divided-clause-outcome : goal.returns-then-not-is_divided-clause-outcome
returns-then-not-is_divided-clause-outcome g c = c.can_place-then-not-is_divided.ensures.outcome

pub returns-then-not-is_divided-clause-same : goal.returns-then-not-is_divided-clause-same
returns-then-not-is_divided-clause-same g c = c.can_place-then-not-is_divided.ensures.same
