use Rattle.std.proofs.Common.{map}
use Rattle.clause_form.specs.Facts.{fact_of}
use Rattle.multiset_subsume.proofs.Keeping.{placing_as, linked_as, as_back, as_forth}
use Rattle.fact_placing.proofs.Listing.{unref}
use Rattle.multiset_subsume.proofs.Along.{at_some}
use Rattle.fact_placing.specs.Boards.{HoldsOn, IsFirstByOn, CanPlaceOn}
use Rattle.multiset_subsume.proofs.Parting.{at_none}
use Rattle.multiset_subsume.proofs.covering.first_row.Goals as goal

pub ordered-requires-clause-placing : goal.ordered-requires-clause-placing
ordered-requires-clause-placing g c = placing_as (g.B.Bank.trees c.args.board.now.bank.now) (map fact_of c.args.board.now.hyps.now) c.args.placing.binds.pairs c.placed_apart.new.placing.binds.pairs c.args.placing.taken.items c.placed_apart.new.placing.taken.items c.placed_apart.ensures.same c.requires.placing

pub ordered-requires-clause-linked : goal.ordered-requires-clause-linked
ordered-requires-clause-linked g c = linked_as (g.B.Bank.trees c.args.board.now.bank.now) c.args.board.now.ending c.args.placing.binds.pairs c.placed_apart.new.placing.binds.pairs c.args.placing.taken.items c.placed_apart.new.placing.taken.items (map unref c.args.facts.now) c.placed_apart.ensures.same c.requires.linked

pub ordered-requires-clause-known : goal.ordered-requires-clause-known
ordered-requires-clause-known g c = as_forth (λ pairs flags. HoldsOn (g.B.Bank.trees c.args.board.now.bank.now) (map fact_of c.args.board.now.hyps.now) c.args.board.now.ending pairs flags (map unref c.args.facts.now) c.in-Some.known.items) c.args.placing.binds.pairs c.placed_apart.new.placing.binds.pairs c.args.placing.taken.items c.placed_apart.new.placing.taken.items c.placed_apart.ensures.same (at_some _ c.in_ok-placed_apart.field-0 c.in-Some.known (λ row. HoldsOn (g.B.Bank.trees c.args.board.now.bank.now) (map fact_of c.args.board.now.hyps.now) c.args.board.now.ending c.args.placing.binds.pairs c.args.placing.taken.items (map unref c.args.facts.now) row.items) c.in-Some.is c.in_ok-placed_apart.ensures.outcome)

pub returns-in_ok-ordered-in-Some : goal.returns-in_ok-ordered-in-Some
returns-in_ok-ordered-in-Some g c = as_back (λ pairs flags. IsFirstByOn (g.B.Bank.trees c.args.board.now.bank.now) (map fact_of c.args.board.now.hyps.now) c.args.board.now.ending pairs flags (map unref c.args.facts.now) c.in_ok-ordered-in-Some.field-0) c.args.placing.binds.pairs c.placed_apart.new.placing.binds.pairs c.args.placing.taken.items c.placed_apart.new.placing.taken.items c.placed_apart.ensures.same c.in_ok-ordered-in-Some.ensures

pub returns-in-None : goal.returns-in-None
returns-in-None g c = at_none (CanPlaceOn (g.B.Bank.trees c.args.board.now.bank.now) (map fact_of c.args.board.now.hyps.now) c.args.board.now.ending c.args.placing.binds.pairs c.args.placing.taken.items (map unref c.args.facts.now) → ⊥) c.in_ok-placed_apart.field-0 (λ row. HoldsOn (g.B.Bank.trees c.args.board.now.bank.now) (map fact_of c.args.board.now.hyps.now) c.args.board.now.ending c.args.placing.binds.pairs c.args.placing.taken.items (map unref c.args.facts.now) row.items) c.in-None.is c.in_ok-placed_apart.ensures.outcome
