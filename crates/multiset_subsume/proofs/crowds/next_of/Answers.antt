use Rattle.std.proofs.Common.{map}
use Rattle.clause_form.specs.Facts.{fact_of}
use Rattle.multiset_subsume.proofs.Keeping.{placing_as, as_before-trans, as_back}
use Rattle.fact_placing.proofs.Listing.{unref}
use Rattle.fact_placing.specs.Boards.{CanPlaceOn}
use Rattle.multiset_subsume.proofs.crowds.next_of.Goals as goal

pub overcrowded-requires-clause-placing : goal.overcrowded-requires-clause-placing
overcrowded-requires-clause-placing g c = placing_as (g.B.Bank.trees c.args.board.now.bank.now) (map fact_of c.args.board.now.hyps.now) c.args.placing.now.binds.pairs c.most_constrained.new.placing.binds.pairs c.args.placing.now.taken.items c.most_constrained.new.placing.taken.items c.most_constrained.ensures.same c.requires.placing

pub returns-clause-same : goal.returns-clause-same
returns-clause-same g c = as_before-trans c.args.placing.now.binds.pairs c.most_constrained.new.placing.binds.pairs c.overcrowded.new.placing.binds.pairs c.args.placing.now.taken.items c.most_constrained.new.placing.taken.items c.overcrowded.new.placing.taken.items c.most_constrained.ensures.same c.overcrowded.ensures.same

pub returns-then-branch-clause-outcome : goal.returns-then-branch-clause-outcome
returns-then-branch-clause-outcome g c = as_back (λ pairs flags. CanPlaceOn (g.B.Bank.trees c.args.board.now.bank.now) (map fact_of c.args.board.now.hyps.now) c.args.board.now.ending pairs flags (map unref c.args.unplaced.now) → ⊥) c.args.placing.now.binds.pairs c.most_constrained.new.placing.binds.pairs c.args.placing.now.taken.items c.most_constrained.new.placing.taken.items c.most_constrained.ensures.same (c.in_ok-overcrowded.ensures.crowded c.if-branch.true)

pub returns-then-not-board-clause-outcome : goal.returns-then-not-board-clause-outcome
returns-then-not-board-clause-outcome g c = c.in_ok-choice.ensures.index

pub returns-then-choice-lt-MOST_COUNTED-clause-outcome : goal.returns-then-choice-lt-MOST_COUNTED-clause-outcome
returns-then-choice-lt-MOST_COUNTED-clause-outcome g c = c.in_ok-choice.ensures.index
