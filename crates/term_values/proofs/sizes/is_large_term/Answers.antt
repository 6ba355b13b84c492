use Rattle.spec_calculus.specs.Values.{value_of}
use Rattle.pi_tree.specs.Terms.{term_of}
use Rattle.term_values.proofs.Room.{small-by_room, large-by_room}
use Rattle.term_values.proofs.sizes.is_large_term.Goals as goal

pub returns-in-Some : goal.returns-in-Some
returns-in-Some c = small-by_room (value_of c.args.environment.now (term_of c.args.term.now)) _ c.in-Some.ensures

pub returns-in-None : goal.returns-in-None
returns-in-None c = large-by_room (value_of c.args.environment.now (term_of c.args.term.now)) c.in-None.ensures
