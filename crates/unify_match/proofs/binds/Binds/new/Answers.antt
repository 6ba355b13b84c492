use Rattle.unify_match.proofs.SeenLemmas.{none_ready, none_bound}
use Rattle.unify_match.proofs.binds.Binds.new.Goals as goal

pub returns-clause-ready : goal.returns-clause-ready
returns-clause-ready c all = none_ready all _ c.new-trail.ensures.items

pub returns-clause-bindings : goal.returns-clause-bindings
returns-clause-bindings c all = none_bound all _ c.new-trail.ensures.items
