use Rattle.unify_match.proofs.SeenLemmas.{seen-grows, IsReady-grows, AreBindings-grows}
use Rattle.unify_match.proofs.bindings_outlast_growth.Goals as goal

pub returns-clause-same : goal.returns-clause-same
returns-clause-same c = seen-grows

pub returns-clause-ready : goal.returns-clause-ready
returns-clause-ready c = IsReady-grows

pub returns-clause-bindings : goal.returns-clause-bindings
returns-clause-bindings c = AreBindings-grows
