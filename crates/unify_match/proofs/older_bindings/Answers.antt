use Rattle.unify_match.proofs.SeenLemmas.{IsReady-drop, AreBindings-drop}
use Rattle.unify_match.proofs.older_bindings.Goals as goal

pub returns-clause-ready : goal.returns-clause-ready
returns-clause-ready c = IsReady-drop

pub returns-clause-bindings : goal.returns-clause-bindings
returns-clause-bindings c = AreBindings-drop
