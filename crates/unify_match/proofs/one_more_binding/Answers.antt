use Rattle.unify_match.proofs.SeenLemmas.{IsReady-bind, AreBindings-bind}
use Rattle.unify_match.proofs.one_more_binding.Goals as goal

pub returns-clause-bindings : goal.returns-clause-bindings
returns-clause-bindings c = λ all b bs were unbound known. AreBindings-bind all bs b were known unbound

pub returns-clause-ready : goal.returns-clause-ready
returns-clause-ready c = λ all b bs ready unbound known absent. IsReady-bind all bs b ready known unbound absent
