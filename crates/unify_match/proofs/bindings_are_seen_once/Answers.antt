use Rattle.unify_match.proofs.SeenLemmas.{seen-once, bound_to-seen, bound_to-seen_none, AreInBank-at}
use Rattle.unify_match.proofs.bindings_are_seen_once.Goals as goal

pub returns-clause-once : goal.returns-clause-once
returns-clause-once c = seen-once

pub returns-clause-bound : goal.returns-clause-bound
returns-clause-bound c = bound_to-seen

pub returns-clause-unbound : goal.returns-clause-unbound
returns-clause-unbound c = bound_to-seen_none

pub returns-clause-in_bank : goal.returns-clause-in_bank
returns-clause-in_bank c = AreInBank-at
