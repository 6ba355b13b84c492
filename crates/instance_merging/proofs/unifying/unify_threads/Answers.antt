use Rattle.std.proofs.Common.{sym, subst}
use Rattle.term_tree.specs.Bank.{AreKnown}
use Rattle.instance_merging.proofs.Known.{first_known}
use Rattle.instance_merging.proofs.unifying.unify_threads.Goals as goal

pub unify_all-requires-clause-lefts_known : goal.unify_all-requires-clause-lefts_known
unify_all-requires-clause-lefts_known c = subst (AreKnown c.args.bank.now) (sym c.front-lefts.ensures) (first_known c.args.bank.now c.in-Some.here.messages c.args.left.now.messages.now c.requires.left)

pub unify_all-requires-clause-rights_known : goal.unify_all-requires-clause-rights_known
unify_all-requires-clause-rights_known c = subst (AreKnown c.args.bank.now) (sym c.front-rights.ensures) (first_known c.args.bank.now c.in-Some.there.messages c.args.right.now.messages.now c.requires.right)
