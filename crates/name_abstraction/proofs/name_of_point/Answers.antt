use Rattle.std.proofs.Common.{◌≡◌, ◌++◌, List, sym, subst, rules}
use Rattle.term_tree.specs.Bank.{AreKnown}
use Rattle.term_tree.specs.declared.bank.Id.{Id}
use Rattle.name_abstraction.proofs.Joining.{both_known}
use Rattle.name_abstraction.proofs.name_of_point.Goals as goal

pub app-requires : goal.app-requires
app-requires g c =
    let items : c.deref.result.now ≡ c.args.inputs.now ++ c.args.sessions.now = search rules in
    subst (λ (ids : List Id). AreKnown (g.B.Bank.trees c.args.bank.now) ids) (sym items)
    (both_known (g.B.Bank.trees c.args.bank.now) c.args.inputs.now c.args.sessions.now c.requires.inputs c.requires.sessions)
