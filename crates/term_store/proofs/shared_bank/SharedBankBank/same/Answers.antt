use Rattle.std.proofs.Common.{ap, eqb-true, eq-eqb}
use Rattle.term_tree.specs.Bank.{tree_at}
use Rattle.term_tree.specs.declared.bank.Id.{Id}
use Rattle.term_store.proofs.shared_bank.SharedBankBank.same.Goals as goal

pub returns : goal.returns
returns c =
    let all = c.args.self.now in
    let shared = c.equal_trees_have_equal_ids.ensures in (
      λ same. ap (λ i. tree_at all record { index = i }) (eqb-true c.args.left.index c.args.right.index same),
      λ e. eq-eqb c.args.left.index c.args.right.index (ap (λ (id : Id). id.index) (shared c.args.left c.args.right c.requires.left_known c.requires.right_known e)),
    )
