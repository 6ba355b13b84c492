use Rattle.std.proofs.Common.{ap, ◌∙◌, sym}
use Rattle.std.proofs.lemmas.Bool.{false≢true}
use Rattle.spec_trees.specs.Tree.{size}
use Rattle.term_tree.specs.Bank.{capped}
use Rattle.term_tree.proofs.tree_bank.TreeBankBank.same.Goals as goal

pub returns-then-size : goal.returns-then-size
returns-then-size c = (
  λ h. absurd (false≢true h),
  λ e. absurd (c.if-size.true (c.size.ensures ∙ (ap (λ t. capped (size t)) e ∙ sym c.size-2.ensures))),
)
