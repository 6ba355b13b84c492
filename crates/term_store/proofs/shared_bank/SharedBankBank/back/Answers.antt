use Rattle.std.proofs.Common.{ap, ◌∙◌}
use Rattle.term_tree.proofs.Roots.{built-cut}
use Rattle.term_store.specs.Shapes.{root_of}
use Rattle.term_store.specs.SharedBank.{trees_of}
use Rattle.term_store.proofs.Adding.{IsWell-cut}
use Rattle.term_store.proofs.shared_bank.SharedBankBank.back.Goals as goal

pub invariant_of-self : goal.invariant_of-self
invariant_of-self c = (
  IsWell-cut c.self.inside.shapes.keys c.truncate.new.self.keys c.self.inside.measures.items c.truncate-2.new.self.items c.args.self.now c.args.to.len
      c.self.view_is c.self.invariant.0 c.requires c.truncate.ensures.unique c.truncate.ensures.keys c.truncate-2.ensures.items,
  c.self.invariant.1,
)

pub returns : goal.returns
returns c = ap trees_of c.truncate.ensures.keys ∙ built-cut root_of c.self.inside.shapes.keys c.args.self.now c.args.to.len c.self.view_is c.requires
