use Rattle.std.proofs.Common.{ap, ◌∙◌}
use Rattle.term_store.specs.Measures.{tells_of}
use Rattle.term_store.proofs.Adding.{told_of}
use Rattle.term_store.proofs.shared_bank.SharedBank.measure.Goals as goal

pub returns : goal.returns
returns c =
    ap tells_of c.index.ensures
    ∙ told_of c.self.inside.shapes.keys c.self.inside.measures.items c.args.self.now c.args.id c.index.result.now c.self.view_is c.self.invariant.0 c.requires
