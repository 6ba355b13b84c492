use Rattle.term_tree.proofs.BankLaws.{symbol_of-injective}
use Rattle.term_tree.proofs.symbols_are_told_apart.Goals as goal

pub returns : goal.returns
returns c = symbol_of-injective
