-- The law, from the lemma that proves it.
use Rattle.spec_protocol_grammar.specs.Classes.{source}
use Rattle.std.proofs.Common.{length}
use Rattle.spec_protocol_grammar.proofs.Answers as laws
use Rattle.spec_protocol_grammar.proofs.one_unexpected.Goals as goal

pub returns : goal.returns
returns c = λ bytes ts. laws.one_unexpected (source bytes ts) (length ts)
