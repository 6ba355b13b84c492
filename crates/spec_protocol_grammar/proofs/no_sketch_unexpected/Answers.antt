-- The law, from the lemma that proves it.
use Rattle.spec_protocol_grammar.specs.Classes.{source}
use Rattle.std.proofs.Common.{length}
use Rattle.spec_protocol_grammar.proofs.Ended.{not_ended}
use Rattle.spec_protocol_grammar.proofs.Answers as laws
use Rattle.spec_protocol_grammar.proofs.no_sketch_unexpected.Goals as goal

pub returns : goal.returns
returns c = λ bytes ts f i. laws.sketch_not_unexpected (source bytes ts) (length ts) i f (not_ended bytes ts)
