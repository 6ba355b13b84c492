-- The law, from the lemma that proves it.
use Rattle.spec_protocol_grammar.specs.Classes.{source}
use Rattle.spec_protocol_grammar.proofs.Answers as laws
use Rattle.spec_protocol_grammar.proofs.no_sketch_too_deep.Goals as goal

pub returns : goal.returns
returns c = λ bytes ts f i. laws.sketch_not_deep (source bytes ts) f i
