-- The law, from the lemma that proves it.
use Rattle.spec_protocol_grammar.specs.Classes.{source}
use Rattle.spec_protocol_grammar.proofs.Answers as laws
use Rattle.spec_protocol_grammar.proofs.one_too_deep.Goals as goal

pub returns : goal.returns
returns c = λ bytes ts. laws.one_deep (source bytes ts)
