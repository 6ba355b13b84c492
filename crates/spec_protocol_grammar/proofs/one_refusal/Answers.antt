-- The law, from the lemma that proves it.
use Rattle.spec_protocol_grammar.specs.Classes.{source}
use Rattle.std.proofs.Common.{length}
use Rattle.spec_protocol_grammar.proofs.Answers as laws
use Rattle.spec_protocol_grammar.proofs.one_refusal.Goals as goal

pub returns : goal.returns
returns c = λ bytes ts i j. laws.unexpected_not_deep (source bytes ts) (length ts) i j
