-- The law, from the lemma that proves it.
use Rattle.std.proofs.Common.{length}
use Rattle.spec_protocol_grammar.specs.Classes.{source}
use Rattle.spec_protocol_grammar.proofs.Ended.{ended}
use Rattle.spec_protocol_grammar.proofs.Tireless.{has_answer}
use Rattle.spec_protocol_grammar.proofs.always_one.Goals as goal

pub returns : goal.returns
returns c = λ bytes ts. has_answer (source bytes ts) (length ts) (ended bytes ts)
