-- The law, from the lemma that proves it.
use Rattle.spec_protocol_scope.proofs.Spelling as spelling
use Rattle.spec_protocol_scope.proofs.words.Goals as goal

pub returns : goal.returns
returns c = λ bytes p h. spelling.words_are bytes p h
