-- The law, from the lemma that proves it.
use Rattle.spec_protocol_grammar.specs.Classes.{source}
use Rattle.spec_protocol_scope.specs.Spells.{texts}
use Rattle.spec_protocol_scope.proofs.Spelled.{IsNamed, ArePlain}
use Rattle.spec_protocol_scope.proofs.Spelling as spelling
use Rattle.spec_protocol_scope.proofs.proper_rules.Goals as goal

pub returns : goal.returns
returns c = λ bytes p h. spelling.proper_rules (IsNamed (source bytes h.1.tokens)) (ArePlain (source bytes h.1.tokens)) (texts bytes h.1.tokens) h.1.sketch p (spelling.spelled_parts bytes p h)
