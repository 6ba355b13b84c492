-- The laws, from the lemma that proves them.
use Rattle.spec_protocol_grammar.specs.Classes.{source}
use Rattle.spec_protocol_scope.specs.Spells.{texts}
use Rattle.spec_protocol_scope.proofs.Spelled.{IsNamed, ArePlain, plain_words}
use Rattle.spec_protocol_scope.proofs.Spelling as spelling
use Rattle.spec_protocol_scope.proofs.plain_protocols.Goals as goal

pub returns-clause-process : goal.returns-clause-process
returns-clause-process c = λ bytes p h words. (spelling.plain (IsNamed (source bytes h.1.tokens)) (ArePlain (source bytes h.1.tokens)) (texts bytes h.1.tokens) h.1.sketch p (spelling.spelled_parts bytes p h) (plain_words bytes h.1.tokens (words h.1.tokens h.1.lexed))).0

pub returns-clause-queries : goal.returns-clause-queries
returns-clause-queries c = λ bytes p h words. (spelling.plain (IsNamed (source bytes h.1.tokens)) (ArePlain (source bytes h.1.tokens)) (texts bytes h.1.tokens) h.1.sketch p (spelling.spelled_parts bytes p h) (plain_words bytes h.1.tokens (words h.1.tokens h.1.lexed))).1

pub returns-clause-tables : goal.returns-clause-tables
returns-clause-tables c = λ bytes p h words. (spelling.plain (IsNamed (source bytes h.1.tokens)) (ArePlain (source bytes h.1.tokens)) (texts bytes h.1.tokens) h.1.sketch p (spelling.spelled_parts bytes p h) (plain_words bytes h.1.tokens (words h.1.tokens h.1.lexed))).2
