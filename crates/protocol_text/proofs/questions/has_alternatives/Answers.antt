use Rattle.std.proofs.Common.{rules}
use Rattle.protocol_text.proofs.SubjectLists.{some_alternatives}
use Rattle.protocol_text.proofs.questions.has_alternatives.Goals as goal

pub returns-in-Corr : goal.returns-in-Corr
returns-in-Corr c = search (rules, some_alternatives)
