use Rattle.std.proofs.Common.{map, take}
use Rattle.pi_tree.specs.Queries.{query_of}
use Rattle.pi_tree.specs.Protocols.{protocol_of}
use Rattle.protocol_text.specs.Asking.{AreQuestions}
use Rattle.protocol_text.proofs.questions.questions.Given as goal

-- a question for each subject so far
abbrev pub invariant-loop-subject : goal.invariant-loop-subject
invariant-loop-subject l = AreQuestions (protocol_of l.protocol) (take l.subject-index l.subjects) (map query_of l.items.items)
