use Rattle.std.proofs.Common.{◌≡◌, map}
use Rattle.pi_tree.specs.Terms.{term_of}
use Rattle.protocol_text.specs.Questions.{variables_from}
use Rattle.protocol_text.proofs.questions.variables.Given as goal

-- as many variables as the index says
abbrev pub invariant-loop-index : goal.invariant-loop-index
invariant-loop-index l = map term_of l.items.items ≡ variables_from 1 l.index
