use Rattle.pi_tree.specs.Protocols.{protocol_of}
use Rattle.protocol_text.specs.Asking.{AreSubjects}
use Rattle.protocol_text.proofs.questions.events_behind.Given as goal

-- the events so far
abbrev pub invariant-loop-index : goal.invariant-loop-index
invariant-loop-index l = AreSubjects (protocol_of l.protocol) l.all.items
