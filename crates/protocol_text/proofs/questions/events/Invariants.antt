use Rattle.pi_tree.specs.Protocols.{protocol_of}
use Rattle.protocol_text.specs.Asking.{AreUpTo}
use Rattle.protocol_text.proofs.questions.events.Given as goal

-- the events so far
abbrev pub invariant-loop-index : goal.invariant-loop-index
invariant-loop-index l = AreUpTo (protocol_of l.protocol) l.index 0 l.all.items
