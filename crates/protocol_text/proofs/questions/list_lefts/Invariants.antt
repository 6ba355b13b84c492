use Rattle.std.proofs.Common.{length}
use Rattle.pi_tree.specs.Protocols.{protocol_of}
use Rattle.protocol_text.specs.Asking.{AreUpTo}
use Rattle.protocol_text.proofs.questions.list_lefts.Given as goal

-- the events, and the left sides so far
abbrev pub invariant-loop-index : goal.invariant-loop-index
invariant-loop-index l = AreUpTo (protocol_of l.protocol) (length (protocol_of l.protocol).events) l.index l.all.items
