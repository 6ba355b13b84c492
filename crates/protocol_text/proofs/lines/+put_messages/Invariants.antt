-- what stands above has a smaller number
use Rattle.protocol_text.proofs.lines.+put_messages.Given as goal

abbrev pub decreases-put_messages : goal.decreases-put_messages
decreases-put_messages l = l.point
