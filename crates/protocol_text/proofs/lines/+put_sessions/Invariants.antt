-- what stands above has a smaller number
use Rattle.protocol_text.proofs.lines.+put_sessions.Given as goal

abbrev pub decreases-put_sessions : goal.decreases-put_sessions
decreases-put_sessions l = l.point
