use Rattle.run_replay.proofs.Violations.{tells_at_end, done_not_refused}
use Rattle.run_replay.proofs.bisect.violated_after.Goals as goal

pub unreachable-requires : goal.unreachable-requires
unreachable-requires c =
    let refused = rw c.in-Refused.is at c.in_ok-end.ensures in
    done_not_refused _ _ _ _ c.requires.done refused

pub returns : goal.returns
returns c =
    let reached = rw c.in-End.is at c.in_ok-end.ensures in
    tells_at_end _ _ _ _ _ reached.0.ends c.violated.ensures
