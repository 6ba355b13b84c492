use Rattle.spec_derivations.proofs.Closing.{five_close, channel_derived, secret_kept, pair_resolvents}
use Rattle.spec_derivations.proofs.five_clauses_are_closed.Goals as goal

pub returns-clause-closed : goal.returns-clause-closed
returns-clause-closed c = five_close

pub returns-clause-known : goal.returns-clause-known
returns-clause-known c = channel_derived

pub returns-clause-kept : goal.returns-clause-kept
returns-clause-kept c = secret_kept c.solved_clauses_suffice.ensures.suffice

pub returns-clause-heard : goal.returns-clause-heard
returns-clause-heard c = pair_resolvents
