use Rattle.spec_fingerprints.proofs.Examples.{keys_apart, key_same, key_any}
use Rattle.spec_fingerprints.proofs.keys_are_told_apart.Goals as goal

pub returns-clause-apart : goal.returns-clause-apart
returns-clause-apart c = keys_apart

pub returns-clause-same : goal.returns-clause-same
returns-clause-same c = key_same

pub returns-clause-any : goal.returns-clause-any
returns-clause-any c = key_any
