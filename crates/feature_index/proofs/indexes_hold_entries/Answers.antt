use Rattle.feature_index.proofs.Holding.{listed_holds, put_holds, taken_holds, candidate_holds}
use Rattle.feature_index.proofs.indexes_hold_entries.Goals as goal

pub returns-clause-listed : goal.returns-clause-listed
returns-clause-listed c = listed_holds

pub returns-clause-put : goal.returns-clause-put
returns-clause-put c = put_holds

pub returns-clause-taken : goal.returns-clause-taken
returns-clause-taken c = taken_holds

pub returns-clause-candidates : goal.returns-clause-candidates
returns-clause-candidates c = candidate_holds
