use Rattle.cert_writer.proofs.KeptRows.{known_grows, known_back}
use Rattle.cert_writer.proofs.known_rows_outlast_growth.Goals as goal

pub returns-clause-grown : goal.returns-clause-grown
returns-clause-grown c = known_grows

pub returns-clause-back : goal.returns-clause-back
returns-clause-back c = known_back
