use Rattle.std.proofs.Common.{rules}
use Rattle.term_reader.specs.Naming.{protocol_in}
use Rattle.fact_reader.specs.Reads.{left_of}
use Rattle.fact_reader.proofs.KeptState.{clause_found, clause_fault}
use Rattle.fact_reader.proofs.spelled.read_clause.Goals as goal

pub returns-clause-read : goal.returns-clause-read
returns-clause-read c = clause_found (protocol_in c.args.names.now) (left_of c.args.cursor.now) c.args.cursor.now.at _ _ _ _ _ c.in_ok-read.ensures.known.diffs c.in_ok-read.ensures.read

pub returns-in_err-read-clause-read : goal.returns-in_err-read-clause-read
returns-in_err-read-clause-read c =
    let fault = clause_fault (protocol_in c.args.names.now) (left_of c.args.cursor.now) c.args.cursor.now.at c.in_err-read.field-0.0 c.in_err-read.ensures.read in search (rules, fault)
