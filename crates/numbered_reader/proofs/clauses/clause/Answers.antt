use Rattle.std.proofs.Common.{◌∙◌, ap}
use Rattle.spec_clauses.specs.Fact.{Clause}
use Rattle.spec_terms.specs.Term.{Term}
use Rattle.spec_certificate_text.specs.Outcomes.{Found}
use Rattle.fact_reader.specs.Reads.{left_of}
use Rattle.node_reader.specs.Tables.{table_of}
use Rattle.numbered_reader.specs.Walks.{walked_of}
use Rattle.numbered_reader.proofs.Known.{clause_seen, clause_known}
use Rattle.numbered_reader.proofs.clauses.clause.Goals as goal

pub returns-clause-read : goal.returns-clause-read
returns-clause-read c =
    let all = (table_of c.args.table.now).terms in
    let read = c.in_ok-read.read in
    c.in_ok-read.ensures.read ∙ ap (λ (k : Clause Term). Found (k, walked_of c.read_clause_by.new.state) c.read_clause_by.new.cursor.at (left_of c.read_clause_by.new.cursor)) (clause_seen all read.hyps.items read.diffs.items read.concl c.in_ok-read.ensures.known.diffs)

pub returns-clause-known : goal.returns-clause-known
returns-clause-known c =
    let read = c.in_ok-read.read in
    clause_known (table_of c.args.table.now).terms read.hyps.items read.diffs.items read.concl c.in_ok-read.ensures.known.diffs c.in_ok-read.ensures.known.hypotheses c.in_ok-read.ensures.known.conclusion
