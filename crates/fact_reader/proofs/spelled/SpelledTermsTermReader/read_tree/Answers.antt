use Rattle.clause_form.specs.Plain.{term_of}
use Rattle.fact_reader.specs.Reads.{left_of}
use Rattle.fact_reader.proofs.KeptState.{finds_with}
use Rattle.fact_reader.proofs.spelled.SpelledTermsTermReader.read_tree.Goals as goal

pub returns-clause-read : goal.returns-clause-read
returns-clause-read c = finds_with term_of c.tree.result c.tree.new.cursor.at (left_of c.tree.new.cursor) _ c.tree.ensures.read
