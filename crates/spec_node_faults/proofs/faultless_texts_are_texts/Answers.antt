use Rattle.std.proofs.Common.{arith}
use Rattle.spec_node_tables.proofs.Sizes.{few_nodes}
use Rattle.spec_node_tables.proofs.Certificates.{certificates_apart}
use Rattle.spec_node_faults.proofs.Faultless.{faultless}
use Rattle.spec_node_faults.proofs.OfGrammar.{written_in_grammar}
use Rattle.spec_node_faults.proofs.Converse.{meant, meant_written, meant_numberable, meant_text}
use Rattle.spec_node_faults.proofs.faultless_texts_are_texts.Goals as goal

pub returns-clause-meant : goal.returns-clause-meant
returns-clause-meant g = λ P at c names grammar none. (meant P names at c grammar none, meant_numberable P names at c grammar none, meant_written P names at c grammar none)

pub returns-clause-text : goal.returns-clause-text
returns-clause-text g = λ P at c names grammar none. (meant P names at c grammar none, meant_numberable P names at c grammar none, meant_text P names at c grammar none)

pub returns-clause-grammar : goal.returns-clause-grammar
returns-clause-grammar g = λ P x names is. written_in_grammar P names x is

pub returns-clause-none : goal.returns-clause-none
returns-clause-none g = λ P at x code names is. faultless P names x is.is is.fits at is.few code

pub returns-clause-one : goal.returns-clause-one
returns-clause-one g = λ P x y k l names is also e.
    let few = few_nodes x.clauses is.fits in
    let also_few = few_nodes y.clauses also.fits in
    let same = certificates_apart P names x y k l is.is also.is (omega arith) (omega arith) e in
    (same.thing, same.rest)
