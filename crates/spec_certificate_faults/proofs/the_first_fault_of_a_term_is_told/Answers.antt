use Rattle.spec_certificate_faults.specs.First.{terms_in}
use Rattle.spec_certificate_faults.proofs.TermFirst.{told_is_first, first_is_told, read_has_none, done_text, first_is_one}
use Rattle.spec_certificate_faults.proofs.the_first_fault_of_a_term_is_told.Goals as goal

pub returns-clause-told : goal.returns-clause-told
returns-clause-told c = λ binds P bytes at place code names. (λ e. told_is_first binds P names bytes at place code e, λ is. first_is_told binds P names bytes at place code is)

pub returns-clause-none : goal.returns-clause-none
returns-clause-none c = λ binds P bytes at place other t rest code names e stands. read_has_none binds P names bytes at place t rest e other code stands

pub returns-clause-text : goal.returns-clause-text
returns-clause-text c = λ binds P bytes at place t rest names e. done_text binds P names bytes at place t rest e

pub returns-clause-one : goal.returns-clause-one
returns-clause-one c = λ binds P bytes at place other code another one two. first_is_one (terms_in binds P) bytes at place other code another one two
