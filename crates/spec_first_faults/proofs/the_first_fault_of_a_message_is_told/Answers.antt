use Rattle.spec_certificate_text.specs.Facts.{read_att, read_mess}
use Rattle.spec_first_faults.specs.Facts.{known, sent}
use Rattle.spec_first_faults.proofs.Law.{told_is_first, first_is_told, found_has_none}
use Rattle.spec_first_faults.proofs.Tells.{Anything}
use Rattle.spec_first_faults.proofs.Messages.{known_tells, sent_tells}
use Rattle.spec_first_faults.proofs.the_first_fault_of_a_message_is_told.Goals as goal

pub returns-clause-known : goal.returns-clause-known
returns-clause-known c = λ P bytes at place code names.
    let tells = known_tells P names in
    (λ e. told_is_first (known P) Anything (read_att P) tells bytes at place code e, λ is. first_is_told (known P) Anything (read_att P) tells bytes at place code is)

pub returns-clause-sent : goal.returns-clause-sent
returns-clause-sent c = λ P bytes at place code names.
    let tells = sent_tells P names in
    (λ e. told_is_first (sent P) Anything (read_mess P) tells bytes at place code e, λ is. first_is_told (sent P) Anything (read_mess P) tells bytes at place code is)

pub returns-clause-none_known : goal.returns-clause-none_known
returns-clause-none_known c = λ P bytes at place other f rest code names e stands. found_has_none (known P) Anything (read_att P) (known_tells P names) bytes at place f rest e other code stands

pub returns-clause-none_sent : goal.returns-clause-none_sent
returns-clause-none_sent c = λ P bytes at place other f rest code names e stands. found_has_none (sent P) Anything (read_mess P) (sent_tells P names) bytes at place f rest e other code stands
