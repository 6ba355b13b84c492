use Rattle.std.proofs.Common.{refl}
use Rattle.spec_certificate_text.specs.Outcomes.{read_fixed}
use Rattle.spec_certificate_text.proofs.Worked.{keeps, says_later, keeps_is_one}
use Rattle.spec_certificate_text.proofs.worked_phases.Goals as goal

pub returns-clause-keeps : goal.returns-clause-keeps
returns-clause-keeps c = keeps

pub returns-clause-says : goal.returns-clause-says
returns-clause-says c = says_later

pub returns-clause-stores : goal.returns-clause-stores
returns-clause-stores c = refl

pub returns-clause-keeps_is_one : goal.returns-clause-keeps_is_one
returns-clause-keeps_is_one c = keeps_is_one

pub returns-clause-past : goal.returns-clause-past
unfolding read_fixed
returns-clause-past c = refl

pub returns-clause-first : goal.returns-clause-first
unfolding read_fixed
returns-clause-first c = refl

pub returns-clause-zeros : goal.returns-clause-zeros
unfolding read_fixed
returns-clause-zeros c = refl

pub returns-clause-cut : goal.returns-clause-cut
unfolding read_fixed
returns-clause-cut c = refl

pub returns-clause-table : goal.returns-clause-table
unfolding read_fixed
returns-clause-table c = refl

pub returns-clause-count : goal.returns-clause-count
unfolding read_fixed
returns-clause-count c = refl
