use Rattle.clause_resolve.proofs.Shifting.{apart_grows, apart_known}
use Rattle.clause_resolve.proofs.what_is_apart_outlasts_growth.Goals as goal

pub returns-clause-apart : goal.returns-clause-apart
returns-clause-apart c = λ old new unsolved apart grows was. apart_grows old new unsolved apart grows was

pub returns-clause-known : goal.returns-clause-known
returns-clause-known c = λ all unsolved apart was. apart_known all unsolved apart was
