use Rattle.spec_soundness.proofs.Secrecy.{messages_are_kept, names_are_kept}
use Rattle.spec_soundness.proofs.secrets_are_kept.Goals as goal

pub returns-clause-messages : goal.returns-clause-messages
returns-clause-messages c = λ P message phase all rules proper shown.
    messages_are_kept P all rules shown.suffice proper.rules.proper proper.patterns message phase proper.query.0 proper.query.1 shown.translation shown.satisfied

pub returns-clause-names : goal.returns-clause-names
returns-clause-names c = λ P point phase all rules proper shown.
    names_are_kept P all rules shown.suffice proper.rules.proper proper.patterns point phase proper.query.1 shown.translation shown.satisfied
