use Rattle.spec_soundness.proofs.Correspondences.{correspondences_hold}
use Rattle.spec_soundness.proofs.correspondences_hold.Goals as goal

pub returns : goal.returns
returns c = λ P left alternatives all rules proper shown.
    correspondences_hold P left alternatives all rules shown.suffice proper.rules.proper proper.patterns proper.query shown.translation shown.satisfied
