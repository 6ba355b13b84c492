use Rattle.query_verify.proofs.sharing.finished.Given as goal

abbrev pub ghost-gone_on : goal.ghost-gone_on
ghost-gone_on g a = g.shared
