use Rattle.query_verify.proofs.sharing.gone_on.Given as goal

abbrev pub ghost-finish : goal.ghost-finish
ghost-finish g a = g.shared
