use Rattle.log_walks.proofs.pairs.resolve.Given as goal

abbrev pub ghost-keep : goal.ghost-keep
ghost-keep g a = g.task
