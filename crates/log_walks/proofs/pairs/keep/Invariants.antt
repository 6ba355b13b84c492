use Rattle.log_walks.proofs.pairs.keep.Given as goal

abbrev pub ghost-offer_resolvents : goal.ghost-offer_resolvents
ghost-offer_resolvents g a = g.task
