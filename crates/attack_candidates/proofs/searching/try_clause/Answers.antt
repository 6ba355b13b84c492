use Rattle.std.proofs.Common.{◌∙◌, sym}
use Rattle.log_walks.proofs.Fitting.{fit_size}
use Rattle.attack_candidates.proofs.searching.try_clause.Goals as goal

pub selected-requires-clause-small : goal.selected-requires-clause-small
selected-requires-clause-small c = fit_size c.args.bank.now c.args.clause.now c.requires.clause

pub resolve_all-requires-clause-chosen : goal.resolve_all-requires-clause-chosen
resolve_all-requires-clause-chosen c = record { fit = c.requires.clause; selected = sym c.selected.ensures.place ∙ c.in-Some.is }
