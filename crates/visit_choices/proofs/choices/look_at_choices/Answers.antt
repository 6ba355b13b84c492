use Rattle.visit_choices.proofs.ButForDiffs.{like_itself, like_bare}
use Rattle.visit_choices.proofs.choices.look_at_choices.Goals as goal

pub look_along-requires-clause-like : goal.look_along-requires-clause-like
look_along-requires-clause-like g c = like_itself (g.B.Bank.trees c.args.bank.now) c.args.choosing.now.visit.now c.requires.visit

pub look_along-requires-2-clause-like : goal.look_along-requires-2-clause-like
look_along-requires-2-clause-like g c = like_bare (g.B.Bank.trees c.args.bank.now) c.args.choosing.now.visit.now c.in_ok-bare.bare c.in_ok-bare.ensures c.requires.visit
