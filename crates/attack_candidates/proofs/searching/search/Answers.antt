use Rattle.term_tree.proofs.BankLaws.{Grows_refl, Grows_trans}
use Rattle.clause_form.proofs.Fit.{AreFit-grow}
use Rattle.log_entries.specs.Beating.{clauses_of}
use Rattle.attack_candidates.proofs.searching.search.Goals as goal

pub each-init : goal.each-init
each-init c = record { grows = Grows_refl c.args.bank.now; sound = c.requires.sound }

pub try_goal-requires-clause-log : goal.try_goal-requires-clause-log
try_goal-requires-clause-log c = AreFit-grow c.args.bank.now c.each.bank (clauses_of c.args.searched.now.log.now) c.each.invariant.grows c.requires.log

pub each-preserved : goal.each-preserved
each-preserved c = record {
  grows = Grows_trans c.args.bank.now c.each.bank c.try_goal.new.bank c.each.invariant.grows c.in_ok-try_goal.ensures.grows;
  sound = c.in_ok-try_goal.ensures.sound;
}
