use Rattle.std.proofs.Common.{List, sym, subst}
use Rattle.clause_instances.specs.Derivations.{HasNormedLog}
use Rattle.log_entries.specs.Beating.{clauses_of}
use Rattle.cert_writer.proofs.Telling.{fit_known}
use Rattle.attack_candidates.specs.declared.found.Goal.{Goal}
use Rattle.attack_candidates.specs.Sound.{AreFitGoals}
use Rattle.attack_candidates.proofs.Keeping.{fit_normed}
use Rattle.attack_candidates.proofs.found.none_found.Goals as goal

pub read_log-requires : goal.read_log-requires
read_log-requires c = fit_known c.args.bank.now (clauses_of c.args.searched.now.log.now) c.requires

pub returns : goal.returns
returns c = record {
  normed = subst HasNormedLog (sym c.in_ok-log.ensures) (fit_normed c.args.bank.now c.args.searched.now.log.now c.requires);
  goals = subst (λ (gs : List Goal). AreFitGoals c.args.bank.now gs) (sym c.new.ensures.items) tt;
}
