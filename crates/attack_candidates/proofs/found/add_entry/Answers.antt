use Rattle.std.proofs.Common.{None, sym, subst}
use Rattle.clause_instances.specs.Derivations.{HasNormedLog}
use Rattle.log_entries.specs.declared.log.PlainEntry.{PlainEntry}
use Rattle.attack_candidates.proofs.Keeping.{normed_push}
use Rattle.attack_candidates.proofs.found.add_entry.Goals as goal

pub add_goal-requires-clause-sound : goal.add_goal-requires-clause-sound
add_goal-requires-clause-sound c =
    let e : PlainEntry = record { clause = c.in_ok-plain.plain; origin = c.args.origin; by = None } in
    record {
      normed = subst HasNormedLog (sym c.in_ok-push_entry.ensures) (normed_push c.args.bank.now c.args.found.now.log c.args.clause.now e c.requires.sound.normed c.requires.clause c.in_ok-plain.ensures);
      goals = c.requires.sound.goals;
    }
