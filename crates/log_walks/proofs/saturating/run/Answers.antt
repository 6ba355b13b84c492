use Rattle.std.proofs.Common.{◌≡◌, ◌∙◌, ◌-◌, Some, length, map, refl, ap, sym, subst, arith}
use Rattle.std.proofs.lemmas.List.{length-map}
use Rattle.spec_calculus.specs.Points.{numbered}
use Rattle.spec_saturation.specs.Log.{goal_key}
use Rattle.clause_form.specs.Seen.{clause_at}
use Rattle.clause_form.proofs.Fit.{clause_fit_at, AreFit-grow, clauses_grow}
use Rattle.log_walks.proofs.Giving.{all_but_last, fit_front}
use Rattle.log_entries.proofs.Placing.{number_given}
use Rattle.log_walks.proofs.Stepping.{gone_by}
use Rattle.log_walks.proofs.saturating.run.Goals as goal

pub walk_to_goal-requires : goal.walk_to_goal-requires
walk_to_goal-requires g c = λ κs h. (
    let all = g.B.Bank.trees c.args.bank.now in
    let given = c.args.given.now in
    (h, (all_but_last all given (length given - 1) g.task c.requires.1.0 refl c.requires.1.1.0, (fit_front all given (length given - 1) c.requires.1.1.1.0, (c.requires.1.1.1.1.0, c.requires.1.1.1.1.1)))))

pub walk_from_goal-requires : goal.walk_from_goal-requires
walk_from_goal-requires g c = λ κs h. (
    let old = g.B.Bank.trees c.args.bank.now in
    let all = g.B.Bank.trees c.walk_to_goal.new.bank in
    let given = c.args.given.now in
    let last = c.index-given-number.result in
    let some = c.requires.1.0 in
    let grows = c.in_ok-stop.ensures.grows in
    let fit = AreFit-grow old all given grows c.requires.1.1.1.0 in
    let are : map (clause_at all) given ≡ g.task.given = clauses_grow old all given grows c.requires.1.1.1.0 ∙ c.requires.1.1.0 in
    let count : length given ≡ length g.task.given = sym (length-map given (clause_at all)) ∙ ap length are in
    let is : numbered g.task.given (length given) ≡ Some (clause_at all last) = subst (λ xs. numbered xs (length given) ≡ Some (clause_at all last)) are (number_given all given (length given) last c.index-given-number.is some (omega arith)) in (
      h,
      (
        count,
        (
          is,
          (
            clause_fit_at all given (length given - 1) last c.index-given-number.is fit (omega (arith, some)),
            (c.requires.1.1.1.1.0, gone_by all g.task c.walk_to_goal.new.walk (goal_key g.task.given (length c.walk_to_goal.new.walk.items.items)) c.in_ok-stop.field-0 c.in-None.is c.in_ok-stop.ensures.arrived),
          ),
        ),
      ),
    ))
