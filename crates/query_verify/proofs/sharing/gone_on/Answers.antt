use Rattle.std.proofs.Common.{◌-◌, length, sym, subst, arith}
use Rattle.std.proofs.lemmas.Grind.{common_steps}
use Rattle.spec_saturation.specs.Common.{with_goal}
use Rattle.clause_form.specs.Seen.{clause_at, IdClause}
use Rattle.clause_form.specs.Fit.{IsFit}
use Rattle.clause_form.proofs.Fit.{clause_fit_at, named_fit}
use Rattle.log_entries.specs.Logs.{IsLogOf}
use Rattle.clause_saturate.specs.Common.{saturated, log_of}
use Rattle.query_verify.specs.Asked.{protocol_at}
use Rattle.query_verify.proofs.Commons.{goal_some, finished_log, kept_back}
use Rattle.query_verify.proofs.Fitting.{small_query, translates_later}
use Rattle.query_verify.proofs.sharing.gone_on.Goals as goal

pub finish-requires : goal.finish-requires
finish-requires g c = λ κs h. (
    let all = g.B.Bank.trees c.args.bank.now in
    let P = protocol_at c.args.question.now in
    let given = c.args.given.now in
    let t = c.requires.1.1.0 in
    let limits = c.requires.1.0.limits in
    let fit = named_fit all given t.list t.names t.low (λ d has. c.translations_are_normal.ensures.normal P t.query t.list d t.translates has)
    (λ d has. c.translations_are_within_the_limit.ensures.all P t.query t.list d limits (small_query P c.args.question.now.query t.query limits t.is) t.translates has) in
    let some = goal_some all g.shared given c.requires.1.1.1.0 in
    (h, (c.requires.1.1.1.1.1.0, subst (λ (d : IdClause). IsFit all d) (sym c.in_ok-goal.ensures) (clause_fit_at all given (length given - 1) c.index-given-given.result c.index-given-given.is fit (omega (arith, some))))))

pub told-answer-requires-clause-given : goal.told-answer-requires-clause-given
told-answer-requires-clause-given g c =
    translates_later (protocol_at c.args.question.now) c.args.question.now.query (g.B.Bank.trees c.args.bank.now) (g.B.Bank.trees c.finish.new.bank) c.args.given.now c.finish.ensures.grows c.requires.1.1.0

pub told-answer-requires-clause-log : goal.told-answer-requires-clause-log
told-answer-requires-clause-log g c =
    let old = g.B.Bank.trees c.args.bank.now in
    let new = g.B.Bank.trees c.finish.new.bank in
    let given = c.args.given.now in
    let end = saturated (log_of c.finish.new.common) c.in_ok-end.end in
    finished_log old new g.shared given c.index-given-given.result c.args.question.now.budget end c.requires.1.1.1.0 c.index-given-given.is c.requires.1.1.1.1.0 c.requires.1.1.0.names.known c.finish.ensures.grows
    (subst (λ (d : IdClause). IsLogOf new (with_goal g.shared.clauses (clause_at old d)) g.shared.budget end) c.in_ok-goal.ensures c.in_ok-end.ensures.log)

pub told-answer-requires-clause-kept : goal.told-answer-requires-clause-kept
told-answer-requires-clause-kept g c =
    c.known_rows_outlast_growth.ensures.grown (g.B.Bank.trees c.args.bank.now) (g.B.Bank.trees c.finish.new.bank) c.args.sharing.now.known c.finish.ensures.grows c.requires.1.1.1.1.1.1

pub returns-clause-kept : goal.returns-clause-kept
returns-clause-kept g c =
    kept_back (g.B.Bank.trees c.args.bank.now) (g.B.Bank.trees c.finish.new.bank) c.args.sharing.now.known c.told-answer.new.sharing.known c.told-answer.result (c.known_rows_outlast_growth.ensures.back _ _)
    c.finish.ensures.grows c.requires.1.1.1.1.1.1 c.told-answer.ensures.live c.told-answer.ensures.given c.told-answer.ensures.kept

pub returns-clause-common : goal.returns-clause-common
returns-clause-common g c = grind (arith, common_steps)

pub bounds-given-given : goal.bounds-given-given
bounds-given-given g c = grind (arith, common_steps)

pub returns-in_err-goal-clause-grows : goal.returns-in_err-goal-clause-grows
returns-in_err-goal-clause-grows g c = grind (arith, common_steps)

pub overflow_sub-given : goal.overflow_sub-given
overflow_sub-given g c = grind (arith, common_steps)

pub returns-clause-begun : goal.returns-clause-begun
returns-clause-begun g c = grind (arith, common_steps)

pub returns-clause-grows : goal.returns-clause-grows
returns-clause-grows g c = grind (arith, common_steps)

pub returns-clause-size : goal.returns-clause-size
returns-clause-size g c = grind (arith, common_steps)
