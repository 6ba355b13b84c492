use Rattle.std.proofs.Common.{◌≡◌, ◌∙◌, List, ap, sym, subst, arith}
use Rattle.std.proofs.lemmas.Grind.{common_steps}
use Rattle.clause_saturate.specs.Common.{Shared}
use Rattle.clause_translate.specs.Whole.{TranslatesTo}
use Rattle.query_verify.specs.Asked.{protocol_at}
use Rattle.query_verify.specs.Settled.{AreGoalBehind, shared_of}
use Rattle.query_verify.proofs.Commons.{goal_behind, kept_back}
use Rattle.query_verify.proofs.sharing.finished.Goals as goal
use Rattle.clause_form.specs.Seen.{IdClause}

pub gone_on-answer-requires : goal.gone_on-answer-requires
gone_on-answer-requires g c = λ κs h. (
    let old = g.B.Bank.trees c.args.bank.now in
    let mid = g.B.Bank.trees c.with_goal.new.bank in
    let P = protocol_at c.args.question.now in
    let number = c.args.question.now.query in
    let budget = c.args.question.now.budget in
    let all = c.in_ok-all.all in
    let t = c.in_ok-all.ensures.translates in
    let same : c.deref.result.now ≡ all = c.deref.ensures.value ∙ c.all.view_is in
    let copied = goal_behind P old mid c.in_ok-copied.copied all budget t.query (c.translations_have_one_goal.ensures.one P) (c.in_ok-all.ensures.names t.query t.is) in
    let behind : AreGoalBehind mid (shared_of old c.args.given.now budget) all = subst (λ (cs : List IdClause). AreGoalBehind mid (shared_of old cs budget) all) c.in_ok-copied.ensures copied in
    let shared : AreGoalBehind mid g.shared all = subst (λ (s : Shared). AreGoalBehind mid s all) (sym c.requires.1.1.1.0) behind in (
      h,
      (
        c.requires.1.0,
        (
          subst (λ (cs : List IdClause). TranslatesTo P number mid cs) (sym same) t,
          (
            subst (λ (cs : List IdClause). AreGoalBehind mid g.shared cs) (sym same) shared,
            (
              ap (λ s. s.budget) c.requires.1.1.1.0,
              (
                c.commons_serve_each_goal.ensures.grown old mid g.shared c.args.sharing.now.common c.in_ok-all.ensures.grows c.requires.1.1.1.1.0,
                c.known_rows_outlast_growth.ensures.grown old mid c.args.sharing.now.known c.in_ok-all.ensures.grows c.requires.1.1.1.1.1,
              ),
            ),
          ),
        ),
      ),
    ))

pub returns-clause-kept : goal.returns-clause-kept
returns-clause-kept g c =
    kept_back (g.B.Bank.trees c.args.bank.now) (g.B.Bank.trees c.with_goal.new.bank) c.args.sharing.now.known c.gone_on-answer.new.sharing.known c.gone_on-answer.result (c.known_rows_outlast_growth.ensures.back _ _)
    c.in_ok-all.ensures.grows c.requires.1.1.1.1.1 c.gone_on-answer.ensures.live c.gone_on-answer.ensures.given c.gone_on-answer.ensures.kept

pub returns-clause-grows : goal.returns-clause-grows
returns-clause-grows g c = grind (arith, common_steps)

pub returns-in_err-copied-clause-grows : goal.returns-in_err-copied-clause-grows
returns-in_err-copied-clause-grows g c = grind (arith, common_steps)

pub with_goal-requires-clause-common : goal.with_goal-requires-clause-common
with_goal-requires-clause-common g c = grind (arith, common_steps)
