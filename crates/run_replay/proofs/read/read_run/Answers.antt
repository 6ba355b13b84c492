use Rattle.std.proofs.Common.{◌<◌, ◌+◌, [], ◌∷◌, map, length, sym, ◌∙◌, ap, subst}
use Rattle.std.proofs.lemmas.List.{map-append}
use Rattle.std.proofs.lemmas.Result.{err_from_is_err_and}
use Rattle.std.specs.Prelude.{unwrap_or, ◌==◌}
use Rattle.pi_model.specs.Steps.{step_of}
use Rattle.spec_run_text.specs.Reading.{read_line}
use Rattle.run_replay.specs.Error.{fault_of}
use Rattle.run_replay.specs.Cut.{behind_first}
use Rattle.run_replay.proofs.Reading.{IsSoFar, IsSoFar-push, IsSoFar-end, behind_or_nothing, behind_is_shorter, fault_from_line, no_fault, that_fault, refused_at, some_left, none_left}
use Rattle.run_replay.proofs.read.read_run.Goals as goal

pub returns-in_err-read_line-clause-refused : goal.returns-in_err-read_line-clause-refused
returns-in_err-read_line-clause-refused c =
    let some = some_left c.loop-rest.rest.now c.is_empty.result c.is_empty.ensures c.loop-rest-test.true in
    let fault = fault_from_line _ _ _ _ _ (fault_of c.in_err-read_line.field-0.0) c.loop-rest.invariant some c.cut.ensures.front c.in_err-read_line.ensures in
    let p = err_from_is_err_and c.from_residual.result c.from_residual.ensures.1 in
    rw (p.1, p.2) (refused_at c.args.source.now (fault_of c.in_err-read_line.field-0.0) (λ f n e. (c.reading_is_exact.ensures.refusal c.args.source.now f n).0 e) fault)

pub returns-in_err-read_line-clause-accepts : goal.returns-in_err-read_line-clause-accepts
returns-in_err-read_line-clause-accepts c =
    let some = some_left c.loop-rest.rest.now c.is_empty.result c.is_empty.ensures c.loop-rest-test.true in
    let fault = fault_from_line _ _ _ _ _ (fault_of c.in_err-read_line.field-0.0) c.loop-rest.invariant some c.cut.ensures.front c.in_err-read_line.ensures in
    let p = err_from_is_err_and c.from_residual.result c.from_residual.ensures.1 in
    rw (p.1, p.2) (λ steps spelled. no_fault c.args.source.now steps (fault_of c.in_err-read_line.field-0.0) fault ((c.reading_is_exact.ensures.steps c.args.source.now steps).1 spelled))

pub returns-in_err-read_line-clause-refuses : goal.returns-in_err-read_line-clause-refuses
returns-in_err-read_line-clause-refuses c =
    let some = some_left c.loop-rest.rest.now c.is_empty.result c.is_empty.ensures c.loop-rest-test.true in
    let fault = fault_from_line _ _ _ _ _ (fault_of c.in_err-read_line.field-0.0) c.loop-rest.invariant some c.cut.ensures.front c.in_err-read_line.ensures in
    let p = err_from_is_err_and c.from_residual.result c.from_residual.ensures.1 in
    rw (p.1, p.2) (λ f n refused. that_fault c.args.source.now f n (fault_of c.in_err-read_line.field-0.0) fault ((c.reading_is_exact.ensures.refusal c.args.source.now f n).1 refused))

pub loop-rest-preserved : goal.loop-rest-preserved
loop-rest-preserved c =
    let some = some_left c.loop-rest.rest.now c.is_empty.result c.is_empty.ensures c.loop-rest-test.true in
    let read = ap read_line (sym c.cut.ensures.front) ∙ c.in_ok-read_line.ensures in
    let behind = sym c.cut.ensures.behind in
    let left = ap (λ o. unwrap_or o []) behind in
    let shorter = behind_is_shorter c.cut.result.1 c.loop-rest.rest.now c.cut.ensures.shorter some in
    let next = IsSoFar-push c.args.source.now c.loop-rest.number (map step_of c.loop-rest.items.items) c.loop-rest.rest.now (step_of c.in_ok-read_line.field-0) c.loop-rest.invariant some read (subst (λ xs. length xs < length c.loop-rest.rest.now) (sym left) shorter) in
    let pushed = ap (map step_of) c.in_ok-push.ensures.items ∙ map-append step_of c.loop-rest.items.items (c.in_ok-read_line.field-0 ∷ []) in
    let rest = ap (λ r. r.now) c.unwrap_or-rest.ensures ∙ behind_or_nothing c.cut.result.1 _ ∙ sym left in
    subst (IsSoFar c.args.source.now (c.loop-rest.number + 1) (map step_of c.push.new.self.items)) (sym rest)
    (subst (λ steps. IsSoFar c.args.source.now (c.loop-rest.number + 1) steps (unwrap_or (behind_first (λ x. x == 10) c.loop-rest.rest.now) [])) (sym pushed) next)

pub returns-clause-read : goal.returns-clause-read
returns-clause-read c =
    let all = IsSoFar-end _ _ _ _ c.loop-rest.invariant (none_left c.loop-rest.rest.now c.is_empty.result c.is_empty.ensures c.loop-rest-test.false) in
    (c.reading_is_exact.ensures.steps c.args.source.now (map step_of c.loop-rest.items.items)).0 all

pub returns-clause-accepts : goal.returns-clause-accepts
returns-clause-accepts c =
    let all = IsSoFar-end _ _ _ _ c.loop-rest.invariant (none_left c.loop-rest.rest.now c.is_empty.result c.is_empty.ensures c.loop-rest-test.false) in
    λ steps spelled. (let e = sym all ∙ (c.reading_is_exact.ensures.steps c.args.source.now steps).1 spelled in cc e)

pub returns-clause-refuses : goal.returns-clause-refuses
returns-clause-refuses c =
    let all = IsSoFar-end _ _ _ _ c.loop-rest.invariant (none_left c.loop-rest.rest.now c.is_empty.result c.is_empty.ensures c.loop-rest-test.false) in
    λ fault number refused. (let e = sym all ∙ (c.reading_is_exact.ensures.refusal c.args.source.now fault number).1 refused in cc e)
