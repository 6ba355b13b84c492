use Rattle.std.proofs.Common.{◌∙◌, refl, sym, subst, rules}
use Rattle.fact_reader.specs.Reads.{left_of, Finds}
use Rattle.cert_text.proofs.Running.{run_start, run_on, run_fault, run_end, run_over}
use Rattle.cert_text.proofs.shared_claims.run.Goals as goal

pub loop-round-init : goal.loop-round-init
loop-round-init c = record { read = run_start _ _; same = refl }

pub returns-then-front-ne115-clause-read : goal.returns-then-front-ne115-clause-read
returns-then-front-ne115-clause-read c =
    subst (λ o. Finds (λ _. tt) c.pass.result c.pass.new.self.at (left_of c.pass.new.self) o) (sym (run_end _ _ _ _ _ _ c.loop-round.invariant.read c.front.ensures.is c.if-front-ne115.true)) c.pass.ensures.read

pub returns-in_err-step-clause-read : goal.returns-in_err-step-clause-read
returns-in_err-step-clause-read c =
    let fault = run_fault _ _ _ _ _ _ _ c.in_err-step.field-0.0 c.loop-round.invariant.read c.loop-round-test.true c.front.ensures.is c.if-front-ne115.false c.in_err-step.ensures.read in search (rules, fault)

pub loop-round-preserved : goal.loop-round-preserved
loop-round-preserved c = record {
  read = run_on _ _ _ _ _ _ _ _ _ _ c.loop-round.invariant.read c.loop-round-test.true c.front.ensures.is c.if-front-ne115.false c.in_ok-step.ensures.read;
  same = c.in_ok-step.ensures.same ∙ c.loop-round.invariant.same;
}

pub returns-then-front-eq115-clause-read : goal.returns-then-front-eq115-clause-read
returns-then-front-eq115-clause-read c = run_over _ _ _ _ _ _ _ c.loop-round.invariant.read c.loop-round-test.false c.front-2.ensures.is c.if-front-eq115.true

pub returns-clause-read : goal.returns-clause-read
returns-clause-read c =
    subst (λ o. Finds (λ _. tt) c.pass-2.result c.pass-2.new.self.at (left_of c.pass-2.new.self) o) (sym (run_end _ _ _ _ _ _ c.loop-round.invariant.read c.front-2.ensures.is c.if-front-eq115.false)) c.pass-2.ensures.read
