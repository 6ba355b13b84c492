use Rattle.std.proofs.Common.{subst, sym, ap, ◌∙◌, rules}
use Rattle.spec_certificate_text.specs.Terms as terms
use Rattle.spec_certificate_text.specs.Outcomes.{Faulty, next, read_number}
use Rattle.cert_text.specs.Seen.{GivesShared}
use Rattle.cert_text.proofs.Claimed.{more_claims}
use Rattle.cert_text.proofs.shared_claims.further.Goals as goal

pub returns-in_err-pass : goal.returns-in_err-pass
returns-in_err-pass c = λ claims some. subst (λ o. GivesShared c.from_residual.result o) (sym (more_claims _ _ claims some)) (search rules)

pub returns-in_err-number : goal.returns-in_err-number
returns-in_err-number c = λ claims some. subst (λ o. GivesShared c.from_residual-in_err-number.result o) (sym (more_claims _ _ claims some)) (search rules)

pub returns : goal.returns
returns c = λ claims some.
    more_claims _ _ claims some
    ∙ (ap (λ o. next o (λ _ from r. next (read_number r from) (λ n p r. Faulty from terms.Count))) c.in_ok-pass.ensures.read
    ∙ ap (λ o. next o (λ n p r. Faulty c.pass.new.self.at terms.Count)) c.in_ok-number.ensures.read)
