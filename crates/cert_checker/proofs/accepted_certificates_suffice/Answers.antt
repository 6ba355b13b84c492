use Rattle.std.proofs.Common.{List, subst}
use Rattle.spec_terms.specs.Term.{Term}
use Rattle.spec_clauses.specs.Fact.{Clause}
use Rattle.spec_derivations.specs.Derivation.{Derive}
use Rattle.spec_translation.specs.Translation.{Clauses}
use Rattle.cert_checker.proofs.Sufficing.{one_list}
use Rattle.cert_checker.proofs.accepted_certificates_suffice.Goals as goal

pub returns : goal.returns
returns c = λ P q cert accepted given events facts is derived.
    let (shown_of, shown) = c.accepted_certificates_show.ensures P q cert accepted in
    let same = one_list given shown_of (c.one_translation.ensures P q (Clauses given) (Clauses shown_of) is shown.translation) in
    c.solved_clauses_suffice.ensures.suffice shown_of cert.clauses shown.closes events facts (subst (λ (l : List (Clause Term)). Derive l events facts) same derived)
