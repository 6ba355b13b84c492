-- The law, from the lemmas that prove its two directions.
use Rattle.spec_protocol_scope.proofs.Plain.{term_is_expression, expression_is_term}
use Rattle.spec_protocol_scope.proofs.terms_are_expressions.Goals as goal

pub returns : goal.returns
returns c = λ s bound t x. (λ h. term_is_expression s bound t x h, λ h. expression_is_term s bound t x h)
