use Rattle.spec_terms.specs.Binding.{Solves}
use Rattle.spec_terms.proofs.Resolve.{resolved-most_general}
use Rattle.unify_match.specs.Seen.{seen}
use Rattle.unify_match.proofs.SeenLemmas.{IsReady-sound}
use Rattle.unify_match.proofs.ready_bindings_are_most_general.Goals as goal

pub returns : goal.returns
returns c = λ all pairs ready. resolved-most_general (λ s. Solves s (seen all pairs)) (seen all pairs) (IsReady-sound all pairs ready) (λ s. (λ h. h, λ h. h))
