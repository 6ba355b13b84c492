-- Tests of lists in two parts.
use Rattle.std.proofs.Common.{◌≡◌, ◌||◌, List, ◌++◌}
use Rattle.spec_calculus.specs.Syntax as calculus
use Rattle.spec_calculus.specs.Syntax.{Protocol}
use Rattle.spec_translation.specs.Conversion.{Scope}
use Rattle.process_visits.specs.Forms.{are_large_in}
use Rattle.spec_translation.specs.Conversion.{term_in}
use Rattle.spec_translation.specs.Visit.{is_large_term}
use Rattle.visit_choices.proofs.Tests.{any-append}

pub large-append : (P : Protocol) (scope : Scope) (xs ys : List calculus.Term) → are_large_in P scope (xs ++ ys) ≡ (are_large_in P scope xs || are_large_in P scope ys)
large-append P scope xs ys = any-append (λ t. is_large_term (term_in P scope t)) xs ys

pub ruleset of_lists = (large-append)
