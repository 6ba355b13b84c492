use Rattle.std.proofs.Common.{◌≡◌, ◌+◌, ◌*◌, ◌≤◌, List, length, arith}
use Rattle.spec_trees.specs.Tree.{Leaf}
use Rattle.spec_calculus.specs.Bounds.{most_visits}
use Rattle.spec_calculus.specs.Syntax.{Free, Secret}
use Rattle.spec_terms.specs.Term.{Term}
use Rattle.spec_clauses.specs.Fact.{Clause}
use Rattle.spec_translation.specs.Translation.{Clauses, IsTranslation}
use Rattle.spec_ring_text.specs.Meaning.{ring_protocol}
use Rattle.spec_ring_text.proofs.Sizes.{with_keys}
use Rattle.spec_ring_text.proofs.Translated.{ring_translated}
use Rattle.spec_ring_text.proofs.ring_translations.Goals as goal

pub returns : goal.returns
returns c = λ n two fits.
    with_keys (λ n. 2 ≤ n → 7 * n + 2 ≤ most_visits → (all : List (Clause Term)) × IsTranslation (ring_protocol n) (Secret (Leaf (Free 2)) 0) (Clauses all) × (length all ≡ n + 8))
    (λ m more fits. ring_translated m (omega arith) fits) n (omega arith) two fits
