-- Moving the bound variables of terms is writing the sides that they are.
use Rattle.std.proofs.Common.{◌≡◌, ℕ, List, map, sym}
use Rattle.spec_trees.specs.Tree.{Leaf, bind}
use Rattle.spec_terms.specs.Term.{Term}
use Rattle.spec_clauses.specs.Shown.{slot_shown}
use Rattle.spec_certificate_text.specs.Sides.{slot_number, side_in_terms}
use Rattle.spec_clauses.proofs.Diffs.{maps_after}
use Rattle.cert_form.specs.Moving.{moved}

pub moved_sides : (first next : ℕ) (ts : List Term) → map (bind (moved first next)) ts ≡ map (side_in_terms next) (map (bind (λ x. Leaf (slot_shown first x))) ts)
moved_sides first next ts = sym (maps_after (λ x. Leaf (slot_number next x)) (λ x. Leaf (slot_shown first x)) ts)
