-- The loose hypotheses, by their variables.
use Rattle.std.proofs.Common.{◌≡◌, List, [], ◌∷◌, refl, ap}
use Rattle.spec_trees.specs.Tree.{Leaf, Node}
use Rattle.spec_terms.specs.Term.{Term}
use Rattle.spec_clauses.specs.Fact.{Fact, Att, Mess, Tab, Ev, Mev, Bad}
use Rattle.spec_clauses.specs.Subsumption.{loose}
use Rattle.spec_placements.specs.Placing.{loose_variables, all_known}

pub loose_is_known : (hs : List (Fact Term)) → loose hs ≡ all_known (loose_variables hs)
loose_is_known [] = refl
loose_is_known (Att k (Leaf x) ∷ hs) = ap (λ fs. Att k (Leaf x) ∷ fs) (loose_is_known hs)
loose_is_known (Att k (Node f args) ∷ hs) = loose_is_known hs
loose_is_known (Mess k t u ∷ hs) = loose_is_known hs
loose_is_known (Tab n ts ∷ hs) = loose_is_known hs
loose_is_known (Ev e ts ∷ hs) = loose_is_known hs
loose_is_known (Mev e ts ∷ hs) = loose_is_known hs
loose_is_known (Bad ts ∷ hs) = loose_is_known hs
