-- Facts of a bank without the one at a place.
use Rattle.std.proofs.Common.{◌≡◌, ℕ, suc, List, ◌++◌, map, take, drop, sym, ap, ◌∙◌}
use Rattle.std.specs.List.{remove}
use Rattle.std.proofs.lemmas.List.{map-append, take-map, drop-map}
use Rattle.spec_clauses.specs.Fact.{Fact}
use Rattle.term_tree.specs.declared.bank.Id.{Id}
use Rattle.clause_form.specs.declared.facts.Fact as declared
use Rattle.clause_form.specs.Facts.{fact_of}

pub map_remove : {X Y : Type 0} (f : X → Y) (xs : List X) (at : ℕ) → map f (remove xs at) ≡ remove (map f xs) at
map_remove f xs at = map-append f (take at xs) (drop (suc at) xs) ∙ (λ i. sym (take-map f at xs) i ++ sym (drop-map f (suc at) xs) i)

pub removed : (xs new : List declared.Fact) (facts : List (Fact Id)) (at : ℕ) → new ≡ remove xs at → map fact_of xs ≡ facts → map fact_of new ≡ remove facts at
removed xs new facts at gone is = ap (map fact_of) gone ∙ (map_remove fact_of xs at ∙ ap (λ l. remove l at) is)
