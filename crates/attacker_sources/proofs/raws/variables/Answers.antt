use Rattle.std.proofs.Common.{◌∙◌, [], ◌∷◌, ◌++◌, map, ap}
use Rattle.std.proofs.lemmas.List.{map-append}
use Rattle.spec_trees.specs.Tree.{Leaf}
use Rattle.clause_diffs.specs.declared.plain.Tree.TheVariants.{Var}
use Rattle.clause_diffs.specs.Plain.{term_of}
use Rattle.attacker_sources.proofs.Known.{variables_next}
use Rattle.attacker_sources.proofs.raws.variables.Goals as goal

pub each-preserved : goal.each-preserved
each-preserved c =
    ap (map term_of) c.in_ok-push.ensures.items ∙ (map-append term_of c.each.items.items (Var c.each.number ∷ [])
    ∙ (ap (λ l. l ++ Leaf c.each.number ∷ []) c.each.invariant ∙ variables_next c.each.number))
