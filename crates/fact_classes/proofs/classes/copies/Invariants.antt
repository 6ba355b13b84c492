use Rattle.std.proofs.Common.{◌≡◌, map, take}
use Rattle.fact_classes.proofs.classes.copies.Given as goal

abbrev pub invariant-each : goal.invariant-each
invariant-each l = map (λ v. v.items) l.copied.items ≡ map (λ v. v.items) (take l.list-index l.lists)
