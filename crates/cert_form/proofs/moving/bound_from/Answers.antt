use Rattle.std.proofs.Common.{◌∙◌, map, ap}
use Rattle.spec_certificate_text.specs.Sides.{side_in_terms}
use Rattle.cert_form.proofs.MovedSides.{moved_sides}
use Rattle.cert_form.proofs.moving.bound_from.Goals as goal

pub returns-clause-left : goal.returns-clause-left
returns-clause-left c =
    c.in_ok-left.ensures ∙ (moved_sides c.diff.inside.first c.args.next c.diff.inside.left ∙ ap (map (side_in_terms c.args.next)) (λ i. (c.diff.view_is i).left))

pub returns-clause-right : goal.returns-clause-right
returns-clause-right c =
    c.in_ok-right.ensures ∙ (moved_sides c.diff.inside.first c.args.next c.diff.inside.right ∙ ap (map (side_in_terms c.args.next)) (λ i. (c.diff.view_is i).right))
