use Rattle.std.proofs.Common.{◌≡◌, ◌<◌, ◌∙◌, ℕ, Some, List, length, map, get_or, refl, sym, ap, subst, arith}
use Rattle.std.proofs.lemmas.Grind.{common_steps}
use Rattle.std.proofs.lemmas.List.{length-map, get_or-map}
use Rattle.spec_calculus.specs.Values as calculus
use Rattle.fact_classes.specs.Classes.{IsClassListed}
use Rattle.pi_tree.specs.Values.{value_of}
use Rattle.attack_state.proofs.Knowing.{knows_more}
use Rattle.attack_state.proofs.values.Known.reach.Goals as goal

pub each-preserved : goal.each-preserved
each-preserved c =
    let known = c.args.known.now in
    let items = c.known.inside.items.items in
    let count = c.each.self.count in
    let v = value_of c.index.result.now in
    let long : length known ≡ length items = sym (ap length c.known.view_is) ∙ length-map items value_of in
    let within : count < length items = omega (arith, c.each-test.true, c.len.ensures, long) in
    let there : get_or (map value_of items) count v ≡ value_of (get_or items count c.index.result.now) = get_or-map value_of items count c.index.result.now v within in
    let is : v ≡ get_or known count v = ap value_of c.index.ensures ∙ (sym there ∙ ap (λ (vs : List calculus.Value). get_or vs count v) c.known.view_is) in
    let more = subst (λ (k : ℕ). IsClassListed (Some k) count c.each.self.classes c.push.new.self) c.value_key-class.ensures.key c.in_ok-push.ensures in
    knows_more known c.each.self _ v is (omega (arith, within, long)) refl more c.each.invariant

pub each-smaller : goal.each-smaller
each-smaller c = grind (arith, common_steps)
