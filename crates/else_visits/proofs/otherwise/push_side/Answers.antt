use Rattle.std.proofs.Common.{refl, subst}
use Rattle.pi_tree.specs.Terms.{term_of}
use Rattle.spec_translation.specs.Conversion.{term_in}
use Rattle.spec_translation.specs.Visit.{Visit}
use Rattle.term_tree.specs.Bank.{Names}
use Rattle.unified_visits.specs.Places.{protocol_at}
use Rattle.else_visits.proofs.SideRows.{sides_pushed}
use Rattle.else_visits.proofs.otherwise.push_side.Goals as goal

pub returns-clause-parts : goal.returns-clause-parts
returns-clause-parts g c =
    let old = g.B.Bank.trees c.args.bank.now in
    let new = g.B.Bank.trees c.term_in.new.bank in
    let P = protocol_at c.args.choosing.now.place.now in
    let t = term_of c.args.term.now in
    λ v parts before.
    sides_pushed P c.args.choosing.now.visit.now v old new parts c.args.sides.now _ c.in_ok-id.id t c.term_in.ensures.grows before
    (subst (λ (x : Visit). Names new c.in_ok-id.id (term_in P x.scope t)) before.visit.is c.in_ok-id.ensures.names) c.in_ok-push.ensures.items refl refl refl
