use Rattle.std.proofs.Common.{[], ◌∷◌, subst, arith}
use Rattle.pi_tree.specs.Patterns.{pattern_of}
use Rattle.spec_translation.specs.Conversion.{pattern_term}
use Rattle.spec_translation.specs.Visit.{Visit}
use Rattle.spec_translation.specs.InTerms.{numbered_behind, value_in}
use Rattle.term_tree.specs.Bank.{Names}
use Rattle.term_tree.proofs.BankLaws.{Names-grows}
use Rattle.unified_visits.specs.Places.{protocol_at}
use Rattle.visit_choices.proofs.Choosing.{named_alone}
use Rattle.else_visits.proofs.Excluded.{diff_shows}
use Rattle.else_visits.proofs.SideRows.{parts_counted}
use Rattle.else_visits.proofs.otherwise.finish_side.Goals as goal

pub pattern_behind-requires : goal.pattern_behind-requires
pattern_behind-requires g c = c.requires.2.visit.known

pub index-value-requires : goal.index-value-requires
index-value-requires g c =
    let P = protocol_at c.args.choosing.now.place.now in
    let has = c.requires in
    omega (arith, c.args.sides.ids.ok.0, parts_counted P c.args.choosing.now.visit.now has.0 (g.B.Bank.trees c.args.bank.now) (has.1 ∷ []) c.args.sides has.2)

pub returns-clause-shows : goal.returns-clause-shows
returns-clause-shows g c =
    let old = g.B.Bank.trees c.args.bank.now in
    let new = g.B.Bank.trees c.pattern_behind.new.bank in
    let P = protocol_at c.args.choosing.now.place.now in
    let w = c.args.choosing.now.visit.now in
    let pattern = pattern_of c.args.choosing.now.pattern.now in
    let sides = c.args.sides in
    let value = c.index-value.result.now in
    let target = c.in_ok-target.target in
    λ v ruled is.
    let t = value_in P v.scope w.next ruled in
    let named_value = Names-grows old new value t c.pattern_behind.ensures.grows (named_alone old sides.ids.items t value is.terms c.index-value.ensures) in
    let named_target = subst (λ (x : Visit). Names new target (pattern_term P x.scope (numbered_behind sides.next) pattern)) is.visit.is c.in_ok-target.ensures.names in
    diff_shows P w v pattern ruled old new sides is c.pattern_behind.ensures.grows _ _ value target named_value named_target c.in_ok-left.ensures c.in_ok-right.ensures
