use Rattle.std.proofs.Common.{◌≡◌, ◌∙◌, ap, true, Some, None, [], ◌∷◌, refl, subst, arith}
use Rattle.pi_tree.specs.Patterns.{pattern_of}
use Rattle.spec_terms.specs.Binding.{resolved}
use Rattle.spec_translation.specs.Conversion.{term_in, rule_term}
use Rattle.spec_translation.specs.Choice.{with_pattern}
use Rattle.spec_translation.specs.Visit.{Visit, visit_under, is_large_visit}
use Rattle.spec_translation.specs.Applied.{ruled_term}
use Rattle.term_tree.specs.Bank.{tree_at}
use Rattle.term_tree.proofs.BankLaws.{Grows_trans, Names-grows}
use Rattle.unify_match.specs.Seen.{seen}
use Rattle.unify_match.specs.Outcome.{Unified, NoUnifier}
use Rattle.visit_choices.specs.declared.ways.Way.TheVariants as ways
use Rattle.unified_visits.specs.declared.visit.Visit as source
use Rattle.unified_visits.specs.Places.{protocol_at}
use Rattle.unified_visits.specs.Visits.{visit_at, NamesVisit}
use Rattle.visit_choices.proofs.ButForDiffs.{like_trees}
use Rattle.visit_choices.proofs.Choosing.{chosen_nowhere, chosen_below, chosen_there, large_as, went_as, named_alone, way_is, made_known}
use Rattle.visit_choices.proofs.Branches.{if_true, if_false}
use Rattle.visit_choices.proofs.Passing.{at_end, one_passes}
use Rattle.visit_choices.proofs.RuledRows.{ids_counted, row_grows}
use Rattle.visit_choices.proofs.choices.finish.Goals as goal

pub index-value-requires : goal.index-value-requires
index-value-requires g c =
    let old = g.B.Bank.trees c.args.bank.now in
    let P = protocol_at c.args.choosing.now.place.now in
    let w = c.args.choosing.now.visit.now in
    let has = c.requires.stands in
    let end = at_end P w has.0 has.1 old c.args.walk.now has.2 in
    omega (arith, c.args.walk.now.row.ids.ok.0, ids_counted P w has.0 old (end.ruled ∷ []) c.args.walk.now.row end.row)

pub unify-requires-clause-left_known : goal.unify-requires-clause-left_known
unify-requires-clause-left_known g c =
    let old = g.B.Bank.trees c.args.bank.now in
    let mid = g.B.Bank.trees c.with_pattern.new.bank in
    let P = protocol_at c.args.choosing.now.place.now in
    let w = c.args.choosing.now.visit.now in
    let has = c.requires.stands in
    let end = at_end P w has.0 has.1 old c.args.walk.now has.2 in
    let t = ruled_term P (term_in P has.0.scope) (rule_term P) w.next end.ruled in
    let value = c.index-value.result.now in
    (Names-grows old mid value t c.with_pattern.ensures.grows (named_alone old c.args.walk.now.row.ids.items t value end.row.terms c.index-value.ensures)).known

pub unify-requires-clause-ready : goal.unify-requires-clause-ready
unify-requires-clause-ready g c =
    let old = g.B.Bank.trees c.args.bank.now in
    let mid = g.B.Bank.trees c.with_pattern.new.bank in
    let P = protocol_at c.args.choosing.now.place.now in
    let w = c.args.choosing.now.visit.now in
    let has = c.requires.stands in
    let end = at_end P w has.0 has.1 old c.args.walk.now has.2 in
    (row_grows P w has.0 old mid (end.ruled ∷ []) c.args.walk.now.row c.with_pattern.ensures.grows end.row).solved.ready

pub returns-then-not-branch-clause-passes : goal.returns-then-not-branch-clause-passes
returns-then-not-branch-clause-passes g c =
    let old = g.B.Bank.trees c.args.bank.now in
    let mid = g.B.Bank.trees c.with_pattern.new.bank in
    let P = protocol_at c.args.choosing.now.place.now in
    let w = c.args.choosing.now.visit.now in
    let row = c.args.walk.now.row in
    let x = c.args.visit.now in
    let pattern = pattern_of c.args.choosing.now.pattern.now in
    let value = c.index-value.result.now in
    let made = c.in_ok-made.made in
    let target = c.in_ok-made.target in
    let a = tree_at mid value in
    let b = tree_at mid target in
    let never = if_false c.in_ok-unify.field-0 (Unified mid row.binds.pairs c.unify.new.binds.pairs a b) (NoUnifier mid row.binds.pairs a b) c.if-not-branch.true c.in_ok-unify.ensures.outcome in
    λ v rs was.
    let end = at_end P w v rs old c.args.walk.now was in
    let t = ruled_term P (term_in P v.scope) (rule_term P) w.next end.ruled in
    let same = like_trees old w x v c.requires.like.is end.row.visit.is in
    let named = Names-grows old mid value t c.with_pattern.ensures.grows (named_alone old row.ids.items t value end.row.terms c.index-value.ensures) in
    one_passes P v pattern rs (λ m o. x ≡ w → NamesVisit mid m o) end.ruled end.more ways.Nowhere None end.are
    (chosen_nowhere P w v pattern end.ruled mid row (row_grows P w v old mid (end.ruled ∷ []) row c.with_pattern.ensures.grows end.row) (visit_at old x) same made target c.in_ok-made.ensures.names value named never) (refl, tt)

pub visit_under-requires-clause-below : goal.visit_under-requires-clause-below
visit_under-requires-clause-below g c =
    let old = g.B.Bank.trees c.args.bank.now in
    let mid = g.B.Bank.trees c.with_pattern.new.bank in
    let P = protocol_at c.args.choosing.now.place.now in
    let w = c.args.choosing.now.visit.now in
    let row = c.args.walk.now.row in
    let x = c.args.visit.now in
    let pattern = pattern_of c.args.choosing.now.pattern.now in
    let value = c.index-value.result.now in
    let made = c.in_ok-made.made in
    let target = c.in_ok-made.target in
    let a = tree_at mid value in
    let b = tree_at mid target in
    let unified = if_true c.in_ok-unify.field-0 (Unified mid row.binds.pairs c.unify.new.binds.pairs a b) (NoUnifier mid row.binds.pairs a b) c.if-not-branch.false c.in_ok-unify.ensures.outcome in
    let has = c.requires.stands in
    let v = has.0 in
    let end = at_end P w v has.1 old c.args.walk.now has.2 in
    let t = ruled_term P (term_in P v.scope) (rule_term P) w.next end.ruled in
    let same = like_trees old w x v c.requires.like.is end.row.visit.is in
    let named = Names-grows old mid value t c.with_pattern.ensures.grows (named_alone old row.ids.items t value end.row.terms c.index-value.ensures) in
    chosen_below P w v pattern end.ruled mid row (row_grows P w v old mid (end.ruled ∷ []) row c.with_pattern.ensures.grows end.row) (visit_at old x) same made target c.in_ok-made.ensures.names value named c.unify.new.binds.pairs c.in_ok-unify.ensures.ready unified

pub returns-clause-passes : goal.returns-clause-passes
returns-clause-passes g c =
    let old = g.B.Bank.trees c.args.bank.now in
    let mid = g.B.Bank.trees c.with_pattern.new.bank in
    let new = g.B.Bank.trees c.visit_under.new.bank in
    let P = protocol_at c.args.choosing.now.place.now in
    let w = c.args.choosing.now.visit.now in
    let row = c.args.walk.now.row in
    let x = c.args.visit.now in
    let pattern = pattern_of c.args.choosing.now.pattern.now in
    let value = c.index-value.result.now in
    let made = c.in_ok-made.made in
    let target = c.in_ok-made.target in
    let pairs = c.unify.new.binds.pairs in
    let a = tree_at mid value in
    let b = tree_at mid target in
    let s = resolved (seen mid pairs) in
    let bound = c.in_ok-made.ensures.names in
    let unified = if_true c.in_ok-unify.field-0 (Unified mid row.binds.pairs pairs a b) (NoUnifier mid row.binds.pairs a b) c.if-not-branch.false c.in_ok-unify.ensures.outcome in
    λ v rs was.
    let end = at_end P w v rs old c.args.walk.now was in
    let t = ruled_term P (term_in P v.scope) (rule_term P) w.next end.ruled in
    let same = like_trees old w x v c.requires.like.is end.row.visit.is in
    let named = Names-grows old mid value t c.with_pattern.ensures.grows (named_alone old row.ids.items t value end.row.terms c.index-value.ensures) in
    let grown = row_grows P w v old mid (end.ruled ∷ []) row c.with_pattern.ensures.grows end.row in
    let under = visit_under s (visit_at mid made) in
    let went = visit_under s (with_pattern v pattern bound.at) in
    let told : (m : source.Visit) → NamesVisit new m under → x ≡ w → NamesVisit new m went = λ m names e.
    subst (λ (y : Visit). NamesVisit new m y) (went_as P w v pattern end.ruled mid row grown (visit_at old x) same made target bound s (ap (visit_at old) e ∙ end.row.visit.is)) names in
    one_passes P v pattern rs (λ m o. x ≡ w → NamesVisit new m o) end.ruled end.more c.way_to.result (Some went) end.are
    (chosen_there P w v pattern end.ruled mid row grown (visit_at old x) same made target bound value named pairs c.in_ok-unify.ensures.ready unified)
    (way_is (λ m o. x ≡ w → NamesVisit new m o) new under went (large_as P w v pattern end.ruled mid row grown (visit_at old x) same made target bound s) told c.in_ok-found.found c.way_to.result c.in_ok-found.ensures.under c.way_to.ensures)

pub overflow_add-from : goal.overflow_add-from
overflow_add-from g c = omega (arith, c.requires.stands.2.fit.room)

pub with_pattern-requires-clause-visit : goal.with_pattern-requires-clause-visit
with_pattern-requires-clause-visit g c = c.requires.like.known

pub with_pattern-requires-clause-up : goal.with_pattern-requires-clause-up
with_pattern-requires-clause-up g c = omega (arith, c.requires.stands.2.row.next_is, ap (λ (v : source.Visit). v.next) c.requires.like.is)

pub unify-requires-clause-right_known : goal.unify-requires-clause-right_known
unify-requires-clause-right_known g c = c.in_ok-made.ensures.names.term.known

pub visit_under-requires-clause-visit : goal.visit_under-requires-clause-visit
visit_under-requires-clause-visit g c = c.in_ok-made.ensures.names.visit.known

pub way_to-requires : goal.way_to-requires
way_to-requires g c =
    let mid = g.B.Bank.trees c.with_pattern.new.bank in
    let under = visit_under (resolved (seen mid c.unify.new.binds.pairs)) (visit_at mid c.in_ok-made.made) in
    made_known (g.B.Bank.trees c.visit_under.new.bank) under (is_large_visit under ≡ true) c.in_ok-found.found c.in_ok-found.ensures.under

pub returns-in_err-unify-clause-grows : goal.returns-in_err-unify-clause-grows
returns-in_err-unify-clause-grows g c = c.with_pattern.ensures.grows

pub returns-then-not-branch-clause-grows : goal.returns-then-not-branch-clause-grows
returns-then-not-branch-clause-grows g c = c.with_pattern.ensures.grows

pub returns-in_err-found-clause-grows : goal.returns-in_err-found-clause-grows
returns-in_err-found-clause-grows g c = Grows_trans (g.B.Bank.trees c.args.bank.now) (g.B.Bank.trees c.with_pattern.new.bank) (g.B.Bank.trees c.visit_under.new.bank) c.with_pattern.ensures.grows c.visit_under.ensures.grows

pub returns-clause-grows : goal.returns-clause-grows
returns-clause-grows g c = Grows_trans (g.B.Bank.trees c.args.bank.now) (g.B.Bank.trees c.with_pattern.new.bank) (g.B.Bank.trees c.visit_under.new.bank) c.with_pattern.ensures.grows c.visit_under.ensures.grows
