use Rattle.std.proofs.Common.{List, [], ◌∷◌, ◌++◌, map, ap, sym, subst, ◌∙◌, arith}
use Rattle.pi_tree.specs.Rules.{rule_of}
use Rattle.spec_translation.specs.Conversion.{rule_term}
use Rattle.term_tree.specs.Bank.{tree_at, AreKnown, Names}
use Rattle.term_tree.specs.declared.bank.Id.{Id}
use Rattle.unify_match.specs.Trail.{Trail}
use Rattle.unify_match.specs.Seen.{IsReady}
use Rattle.unify_match.specs.Outcome.{UnifiedAll, NoUnifierOfAll}
use Rattle.unify_match.proofs.SeenLemmas.{IsReady-grows}
use Rattle.clause_form.specs.Seen.{NameTerms}
use Rattle.unified_visits.specs.Places.{protocol_at}
use Rattle.unified_visits.proofs.Below.{width_few}
use Rattle.visit_choices.proofs.Branches.{if_true, if_false}
use Rattle.visit_choices.proofs.RuledRows.{arguments_known, paired, row_apart, row_called}
use Rattle.visit_choices.proofs.row.apply_rule.Goals as goal

pub unify_all-requires-clause-lefts_known : goal.unify_all-requires-clause-lefts_known
unify_all-requires-clause-lefts_known g c =
    let new = g.B.Bank.trees c.rename_rule.new.bank in
    let P = protocol_at c.args.choosing.now.place.now in
    let rule = rule_of c.args.rule.now in
    let has = c.requires.known in
    arguments_known P c.args.choosing.now.visit.now has.0 (g.B.Bank.trees c.args.bank.now) new has.1 c.args.row.now rule c.args.count c.rename_rule.ensures.grows has.2 c.requires.within c.requires.full c.deref.result.now c.deref-2.result.now
    (c.deref.ensures.value ∙ c.in_ok-arguments.ensures.taken)
    (subst (λ (l : List Id). NameTerms new l (map (rule_term P c.args.row.now.next) rule.left)) (sym (c.deref-2.ensures.value ∙ c.sides.view_is))
    (subst (λ k. NameTerms new c.in_ok-sides.sides (map (rule_term P k) rule.left)) c.take_last.ensures.next c.in_ok-sides.ensures.left))

pub unify_all-requires-clause-rights_known : goal.unify_all-requires-clause-rights_known
unify_all-requires-clause-rights_known g c = subst (λ (l : List Id). AreKnown (g.B.Bank.trees c.rename_rule.new.bank) l) (sym (c.deref-2.ensures.value ∙ c.sides.view_is)) c.in_ok-sides.ensures.left.known

pub unify_all-requires-clause-paired : goal.unify_all-requires-clause-paired
unify_all-requires-clause-paired g c =
    let new = g.B.Bank.trees c.rename_rule.new.bank in
    let P = protocol_at c.args.choosing.now.place.now in
    let rule = rule_of c.args.rule.now in
    let has = c.requires.known in
    paired P c.args.choosing.now.visit.now has.0 (g.B.Bank.trees c.args.bank.now) new has.1 c.args.row.now rule c.args.count c.rename_rule.ensures.grows has.2 c.requires.within c.requires.full c.deref.result.now c.deref-2.result.now
    (c.deref.ensures.value ∙ c.in_ok-arguments.ensures.taken)
    (subst (λ (l : List Id). NameTerms new l (map (rule_term P c.args.row.now.next) rule.left)) (sym (c.deref-2.ensures.value ∙ c.sides.view_is))
    (subst (λ k. NameTerms new c.in_ok-sides.sides (map (rule_term P k) rule.left)) c.take_last.ensures.next c.in_ok-sides.ensures.left))

pub unify_all-requires-clause-ready : goal.unify_all-requires-clause-ready
unify_all-requires-clause-ready g c =
    let old = g.B.Bank.trees c.args.bank.now in
    let new = g.B.Bank.trees c.rename_rule.new.bank in
    let has = c.requires.known in
    subst (λ (b : Trail). IsReady new b.pairs) (sym c.take_last.ensures.binds) (IsReady-grows old new c.args.row.now.binds.pairs c.rename_rule.ensures.grows has.2.solved.ready)

pub returns-then-not-branch-clause-parts : goal.returns-then-not-branch-clause-parts
returns-then-not-branch-clause-parts g c =
    let old = g.B.Bank.trees c.args.bank.now in
    let new = g.B.Bank.trees c.rename_rule.new.bank in
    let P = protocol_at c.args.choosing.now.place.now in
    let rule = rule_of c.args.rule.now in
    let lefts = map (tree_at new) c.deref.result.now in
    let rights = map (tree_at new) c.deref-2.result.now in
    let before_pairs = c.take_last.new.self.binds.pairs in
    let never = if_false c.in_ok-unify_all.field-0 (UnifiedAll new before_pairs c.unify_all.new.binds.pairs lefts rights) (NoUnifierOfAll new before_pairs lefts rights) c.if-not-branch.true c.in_ok-unify_all.ensures.outcome in
    λ v parts before.
    row_apart P c.args.choosing.now.visit.now v old new parts c.args.row.now rule c.args.count c.rename_rule.ensures.grows before c.requires.within c.requires.full c.deref.result.now c.deref-2.result.now (c.deref.ensures.value ∙ c.in_ok-arguments.ensures.taken)
    (subst (λ (l : List Id). NameTerms new l (map (rule_term P c.args.row.now.next) rule.left)) (sym (c.deref-2.ensures.value ∙ c.sides.view_is))
    (subst (λ k. NameTerms new c.in_ok-sides.sides (map (rule_term P k) rule.left)) c.take_last.ensures.next c.in_ok-sides.ensures.left))
    (subst (λ (b : Trail). NoUnifierOfAll new b.pairs lefts rights) c.take_last.ensures.binds never)

pub overflow_add-row : goal.overflow_add-row
overflow_add-row g c = omega (arith, c.take_last.ensures.next, c.rule_width.ensures, width_few (rule_of c.args.rule.now) c.requires.rule, c.requires.room)

pub returns-clause-parts : goal.returns-clause-parts
returns-clause-parts g c =
    let old = g.B.Bank.trees c.args.bank.now in
    let new = g.B.Bank.trees c.rename_rule.new.bank in
    let P = protocol_at c.args.choosing.now.place.now in
    let rule = rule_of c.args.rule.now in
    let value = c.in_ok-sides.value in
    let lefts = map (tree_at new) c.deref.result.now in
    let rights = map (tree_at new) c.deref-2.result.now in
    let before_pairs = c.take_last.new.self.binds.pairs in
    let unified = if_true c.in_ok-unify_all.field-0 (UnifiedAll new before_pairs c.unify_all.new.binds.pairs lefts rights) (NoUnifierOfAll new before_pairs lefts rights) c.if-not-branch.false c.in_ok-unify_all.ensures.outcome in
    λ v parts before.
    row_called P c.args.choosing.now.visit.now v old new parts c.args.row.now rule c.args.count c.rename_rule.ensures.grows before c.requires.within c.requires.full c.deref.result.now c.deref-2.result.now (c.deref.ensures.value ∙ c.in_ok-arguments.ensures.taken)
    (subst (λ (l : List Id). NameTerms new l (map (rule_term P c.args.row.now.next) rule.left)) (sym (c.deref-2.ensures.value ∙ c.sides.view_is))
    (subst (λ k. NameTerms new c.in_ok-sides.sides (map (rule_term P k) rule.left)) c.take_last.ensures.next c.in_ok-sides.ensures.left)) _ value
    c.in_ok-unify_all.ensures.ready (subst (λ (b : Trail). UnifiedAll new b.pairs c.unify_all.new.binds.pairs lefts rights) c.take_last.ensures.binds unified)
    (subst (λ k. Names new value (rule_term P k rule.right)) c.take_last.ensures.next c.in_ok-sides.ensures.right)
    (c.in_ok-push.ensures.items ∙ ap (λ (l : List Id). l ++ value ∷ []) c.in_ok-arguments.ensures.left) (omega (arith, c.take_last.ensures.next, c.rule_width.ensures))

pub returns-in_err-sides-clause-grows : goal.returns-in_err-sides-clause-grows
returns-in_err-sides-clause-grows g c = c.rename_rule.ensures.grows

pub returns-in_err-unify_all-clause-grows : goal.returns-in_err-unify_all-clause-grows
returns-in_err-unify_all-clause-grows g c = c.rename_rule.ensures.grows

pub returns-then-not-branch-clause-grows : goal.returns-then-not-branch-clause-grows
returns-then-not-branch-clause-grows g c = c.rename_rule.ensures.grows

pub returns-in_err-push-clause-grows : goal.returns-in_err-push-clause-grows
returns-in_err-push-clause-grows g c = c.rename_rule.ensures.grows

pub returns-clause-grows : goal.returns-clause-grows
returns-clause-grows g c = c.rename_rule.ensures.grows
