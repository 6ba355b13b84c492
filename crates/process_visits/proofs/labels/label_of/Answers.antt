use Rattle.std.proofs.Common.{◌∙◌, ◌++◌, [], ◌∷◌, length, ap, sym, eqb-true}
use Rattle.process_visits.proofs.Labelling.{label_some, label_none}
use Rattle.process_visits.proofs.labels.label_of.Goals as goal

pub returns-then-is_empty : goal.returns-then-is_empty
returns-then-is_empty c =
    label_none c.args.rules.now c.push.new.self.items (eqb-true (length c.args.rules.now) 0 (sym c.is_empty.ensures ∙ c.if-is_empty.true)) (c.in_ok-push.ensures.items ∙ ap (λ l. l ++ 0 ∷ []) c.new-items.ensures.items)

pub returns : goal.returns
returns c = c.in_ok-items.ensures.items_if_clones_equal (λ a b e. e) ∙ label_some c.args.rules.now (sym c.is_empty.ensures ∙ c.if-is_empty.false)
