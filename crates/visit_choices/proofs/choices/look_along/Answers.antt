use Rattle.std.proofs.Common.{◌≡◌, ◌∙◌, ◌+◌, Bool, ◌||◌, List, ap, sym, subst}
use Rattle.spec_terms.specs.Term.{Term}
use Rattle.unified_visits.specs.Visits.{IsButForDiffs}
use Rattle.visit_choices.specs.Walks.{IsChoosingIn, LooksAt}
use Rattle.visit_choices.proofs.Passing.{AreLooked, more_looked, all_looked}
use Rattle.visit_choices.proofs.choices.look_along.Goals as goal
use Rattle.visit_choices.proofs.choices.look_along.Goals.{then-large, else-large}

pub look_from-requires-clause-known : goal.look_from-requires-clause-known
look_from-requires-clause-known g c = subst (λ (all : List Term). IsChoosingIn all c.args.choosing.now) (sym c.each.invariant.0) c.requires.known

pub look_from-requires-clause-like : goal.look_from-requires-clause-like
look_from-requires-clause-like g c = subst (λ (all : List Term). IsButForDiffs all c.args.choosing.now.visit.now c.args.bare.now) (sym c.each.invariant.0) c.requires.like

pub each-preserved : goal.each-preserved
each-preserved g c =
    let old = g.B.Bank.trees c.args.bank.now in
    let choosing = c.args.choosing.now in
    let more = c.in_ok-count.looked in
    let number = c.each.number + c.in_ok-count.count in
    let going = c.each.going + more.going in
    let looks = subst (λ (all : List Term). LooksAt all choosing c.each.number c.in_ok-count.count more) c.each.invariant.0 c.in_ok-count.ensures.looks in
    let both : c.if-large.large ≡ (c.each.large || more.large) = elim c.if-large.branch [ then-large w ↦ w.large-is ∙ (w.if-large.true ∙ sym (ap (λ b. b || more.large) w.if-large.true)) | else-large w ↦ w.large-is ∙ sym (ap (λ b. b || more.large) w.if-large.false) ] in
    (c.in_ok-count.ensures.back ∙ c.each.invariant.0, subst (λ (b : Bool). AreLooked old choosing number b going) (sym both) (more_looked old choosing c.requires.known c.each.number c.in_ok-count.count c.each.large c.each.going more c.each.invariant.1 looks))

pub returns-clause-looked : goal.returns-clause-looked
returns-clause-looked g c = all_looked (g.B.Bank.trees c.args.bank.now) c.args.choosing.now c.requires.known c.each.number (record { large = c.each.large; going = c.each.going }) c.each-test.false c.each.invariant.1
