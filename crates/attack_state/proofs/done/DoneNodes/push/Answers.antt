use Rattle.std.proofs.Common.{◌≡◌, ◌∙◌, ℕ, Some, List, length, sym, ap, subst, arith}
use Rattle.fact_classes.specs.Classes.{IsClassListed}
use Rattle.attack_state.specs.declared.done.Done.{Done}
use Rattle.attack_state.specs.Listing.{AreListed}
use Rattle.attack_state.specs.States.{node_class, done_class}
use Rattle.attack_state.proofs.Listing.{listed-more}
use Rattle.attack_state.proofs.done.DoneNodes.push.Goals as goal

pub returns-clause-listed : goal.returns-clause-listed
returns-clause-listed c = λ before.
    let old = c.args.self.now in
    let new = c.push.new.self in
    let count : c.len.result ≡ length old.items.items = omega (arith, c.len.ensures, old.items.ok.0) in
    let class : c.class_of-class.result ≡ done_class c.args.done = c.class_of-class.ensures ∙ ap (node_class c.args.done.point) c.deref.ensures.value in
    let more = subst (λ (k : ℕ). IsClassListed (Some k) c.len.result old.classes new) class c.in_ok-push.ensures in
    subst (λ (items : List Done). AreListed done_class items new) (sym c.in_ok-push-2.ensures.items) (listed-more done_class old.items.items c.args.done c.len.result old.classes new count before more)
