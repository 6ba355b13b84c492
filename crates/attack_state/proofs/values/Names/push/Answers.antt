use Rattle.std.proofs.Common.{◌≡◌, List, length, sym, subst, arith}
use Rattle.attack_state.specs.declared.values.Named.{Named}
use Rattle.attack_state.specs.Listing.{AreListed}
use Rattle.attack_state.specs.States.{named_class}
use Rattle.attack_state.proofs.Listing.{listed-more}
use Rattle.attack_state.proofs.values.Names.push.Goals as goal

pub returns-clause-listed : goal.returns-clause-listed
returns-clause-listed c = λ before.
    let old = c.args.self.now in
    let new = c.push.new.self in
    let count : c.len.result ≡ length old.items.items = omega (arith, c.len.ensures, old.items.ok.0) in
    let item : Named = record { term = c.args.term; value = c.args.value } in
    subst (λ (items : List Named). AreListed named_class items new) (sym c.in_ok-push-2.ensures.items) (listed-more named_class old.items.items item c.len.result old.classes new count before c.in_ok-push.ensures)
