use Rattle.std.proofs.Common.{sym, subst}
use Rattle.term_tree.specs.Bank.{tree_at}
use Rattle.unify_match.specs.declared.substitute.Substitution.{Substitution}
use Rattle.unify_match.specs.Substitution.{CanChange, IsLed}
use Rattle.unify_match.proofs.Walking.{walked-resolved}
use Rattle.unify_match.proofs.Substituting.{led_by_walk}
use Rattle.unify_match.proofs.substitute.led.Goals as goal

pub returns-in-Bindings : goal.returns-in-Bindings
returns-in-Bindings g c =
    let all = g.B.Bank.trees c.args.bank.now in
    let pairs = c.in-Bindings.binds.now.pairs in
    let ready = subst (λ (ch : Substitution). CanChange all ch (tree_at all c.args.id)) c.in-Bindings.is c.requires.ready in
    subst (λ (ch : Substitution). IsLed all ch c.args.id c.walk.result) (sym c.in-Bindings.is) record {
      known = c.walk.ensures.known;
      ready = ready;
      same = walked-resolved all pairs c.args.id c.walk.result ready c.walk.ensures;
      lower = c.walk.ensures.lower;
      final = c.walk.ensures.unbound;
      stays = led_by_walk all pairs c.args.id c.walk.result ready c.walk.ensures;
    }
