use Rattle.std.proofs.Common.{None, [], ◌∷◌, ◌++◌, sym, subst}
use Rattle.log_entries.specs.Ends.{AreChained}
use Rattle.log_entries.proofs.Chaining.{chained_none}
use Rattle.log_entries.proofs.chains.Chains.push.Goals as goal

pub returns-in_ok-push-in-None : goal.returns-in_ok-push-in-None
returns-in_ok-push-in-None c = λ ends h.
    let last = c.args.self.now.last.items in
    let befores = c.args.self.now.previous.items in
    subst (λ end. AreChained (ends ++ end ∷ []) last c.push.new.self.items) (sym c.in-None.is)
    (subst (λ bs. AreChained (ends ++ None ∷ []) last bs) (sym c.in_ok-push-in-None.ensures.items) (chained_none ends last befores h))
