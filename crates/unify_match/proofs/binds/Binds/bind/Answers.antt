use Rattle.std.proofs.Common.{◌∙◌, ◌∷◌, List, reverse, ap, sym, subst, arith}
use Rattle.std.proofs.lemmas.Grind.{common_steps}
use Rattle.unify_match.specs.declared.bound.Bound.{Bound}
use Rattle.unify_match.specs.Trail.{Trail, id_of}
use Rattle.unify_match.specs.Table.{IsTableOf}
use Rattle.unify_match.specs.Seen.{IsReady, AreBindings}
use Rattle.unify_match.proofs.SeenLemmas.{IsReady-bind, AreBindings-bind}
use Rattle.unify_match.proofs.Tables.{reverse-last, IsTableOf-bind, on_ok, if_ok}
use Rattle.unify_match.proofs.binds.Binds.bind.Goals as goal

pub invariant_of-self : goal.invariant_of-self
invariant_of-self c =
    let pairs = ap (λ (t : Trail). t.pairs) c.self.view_is in
    let room = ap (λ (t : Trail). t.room) c.self.view_is in
    let pushed = c.push.ensures.succeeds (omega (arith, room, c.requires.room)) in
    let put = c.insert.ensures.succeeds (omega (arith, room, c.requires.room)) in
    let items = ap reverse (c.push.ensures.items ∙ if_ok c.push.result _ _ pushed) ∙ reverse-last c.self.inside.trail.items record { var = c.args.var; id = c.args.id } in
    subst (λ (l : List Bound). IsTableOf l c.insert.new.self) (sym items)
    (IsTableOf-bind (reverse c.self.inside.trail.items) c.self.inside.table c.insert.new.self record { var = c.args.var; id = c.args.id } c.self.invariant
    (ap (λ (l : List Bound). id_of l c.args.var) pairs ∙ c.requires.unbound) (on_ok c.insert.result _ put c.insert.ensures.updates).0)

pub returns-clause-pairs : goal.returns-clause-pairs
returns-clause-pairs c =
    let pairs = ap (λ (t : Trail). t.pairs) c.self.view_is in
    let room = ap (λ (t : Trail). t.room) c.self.view_is in
    let pushed = c.push.ensures.succeeds (omega (arith, room, c.requires.room)) in
    ap reverse (c.push.ensures.items ∙ if_ok c.push.result _ _ pushed)
    ∙ (reverse-last c.self.inside.trail.items record { var = c.args.var; id = c.args.id } ∙ ap (λ (l : List Bound). record { var = c.args.var; id = c.args.id } ∷ l) pairs)

pub returns-clause-bindings : goal.returns-clause-bindings
returns-clause-bindings c all were known =
    subst (λ (bs : List Bound). AreBindings all bs) (sym (returns-clause-pairs c)) (AreBindings-bind all c.args.self.now.pairs record { var = c.args.var; id = c.args.id } were known c.requires.unbound)

pub returns-clause-ready : goal.returns-clause-ready
returns-clause-ready c all ready known absent =
    subst (λ (bs : List Bound). IsReady all bs) (sym (returns-clause-pairs c)) (IsReady-bind all c.args.self.now.pairs record { var = c.args.var; id = c.args.id } ready known c.requires.unbound absent)

pub returns-clause-seen : goal.returns-clause-seen
returns-clause-seen c = grind (arith, common_steps)
