use Rattle.std.proofs.Common.{◌≡◌, ◌∙◌, ◌<◌, List, length, get_or, sym, subst}
use Rattle.spec_calculus.proofs.Items.{each-get_or}
use Rattle.clause_instances.specs.declared.instance.Instance.{Instance}
use Rattle.clause_instances.specs.Instances.{IsKnownInstance, AreKnownInstances}
use Rattle.log_text.proofs.stops.Stopped.instance.Goals as goal

pub returns-in-Some : goal.returns-in-Some
returns-in-Some c =
    let bank = c.args.self.now.bank.now in
    let instances : List Instance = c.deref.result.now in
    let found : Instance = c.in-Some.instance.now in
    let within : c.args.index < length instances = c.in-Some.ensures.lookup.3.0 in
    let is : found ≡ get_or instances c.args.index found = c.in-Some.ensures.lookup.1 in
    let known = subst (λ (xs : List Instance). AreKnownInstances bank xs) (sym (c.deref.ensures.value ∙ c.instances.view_is)) c.requires in
    subst (λ (x : Instance). IsKnownInstance bank x) (sym is) (each-get_or (IsKnownInstance bank) instances c.args.index found within known)
