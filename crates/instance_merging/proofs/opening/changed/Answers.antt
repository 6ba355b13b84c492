use Rattle.std.proofs.Common.{◌≡◌, ◌<◌, List, length, get_or, ap, subst, rules, arith}
use Rattle.clause_instances.specs.declared.instance.Instance.{Instance}
use Rattle.clause_instances.proofs.Growing.{AreKnownInstances-grow}
use Rattle.term_tree.proofs.BankLaws.{Grows_trans}
use Rattle.instance_merging.proofs.Known.{change-grows, instance-grows, instance_at, one_more}
use Rattle.instance_merging.proofs.opening.changed.Goals as goal

pub changed_instance-requires-clause-known : goal.changed_instance-requires-clause-known
changed_instance-requires-clause-known c =
    let ids : List Instance = c.args.instances.now in
    let x = c.instance-item.result in
    let i = c.each.instance-index in
    let items : c.deref-instance-items.result.now ≡ ids = search rules in
    let found : x ≡ get_or ids i x = subst (λ (l : List Instance). x ≡ get_or l i x) items c.instance-item.is in
    let within : i < length ids = omega (arith, c.each-test.true, ap length items) in
    instance-grows c.args.bank.now c.each.bank x c.each.invariant.grows (instance_at c.args.bank.now ids i x c.requires.known within found)

pub changed_instance-requires-clause-ready : goal.changed_instance-requires-clause-ready
changed_instance-requires-clause-ready c = change-grows c.args.bank.now c.each.bank c.args.change c.each.invariant.grows c.requires.ready

pub each-preserved : goal.each-preserved
each-preserved c =
    let next = c.changed_instance.new.bank in
    let made = rw c.in-Some.is at c.in_ok-changed_instance.ensures.known in
    record {
      grows = Grows_trans c.args.bank.now c.each.bank next c.each.invariant.grows c.changed_instance.ensures.grows;
      known = one_more next c.each.items.items c.push.new.self.items c.in-Some.made (AreKnownInstances-grow c.each.bank next c.each.items.items c.changed_instance.ensures.grows c.each.invariant.known) made c.in_ok-push-in-Some.ensures.items;
    }
