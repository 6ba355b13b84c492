use Rattle.term_tree.proofs.BankLaws.{Grows_trans}
use Rattle.clause_instances.proofs.Closes.{one_known}
use Rattle.instance_merging.proofs.opening.+formed.Goals as goal

pub each-preserved : goal.each-preserved
each-preserved t c =
    let next = c.formed.new.bank in
    record {
      grows = Grows_trans c.args.bank.now c.each.bank next c.each.invariant.grows c.formed.ensures.grows;
      known = one_known c.each.bank next c.each.ids.items c.push.new.self.items c.in_ok-id-in-App.id c.each.invariant.known c.formed.ensures.grows c.in_ok-id-in-App.ensures.known c.in_ok-push-in-App.ensures.items;
    }
