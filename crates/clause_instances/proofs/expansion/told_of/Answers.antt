use Rattle.std.proofs.Common.{◌≡◌, ◌<◌, ◌≤◌, ◌+◌, true, false, [], length, arith}
use Rattle.std.proofs.lemmas.Grind.{common_steps}
use Rattle.spec_attack_runs.specs.Attack.{most_instances}
use Rattle.term_tree.proofs.BankLaws.{Grows_refl, Grows_trans}
use Rattle.clause_instances.proofs.Growing.{AreKnownInstances-grow, ArePendingIn-grow}
use Rattle.clause_instances.proofs.Stacks.{begins, begins_known, begins_told, begins_counted, last_known, rest_known, turned, turned_known, turned_told, turned_counted, nothing_comes, told_all, too_many}
use Rattle.clause_instances.proofs.expansion.told_of.Goals as goal

pub each-init : goal.each-init
each-init c = record {
  grows = Grows_refl c.args.bank.now;
  known = begins_known c.args.bank.now c.in_ok-progress.progress.stack.items c.args.number c.in_ok-progress.ensures.one;
  told = begins_told c.args.bank.now c.in_ok-progress.progress.told.items c.in_ok-progress.ensures.none;
  so_far = λ log tells. begins c.args.bank.now c.args.derivation.now.sources.now log c.args.number c.args.expansion.now.next c.in_ok-progress.progress.told.items c.in_ok-progress.progress.stack.items c.in_ok-progress.ensures.none c.in_ok-progress.ensures.one c.requires.first;
  counted = begins_counted c.in_ok-progress.progress.told.items c.in_ok-progress.progress.stack.items _ c.in_ok-progress.ensures.none c.in_ok-progress.ensures.one;
}

pub returns-in_default-clause-instances : goal.returns-in_default-clause-instances
returns-in_default-clause-instances c = λ log tells.
    let none : c.each.progress.stack.items ≡ [] = grind (arith, common_steps) in
    let few = c.each.invariant.counted.few in
    told_all c.each.bank c.args.derivation.now.sources.now log c.args.number c.each.progress.told.items c.each.progress.stack.items c.each.expansion.next none few (c.each.invariant.so_far log tells)

pub returns-in_default-clause-known : goal.returns-in_default-clause-known
returns-in_default-clause-known c = c.each.invariant.told

pub expand-requires-clause-known : goal.expand-requires-clause-known
expand-requires-clause-known c = last_known c.each.bank c.each.progress.stack.items c.pop.new.self.items c.in-Some.pending c.in-Some.ensures.items c.each.invariant.known

pub returns-in_err-made-clause-grows : goal.returns-in_err-made-clause-grows
returns-in_err-made-clause-grows c = Grows_trans c.args.bank.now c.each.bank c.expand.new.bank c.each.invariant.grows c.expand.ensures.grows

pub returns-in_err-add-clause-grows : goal.returns-in_err-add-clause-grows
returns-in_err-add-clause-grows c = Grows_trans c.args.bank.now c.each.bank c.expand.new.bank c.each.invariant.grows c.expand.ensures.grows

pub returns-then-not-branch-clause-grows : goal.returns-then-not-branch-clause-grows
returns-then-not-branch-clause-grows c = Grows_trans c.args.bank.now c.each.bank c.expand.new.bank c.each.invariant.grows c.expand.ensures.grows

pub returns-then-not-branch-clause-instances : goal.returns-then-not-branch-clause-instances
returns-then-not-branch-clause-instances c = λ log tells.
    let stack = c.each.progress.stack.items in
    let told = c.each.progress.told.items in
    let rest = c.pop.new.self.items in
    let top = c.in-Some.pending in
    let made = c.in_ok-made.made in
    let now = c.expand.new.bank in
    let more = c.add.new.self.told.items in
    let left = c.add.new.self.stack.items in
    let known = rest_known c.each.bank stack rest top c.in-Some.ensures.items c.each.invariant.known in
    let fails : c.in_ok-add.field-0 ≡ false = grind (arith, common_steps) in
    nothing_comes c.each.bank c.args.derivation.now.sources.now log c.args.number told stack rest top c.each.expansion.next now c.expand.new.expansion.next made more left c.in_ok-add.field-0 c.in-Some.ensures.items (c.each.invariant.so_far log tells) (c.in_ok-made.ensures.expanded log tells) c.in_ok-add.ensures fails

pub returns-then-len-gt-MOST_INSTANCES-clause-grows : goal.returns-then-len-gt-MOST_INSTANCES-clause-grows
returns-then-len-gt-MOST_INSTANCES-clause-grows c = Grows_trans c.args.bank.now c.each.bank c.expand.new.bank c.each.invariant.grows c.expand.ensures.grows

pub returns-then-len-gt-MOST_INSTANCES-clause-instances : goal.returns-then-len-gt-MOST_INSTANCES-clause-instances
returns-then-len-gt-MOST_INSTANCES-clause-instances c = λ log tells.
    let stack = c.each.progress.stack.items in
    let told = c.each.progress.told.items in
    let rest = c.pop.new.self.items in
    let top = c.in-Some.pending in
    let made = c.in_ok-made.made in
    let now = c.expand.new.bank in
    let more = c.add.new.self.told.items in
    let left = c.add.new.self.stack.items in
    let known = rest_known c.each.bank stack rest top c.in-Some.ensures.items c.each.invariant.known in
    let went : c.in_ok-add.field-0 ≡ true = grind (arith, common_steps) in
    let over : most_instances < length left + length more = omega arith in
    too_many now c.args.derivation.now.sources.now log c.args.number more left c.expand.new.expansion.next over (turned c.each.bank c.args.derivation.now.sources.now log c.args.number told stack rest top c.each.expansion.next now c.expand.new.expansion.next made more left c.in_ok-add.field-0 c.in-Some.ensures.items known c.expand.ensures.grows (c.each.invariant.so_far log tells) (c.in_ok-made.ensures.expanded log tells) c.in_ok-add.ensures went)

pub each-preserved : goal.each-preserved
each-preserved c =
    let stack = c.each.progress.stack.items in
    let told = c.each.progress.told.items in
    let rest = c.pop.new.self.items in
    let top = c.in-Some.pending in
    let made = c.in_ok-made.made in
    let now = c.expand.new.bank in
    let more = c.add.new.self.told.items in
    let left = c.add.new.self.stack.items in
    let known = rest_known c.each.bank stack rest top c.in-Some.ensures.items c.each.invariant.known in
    let went : c.in_ok-add.field-0 ≡ true = grind (arith, common_steps) in
    let few : length left + length more ≤ most_instances = omega arith in
    record {
      grows = Grows_trans c.args.bank.now c.each.bank c.expand.new.bank c.each.invariant.grows c.expand.ensures.grows;
      known = turned_known now told more rest left made c.in_ok-add.field-0 (ArePendingIn-grow c.each.bank now rest c.expand.ensures.grows known) c.in_ok-made.ensures.known c.in_ok-add.ensures went;
      told = turned_told now told more rest left made c.in_ok-add.field-0 (AreKnownInstances-grow c.each.bank now told c.expand.ensures.grows c.each.invariant.told) c.in_ok-made.ensures.known c.in_ok-add.ensures went;
      so_far = λ log tells. turned c.each.bank c.args.derivation.now.sources.now log c.args.number told stack rest top c.each.expansion.next now c.expand.new.expansion.next made more left c.in_ok-add.field-0 c.in-Some.ensures.items known c.expand.ensures.grows (c.each.invariant.so_far log tells) (c.in_ok-made.ensures.expanded log tells) c.in_ok-add.ensures went;
      counted = turned_counted c.each._turn told more stack rest left top made c.in_ok-add.field-0 c.in-Some.ensures.items c.each.invariant.counted c.in_ok-add.ensures went few;
    }
