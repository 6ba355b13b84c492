use Rattle.std.proofs.Common.{◌≡◌, ◌<◌, ◌-◌, ◌++◌, ◌∷◌, [], ℕ, Option, None, List, length, sym, subst, arith, rules}
use Rattle.std.specs.Option.{unwrap_or}
use Rattle.std.proofs.lemmas.List.{get_or_read}
use Rattle.log_entries.specs.Ends.{ends_of}
use Rattle.log_entries.proofs.Chaining.{AreCollected, none_collected, next_there, next_within, more_collected, all_collected, next_falls}
use Rattle.log_entries.proofs.ends.ending.Goals as goal

pub each-init : goal.each-init
each-init c =
    let walk = c.args.walk.now in
    let none : c.new-numbers.result.items ≡ [] = search rules in
    none_collected (ends_of walk.items.items) walk.live.chains.last.items walk.live.chains.previous.items c.args.id c.new-numbers.result.items c.last_with-next.result c.requires none c.last_with-next.ensures

pub overflow_sub-number : goal.overflow_sub-number
overflow_sub-number c =
    let walk = c.args.walk.now in
    let there = next_within (ends_of walk.items.items) walk.live.chains.last.items walk.live.chains.previous.items c.args.id c.each.numbers.items c.each.next c.in-Some.number c.requires c.in-Some.is c.each.invariant in
    let some = there.0 in
    omega (arith, some)

pub index-next-requires : goal.index-next-requires
index-next-requires c =
    let walk = c.args.walk.now in
    let there = next_within (ends_of walk.items.items) walk.live.chains.last.items walk.live.chains.previous.items c.args.id c.each.numbers.items c.each.next c.in-Some.number c.requires c.in-Some.is c.each.invariant in
    let some = there.0 in
    let few = there.1 in
    let within : c.in-Some.number - 1 < length walk.live.chains.previous.items = omega (arith, some, few) in
    search rules

pub each-smaller : goal.each-smaller
each-smaller c =
    let walk = c.args.walk.now in
    let there = next_within (ends_of walk.items.items) walk.live.chains.last.items walk.live.chains.previous.items c.args.id c.each.numbers.items c.each.next c.in-Some.number c.requires c.in-Some.is c.each.invariant in
    let some = there.0 in
    let few = there.1 in
    let after = get_or_read walk.live.chains.previous.items (c.in-Some.number - 1) c.index-next.result.now (omega (arith, some, few)) c.index-next.ensures None in
    let at = next_there (ends_of walk.items.items) c.args.id c.each.numbers.items c.each.next c.in-Some.number c.in-Some.is c.each.invariant in
    subst (λ (o : Option ℕ). unwrap_or c.index-next.result.now 0 < unwrap_or o 0) (sym c.in-Some.is)
    (next_falls (ends_of walk.items.items) walk.live.chains.last.items walk.live.chains.previous.items c.args.id c.in-Some.number c.index-next.result.now c.requires at after)

pub each-preserved : goal.each-preserved
each-preserved c =
    let walk = c.args.walk.now in
    let there = next_within (ends_of walk.items.items) walk.live.chains.last.items walk.live.chains.previous.items c.args.id c.each.numbers.items c.each.next c.in-Some.number c.requires c.in-Some.is c.each.invariant in
    let some = there.0 in
    let few = there.1 in
    let after = get_or_read walk.live.chains.previous.items (c.in-Some.number - 1) c.index-next.result.now (omega (arith, some, few)) c.index-next.ensures None in
    let more : c.push.new.self.items ≡ c.each.numbers.items ++ c.in-Some.number ∷ [] = search rules in
    subst (λ (ns : List ℕ). AreCollected (ends_of walk.items.items) c.args.id ns c.index-next.result.now) (sym more)
    (more_collected (ends_of walk.items.items) walk.live.chains.last.items walk.live.chains.previous.items c.args.id c.each.numbers.items c.each.next c.in-Some.number c.index-next.result.now c.requires c.in-Some.is after c.each.invariant)

pub returns : goal.returns
returns c = all_collected (ends_of c.args.walk.now.items.items) c.args.id c.each.numbers.items c.each.next c.in_default.is c.each.invariant
