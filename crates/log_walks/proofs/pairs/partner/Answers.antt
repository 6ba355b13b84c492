use Rattle.std.proofs.Common.{◌≡◌, ◌∙◌, ◌<◌, ltb, min, get_or, sym, arith, rules}
use Rattle.std.proofs.lemmas.List.Sorted.{IsPartitionPoint-from_clause, IsPartitionedBy-ltb}
use Rattle.log_entries.specs.Live.{kept_prints, is_met_at}
use Rattle.log_walks.proofs.Scanning.{IsPlaceOf, scan_begins, no_partner, one_partner, tried_on, tried_inside, one_some}
use Rattle.log_entries.proofs.Numbers.{rising}
use Rattle.log_walks.proofs.pairs.partner.Goals as goal

pub each-init : goal.each-init
each-init c =
    let walk = c.args.walk.now in
    let passes = is_met_at walk.items.items (kept_prints walk.live.prints.items) c.args.later in
    let from = c.args.from in
    let left = c.args.left.now in
    let right = c.args.right.now in
    let parted = IsPartitionedBy-ltb (λ n. n) left from (λ i j d order within. rising 1 left c.requires.left.ascend i j d order within) in
    let point : IsPlaceOf left from c.partition_point-i.result = IsPartitionPoint-from_clause (λ n. ltb n from) _ _ c.partition_point-i.ensures.partitioned parted (λ a r q k. search rules) in
    let also_parted = IsPartitionedBy-ltb (λ n. n) right from (λ i j d order within. rising 1 right c.requires.right.ascend i j d order within) in
    let also_point : IsPlaceOf right from c.partition_point-j.result = IsPartitionPoint-from_clause (λ n. ltb n from) _ _ c.partition_point-j.ensures.partitioned also_parted (λ a r q k. search rules) in
    record {
      first = scan_begins passes left from c.partition_point-i.result point (omega arith);
      second = scan_begins passes right from c.partition_point-j.result also_point (omega arith);
      first_within = omega arith;
      second_within = omega arith;
    }

pub returns-then-later-number-clause-partner : goal.returns-then-later-number-clause-partner
returns-then-later-number-clause-partner c =
    let walk = c.args.walk.now in
    let passes = is_met_at walk.items.items (kept_prints walk.live.prints.items) c.args.later in
    let left = c.args.left.now in
    let right = c.args.right.now in
    let later = c.args.later in
    let from = c.args.from in
    let number = c.min-number.result in
    let least : number ≡ min (get_or left c.each.i later) (get_or right c.each.j later) = omega (arith, c.min-number.ensures, c.number_at-first.ensures, c.number_at-second.ensures) in
    no_partner passes left right later from c.each.i c.each.j c.requires.left.ascend c.requires.right.ascend c.each.invariant.first c.each.invariant.second number least c.if-later-number.true

pub is_met-requires-clause-some_number : goal.is_met-requires-clause-some_number
is_met-requires-clause-some_number c =
    let walk = c.args.walk.now in
    let passes = is_met_at walk.items.items (kept_prints walk.live.prints.items) c.args.later in
    let left = c.args.left.now in
    let right = c.args.right.now in
    let later = c.args.later in
    let from = c.args.from in
    let number = c.min-number.result in
    let least : number ≡ min (get_or left c.each.i later) (get_or right c.each.j later) = omega (arith, c.min-number.ensures, c.number_at-first.ensures, c.number_at-second.ensures) in
    let found = one_partner passes left right later from c.each.i c.each.j c.requires.left.ascend c.requires.right.ascend c.each.invariant.first c.each.invariant.second number least c.if-later-number.false in
    one_some left right number (λ n among. (c.requires.left.within n among).0) (λ n among. (c.requires.right.within n among).0) found.0

pub returns-then-is_met-clause-partner : goal.returns-then-is_met-clause-partner
returns-then-is_met-clause-partner c =
    let walk = c.args.walk.now in
    let passes = is_met_at walk.items.items (kept_prints walk.live.prints.items) c.args.later in
    let left = c.args.left.now in
    let right = c.args.right.now in
    let later = c.args.later in
    let from = c.args.from in
    let number = c.min-number.result in
    let least : number ≡ min (get_or left c.each.i later) (get_or right c.each.j later) = omega (arith, c.min-number.ensures, c.number_at-first.ensures, c.number_at-second.ensures) in
    one_partner passes left right later from c.each.i c.each.j c.requires.left.ascend c.requires.right.ascend c.each.invariant.first c.each.invariant.second number least c.if-later-number.false

pub each-preserved-then-first-second : goal.each-preserved-then-first-second
each-preserved-then-first-second c =
    let walk = c.args.walk.now in
    let passes = is_met_at walk.items.items (kept_prints walk.live.prints.items) c.args.later in
    let left = c.args.left.now in
    let right = c.args.right.now in
    let later = c.args.later in
    let from = c.args.from in
    let number = c.min-number.result in
    let least : number ≡ min (get_or left c.each.i later) (get_or right c.each.j later) = omega (arith, c.min-number.ensures, c.number_at-first.ensures, c.number_at-second.ensures) in
    let less : number < later = c.if-later-number.false in
    let here : get_or left c.each.i later ≡ number = omega (arith, least, c.if-first-second.true, c.number_at-first.ensures, c.number_at-second.ensures) in
    let inside = tried_inside left c.each.i later number here less in
    record {
      first = tried_on passes left from c.each.i later number c.each.invariant.first here less (sym c.is_met.ensures ∙ c.if-is_met.false);
      second = c.each.invariant.second;
      first_within = omega (arith, inside);
      second_within = c.each.invariant.second_within;
    }

pub each-preserved : goal.each-preserved
each-preserved c =
    let walk = c.args.walk.now in
    let passes = is_met_at walk.items.items (kept_prints walk.live.prints.items) c.args.later in
    let left = c.args.left.now in
    let right = c.args.right.now in
    let later = c.args.later in
    let from = c.args.from in
    let number = c.min-number.result in
    let least : number ≡ min (get_or left c.each.i later) (get_or right c.each.j later) = omega (arith, c.min-number.ensures, c.number_at-first.ensures, c.number_at-second.ensures) in
    let less : number < later = c.if-later-number.false in
    let here : get_or right c.each.j later ≡ number = omega (arith, least, c.if-first-second.false, c.number_at-first.ensures, c.number_at-second.ensures) in
    let inside = tried_inside right c.each.j later number here less in
    record {
      first = c.each.invariant.first;
      second = tried_on passes right from c.each.j later number c.each.invariant.second here less (sym c.is_met.ensures ∙ c.if-is_met.false);
      first_within = c.each.invariant.first_within;
      second_within = omega (arith, inside);
    }
