use Rattle.std.proofs.Common.{◌≡◌, ltb, true, false, sym, subst, map, rules}
use Rattle.std.specs.List.Sorted.{IsPartitionPoint}
use Rattle.std.proofs.lemmas.List.Sorted.{IsPartitionPoint-from_clause, IsPartitionedBy-ltb}
use Rattle.feature_index.specs.declared.index.Item.{Item}
use Rattle.feature_index.specs.Listed.{IsAscending, entries_of}
use Rattle.feature_index.specs.Items.{listed_of}
use Rattle.feature_index.proofs.Placing.{IsFound, rising, place_found}
use Rattle.feature_index.proofs.index.Index.place_of.Goals as goal

found : (c : goal.After-partition_point) → IsFound c.args.self.now c.args.entry c.partition_point.result
found c =
    let seen = c.deref.result.now in
    let up : IsAscending 0 (entries_of (map listed_of seen)) = subst (λ l. IsAscending 0 (entries_of (map listed_of l))) (sym c.deref.ensures.value) c.self.invariant in
    let parted = IsPartitionedBy-ltb (λ (x : Item). x.entry) seen c.args.entry (rising 0 seen up) in
    let point : IsPartitionPoint (λ (x : Item). ltb x.entry c.args.entry ≡ true) (λ (x : Item). ltb x.entry c.args.entry ≡ false) seen c.partition_point.result =
    IsPartitionPoint-from_clause (λ (x : Item). ltb x.entry c.args.entry) _ _ c.partition_point.ensures.partitioned parted (λ a r q k. search rules) in
    place_found c.self.inside.items.items seen c.args.self.now c.args.entry c.partition_point.result c.deref.ensures.value c.self.view_is (subst (λ l. IsAscending 0 (entries_of l)) c.self.view_is c.self.invariant) c.partition_point.ensures.bound point

pub returns-clause-place : goal.returns-clause-place
returns-clause-place c = (found c).is

pub returns-clause-within : goal.returns-clause-within
returns-clause-within c = (found c).within

pub returns-clause-standing : goal.returns-clause-standing
returns-clause-standing c = (found c).standing
