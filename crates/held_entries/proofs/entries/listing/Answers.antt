-- With the table first, and then with each column.
use Rattle.std.proofs.Common.{◌≡◌, ◌≤◌, ◌∙◌, Some, List, length, map, slice_get, ap, subst, arith}
use Rattle.std.proofs.lemmas.List.{length-map}
use Rattle.spec_calculus.specs.Values as calculus
use Rattle.pi_tree.specs.Values.{value_of}
use Rattle.held_entries.specs.declared.entries.Held.{Held}
use Rattle.held_entries.specs.Entries.{held_of}
use Rattle.held_entries.specs.Keys.{table_class, class_at}
use Rattle.held_entries.proofs.Finding.{listing-init, listing-more, listing-all, column-value}
use Rattle.held_entries.proofs.entries.listing.Goals as goal

pub loop-column-init : goal.loop-column-init
loop-column-init c =
    let class = c.table_class.ensures ∙ ap (λ (h : Held). table_class h.table) c.held.view_is in
    listing-init c.args.classes c.push.new.self (held_of c.args.held.now) c.args.number c.table_class.result class c.in_ok-push.ensures

pub loop-column-preserved : goal.loop-column-preserved
loop-column-preserved c =
    let column = c.loop-column.column in
    let items = c.deref-value-items.result.now in
    let v = value_of c.value-item.result in
    let same : map value_of items ≡ c.args.held.now.args = ap (map value_of) c.deref-value-items.ensures.value ∙ ap (λ (h : Held). h.args) c.held.view_is in
    let class = c.class_at-class.ensures ∙ ap (λ (h : Held). class_at h.table column v) c.held.view_is in
    let there : slice_get (map value_of items) column ≡ Some v = column-value items column c.value-item.result c.loop-column-test.true c.value-item.is in
    listing-more c.args.classes c.loop-column.classes c.push-in-loop-column.new.self (held_of c.args.held.now) c.args.number column c.class_at-class.result v
    c.loop-column.invariant class (subst (λ (vs : List calculus.Value). slice_get vs column ≡ Some v) same there) c.in_ok-push-2.ensures

pub returns-clause-listed : goal.returns-clause-listed
returns-clause-listed c =
    let items = c.deref-value-items.result.now in
    let same : map value_of items ≡ c.args.held.now.args = ap (map value_of) c.deref-value-items.ensures.value ∙ ap (λ (h : Held). h.args) c.held.view_is in
    let past : length c.args.held.now.args ≤ c.loop-column.column = subst (λ (vs : List calculus.Value). length vs ≤ c.loop-column.column) same (omega (arith, length-map items value_of, c.loop-column-test.false)) in
    listing-all c.args.classes c.loop-column.classes (held_of c.args.held.now) c.args.number c.loop-column.column c.loop-column.invariant past
