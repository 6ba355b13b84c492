use Rattle.std.proofs.Common.{◌≡◌, ◌∙◌, ℕ, Some, List, map, slice_get, option_map, ap, subst, refl, sym, length, Vec, Global}
use Rattle.std.proofs.lemmas.Option.{slice_get-map, slice_get_read}
use Rattle.cert_writer.specs.Known.{BeginsWithin}
use Rattle.cert_writer.proofs.KeptRows.{within_next}
use Rattle.cert_writer.proofs.known.all_begin_within.Goals as goal

pub each-preserved : goal.each-preserved
each-preserved c =
    let rows = λ (row : Vec ℕ Global). row.items in
    let kept : map rows c.deref-row-items.result.now ≡ c.args.rows.now = ap (map rows) c.deref-row-items.ensures.value ∙ c.rows.view_is in
    let at : slice_get c.deref-row-items.result.now c.each.row-index ≡ Some c.row-item.result = slice_get_read c.deref-row-items.result.now (length c.deref-row-items.result.now) c.each.row-index c.row-item.result refl c.each-test.true c.row-item.is in
    let there : slice_get c.args.rows.now c.each.row-index ≡ Some c.row-item.result.items = sym (ap (λ (xs : List (List ℕ)). slice_get xs c.each.row-index) kept) ∙ (slice_get-map rows c.deref-row-items.result.now c.each.row-index ∙ ap (option_map rows) at) in
    within_next c.args.count c.args.rows.now c.each.row-index c.row-item.result.items there
    (subst (λ (row : List ℕ). BeginsWithin c.args.count row) c.deref.ensures.value (c.begins_within.ensures c.if-not-begins_within.false)) c.each.invariant
