use Rattle.std.proofs.Common.{◌≡◌, ◌∙◌, ℕ, Some, List, [], ◌∷◌, ◌++◌, map, take, slice_get, option_map, ap, refl, sym, length, append_assoc, Vec, Global}
use Rattle.std.proofs.lemmas.List.{map-append}
use Rattle.std.proofs.lemmas.Option.{slice_get-map, slice_get_read}
use Rattle.spec_verdicts.proofs.Building.{take_next}
use Rattle.cert_writer.proofs.known.put_rows.Goals as goal

pub each-preserved : goal.each-preserved
each-preserved c =
    let rows = λ (row : Vec ℕ Global). row.items in
    let before = c.each.rows-inside.items.items in
    let i = c.each.row-index in
    let kept : map rows c.deref-row-items.result.now ≡ c.args.kept.now = ap (map rows) c.deref-row-items.ensures.value ∙ c.kept.view_is in
    let at : slice_get c.deref-row-items.result.now i ≡ Some c.row-item.result = slice_get_read c.deref-row-items.result.now (length c.deref-row-items.result.now) i c.row-item.result refl c.each-test.true c.row-item.is in
    let there : slice_get c.args.kept.now i ≡ Some c.row-item.result.items = sym (ap (λ (xs : List (List ℕ)). slice_get xs i) kept) ∙ (slice_get-map rows c.deref-row-items.result.now i ∙ ap (option_map rows) at) in
    let copied : c.in_ok-copied.copied.items ≡ c.row-item.result.items = c.in_ok-copied.ensures.items ∙ c.deref.ensures.value in
    let next : map rows c.push.new.self.items ≡ map rows before ++ c.row-item.result.items ∷ [] = ap (map rows) c.in_ok-push.ensures.items ∙ (map-append rows before (c.in_ok-copied.copied ∷ []) ∙ ap (λ (row : List ℕ). map rows before ++ row ∷ []) copied) in
    next ∙ (ap (λ (rs : List (List ℕ)). rs ++ c.row-item.result.items ∷ []) c.each.invariant
    ∙ (append_assoc c.args.rows.now (take i c.args.kept.now) (c.row-item.result.items ∷ [])
    ∙ ap (λ (rs : List (List ℕ)). c.args.rows.now ++ rs) (sym (take_next c.args.kept.now i c.row-item.result.items there))))
