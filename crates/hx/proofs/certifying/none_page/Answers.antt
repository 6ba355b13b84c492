-- The words, why there is none, and the line's end.
use Rattle.std.proofs.Common.{◌∙◌, ◌++◌, ℕ, List, ap, codes}
use Rattle.hx.specs.AttackText.{line}
use Rattle.hx.proofs.Putting.{behind}
use Rattle.hx.proofs.certifying.none_page.Goals as goal

pub returns : goal.returns
returns c =
    let start : List ℕ = c.new-text.result.items in
    let why : List ℕ = c.args.why.now in
    let one = c.in_ok-extend_from_slice.ensures.items in
    let two = behind start c.extend_from_slice.new.self.items c.extend_from_slice-2.new.self.items (codes "no certificate") why one c.in_ok-extend_from_slice-2.ensures.items in
    let three = behind start c.extend_from_slice-2.new.self.items c.push.new.self.items (codes "no certificate" ++ why) (codes "\n") two c.in_ok-push.ensures.items in
    λ P query format. record { why = why; is = three ∙ ap (λ (s : List ℕ). s ++ line (codes "no certificate" ++ why)) c.new-text.ensures.items }
