use Rattle.std.proofs.Common.{◌≡◌, ◌∙◌, map, ap, rules}
use Rattle.clause_diffs.specs.Diffs.{diffs_at}
use Rattle.clause_form.specs.Facts.{fact_of}
use Rattle.clause_form.specs.Seen.{clause_at}
use Rattle.clause_form.proofs.Anchoring.{anchors_by}
use Rattle.clause_form.proofs.Told.{needless_told}
use Rattle.clause_form.proofs.normality.has_none_needless.Goals as goal

pub returns : goal.returns
returns g c =
    let all = g.B.Bank.trees c.args.bank.now in
    let hyps_are : map fact_of c.deref.result.now ≡ c.args.clause.now.hypotheses = search rules in
    let diffs_are : c.deref-2.result.now ≡ c.args.clause.now.diffs = search rules in
    let told = anchors_by all c.args.clause.now (map fact_of c.deref.result.now) _ c.in_ok-numbers.numbers.items c.in_ok-numbers.ensures hyps_are (search rules) in
    needless_told (clause_at all c.args.clause.now) c.in_ok-anchors.anchors (diffs_at all c.deref-2.result.now) c.are_needed.result (c.in_ok-anchors.ensures ∙ told) (ap (diffs_at all) diffs_are) c.are_needed.ensures
