use Rattle.std.proofs.Common.{◌≡◌, ◌∙◌, List, sym, subst}
use Rattle.term_tree.proofs.BankLaws.{Grows_refl, Grows_trans}
use Rattle.clause_form.specs.Fit.{AreFit}
use Rattle.clause_form.proofs.Fit.{IsFit-grows}
use Rattle.log_entries.specs.declared.log.Entry.{Entry}
use Rattle.log_entries.specs.Beating.{clauses_of}
use Rattle.log_entries.proofs.Marking.{fit_at}
use Rattle.attack_candidates.proofs.Keeping.{chosen_grows}
use Rattle.attack_candidates.proofs.resolving.resolve_all.Goals as goal

pub each-init : goal.each-init
each-init c = record { grows = Grows_refl c.args.bank.now; sound = c.requires.sound }

pub resolve_with-requires-clause-partner : goal.resolve_with-requires-clause-partner
resolve_with-requires-clause-partner c =
    let old = c.args.bank.now in
    let e = c.entry-item.result in
    let same : c.deref-entry-items.result.now ≡ c.args.log.now = c.deref-entry-items.ensures.value ∙ c.log.view_is in
    IsFit-grows old c.each.bank e.clause c.each.invariant.grows
    (fit_at old c.deref-entry-items.result.now c.each.i e c.entry-item.is (subst (λ (es : List Entry). AreFit old (clauses_of es)) (sym same) c.requires.log) c.each-test.true)

pub resolve_with-requires-clause-chosen : goal.resolve_with-requires-clause-chosen
resolve_with-requires-clause-chosen c = chosen_grows c.args.bank.now c.each.bank c.args.chosen c.each.invariant.grows c.requires.chosen

pub each-preserved : goal.each-preserved
each-preserved c = record {
  grows = Grows_trans c.args.bank.now c.each.bank c.resolve_with.new.bank c.each.invariant.grows c.in_ok-resolve_with.ensures.grows;
  sound = c.in_ok-resolve_with.ensures.sound;
}
