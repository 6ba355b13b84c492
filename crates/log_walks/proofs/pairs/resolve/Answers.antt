use Rattle.std.proofs.Common.{List, ◌≡◌, subst, sym, rules, ◌∙◌, take, refl, arith}
use Rattle.spec_saturation.specs.Key.{key}
use Rattle.log_entries.specs.declared.log.Entry.{Entry}
use Rattle.clause_form.specs.Fit.{AreFit}
use Rattle.clause_form.specs.Seen.{IdClause}
use Rattle.log_entries.specs.Beating.{clauses_of}
use Rattle.log_walks.specs.Pairs.{major, minor, IsMadeBy, IsTidy, IsDuePair}
use Rattle.log_walks.proofs.Fitting.{walked_fit}
use Rattle.log_walks.proofs.Pairing.{no_unifier_step, too_large_step, made_step}
use Rattle.spec_terms.specs.Term.{Term}
use Rattle.term_tree.specs.Bank.{Grows}
use Rattle.term_tree.proofs.BankLaws.{Grows-length}
use Rattle.clause_resolve.proofs.Answering.{as_before}
use Rattle.log_walks.specs.Walked.{IsWalked}
use Rattle.log_walks.proofs.pairs.resolve.Goals as goal

pub pair_resolvents-requires-clause-entries : goal.pair_resolvents-requires-clause-entries
pair_resolvents-requires-clause-entries g c =
    let all = g.B.Bank.trees c.args.bank.now in
    let same : c.deref.result.now ≡ c.args.walk.now.items.items = search rules in
    subst (λ (es : List Entry). AreFit all (clauses_of es)) (sym same) (walked_fit all g.task c.args.walk.now (key (major c.args.pair) (minor c.args.pair) 1) c.requires.1.0)

pub returns-in-NoUnifier-clause-passed : goal.returns-in-NoUnifier-clause-passed
returns-in-NoUnifier-clause-passed g c =
    let same : c.deref.result.now ≡ c.args.walk.now.items.items = search rules in
    no_unifier_step (g.B.Bank.trees c.args.bank.now) (g.B.Bank.trees c.pair_resolvents.new.bank) g.task c.args.walk.now c.args.pair c.deref.result.now c.in_ok-pair_resolvents.field-0 c.in-NoUnifier.is c.pair_resolvents.ensures.grows same c.in_ok-pair_resolvents.ensures.found c.requires.1.0

pub returns-in-Large-clause-passed : goal.returns-in-Large-clause-passed
returns-in-Large-clause-passed g c =
    let same : c.deref.result.now ≡ c.args.walk.now.items.items = search rules in
    too_large_step (g.B.Bank.trees c.args.bank.now) (g.B.Bank.trees c.pair_resolvents.new.bank) g.task c.args.walk.now c.args.pair c.deref.result.now c.in_ok-pair_resolvents.field-0 c.in-Large.is c.pair_resolvents.ensures.grows same c.in_ok-pair_resolvents.ensures.found c.requires.1.0

pub returns-in_err-stop-in-Clauses-clause-grows : goal.returns-in_err-stop-in-Clauses-clause-grows
returns-in_err-stop-in-Clauses-clause-grows g c =
    let old = g.B.Bank.trees c.args.bank.now in
    let now = g.B.Bank.trees c.pair_resolvents.new.bank in
    let back = as_before old now (take c.mark-mark.result.len now) _ c.pair_resolvents.ensures.grows c.mark-mark.ensures refl in
    subst (λ (before : List Term). Grows before (g.B.Bank.trees c.keep.new.bank)) back c.keep.ensures.grows

pub returns-in_ok-stop-in-Clauses-clause-grows : goal.returns-in_ok-stop-in-Clauses-clause-grows
returns-in_ok-stop-in-Clauses-clause-grows g c =
    let old = g.B.Bank.trees c.args.bank.now in
    let now = g.B.Bank.trees c.pair_resolvents.new.bank in
    let back = as_before old now (take c.mark-mark.result.len now) _ c.pair_resolvents.ensures.grows c.mark-mark.ensures refl in
    subst (λ (before : List Term). Grows before (g.B.Bank.trees c.keep.new.bank)) back c.keep.ensures.grows

pub returns-in_ok-stop-in-Clauses-clause-tidy : goal.returns-in_ok-stop-in-Clauses-clause-tidy
returns-in_ok-stop-in-Clauses-clause-tidy g c =
    let old = g.B.Bank.trees c.args.bank.now in
    let now = g.B.Bank.trees c.pair_resolvents.new.bank in
    let back = as_before old now (take c.mark-mark.result.len now) _ c.pair_resolvents.ensures.grows c.mark-mark.ensures refl in
    subst (λ (before : List Term). IsTidy before (g.B.Bank.trees c.keep.new.bank) c.args.walk.now.items.items c.keep.new.walk.items.items c.in_ok-stop-in-Clauses.stop) back c.in_ok-stop-in-Clauses.ensures.tidy

pub keep-requires : goal.keep-requires
keep-requires g c = λ κs h. (
    let old = g.B.Bank.trees c.args.bank.now in
    let now = g.B.Bank.trees c.pair_resolvents.new.bank in
    let back = as_before old now (take c.mark-mark.result.len now) _ c.pair_resolvents.ensures.grows c.mark-mark.ensures refl in
    let walk = c.args.walk.now in
    let same : c.deref.result.now ≡ walk.items.items = c.deref.ensures.value in
    let made = made_step old now c.args.pair c.deref.result.now walk.items.items c.in_ok-pair_resolvents.field-0 c.in-Clauses.clauses c.in-Clauses.is same c.in_ok-pair_resolvents.ensures.found in
    let clauses : c.deref-in-Clauses.result.now ≡ c.in-Clauses.clauses = c.deref-in-Clauses.ensures.value ∙ c.clauses.view_is in (
      h,
      (
        omega (arith, c.mark-mark.ensures, Grows-length old now c.pair_resolvents.ensures.grows),
        (
          subst (λ (before : List Term). IsWalked before g.task walk (key (major c.args.pair) (minor c.args.pair) 1)) (sym back) c.requires.1.0,
          subst (λ (before : List Term). IsMadeBy before now walk.items.items c.args.pair c.deref-in-Clauses.result.now) (sym back) (subst (λ (cs : List IdClause). IsMadeBy old now walk.items.items c.args.pair cs) (sym clauses) made),
        ),
      ),
    ))

pub pair_resolvents-requires-clause-due : goal.pair_resolvents-requires-clause-due
pair_resolvents-requires-clause-due g c =
    subst (λ (es : List Entry). IsDuePair (g.B.Bank.trees c.args.bank.now) es (major c.args.pair) (minor c.args.pair) c.args.pair) (sym c.deref.ensures.value) c.requires.1.1
