use Rattle.std.proofs.Common.{◌≡◌, ◌+◌, ℕ, ◌∷◌, ◌++◌, None, Some, Vec, Global, refl, sym, subst, arith, rules}
use Rattle.std.specs.Prelude.{Option}
use Rattle.std.proofs.lemmas.Result.{IfOk-weaker}
use Rattle.clause_form.specs.Seen.{clause_at}
use Rattle.clause_form.specs.Fit.{clauses_at}
use Rattle.spec_verdicts.specs.FirstRows.{IsFirstCover}
use Rattle.fact_fingerprint.specs.Seen.{fingerprint_seen}
use Rattle.fact_classes.specs.Classes.{class_of, listed}
use Rattle.cert_writer.specs.declared.covering.Found.{Found}
use Rattle.cert_writer.specs.Ready.{conclusion_print}
use Rattle.cert_writer.specs.Classed.{IsFirstAmong}
use Rattle.cert_writer.proofs.Classed.{found_within, found_covers, nothing_found}
use Rattle.cert_writer.proofs.covering.first_cover.Goals as goal

pub overflow_cast-found : goal.overflow_cast-found
overflow_cast-found g c =
    let all = g.B.Bank.trees c.args.bank.now in
    let w = c.args.writer.now in
    let special = clause_at all c.args.clause.now in
    let class = c.in-Some.class in
    let p = fingerprint_seen c.fingerprint_of_fact-print.result in
    let printed : p ≡ conclusion_print special = search rules in
    let told : Some class ≡ class_of p = c.in-Some.ensures in
    let found = c.in-Some-2.found in
    let h = subst (λ (o : Option Found). IsFirstAmong all w.live.now special (listed w.classes.now (Some class) ++ listed w.classes.now None) o) c.in-Some-2.is c.in_ok-found-in-Some.ensures in
    let inside = found_within all w special p class c.requires.ready printed told found h in
    omega (arith, inside, c.requires.ready.few)

pub overflow_add-found : goal.overflow_add-found
overflow_add-found g c =
    let all = g.B.Bank.trees c.args.bank.now in
    let w = c.args.writer.now in
    let special = clause_at all c.args.clause.now in
    let class = c.in-Some.class in
    let p = fingerprint_seen c.fingerprint_of_fact-print.result in
    let printed : p ≡ conclusion_print special = search rules in
    let told : Some class ≡ class_of p = c.in-Some.ensures in
    let found = c.in-Some-2.found in
    let h = subst (λ (o : Option Found). IsFirstAmong all w.live.now special (listed w.classes.now (Some class) ++ listed w.classes.now None) o) c.in-Some-2.is c.in_ok-found-in-Some.ensures in
    let inside = found_within all w special p class c.requires.ready printed told found h in
    omega (arith, inside, c.requires.ready.few)

pub returns-in-Some-2 : goal.returns-in-Some-2
returns-in-Some-2 g c =
    let all = g.B.Bank.trees c.args.bank.now in
    let w = c.args.writer.now in
    let special = clause_at all c.args.clause.now in
    let class = c.in-Some.class in
    let p = fingerprint_seen c.fingerprint_of_fact-print.result in
    let printed : p ≡ conclusion_print special = search rules in
    let told : Some class ≡ class_of p = c.in-Some.ensures in
    let found = c.in-Some-2.found in
    let h = subst (λ (o : Option Found). IsFirstAmong all w.live.now special (listed w.classes.now (Some class) ++ listed w.classes.now None) o) c.in-Some-2.is c.in_ok-found-in-Some.ensures in
    let first = found_covers all w special p class c.requires.ready printed told found (found.place + 1) h refl in
    IfOk-weaker c.numbered.result (λ (numbers : Vec ℕ Global). numbers.items ≡ (found.place + 1) ∷ found.row) (λ (row : Vec ℕ Global). IsFirstCover (clauses_at all w.live.now) special row.items)
    (λ row is. subst (IsFirstCover (clauses_at all w.live.now) special) (sym is) first) c.numbered.ensures

pub returns-in-None-2 : goal.returns-in-None-2
returns-in-None-2 g c =
    let all = g.B.Bank.trees c.args.bank.now in
    let w = c.args.writer.now in
    let special = clause_at all c.args.clause.now in
    let class = c.in-Some.class in
    let p = fingerprint_seen c.fingerprint_of_fact-print.result in
    let printed : p ≡ conclusion_print special = search rules in
    let told : Some class ≡ class_of p = c.in-Some.ensures in
    let h = subst (λ (o : Option Found). IsFirstAmong all w.live.now special (listed w.classes.now (Some class) ++ listed w.classes.now None) o) c.in-None-2.is c.in_ok-found-in-Some.ensures in
    absurd (nothing_found all w special p class c.requires.ready printed told h c.requires.covered)
