use Rattle.std.proofs.Common.{◌≡◌, ◌∙◌, ◌<◌, ◌≤◌, List, map, length, get_or, ap, sym, subst, rc_value, arith}
use Rattle.std.proofs.lemmas.List.{length-map, get_or-map}
use Rattle.spec_terms.specs.Term.{Term}
use Rattle.spec_clauses.specs.Fact.{Clause}
use Rattle.clause_form.specs.Seen.{NamesClause}
use Rattle.cert_stages.proofs.Looking.{copying_begins, copied_on, copying_ends}
use Rattle.term_tree.proofs.BankLaws.{Grows_trans}
use Rattle.cert_stages.proofs.shaping.copied.Goals as goal

pub each-init : goal.each-init
each-init g c = copying_begins (g.B.Bank.trees c.args.bank.now) _ c.args.clauses.now c.new-items.ensures.items

pub each-preserved : goal.each-preserved
each-preserved g c =
    let plain = c.args.clauses.now in
    let held = c.deref-plain-items.result.now in
    let x = c.plain-item.result in
    let are : map rc_value held ≡ plain = ap (map rc_value) c.deref-plain-items.ensures.value ∙ c.clauses.view_is in
    let at : rc_value x ≡ get_or (map rc_value held) c.each.k (rc_value x) = ap rc_value c.plain-item.is ∙ sym (get_or-map rc_value held c.each.k x (rc_value x) c.each-test.true) in
    let same : rc_value x ≡ get_or plain c.each.k (rc_value x) = at ∙ ap (λ (l : List (Clause Term)). get_or l c.each.k (rc_value x)) are in
    let within : c.each.k < length plain = omega (arith, c.each-test.true, ap length are, length-map held rc_value) in
    let names = subst (λ (p : Clause Term). NamesClause (g.B.Bank.trees c.copy_into.new.bank) c.in_ok-clause.clause p) c.deref.ensures c.in_ok-clause.ensures.names in
    copied_on plain c.each.k (rc_value x) same within (g.B.Bank.trees c.args.bank.now) (g.B.Bank.trees c.each.bank) (g.B.Bank.trees c.copy_into.new.bank) c.each.items.items c.push.new.self.items c.in_ok-clause.clause c.each.invariant
    c.copy_into.ensures.grows names c.in_ok-push.ensures.items

pub returns-clause-names : goal.returns-clause-names
returns-clause-names g c =
    let plain = c.args.clauses.now in
    let held = c.deref-plain-items.result.now in
    let are : map rc_value held ≡ plain = ap (map rc_value) c.deref-plain-items.ensures.value ∙ c.clauses.view_is in
    let past : length plain ≤ c.each.k = omega (arith, c.each-test.false, ap length are, length-map held rc_value) in
    copying_ends (g.B.Bank.trees c.args.bank.now) (g.B.Bank.trees c.each.bank) c.each.items.items plain c.each.k past c.each.invariant

pub returns-in_err-clause-clause-grows : goal.returns-in_err-clause-clause-grows
returns-in_err-clause-clause-grows g c = Grows_trans (g.B.Bank.trees c.args.bank.now) (g.B.Bank.trees c.each.bank) (g.B.Bank.trees c.copy_into.new.bank) c.each.invariant.grows c.copy_into.ensures.grows

pub returns-in_err-push-clause-grows : goal.returns-in_err-push-clause-grows
returns-in_err-push-clause-grows g c = Grows_trans (g.B.Bank.trees c.args.bank.now) (g.B.Bank.trees c.each.bank) (g.B.Bank.trees c.copy_into.new.bank) c.each.invariant.grows c.copy_into.ensures.grows
