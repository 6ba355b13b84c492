use Rattle.std.proofs.Common.{map}
use Rattle.clause_form.specs.Facts.{fact_of, clause_of}
use Rattle.clause_form.specs.Seen.{clause_at}
use Rattle.clause_form.proofs.Copying.{IsFactIn-grows, AreFactsIn-grows}
use Rattle.clause_form.proofs.Norming.{named_as}
use Rattle.clause_form.proofs.Numbered.{own_ordered, numbered_is, bound_after}
use Rattle.term_tree.proofs.BankLaws.{Grows_refl, Grows_trans}
use Rattle.clause_form.proofs.renumbering.numbered_clause.Goals as goal

pub returns-in_err-order-clause-grows : goal.returns-in_err-order-clause-grows
returns-in_err-order-clause-grows g c = Grows_refl (g.B.Bank.trees c.args.bank.now)

pub tidied-requires-clause-own : goal.tidied-requires-clause-own
tidied-requires-clause-own g c = own_ordered (clause_at (g.B.Bank.trees c.args.bank.now) (clause_of c.args.concl.now c.args.hyps.now c.args.diffs.now)) c.in_ok-order.order c.in_ok-order.ensures c.requires.own

pub clause_in_order-requires-clause-concl : goal.clause_in_order-requires-clause-concl
clause_in_order-requires-clause-concl g c = IsFactIn-grows (g.B.Bank.trees c.args.bank.now) (g.B.Bank.trees c.tidied.new.bank) (fact_of c.args.concl.now) c.tidied.ensures.grows c.requires.concl

pub clause_in_order-requires-clause-hyps : goal.clause_in_order-requires-clause-hyps
clause_in_order-requires-clause-hyps g c = AreFactsIn-grows (g.B.Bank.trees c.args.bank.now) (g.B.Bank.trees c.tidied.new.bank) (map fact_of c.args.hyps.now) c.tidied.ensures.grows c.requires.hyps

pub clause_in_order-requires-clause-diffs : goal.clause_in_order-requires-clause-diffs
clause_in_order-requires-clause-diffs g c = c.in_ok-tidy.ensures.names.known

pub returns-clause-grows : goal.returns-clause-grows
returns-clause-grows g c = Grows_trans (g.B.Bank.trees c.args.bank.now) (g.B.Bank.trees c.tidied.new.bank) (g.B.Bank.trees c.clause_in_order.new.bank) c.tidied.ensures.grows c.clause_in_order.ensures.grows

pub returns-clause-names : goal.returns-clause-names
returns-clause-names g c =
    let old = g.B.Bank.trees c.args.bank.now in
    let mid = g.B.Bank.trees c.tidied.new.bank in
    let is = numbered_is old mid (map fact_of c.args.hyps.now) c.args.diffs.now c.in_ok-tidy.tidy (fact_of c.args.concl.now) c.in_ok-order.order c.requires.hyps c.requires.concl c.tidied.ensures.grows c.in_ok-order.ensures c.in_ok-tidy.ensures.names in
    named_as (g.B.Bank.trees c.clause_in_order.new.bank) c.clause_in_order.result _ _ is c.clause_in_order.ensures.names

pub returns-clause-first : goal.returns-clause-first
returns-clause-first g c =
    let old = g.B.Bank.trees c.args.bank.now in
    let mid = g.B.Bank.trees c.tidied.new.bank in
    let new = g.B.Bank.trees c.clause_in_order.new.bank in
    let is = numbered_is old mid (map fact_of c.args.hyps.now) c.args.diffs.now c.in_ok-tidy.tidy (fact_of c.args.concl.now) c.in_ok-order.order c.requires.hyps c.requires.concl c.tidied.ensures.grows c.in_ok-order.ensures c.in_ok-tidy.ensures.names in
    bound_after new (clause_at old (clause_of c.args.concl.now c.args.hyps.now c.args.diffs.now)) c.in_ok-order.order c.in_ok-tidy.tidy c.clause_in_order.result c.in_ok-order.ensures c.in_ok-tidy.ensures.first c.clause_in_order.ensures.diffs
    (named_as new c.clause_in_order.result _ _ is c.clause_in_order.ensures.names)
