use Rattle.std.proofs.Common.{List, ◌≡◌, subst, sym, rules, arith}
use Rattle.clause_form.specs.Seen.{AreClausesIn}
use Rattle.log_entries.specs.declared.log.Entry.{Entry}
use Rattle.log_entries.specs.Beating.{clauses_of}
use Rattle.log_entries.proofs.Marking.{known_entry}
use Rattle.std.proofs.lemmas.Grind.{common_steps}
use Rattle.log_entries.proofs.reading.read_log.Goals as goal

pub read_entry-requires : goal.read_entry-requires
read_entry-requires g c =
    let all = g.B.Bank.trees c.args.bank.now in
    let same : c.deref-entry-items.result.now ≡ c.args.log.now = search rules in
    known_entry all c.deref-entry-items.result.now c.each.entry-index c.entry-item.result c.entry-item.is (subst (λ (es : List Entry). AreClausesIn all (clauses_of es)) (sym same) c.requires) c.each-test.true

pub each-preserved : goal.each-preserved
each-preserved g c = grind (arith, common_steps)

pub returns : goal.returns
returns g c = grind (arith, common_steps)
