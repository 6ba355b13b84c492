use Rattle.std.proofs.Common.{◌&&◌, [], ◌∷◌, sym, subst, arith}
use Rattle.std.proofs.lemmas.Grind.{common_steps}
use Rattle.clause_form.specs.declared.plain.PlainFact.{PlainFact}
use Rattle.clause_diffs.specs.Plain.{term_of}
use Rattle.term_tree.proofs.BankLaws.{AreKnown-grows}
use Rattle.clause_instances.specs.Closing.{AddsClosed}
use Rattle.clause_instances.proofs.Closes.{fact_terms, Closes-grows, more_added}
use Rattle.clause_instances.proofs.given.add_fact.Goals as goal

pub add_one-requires-in-Mess-2-clause-terms : goal.add_one-requires-in-Mess-2-clause-terms
add_one-requires-in-Mess-2-clause-terms c = AreKnown-grows c.args.bank.now c.add_one-in-Mess.new.bank c.args.closing.now.terms c.add_one-in-Mess.ensures.grows c.requires.terms

pub returns-in_ok-second-in-Mess-clause-adds : goal.returns-in_ok-second-in-Mess-clause-adds
returns-in_ok-second-in-Mess-clause-adds c = λ s closes.
    let old = c.args.bank.now in
    let mid = c.add_one-in-Mess.new.bank in
    let next = c.add_one-in-Mess-2.new.bank in
    let later = Closes-grows old mid c.args.closing.now s c.add_one-in-Mess.ensures.grows c.requires.terms closes in
    let both = more_added old mid next s (term_of c.in-Mess.channel ∷ []) (term_of c.in-Mess.message ∷ []) c.args.made.now c.add_one-in-Mess.new.made c.add_one-in-Mess-2.new.made c.in_ok-first-in-Mess.first c.in_ok-second-in-Mess.second
    (c.in_ok-first-in-Mess.ensures.adds s closes) (c.in_ok-second-in-Mess.ensures.adds s later) in
    subst (λ (f : PlainFact). AddsClosed old next s (fact_terms f) c.args.made.now c.add_one-in-Mess-2.new.made (c.in_ok-first-in-Mess.first && c.in_ok-second-in-Mess.second)) (sym c.in-Mess.is) both

pub returns-in_err-second-in-Mess-clause-grows : goal.returns-in_err-second-in-Mess-clause-grows
returns-in_err-second-in-Mess-clause-grows c = grind (arith, common_steps)

pub returns-in_ok-second-in-Mess-clause-grows : goal.returns-in_ok-second-in-Mess-clause-grows
returns-in_ok-second-in-Mess-clause-grows c = grind (arith, common_steps)
