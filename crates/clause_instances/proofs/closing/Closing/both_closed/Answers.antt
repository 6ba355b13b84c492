use Rattle.std.proofs.Common.{◌∙◌, map, ap, arith}
use Rattle.std.proofs.lemmas.Grind.{common_steps}
use Rattle.clause_diffs.specs.Plain.{term_of}
use Rattle.term_tree.proofs.BankLaws.{AreKnown-grows}
use Rattle.clause_instances.proofs.Closes.{Closes-grows, adds_alone, both_named, both_large}
use Rattle.clause_instances.proofs.closing.Closing.both_closed.Goals as goal

pub add_closed-requires-2-clause-terms : goal.add_closed-requires-2-clause-terms
add_closed-requires-2-clause-terms g c = AreKnown-grows (g.B.Bank.trees c.args.bank.now) (g.B.Bank.trees c.add_closed.new.bank) c.args.self.now.terms c.add_closed.ensures.grows c.requires

pub returns-then-small-fits-clause-known : goal.returns-then-small-fits-clause-known
returns-then-small-fits-clause-known g c =
    (AreKnown-grows (g.B.Bank.trees c.add_closed.new.bank) (g.B.Bank.trees c.add_closed-2.new.bank) c.add_closed.new.made c.add_closed-2.ensures.grows c.in_ok-small.ensures.known, c.in_ok-fits.ensures.known)

pub returns-then-small-fits-clause-closed : goal.returns-then-small-fits-clause-closed
returns-then-small-fits-clause-closed g c = λ s closes.
    let old = g.B.Bank.trees c.args.bank.now in
    let now = g.B.Bank.trees c.add_closed.new.bank in
    let next = g.B.Bank.trees c.add_closed-2.new.bank in
    let later = Closes-grows old now c.args.self.now s c.add_closed.ensures.grows c.requires closes in
    let lefts = adds_alone old now s (map term_of c.deref.result.now) c.args.lefts.now c.no_ids-first.result c.add_closed.new.made c.in_ok-small.small c.no_ids-first.ensures (ap (map term_of) c.deref.ensures.value ∙ c.lefts.view_is) (c.in_ok-small.ensures.adds s closes) in
    let rights = adds_alone now next s (map term_of c.deref-2.result.now) c.args.rights.now c.no_ids-second.result c.add_closed-2.new.made c.in_ok-fits.fits c.no_ids-second.ensures (ap (map term_of) c.deref-2.ensures.value ∙ c.rights.view_is) (c.in_ok-fits.ensures.adds s later) in
    both_named old now next s c.args.lefts.now c.args.rights.now c.add_closed.new.made c.add_closed-2.new.made c.in_ok-small.small c.in_ok-fits.fits lefts rights c.add_closed-2.ensures.grows c.in_ok-small.ensures.known c.in_ok-fits.ensures.known c.if-small-fits.true

pub returns-clause-closed : goal.returns-clause-closed
returns-clause-closed g c = λ s closes.
    let old = g.B.Bank.trees c.args.bank.now in
    let now = g.B.Bank.trees c.add_closed.new.bank in
    let next = g.B.Bank.trees c.add_closed-2.new.bank in
    let later = Closes-grows old now c.args.self.now s c.add_closed.ensures.grows c.requires closes in
    let lefts = adds_alone old now s (map term_of c.deref.result.now) c.args.lefts.now c.no_ids-first.result c.add_closed.new.made c.in_ok-small.small c.no_ids-first.ensures (ap (map term_of) c.deref.ensures.value ∙ c.lefts.view_is) (c.in_ok-small.ensures.adds s closes) in
    let rights = adds_alone now next s (map term_of c.deref-2.result.now) c.args.rights.now c.no_ids-second.result c.add_closed-2.new.made c.in_ok-fits.fits c.no_ids-second.ensures (ap (map term_of) c.deref-2.ensures.value ∙ c.rights.view_is) (c.in_ok-fits.ensures.adds s later) in
    both_large old now next s c.args.lefts.now c.args.rights.now c.add_closed.new.made c.add_closed-2.new.made c.in_ok-small.small c.in_ok-fits.fits lefts rights c.if-small-fits.false

pub returns-in_err-fits-clause-grows : goal.returns-in_err-fits-clause-grows
returns-in_err-fits-clause-grows g c = grind (arith, common_steps)

pub returns-then-small-fits-clause-grows : goal.returns-then-small-fits-clause-grows
returns-then-small-fits-clause-grows g c = grind (arith, common_steps)

pub returns-clause-grows : goal.returns-clause-grows
returns-clause-grows g c = grind (arith, common_steps)

pub add_closed-requires-2-clause-known : goal.add_closed-requires-2-clause-known
add_closed-requires-2-clause-known g c = grind (arith, common_steps)
