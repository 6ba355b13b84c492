use Rattle.std.proofs.Common.{◌≡◌, ◌+◌, ◌-◌, ◌++◌, ap, sym, ◌∙◌, subst, List, take, drop, map, length}
use Rattle.std.proofs.lemmas.List.{take_rest, map-append}
use Rattle.clause_form.specs.declared.facts.Fact as declared
use Rattle.clause_form.specs.Facts.{fact_of}
use Rattle.clause_resolve.specs.Low.{AreLowFacts}
use Rattle.clause_resolve.proofs.Shifting.{low_take, low_drop, AreLowFacts-grow, others_named}
use Rattle.term_tree.proofs.BankLaws.{Grows_trans}
use Rattle.clause_resolve.proofs.apart.shifted_others.Goals as goal

pub shifted_facts-requires : goal.shifted_facts-requires
shifted_facts-requires g c = low_take (g.B.Bank.trees c.args.bank.now) c.args.at c.args.facts.now c.requires.facts

pub shifted_facts-requires-2 : goal.shifted_facts-requires-2
shifted_facts-requires-2 g c =
    let old = g.B.Bank.trees c.args.bank.now in
    let now = g.B.Bank.trees c.shifted_facts.new.bank in
    subst (λ (l : List declared.Fact). AreLowFacts now (map fact_of l)) (sym (take_rest c.args.facts.now (c.args.at + 1)))
    (AreLowFacts-grow old now (map fact_of (drop (c.args.at + 1) c.args.facts.now)) c.shifted_facts.ensures.grows (low_drop old (c.args.at + 1) c.args.facts.now c.requires.facts))

pub returns-clause-names : goal.returns-clause-names
returns-clause-names g c =
    let old = g.B.Bank.trees c.args.bank.now in
    let now = g.B.Bank.trees c.shifted_facts.new.bank in
    let joined : map fact_of c.append.new.self.items ≡ c.in_ok-made.made ++ c.in_ok-later.later =
    ap (map fact_of) c.in_ok-append.ensures.items ∙ (map-append fact_of c.made.inside.items.items c.later.inside.items.items ∙ λ i. c.made.view_is i ++ c.later.view_is i) in
    others_named old now (g.B.Bank.trees c.shifted_facts-2.new.bank) c.args.facts.now (take (length c.args.facts.now - (c.args.at + 1)) (drop (c.args.at + 1) c.args.facts.now)) c.args.at c.in_ok-made.made c.in_ok-later.later (map fact_of c.append.new.self.items)
    c.shifted_facts.ensures.grows c.shifted_facts-2.ensures.grows c.requires.facts (take_rest c.args.facts.now (c.args.at + 1)) c.in_ok-made.ensures.names c.in_ok-later.ensures.names joined

pub returns-in_err-later-clause-grows : goal.returns-in_err-later-clause-grows
returns-in_err-later-clause-grows g c = Grows_trans (g.B.Bank.trees c.args.bank.now) (g.B.Bank.trees c.shifted_facts.new.bank) (g.B.Bank.trees c.shifted_facts-2.new.bank) c.shifted_facts.ensures.grows c.shifted_facts-2.ensures.grows

pub returns-in_err-append-clause-grows : goal.returns-in_err-append-clause-grows
returns-in_err-append-clause-grows g c = Grows_trans (g.B.Bank.trees c.args.bank.now) (g.B.Bank.trees c.shifted_facts.new.bank) (g.B.Bank.trees c.shifted_facts-2.new.bank) c.shifted_facts.ensures.grows c.shifted_facts-2.ensures.grows

pub returns-clause-grows : goal.returns-clause-grows
returns-clause-grows g c = Grows_trans (g.B.Bank.trees c.args.bank.now) (g.B.Bank.trees c.shifted_facts.new.bank) (g.B.Bank.trees c.shifted_facts-2.new.bank) c.shifted_facts.ensures.grows c.shifted_facts-2.ensures.grows
