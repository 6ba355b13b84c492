use Rattle.std.proofs.Common.{◌∙◌, ◌++◌, ◌∷◌, [], map, ap}
use Rattle.clause_form.specs.declared.facts.Fact as declared
use Rattle.clause_form.specs.Facts.{fact_of}
use Rattle.clause_form.specs.Seen.{fact_at}
use Rattle.clause_form.proofs.Keying.{absent_key, have_keys_on}
use Rattle.clause_form.proofs.repeats.add_placed.Goals as goal

pub is_among_placed-requires-clause-absent : goal.is_among_placed-requires-clause-absent
is_among_placed-requires-clause-absent g c none =
    let all = g.B.Bank.trees c.args.bank.now in
    absent_key all c.args.facts.now (map fact_of c.deref.result.now) (fact_at all (fact_of c.args.fact.now)) c.key_of_fact-key.result c.copied-place.result c.args.places.now c.requires.keyed (ap (map fact_of) c.deref.ensures.value ∙ c.facts.view_is) c.key_of_fact-key.ensures (c.copied-place.ensures ∙ c.get.ensures.value) none

pub returns-clause-keyed : goal.returns-clause-keyed
returns-clause-keyed g c =
    let pushed = c.in_ok-push.ensures.ok ∙ ap (λ (f : declared.Fact). c.args.facts.now ++ fact_of f ∷ []) c.in_ok-copied.ensures in
    have_keys_on (g.B.Bank.trees c.args.bank.now) c.args.facts.now c.push.new.self (fact_of c.args.fact.now) c.key_of_fact-key.result c.len-at.result c.args.places.now c.insert.new.self c.requires.keyed c.key_of_fact-key.ensures pushed c.in_ok-insert.ensures.updates.0
