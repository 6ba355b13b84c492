use Rattle.std.proofs.Common.{◌≡◌, ◌++◌, ◌∷◌, [], OnOk, subst}
use Rattle.clause_form.specs.declared.facts.Fact as declared
use Rattle.clause_form.specs.Facts.{fact_of}
use Rattle.clause_form.proofs.Flattening.{other_added}
use Rattle.clause_form.proofs.flat.add_flat.Goals as goal

pub returns : goal.returns
returns g c =
    let added = subst (λ (f : declared.Fact). OnOk c.push.result (c.push.new.self ≡ c.args.facts.now ++ fact_of f ∷ [])) c.in_ok-copied.ensures c.push.ensures.ok in
    other_added (g.B.Bank.trees c.args.bank.now) c.args.fact.now c.push.result c.args.facts.now c.push.new.self added c.push.ensures.err c.in_default.not-Att c.requires.fact c.requires.facts
