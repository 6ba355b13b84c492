use Rattle.std.proofs.Common.{◌∙◌, map, ap}
use Rattle.clause_form.specs.Heads.{head_seen}
use Rattle.clause_diffs.specs.Plain.{term_of}
use Rattle.clause_form.proofs.Made.{made_of-names}
use Rattle.clause_form.proofs.copies.copy_listed.Goals as goal

pub returns-clause-names : goal.returns-clause-names
returns-clause-names g c =
    made_of-names (g.B.Bank.trees c.copy_terms.new.bank) (head_seen c.args.head) c.in_ok-ids.ids (map term_of c.deref.result.now) c.args.terms.now c.made_of.result c.in_ok-ids.ensures.names (ap (map term_of) c.deref.ensures.value ∙ c.terms.view_is) c.made_of.ensures
