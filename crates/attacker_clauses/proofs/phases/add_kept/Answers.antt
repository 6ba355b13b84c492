use Rattle.std.proofs.Common.{◌≡◌, ◌+◌, List, [], ◌∷◌, map, ap, ◌∙◌, sym, subst}
use Rattle.spec_terms.specs.Term.{Term}
use Rattle.spec_clauses.specs.Fact.{Fact, Clause, Att}
use Rattle.spec_translation.specs.Attacker.{kept_known}
use Rattle.term_tree.specs.Bank.{tree_at}
use Rattle.term_tree.specs.declared.bank.Id.{Id}
use Rattle.term_tree.proofs.BankLaws.{Grows_trans}
use Rattle.clause_form.specs.Seen.{fact_at, clause_at, AreFactsIn, IsClauseIn}
use Rattle.attacker_clauses.proofs.Raws.{single, atts_named}
use Rattle.attacker_clauses.proofs.Adding.{last_added}
use Rattle.attacker_clauses.proofs.phases.add_kept.Goals as goal

pub add_raw-requires : goal.add_raw-requires
add_raw-requires g c =
    let made = g.B.Bank.trees c.var.new.self in
    let has = c.in_ok-term.ensures.names.known in
    let known = subst (λ (l : List (Fact Id)). AreFactsIn made l) (sym c.in_ok-hyps.ensures) ((has, tt), tt) in
    subst (λ ds. IsClauseIn made (record { hypotheses = c.in_ok-hyps.hyps; diffs = ds; conclusion = Att (c.args.at.phase + 1) c.in_ok-term.term })) (sym c.new.ensures)
    (record { hypotheses = known; diffs = tt; conclusion = (has, tt) })

pub returns-clause-adds : goal.returns-clause-adds
returns-clause-adds g c =
    let old = g.B.Bank.trees c.args.bank.now in
    let made = g.B.Bank.trees c.var.new.self in
    let k = c.args.at.phase in
    let hyps = atts_named k made (c.in_ok-term.term ∷ []) c.in_ok-hyps.hyps c.in_ok-hyps.ensures in
    let last = tree_at made c.in_ok-term.term in
    let raw : Clause Term = clause_at made (record { hypotheses = c.in_ok-hyps.hyps; diffs = c.new.result; conclusion = Att (k + 1) c.in_ok-term.term }) in
    let unconstrained : raw ∷ [] ≡ single (k + 1) (map (fact_at made) c.in_ok-hyps.hyps) last =
    ap (λ ds. clause_at made (record { hypotheses = c.in_ok-hyps.hyps; diffs = ds; conclusion = Att (k + 1) c.in_ok-term.term }) ∷ []) c.new.ensures in
    last_added old made (g.B.Bank.trees c.add_raw.new.bank) c.args.list.now c.add_raw.new.list (raw ∷ []) (kept_known k ∷ [])
    c.add_raw.result c.var.ensures.grows
    (unconstrained ∙ (ap (λ l. single (k + 1) l last) hyps ∙ ap (λ t. single (k + 1) (Att k t ∷ []) t) c.in_ok-term.ensures.names.is)) c.add_raw.ensures.adds

pub returns-clause-grows : goal.returns-clause-grows
returns-clause-grows g c = Grows_trans (g.B.Bank.trees c.args.bank.now) (g.B.Bank.trees c.var.new.self) (g.B.Bank.trees c.add_raw.new.bank) c.var.ensures.grows c.add_raw.ensures.grows
