use Rattle.std.proofs.Common.{◌≡◌, List, [], ◌∷◌, map, ap, sym, subst, ◌∙◌}
use Rattle.spec_terms.specs.Term.{Term}
use Rattle.spec_clauses.specs.Fact.{Fact, Clause, Att}
use Rattle.term_tree.specs.Bank.{tree_at}
use Rattle.term_tree.specs.declared.bank.Id.{Id}
use Rattle.term_tree.proofs.BankLaws.{Grows_refl}
use Rattle.clause_form.specs.Seen.{fact_at, clause_at, AreFactsIn, IsClauseIn}
use Rattle.attacker_clauses.proofs.Raws.{single, known_atts, atts_named}
use Rattle.attacker_clauses.proofs.Adding.{last_added}
use Rattle.attacker_clauses.proofs.listing.add_known.Goals as goal

pub add_raw-requires : goal.add_raw-requires
add_raw-requires g c =
    let old = g.B.Bank.trees c.args.bank.now in
    let phase = c.args.at.phase in
    let known = subst (λ (l : List (Fact Id)). AreFactsIn old l) (sym c.in_ok-hyps.ensures) (known_atts phase old c.args.terms.now c.requires.terms) in
    subst (λ ds. IsClauseIn old (record { hypotheses = c.in_ok-hyps.hyps; diffs = ds; conclusion = Att phase c.args.last })) (sym c.new.ensures)
    (record { hypotheses = known; diffs = tt; conclusion = (c.requires.last, tt) })

pub returns-clause-adds : goal.returns-clause-adds
returns-clause-adds g c =
    let old = g.B.Bank.trees c.args.bank.now in
    let phase = c.args.at.phase in
    let last = tree_at old c.args.last in
    let raw : Clause Term = clause_at old (record { hypotheses = c.in_ok-hyps.hyps; diffs = c.new.result; conclusion = Att phase c.args.last }) in
    let unconstrained : raw ∷ [] ≡ single phase (map (fact_at old) c.in_ok-hyps.hyps) last =
    ap (λ ds. clause_at old (record { hypotheses = c.in_ok-hyps.hyps; diffs = ds; conclusion = Att phase c.args.last }) ∷ []) c.new.ensures in
    last_added old old (g.B.Bank.trees c.add_raw.new.bank) c.args.list.now c.add_raw.new.list (raw ∷ []) (single phase (map (Att phase) (map (tree_at old) c.args.terms.now)) last)
    c.add_raw.result (Grows_refl old) (unconstrained ∙ ap (λ l. single phase l last) (atts_named phase old c.args.terms.now c.in_ok-hyps.hyps c.in_ok-hyps.ensures)) c.add_raw.ensures.adds
