use Rattle.std.proofs.Common.{◌∙◌, ℕ, Option, List, [], ◌∷◌, ◌++◌, map, Vec, Global, inr, ap, sym, subst, arith}
use Rattle.std.proofs.lemmas.Grind.{common_steps}
use Rattle.std.specs.Prelude.{MatchOption}
use Rattle.std.proofs.lemmas.List.{map-append}
use Rattle.spec_translation.specs.Satisfied.{IsSatisfied}
use Rattle.spec_verdicts.specs.FirstRows.{IsFirstGoal}
use Rattle.pi_tree.specs.Protocols.{protocol_of}
use Rattle.clause_form.specs.Seen.{clause_at}
use Rattle.cert_writer.proofs.satisfying.add_goal.Goals as goal

pub returns-in-None : goal.returns-in-None
returns-in-None g c = λ q at.
    let P = protocol_of c.args.writer.now.protocol.now in
    let clause = clause_at (g.B.Bank.trees c.args.bank.now) c.args.entry.now.clause in
    record {
      due = sym c.is_due.ensures ∙ c.if-not-is_due.false;
      unsatisfied = subst (λ (found : Option (Vec ℕ Global)). MatchOption found (IsSatisfied P q clause → ⊥) (λ row. IsFirstGoal P q clause row.items)) c.in-None.is (c.in_ok-goal_row.ensures q at);
    }

pub returns-in_ok-push-in-Some : goal.returns-in_ok-push-in-Some
returns-in_ok-push-in-Some g c = λ q at.
    let P = protocol_of c.args.writer.now.protocol.now in
    let clause = clause_at (g.B.Bank.trees c.args.bank.now) c.args.entry.now.clause in
    let numbers = λ (row : Vec ℕ Global). row.items in
    let row = c.in-Some.row in
    inr record {
      due = sym c.is_due.ensures ∙ c.if-not-is_due.false;
      row = row.items;
      first = subst (λ (found : Option (Vec ℕ Global)). MatchOption found (IsSatisfied P q clause → ⊥) (λ found_row. IsFirstGoal P q clause found_row.items)) c.in-Some.is (c.in_ok-goal_row.ensures q at);
      are = ap (map numbers) c.in_ok-push-in-Some.ensures.items ∙ (map-append numbers c.rows.inside.items.items (row ∷ []) ∙ ap (λ (rows : List (List ℕ)). rows ++ row.items ∷ []) c.rows.view_is);
    }

pub returns-then-not-is_due : goal.returns-then-not-is_due
returns-then-not-is_due g c = grind (arith, common_steps)
