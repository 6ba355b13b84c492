use Rattle.std.proofs.Common.{◌≡◌, ◌∙◌, ◌+◌, length, map, drop, ap, sym, subst, rules, arith}
use Rattle.std.proofs.lemmas.List.{length-map}
use Rattle.spec_certificates.specs.Ruling.{Extra, NoneLeft}
use Rattle.cert_stages.specs.Checked.{cert_in}
use Rattle.cert_checker.proofs.Leftovers.{row_left, goal_left}
use Rattle.cert_checker.proofs.left_over.left_over.Goals as goal

pub returns-then-row-len : goal.returns-then-row-len
returns-then-row-len c = λ all.
    let cert = cert_in all c.args.checker.now in
    let are : cert.rows ≡ map (λ r. r.items) c.rows.inside.items.items = search rules in
    let size : length cert.rows ≡ length c.rows.inside.items.items = ap (λ l. length l) are ∙ length-map c.rows.inside.items.items (λ r. r.items) in
    let told : c.len.result ≡ length c.rows.inside.items.items = search rules in
    row_left cert c.args.row (drop c.args.goal cert.goals) (omega (arith, size, told, c.if-row-len.true))

pub returns-then-goal-len : goal.returns-then-goal-len
returns-then-goal-len c = λ all.
    let cert = cert_in all c.args.checker.now in
    let are : cert.rows ≡ map (λ r. r.items) c.rows.inside.items.items = search rules in
    let size : length cert.rows ≡ length c.rows.inside.items.items = ap (λ l. length l) are ∙ length-map c.rows.inside.items.items (λ r. r.items) in
    let told : c.len.result ≡ length c.rows.inside.items.items = search rules in
    let again : c.len-then-goal-len.result ≡ length c.rows.inside.items.items = search rules in
    let goals_are : cert.goals ≡ map (λ r. r.items) c.goals.inside.items.items = search rules in
    let goals_size : length cert.goals ≡ length c.goals.inside.items.items = ap (λ l. length l) goals_are ∙ length-map c.goals.inside.items.items (λ r. r.items) in
    let goals_told : c.len-2.result ≡ length c.goals.inside.items.items = search rules in
    subst (λ n. NoneLeft cert (drop c.args.row cert.rows) (drop c.args.goal cert.goals) (Extra (n + c.args.goal + 1))) (size ∙ sym again)
    (goal_left cert c.args.row c.args.goal (omega (arith, size, told, c.if-row-len.false)) (omega (arith, goals_size, goals_told, c.if-goal-len.true)))
