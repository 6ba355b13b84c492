use Rattle.std.proofs.Common.{◌+◌, ◌-◌, ◌^◌, ◌<◌, ◌≤◌, ℕ, Option, subst, arith}
use Rattle.std.specs.List.{AllByRecursion}
use Rattle.std.specs.Prelude.{IfSome}
use Rattle.spec_clauses.proofs.Lists.{all_weaker}
use Rattle.unified_visits.proofs.spans.numbered_from.Goals as goal

pub returns-in-Some-clause-room : goal.returns-in-Some-clause-room
returns-in-Some-clause-room c =
    let base = c.args.base in
    let has = subst (λ (o : Option ℕ). IfSome o (λ end. (base ≤ end) × AllByRecursion (λ i. base + (i - 0) < end) c.args.numbers.now)) c.in-Some.is c.end_of.ensures in
    all_weaker (λ (i : ℕ). base + (i - 0) < c.in-Some.end) (λ (i : ℕ). base + (i - 0) < 2 ^ 32) (λ i h. omega (arith, h, c.if-end-le-MOST_NEXT.true)) c.args.numbers.now has.1
