use Rattle.std.proofs.Common.{sym}
use Rattle.clause_instances.specs.Instances.{pending_at}
use Rattle.clause_instances.proofs.Origins.{told_at, not_there, given_at, resolved_at, nothing_given, nothing_resolved}
use Rattle.clause_instances.proofs.expansion.expand.Goals as goal

pub returns-in_default-clause-expanded : goal.returns-in_default-clause-expanded
returns-in_default-clause-expanded c = λ log tells.
    let p = pending_at c.args.bank.now c.args.pending.now in
    let n = c.args.expansion.now.next in
    let none = not_there log c.args.derivation.now.log.now p.number in
    (nothing_given c.args.derivation.now.sources.now log p n (λ e at. none e tells (sym c.in_default.ensures) at), nothing_resolved log p n (λ e at. none e tells (sym c.in_default.ensures) at))

pub returns-in-Given-clause-expanded : goal.returns-in-Given-clause-expanded
returns-in-Given-clause-expanded c = λ log tells.
    let p = pending_at c.args.bank.now c.args.pending.now in
    let there = told_at log c.args.derivation.now.log.now p.number c.in-Some.entry.now tells (sym c.in-Some.ensures) in
    c.given.ensures.given log (given_at log p c.in-Some.entry.now c.in-Given.number there.0 there.1 there.2 c.in-Given.is)

pub returns-in-Resolvent-clause-expanded : goal.returns-in-Resolvent-clause-expanded
returns-in-Resolvent-clause-expanded c = λ log tells.
    let p = pending_at c.args.bank.now c.args.pending.now in
    let there = told_at log c.args.derivation.now.log.now p.number c.in-Some.entry.now tells (sym c.in-Some.ensures) in
    c.resolved.ensures.resolved log tells (resolved_at log p c.in-Some.entry.now record { number = c.in-Resolvent.k; solved = c.in-Resolvent.solved; unsolved = c.in-Resolvent.unsolved } there.0 there.1 there.2 c.in-Resolvent.is)
