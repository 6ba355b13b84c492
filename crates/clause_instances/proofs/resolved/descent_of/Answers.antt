use Rattle.std.proofs.Common.{arith}
use Rattle.std.proofs.lemmas.Grind.{common_steps}
use Rattle.term_tree.proofs.BankLaws.{AreKnown-grows, Grows_trans}
use Rattle.unify_match.proofs.SeenLemmas.{IsReady-grows}
use Rattle.clause_form.specs.Seen.{clause_at}
use Rattle.clause_form.proofs.Fit.{HasLowVariables-grows}
use Rattle.clause_instances.specs.Parents.{meeting_at}
use Rattle.clause_instances.proofs.Descending.{clause_later, no_part_kept, no_lefts, no_rights, whole_descent}
use Rattle.clause_instances.proofs.resolved.descent_of.Goals as goal

pub kept_of-requires : goal.kept_of-requires
kept_of-requires c = c.requires.met.raw.known

pub returns-in_default-clause-descends : goal.returns-in_default-clause-descends
returns-in_default-clause-descends c =
    let old = c.args.bank.now in
    let none = rw c.in_default.is at c.in_ok-kept.ensures.kept in
    no_part_kept (meeting_at old (clause_at old c.args.parents.solved.now) (clause_at old c.args.parents.unsolved.now) c.args.parents.met.now) c.args.number none

pub own_terms-requires-clause-clause : goal.own_terms-requires-clause-clause
own_terms-requires-clause-clause c = clause_later c.args.bank.now c.kept_of.new.bank c.args.parents.solved.now c.kept_of.ensures.grows c.requires.solved

pub own_terms-requires-clause-low : goal.own_terms-requires-clause-low
own_terms-requires-clause-low c = (HasLowVariables-grows c.args.bank.now c.kept_of.new.bank c.args.parents.solved.now c.kept_of.ensures.grows c.requires.solved c.requires.solved_low).facts

pub own_terms-requires-clause-ready : goal.own_terms-requires-clause-ready
own_terms-requires-clause-ready c = IsReady-grows c.args.bank.now c.kept_of.new.bank c.args.parents.met.now.binds.pairs c.kept_of.ensures.grows c.requires.met.ready

pub returns-in_default-2-clause-descends : goal.returns-in_default-2-clause-descends
returns-in_default-2-clause-descends c =
    let large = rw c.in_default-2.is at c.in_ok-lefts.ensures.terms in
    no_lefts c.args.bank.now c.kept_of.new.bank c.args.parents.solved.now c.args.parents.unsolved.now c.args.parents.met.now c.args.number c.kept_of.ensures.grows c.requires.met.ready c.own_terms.new.bank c.requires.solved large

pub own_terms-requires-2-clause-clause : goal.own_terms-requires-2-clause-clause
own_terms-requires-2-clause-clause c =
    clause_later c.args.bank.now c.own_terms.new.bank c.args.parents.unsolved.now (Grows_trans c.args.bank.now c.kept_of.new.bank c.own_terms.new.bank c.kept_of.ensures.grows c.own_terms.ensures.grows) c.requires.unsolved

pub own_terms-requires-2-clause-low : goal.own_terms-requires-2-clause-low
own_terms-requires-2-clause-low c =
    (HasLowVariables-grows c.args.bank.now c.own_terms.new.bank c.args.parents.unsolved.now (Grows_trans c.args.bank.now c.kept_of.new.bank c.own_terms.new.bank c.kept_of.ensures.grows c.own_terms.ensures.grows) c.requires.unsolved c.requires.unsolved_low).facts

pub own_terms-requires-2-clause-ready : goal.own_terms-requires-2-clause-ready
own_terms-requires-2-clause-ready c =
    IsReady-grows c.args.bank.now c.own_terms.new.bank c.args.parents.met.now.binds.pairs (Grows_trans c.args.bank.now c.kept_of.new.bank c.own_terms.new.bank c.kept_of.ensures.grows c.own_terms.ensures.grows) c.requires.met.ready

pub returns-in_default-3-clause-descends : goal.returns-in_default-3-clause-descends
returns-in_default-3-clause-descends c =
    let large = rw c.in_default-3.is at c.in_ok-rights.ensures.terms in
    no_rights c.args.bank.now c.own_terms.new.bank c.args.parents.solved.now c.args.parents.unsolved.now c.args.parents.met.now c.args.number (Grows_trans c.args.bank.now c.kept_of.new.bank c.own_terms.new.bank c.kept_of.ensures.grows c.own_terms.ensures.grows) c.requires.met.ready c.own_terms-2.new.bank c.requires.unsolved large

pub told-requires-clause-lefts : goal.told-requires-clause-lefts
told-requires-clause-lefts c =
    let own_lefts = rw c.in-Some-2.is at c.in_ok-lefts.ensures.terms in
    AreKnown-grows c.own_terms.new.bank c.own_terms-2.new.bank c.in-Some-2.lefts c.own_terms-2.ensures.grows own_lefts.0.known

pub told-requires-clause-rights : goal.told-requires-clause-rights
told-requires-clause-rights c = let own_rights = rw c.in-Some-3.is at c.in_ok-rights.ensures.terms in own_rights.0.known

pub returns-clause-descends : goal.returns-clause-descends
returns-clause-descends c =
    let kept = rw c.in-Some.is at c.in_ok-kept.ensures.kept in
    let own_lefts = rw c.in-Some-2.is at c.in_ok-lefts.ensures.terms in
    let own_rights = rw c.in-Some-3.is at c.in_ok-rights.ensures.terms in
    whole_descent c.args.bank.now c.kept_of.new.bank c.own_terms.new.bank c.own_terms-2.new.bank c.args.parents.solved.now c.args.parents.unsolved.now c.args.parents.met.now c.args.number c.in-Some.kept.items c.in-Some-2.lefts c.in-Some-3.rights c.in_ok-found.found
    c.kept_of.ensures.grows c.own_terms.ensures.grows c.own_terms-2.ensures.grows c.requires.solved c.requires.unsolved c.requires.met.ready kept own_lefts own_rights c.in_ok-found.ensures.variables c.in_ok-found.ensures.lefts c.in_ok-found.ensures.rights

pub returns-in_err-rights-clause-grows : goal.returns-in_err-rights-clause-grows
returns-in_err-rights-clause-grows c = grind (arith, common_steps)

pub returns-in_err-found-clause-grows : goal.returns-in_err-found-clause-grows
returns-in_err-found-clause-grows c = grind (arith, common_steps)

pub returns-in_err-lefts-clause-grows : goal.returns-in_err-lefts-clause-grows
returns-in_err-lefts-clause-grows c = grind (arith, common_steps)

pub returns-in_default-3-clause-grows : goal.returns-in_default-3-clause-grows
returns-in_default-3-clause-grows c = grind (arith, common_steps)

pub returns-clause-grows : goal.returns-clause-grows
returns-clause-grows c = grind (arith, common_steps)

pub returns-in_default-2-clause-grows : goal.returns-in_default-2-clause-grows
returns-in_default-2-clause-grows c = grind (arith, common_steps)
