use Rattle.std.proofs.Common.{List, map, sym, subst, arith}
use Rattle.std.proofs.lemmas.Grind.{common_steps}
use Rattle.pi_tree.specs.Protocols.{protocol_of}
use Rattle.clause_form.specs.Seen.{clause_at, AreClausesIn, IdClause}
use Rattle.clause_saturate.specs.declared.common.Begun.{Begun}
use Rattle.log_entries.specs.declared.log.Entry.{Entry}
use Rattle.log_entries.specs.Beating.{clauses_of}
use Rattle.clause_saturate.specs.Common.{IsBegun, IsFreshCommon}
use Rattle.query_verify.specs.Settled.{shared_by, shared_of}
use Rattle.query_verify.proofs.Commons.{common_later, common_fit, named_common, fresh_known}
use Rattle.query_verify.proofs.Fitting.{known_later, same_later}
use Rattle.query_verify.proofs.sharing.begun_verdicts.Goals as goal

pub begin-requires : goal.begin-requires
begin-requires g c =
    let P = protocol_of c.args.asking.now.protocol.now in
    record {
      fit = common_fit P (g.B.Bank.trees c.args.bank.now) c.args.given.now c.requires.limits c.requires.given (λ q cs d t has. c.translations_are_normal.ensures.normal P q cs d t has)
          (λ q cs d limits small t has. c.translations_are_within_the_limit.ensures.all P q cs d limits small t has);
    }

pub shared_verdicts-answers-requires-clause-given : goal.shared_verdicts-answers-requires-clause-given
shared_verdicts-answers-requires-clause-given g c =
    common_later (protocol_of c.args.asking.now.protocol.now) (g.B.Bank.trees c.args.bank.now) (g.B.Bank.trees c.begin.new.bank) c.args.given.now c.begin.ensures.grows c.requires.given

pub shared_verdicts-answers-requires-clause-common : goal.shared_verdicts-answers-requires-clause-common
shared_verdicts-answers-requires-clause-common g c =
    let old = g.B.Bank.trees c.args.bank.now in
    let new = g.B.Bank.trees c.begin.new.bank in
    let given = c.args.given.now in
    let budget = c.args.asking.now.budget in
    let begun : IsFreshCommon new (shared_of old given budget) c.in-Ready.common = subst (λ (b : Begun). IsBegun new (shared_of old given budget) b) c.in-Ready.is c.in_ok-common.ensures.begun in
    subst (λ cs. IsFreshCommon new (shared_by cs budget) c.in-Ready.common) (sym (same_later old new given c.begin.ensures.grows c.requires.given.names.known)) begun

pub shared_verdicts-answers-requires-clause-kept : goal.shared_verdicts-answers-requires-clause-kept
shared_verdicts-answers-requires-clause-kept g c =
    let new = g.B.Bank.trees c.begin.new.bank in
    let shared = shared_of (g.B.Bank.trees c.args.bank.now) c.args.given.now c.args.asking.now.budget in
    let begun : IsFreshCommon new shared c.in-Ready.common = subst (λ (b : Begun). IsBegun new shared b) c.in-Ready.is c.in_ok-common.ensures.begun in
    c.in_ok-known-in-Ready.ensures new (subst (λ (cs : List IdClause). AreClausesIn new cs) (sym c.in_ok-copied-in-Ready.ensures) (known_later (g.B.Bank.trees c.args.bank.now) new c.args.given.now c.begin.ensures.grows c.requires.given.names.known)) (subst (λ (log : List Entry). AreClausesIn new (clauses_of log)) (sym c.log.ensures) (fresh_known new shared c.in-Ready.common c.entries_tell_logs.ensures.known begun))

pub settled_verdicts-requires-clause-settled : goal.settled_verdicts-requires-clause-settled
settled_verdicts-requires-clause-settled g c =
    let old = g.B.Bank.trees c.args.bank.now in
    let new = g.B.Bank.trees c.begin.new.bank in
    let given = c.args.given.now in
    (map (clause_at old) given, named_common (protocol_of c.args.asking.now.protocol.now) old given c.requires.given, subst (λ (b : Begun). IsBegun new (shared_of old given c.args.asking.now.budget) b) c.in-Spent.is c.in_ok-common.ensures.begun)

pub settled_verdicts-requires-in-Large-clause-settled : goal.settled_verdicts-requires-in-Large-clause-settled
settled_verdicts-requires-in-Large-clause-settled g c =
    let old = g.B.Bank.trees c.args.bank.now in
    let new = g.B.Bank.trees c.begin.new.bank in
    let given = c.args.given.now in
    (map (clause_at old) given, named_common (protocol_of c.args.asking.now.protocol.now) old given c.requires.given, subst (λ (b : Begun). IsBegun new (shared_of old given c.args.asking.now.budget) b) c.in-Large.is c.in_ok-common.ensures.begun)

pub returns-in_ok-known-in-Ready-clause-grows : goal.returns-in_ok-known-in-Ready-clause-grows
returns-in_ok-known-in-Ready-clause-grows g c = grind (arith, common_steps)
