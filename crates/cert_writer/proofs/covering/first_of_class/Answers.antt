use Rattle.std.proofs.Common.{◌++◌, List, ℕ, None, Some, sym, subst}
use Rattle.clause_form.specs.Seen.{clause_at}
use Rattle.fact_classes.specs.Classes.{listed}
use Rattle.log_entries.specs.Numbers.{IsAmong, IsAscending}
use Rattle.cert_writer.specs.Classed.{IsFirstAmong}
use Rattle.cert_writer.proofs.Classed.{places_within}
use Rattle.cert_writer.proofs.covering.first_of_class.Goals as goal

pub first_among-requires-clause-ascending : goal.first_among-requires-clause-ascending
first_among-requires-clause-ascending g c = subst (λ (ns : List ℕ). IsAscending 0 ns) (sym c.of.ensures) (c.requires.ready.classes (Some c.args.class)).ascend

pub first_among-requires-clause-within : goal.first_among-requires-clause-within
first_among-requires-clause-within g c = λ n among. places_within (g.B.Bank.trees c.args.bank.now) c.args.writer.now c.requires.ready (Some c.args.class) n (subst (λ (ns : List ℕ). IsAmong ns n) c.of.ensures among)

pub first_among-requires-2-clause-ascending : goal.first_among-requires-2-clause-ascending
first_among-requires-2-clause-ascending g c = subst (λ (ns : List ℕ). IsAscending 0 ns) (sym c.deref.ensures.value) (c.requires.ready.classes None).ascend

pub first_among-requires-2-clause-within : goal.first_among-requires-2-clause-within
first_among-requires-2-clause-within g c = λ n among. places_within (g.B.Bank.trees c.args.bank.now) c.args.writer.now c.requires.ready None n (subst (λ (ns : List ℕ). IsAmong ns n) c.deref.ensures.value among)

pub returns : goal.returns
returns g c =
    let all = g.B.Bank.trees c.args.bank.now in
    let live = c.args.writer.now.live.now in
    let special = clause_at all c.args.clause.now in
    let both = c.lesser.ensures all live special c.of.result.now c.deref.result.now c.in_ok-own.ensures c.in_ok-rest.ensures in
    let own = subst (λ (ms : List ℕ). IsFirstAmong all live special (ms ++ c.deref.result.now) c.lesser.result) c.of.ensures both in
    subst (λ (ns : List ℕ). IsFirstAmong all live special (listed c.args.writer.now.classes.now (Some c.args.class) ++ ns) c.lesser.result) c.deref.ensures.value own
