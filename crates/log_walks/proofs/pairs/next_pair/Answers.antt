use Rattle.std.proofs.Common.{◌≡◌, ◌∙◌, ℕ, Option, None, Some, List, true, false, length, sym, subst, rules, arith}
use Rattle.spec_fingerprints.specs.Fingerprints.{clause_print}
use Rattle.fact_fingerprint.specs.Seen.{fingerprint_seen}
use Rattle.log_walks.specs.declared.stops.Pair.{Pair}
use Rattle.log_entries.specs.Live.{kept_prints, meets_at, IsPartner}
use Rattle.log_entries.specs.Classes.{AreClassed}
use Rattle.log_walks.specs.Pairs.{IsNextPair}
use Rattle.log_entries.proofs.Beside.{told_length}
use Rattle.log_walks.proofs.Found.{entry_known}
use Rattle.log_entries.proofs.Placing.{numbered_at}
use Rattle.log_walks.proofs.Partners.{no_next, next_solved, next_unsolved, none_dead, kind_within, kind_alive}
use Rattle.log_walks.proofs.pairs.next_pair.Goals as goal

pub is_solved-requires : goal.is_solved-requires
is_solved-requires g c = entry_known (g.B.Bank.trees c.args.bank.now) c.args.walk.now.items.items c.args.later c.index-last.result.now c.index-last.ensures c.requires.some c.requires.within c.requires.entries

pub class_partner-requires-clause-numbers : goal.class_partner-requires-clause-numbers
class_partner-requires-clause-numbers g c =
    let all = g.B.Bank.trees c.args.bank.now in
    let walk = c.args.walk.now in
    let same : c.deref.result.now ≡ walk.live.unsolved.items = search rules in
    kind_within all walk.items.items false walk.live.unsolved.items c.deref.result.now (length walk.live.prints.items) same (told_length clause_print fingerprint_seen all walk.items.items walk.live.prints.items c.requires.listed.prints) c.requires.listed.unsolved

pub class_partner-requires-clause-alive : goal.class_partner-requires-clause-alive
class_partner-requires-clause-alive g c =
    let walk = c.args.walk.now in
    let same : c.deref.result.now ≡ walk.live.unsolved.items = search rules in
    kind_alive (g.B.Bank.trees c.args.bank.now) walk.items.items false walk.live.unsolved.items c.deref.result.now same c.requires.listed.unsolved

pub class_partner-requires-clause-classed : goal.class_partner-requires-clause-classed
class_partner-requires-clause-classed g c =
    let walk = c.args.walk.now in
    let same : c.deref.result.now ≡ walk.live.unsolved.items = search rules in
    subst (λ (ns : List ℕ). AreClassed walk.items.items (kept_prints walk.live.prints.items) ns walk.live.unsolved_classes) (sym same) c.requires.listed.unsolved_classes

pub class_partner-requires-clause-many : goal.class_partner-requires-clause-many
class_partner-requires-clause-many g c =
    let walk = c.args.walk.now in
    told_length clause_print fingerprint_seen (g.B.Bank.trees c.args.bank.now) walk.items.items walk.live.prints.items c.requires.listed.prints

pub class_partner-requires-clause-within : goal.class_partner-requires-clause-within
class_partner-requires-clause-within g c =
    let walk = c.args.walk.now in
    let count = told_length clause_print fingerprint_seen (g.B.Bank.trees c.args.bank.now) walk.items.items walk.live.prints.items c.requires.listed.prints in
    omega (arith, c.requires.within, count)

pub class_partner-requires-2-clause-numbers : goal.class_partner-requires-2-clause-numbers
class_partner-requires-2-clause-numbers g c =
    let all = g.B.Bank.trees c.args.bank.now in
    let walk = c.args.walk.now in
    let same : c.deref-2.result.now ≡ walk.live.solved.items = search rules in
    kind_within all walk.items.items true walk.live.solved.items c.deref-2.result.now (length walk.live.prints.items) same (told_length clause_print fingerprint_seen all walk.items.items walk.live.prints.items c.requires.listed.prints) c.requires.listed.solved

pub class_partner-requires-2-clause-alive : goal.class_partner-requires-2-clause-alive
class_partner-requires-2-clause-alive g c =
    let walk = c.args.walk.now in
    let same : c.deref-2.result.now ≡ walk.live.solved.items = search rules in
    kind_alive (g.B.Bank.trees c.args.bank.now) walk.items.items true walk.live.solved.items c.deref-2.result.now same c.requires.listed.solved

pub class_partner-requires-2-clause-classed : goal.class_partner-requires-2-clause-classed
class_partner-requires-2-clause-classed g c =
    let walk = c.args.walk.now in
    let same : c.deref-2.result.now ≡ walk.live.solved.items = search rules in
    subst (λ (ns : List ℕ). AreClassed walk.items.items (kept_prints walk.live.prints.items) ns walk.live.solved_classes) (sym same) c.requires.listed.solved_classes

pub class_partner-requires-2-clause-many : goal.class_partner-requires-2-clause-many
class_partner-requires-2-clause-many g c =
    let walk = c.args.walk.now in
    told_length clause_print fingerprint_seen (g.B.Bank.trees c.args.bank.now) walk.items.items walk.live.prints.items c.requires.listed.prints

pub class_partner-requires-2-clause-within : goal.class_partner-requires-2-clause-within
class_partner-requires-2-clause-within g c =
    let walk = c.args.walk.now in
    let count = told_length clause_print fingerprint_seen (g.B.Bank.trees c.args.bank.now) walk.items.items walk.live.prints.items c.requires.listed.prints in
    omega (arith, c.requires.within, count)

pub returns-in_err-earlier : goal.returns-in_err-earlier
returns-in_err-earlier g c =
    let walk = c.args.walk.now in
    let x = c.index-last.result.now in
    let live : x.by ≡ None = search rules in
    let same : c.deref.result.now ≡ walk.live.unsolved.items = search rules in
    let none : c.from_residual.result ≡ None = search rules in
    subst (λ (o : Option Pair). IsNextPair (g.B.Bank.trees c.args.bank.now) walk.items.items c.args.later c.args.from o) (sym none)
    (no_next (g.B.Bank.trees c.args.bank.now) walk.items.items walk.live.prints.items c.args.later x c.requires.listed.prints
    (numbered_at walk.items.items c.args.later x c.index-last.ensures c.requires.some c.requires.within) live c.args.from true walk.live.unsolved.items
    (sym c.is_solved.ensures ∙ c.if-is_solved.true) c.requires.listed.unsolved (subst (λ (l : List ℕ). IsPartner (meets_at (kept_prints walk.live.prints.items) c.args.later) l c.args.later c.args.from None) same c.in_err-earlier.ensures))

pub returns-then-is_solved : goal.returns-then-is_solved
returns-then-is_solved g c =
    let walk = c.args.walk.now in
    let x = c.index-last.result.now in
    let live : x.by ≡ None = search rules in
    let same : c.deref.result.now ≡ walk.live.unsolved.items = search rules in
    next_solved (g.B.Bank.trees c.args.bank.now) walk.items.items walk.live.prints.items c.args.later x c.requires.listed.prints
    (numbered_at walk.items.items c.args.later x c.index-last.ensures c.requires.some c.requires.within) live c.args.from c.in_ok-earlier.earlier walk.live.unsolved.items
    (sym c.is_solved.ensures ∙ c.if-is_solved.true) c.requires.listed.unsolved (subst (λ (l : List ℕ). IsPartner (meets_at (kept_prints walk.live.prints.items) c.args.later) l c.args.later c.args.from (Some c.in_ok-earlier.earlier)) same c.in_ok-earlier.ensures)

pub returns-in_err-earlier-2 : goal.returns-in_err-earlier-2
returns-in_err-earlier-2 g c =
    let walk = c.args.walk.now in
    let x = c.index-last.result.now in
    let live : x.by ≡ None = search rules in
    let same : c.deref-2.result.now ≡ walk.live.solved.items = search rules in
    let none : c.from_residual-in_err-earlier-2.result ≡ None = search rules in
    subst (λ (o : Option Pair). IsNextPair (g.B.Bank.trees c.args.bank.now) walk.items.items c.args.later c.args.from o) (sym none)
    (no_next (g.B.Bank.trees c.args.bank.now) walk.items.items walk.live.prints.items c.args.later x c.requires.listed.prints
    (numbered_at walk.items.items c.args.later x c.index-last.ensures c.requires.some c.requires.within) live c.args.from false walk.live.solved.items
    (sym c.is_solved.ensures ∙ c.if-is_solved.false) c.requires.listed.solved (subst (λ (l : List ℕ). IsPartner (meets_at (kept_prints walk.live.prints.items) c.args.later) l c.args.later c.args.from None) same c.in_err-earlier-2.ensures))

pub returns : goal.returns
returns g c =
    let walk = c.args.walk.now in
    let x = c.index-last.result.now in
    let live : x.by ≡ None = search rules in
    let same : c.deref-2.result.now ≡ walk.live.solved.items = search rules in
    next_unsolved (g.B.Bank.trees c.args.bank.now) walk.items.items walk.live.prints.items c.args.later x c.requires.listed.prints
    (numbered_at walk.items.items c.args.later x c.index-last.ensures c.requires.some c.requires.within) live c.args.from c.in_ok-earlier-2.earlier walk.live.solved.items
    (sym c.is_solved.ensures ∙ c.if-is_solved.false) c.requires.listed.solved (subst (λ (l : List ℕ). IsPartner (meets_at (kept_prints walk.live.prints.items) c.args.later) l c.args.later c.args.from (Some c.in_ok-earlier-2.earlier)) same c.in_ok-earlier-2.ensures)

pub returns-then-is_some : goal.returns-then-is_some
returns-then-is_some g c =
    let x = c.index-last.result.now in
    none_dead (g.B.Bank.trees c.args.bank.now) c.args.walk.now.items.items c.args.later c.args.from x (numbered_at c.args.walk.now.items.items c.args.later x c.index-last.ensures c.requires.some c.requires.within) (sym c.is_some.ensures ∙ c.if-is_some.true)
