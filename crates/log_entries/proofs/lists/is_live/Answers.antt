use Rattle.std.proofs.Common.{◌≡◌, ◌∙◌, ℕ, Bool, true, false, not, Option, Some, None, refl, sym, ap, subst, arith}
use Rattle.std.specs.Prelude.{is_some}
use Rattle.log_entries.specs.declared.log.Entry.{Entry}
use Rattle.log_entries.specs.Logs.{is_unbeaten}
use Rattle.log_entries.specs.Numbers.{is_live_entry}
use Rattle.log_entries.proofs.Placing.{numbered_at}
use Rattle.log_entries.proofs.lists.is_live.Goals as goal

unbeaten : (by : Option ℕ) (yes : Bool) → is_some by ≡ not yes → yes ≡ is_unbeaten by
unbeaten None true e = refl
unbeaten None false e = cc
unbeaten (Some number) true e = cc
unbeaten (Some number) false e = refl

pub returns : goal.returns
returns c =
    let x = c.index-entries-number.result in
    let at = numbered_at c.args.entries.now c.args.number x c.index-entries-number.is (omega arith) (omega arith) in
    let none = subst (λ (e : Entry). is_some e.by ≡ not c.is_none.result) (sym c.index-entries-number.is) c.is_none.ensures in
    unbeaten x.by c.is_none.result none ∙ ap is_live_entry (sym at)
