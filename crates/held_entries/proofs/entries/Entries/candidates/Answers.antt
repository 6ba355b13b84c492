use Rattle.std.proofs.Common.{Some, map, subst}
use Rattle.held_entries.specs.Entries.{held_of}
use Rattle.held_entries.specs.Index.{IsIndexOf}
use Rattle.held_entries.proofs.Finding.{candidates-of}
use Rattle.held_entries.proofs.entries.Entries.candidates.Goals as goal

pub returns-in-Some-2 : goal.returns-in-Some-2
returns-in-Some-2 c =
    let is_class = rw c.in-Some-2.is at c.in_ok-class-in-Some.ensures in
    let listed = subst (λ classes. IsIndexOf classes (map held_of c.self.inside.items.items)) c.in-Some.is c.self.invariant in
    candidates-of c.args.wanted.now c.args.table c.in-Some-2.class c.in-Some.classes c.args.self.now c.of.result.now
    (subst (IsIndexOf (Some c.in-Some.classes)) c.self.view_is listed) is_class c.of.ensures
