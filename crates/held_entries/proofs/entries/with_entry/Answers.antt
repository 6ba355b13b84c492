use Rattle.std.proofs.Common.{length, map, subst}
use Rattle.std.proofs.lemmas.List.{length-map}
use Rattle.held_entries.specs.Entries.{held_of}
use Rattle.held_entries.specs.Index.{IsIndexOf}
use Rattle.held_entries.proofs.Finding.{index-more}
use Rattle.held_entries.proofs.entries.with_entry.Goals as goal

pub returns-in_ok-new-in-Some : goal.returns-in_ok-new-in-Some
returns-in_ok-new-in-Some c =
    let entries = map held_of c.args.items.now in
    index-more c.in-Some.classes c.in_ok-new-in-Some.new entries (held_of c.args.held.now) (length c.args.items.now)
    (subst (λ classes. IsIndexOf classes entries) c.in-Some.is c.requires) (length-map c.args.items.now held_of)
    c.in_ok-new-in-Some.ensures.kept c.in_ok-new-in-Some.ensures.listed
