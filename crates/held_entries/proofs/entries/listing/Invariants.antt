use Rattle.held_entries.specs.Entries.{held_of}
use Rattle.held_entries.proofs.Finding.{IsListing}
use Rattle.held_entries.proofs.entries.listing.Given as goal

abbrev pub invariant-loop-column : goal.invariant-loop-column
invariant-loop-column l = IsListing l.fn.classes l.classes (held_of l.held) l.number l.column
