-- Entries over owned trees.
use Rattle.std.specs.Prelude.{List}
use Rattle.spec_terms.specs.Term.{Term}
use Rattle.clause_form.specs.Seen.{clause_at}
use Rattle.log_entries.specs.declared.log.Entry.{Entry}
use Rattle.log_entries.specs.declared.log.PlainEntry.{PlainEntry}

-- the entry with the clause that its ids name, its origin and what subsumes it
abbrev pub plain_entry : List Term → Entry → PlainEntry
plain_entry all entry = record { clause = clause_at all entry.clause; origin = entry.origin; by = entry.by }
