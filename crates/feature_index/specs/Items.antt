-- What contracts see of the items of an index.
use Rattle.std.specs.Prelude.{ℕ, Bool, false, nat_lt, nat_eq, Option, Some, None, List, slice_get}
use Rattle.std.specs.List.{prefix_len}
use Rattle.feature_index.specs.declared.index.Item.{Item}
use Rattle.feature_index.specs.Listed.{Listed}

abbrev pub listed_of : Item → Listed
listed_of item = record { entry = item.entry; features = item.features.lanes }

-- the place of an entry: behind all lesser ones
abbrev pub place_in : List Listed → ℕ → ℕ
place_in ls e = prefix_len (λ l. nat_lt l.entry e) ls

-- whether what stands at the place, if anything does, is the entry
abbrev pub is_entry : Option Listed → ℕ → Bool
is_entry None e = false
is_entry (Some l) e = nat_eq e l.entry

abbrev pub stands_at : List Listed → ℕ → ℕ → Bool
stands_at ls place e = is_entry (slice_get ls place) e
