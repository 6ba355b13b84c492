use Rattle.log_entries.proofs.reading.read_entry.Goals as goal

pub returns : goal.returns
returns g c = λ i. record { clause = c.in_ok-clause.ensures i; origin = c.args.entry.now.origin; by = c.args.entry.now.by }
