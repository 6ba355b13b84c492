use Rattle.std.proofs.Common.{◌≡◌, ◌++◌, ℕ, map, take, Vec, Global}
use Rattle.cert_writer.proofs.known.put_rows.Given as goal

abbrev pub invariant-each : goal.invariant-each
invariant-each l = map (λ (row : Vec ℕ Global). row.items) l.rows-inside.items.items ≡ l.fn.rows ++ take l.row-index l.kept
