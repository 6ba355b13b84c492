-- The clauses so far are those of the list.
use Rattle.std.proofs.Common.{◌≡◌, map, take, rc_value}
use Rattle.cert_form.proofs.reading_out.share_clauses.Given as goal

abbrev pub invariant-each : goal.invariant-each
invariant-each l = map rc_value l.items.items ≡ map rc_value (take l.clause-index l.clause-items)
