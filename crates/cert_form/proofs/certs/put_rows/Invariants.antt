use Rattle.cert_form.specs.Remaining.{HasPut, rows_from}
use Rattle.cert_form.proofs.certs.put_rows.Given as goal

abbrev pub invariant-each : goal.invariant-each
invariant-each l = HasPut (rows_from l.letter) l.row-index l.rows l.initial.out.items l.out.items
