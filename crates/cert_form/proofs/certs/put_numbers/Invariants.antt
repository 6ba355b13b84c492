use Rattle.cert_form.specs.Remaining.{HasPut, numbers_from}
use Rattle.cert_form.proofs.certs.put_numbers.Given as goal

abbrev pub invariant-each : goal.invariant-each
invariant-each l = HasPut numbers_from l.number-index l.numbers l.initial.out.items l.out.items
