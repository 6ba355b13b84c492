use Rattle.std.proofs.Common.{length, ap, rc_value, arith}
use Rattle.std.proofs.lemmas.List.{length-map}
use Rattle.cert_form.proofs.reading_out.count_clauses.Goals as goal

pub returns : goal.returns
returns c = omega (arith, c.len.ensures, length-map c.clauses.inside.items.items rc_value, ap length c.clauses.view_is)
