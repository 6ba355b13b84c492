use Rattle.std.proofs.Common.{map, arith}
use Rattle.std.proofs.lemmas.List.{length-map}
use Rattle.clause_form.specs.Facts.{fact_of}
use Rattle.multiset_subsume.proofs.Refuting.{cannot_so_many}
use Rattle.multiset_subsume.proofs.quick.too_many.Goals as goal

pub returns-then-count_firm-hyps : goal.returns-then-count_firm-hyps
returns-then-count_firm-hyps g c = λ e. cannot_so_many (g.B.Bank.trees c.args.bank.now) (map fact_of c.args.facts.now) (map fact_of c.args.hyps.now) (omega (arith, length-map c.args.hyps.now fact_of, c.count_firm.ensures, c.if-count_firm-hyps.true))
