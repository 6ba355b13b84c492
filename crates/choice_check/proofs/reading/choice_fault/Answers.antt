use Rattle.std.proofs.Common.{ap, refl, sym}
use Rattle.spec_certificate_text.specs.Terms as terms
use Rattle.choice_text.specs.Seen.{code_of, fault_of}
use Rattle.choice_check.proofs.reading.choice_fault.Goals as goal

pub returns-in-Syntax : goal.returns-in-Syntax
returns-in-Syntax c = record {
  code = terms.Syntax;
  coded = refl;
  is = record { fault = fault_of c.args.fault; first = c.requires; is = sym (ap code_of c.in-Syntax.is); stands = refl };
}

pub returns-in-Number : goal.returns-in-Number
returns-in-Number c = record {
  code = terms.Number;
  coded = refl;
  is = record { fault = fault_of c.args.fault; first = c.requires; is = sym (ap code_of c.in-Number.is); stands = refl };
}

pub returns-in-Count : goal.returns-in-Count
returns-in-Count c = record {
  code = terms.Count;
  coded = refl;
  is = record { fault = fault_of c.args.fault; first = c.requires; is = sym (ap code_of c.in-Count.is); stands = refl };
}
