use Rattle.numbered_reader.proofs.Known.{ids_read}
use Rattle.numbered_reader.proofs.numbers.NumberedTermsTermReader.make_fact.Goals as goal

pub returns-in-Tab-clause-known : goal.returns-in-Tab-clause-known
returns-in-Tab-clause-known c = λ known. ids_read c.args.self.now.table.now.bank c.args.read _ c.in-Tab.is known

pub returns-in-Ev-clause-known : goal.returns-in-Ev-clause-known
returns-in-Ev-clause-known c = λ known. ids_read c.args.self.now.table.now.bank c.args.read _ c.in-Ev.is known

pub returns-in-Mev-clause-known : goal.returns-in-Mev-clause-known
returns-in-Mev-clause-known c = λ known. ids_read c.args.self.now.table.now.bank c.args.read _ c.in-Mev.is known

pub returns-in-Bad-clause-known : goal.returns-in-Bad-clause-known
returns-in-Bad-clause-known c = λ known. ids_read c.args.self.now.table.now.bank c.args.read _ c.in-Bad.is known
