use Rattle.node_reader.specs.Tables.{table_of}
use Rattle.numbered_reader.proofs.Known.{known_ids, sides_back, diff_back}
use Rattle.numbered_reader.proofs.numbers.NumberedTermsTermReader.make_diff.Goals as goal

pub returns-clause-seen : goal.returns-clause-seen
returns-clause-seen c = sides_back (table_of c.args.self.now.table.now).terms c.args.left.items c.args.right.items

pub returns-clause-known : goal.returns-clause-known
returns-clause-known c = λ left right.
    let all = (table_of c.args.self.now.table.now).terms in
    (record { left = known_ids all c.args.left.items left; right = known_ids all c.args.right.items right }, diff_back all c.args.left.items c.args.right.items)
