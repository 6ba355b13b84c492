use Rattle.table_calls.proofs.clause_rows.pairs.fit_of.Goals as goal

pub returns : goal.returns
returns c =
    let small = c.is_small.ensures c.if-not-is_small.false in
    record {
      known = c.requires.known;
      normal = c.in_ok-is_normal.ensures.0 c.if-not-branch.false;
      small = small;
      low = c.requires.low small;
    }
