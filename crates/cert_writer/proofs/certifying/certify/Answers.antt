use Rattle.cert_writer.proofs.certifying.certify.Goals as goal

pub certify_with-requires-clause-kept : goal.certify_with-requires-clause-kept
certify_with-requires-clause-kept g c = c.none_known-known.ensures.known (g.B.Bank.trees c.args.bank.now)
