use Rattle.log_text.proofs.stops.put_deed.Goals as goal

pub put_terms-requires : goal.put_terms-requires
put_terms-requires c = c.received.ensures c.args.stopped.now.bank.now c.requires
