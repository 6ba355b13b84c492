use Rattle.log_text.proofs.refusing.fetched.Goals as goal

pub entry_at-requires : goal.entry_at-requires
entry_at-requires c = c.received.ensures c.args.attempt.now.bank.now c.requires
