use Rattle.log_text.proofs.refusing.step_at.Goals as goal

pub said-requires : goal.said-requires
said-requires c = c.received.ensures c.args.attempt.now.bank.now c.requires
