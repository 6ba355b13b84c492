-- The tokens have no other answer than the one that was read.
use Rattle.std.proofs.Common.{◌≡◌, ℕ, Option, IfSome, sym, ◌∙◌, subst}
use Rattle.pi_parser.specs.Errors.{Refusal, fault_of}
use Rattle.pi_parser.specs.Files.{file_of}
use Rattle.pi_parser.specs.Answers.{place_at}
use Rattle.pi_parser.proofs.Tokens.{only_sketch, sketch_refused, placed_accepts, placed_refuses}
use Rattle.pi_parser.proofs.parse.Goals as goal

pub returns-in-Ok-clause-accepts : goal.returns-in-Ok-clause-accepts
returns-in-Ok-clause-accepts c = λ f spelled. only_sketch c.args.source.now c.args.tokens.now (file_of c.in-Ok.sketch) f c.in-Ok.ensures spelled

pub returns-in-Ok-clause-refuses : goal.returns-in-Ok-clause-refuses
returns-in-Ok-clause-refuses c = λ why i refused. sketch_refused c.args.source.now c.args.tokens.now (file_of c.in-Ok.sketch) why i c.in-Ok.ensures refused

pub returns-in-Err-clause-accepts : goal.returns-in-Err-clause-accepts
returns-in-Err-clause-accepts c = λ f spelled. c.error_at.ensures ∙ placed_accepts c.args.source.now c.args.tokens.now (fault_of c.in-Err.fault) c.in-Err.ensures f spelled

pub returns-in-Err-clause-refuses : goal.returns-in-Err-clause-refuses
returns-in-Err-clause-refuses c = λ why i refused.
    subst (λ (o : Option (Refusal × ℕ)). IfSome o (λ refusal. (refusal.0 ≡ why) × (refusal.1 ≡ place_at c.args.source.now c.args.tokens.now i))) (sym c.error_at.ensures)
    (placed_refuses c.args.source.now c.args.tokens.now (fault_of c.in-Err.fault) c.in-Err.ensures why i refused)
