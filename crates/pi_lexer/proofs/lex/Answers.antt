use Rattle.std.proofs.Common.{◌+◌, map, ap, sym, ◌∙◌, subst, arith, append-nil}
use Rattle.std.proofs.lemmas.Grind.{common_steps}
use Rattle.std.proofs.lemmas.List.{map-append}
use Rattle.spec_protocol_tokens.specs.Piece.{Blank, Comment, Lexeme, BadByte, OpenComment, LongNumber}
use Rattle.pi_lexer.specs.Token.{token_of, kind_of}
use Rattle.pi_lexer.proofs.Lexing.{IsSoFar, IsSoFar-push, Lexed-from, none_lexed, once_refused}
use Rattle.spec_protocol_tokens.proofs.Answers.{Lexed-one, Lexed-not_Stops}
use Rattle.pi_lexer.proofs.lex.Goals as goal

-- white space is no token
pub loop-at-preserved-in-Blank : goal.loop-at-preserved-in-Blank
loop-at-preserved-in-Blank c =
    let next = IsSoFar-push _ _ _ Blank c.loop-at.invariant c.in-Blank.ensures.found (omega arith) c.in-Blank.ensures.within in
    subst (λ tokens. IsSoFar c.args.source.now (c.loop-at.at + 1) tokens) (append-nil (map token_of c.loop-at.items.items)) next

-- nor is a comment
pub loop-at-preserved-in-Comment : goal.loop-at-preserved-in-Comment
loop-at-preserved-in-Comment c =
    let within = c.in-Comment.ensures.within in
    let next = IsSoFar-push _ _ _ (Comment c.in-Comment.size) c.loop-at.invariant c.in-Comment.ensures.found within.0 within.1 in
    subst (λ tokens. IsSoFar c.args.source.now (c.loop-at.at + c.in-Comment.size) tokens) (append-nil (map token_of c.loop-at.items.items)) next

-- a token is pushed
pub loop-at-preserved : goal.loop-at-preserved
loop-at-preserved c =
    let within = c.in-Lexeme.ensures.within in
    let next = IsSoFar-push _ _ _ (Lexeme (kind_of c.in-Lexeme.kind) c.in-Lexeme.size) c.loop-at.invariant c.in-Lexeme.ensures.found within.0 within.1 in
    let pushed = ap (map token_of) c.in_ok-push-in-Lexeme.ensures.items ∙ map-append token_of c.loop-at.items.items _ in
    subst (λ tokens. IsSoFar c.args.source.now (c.loop-at.at + c.in-Lexeme.size) tokens) (sym pushed) next

pub returns-in-BadByte-clause-refused : goal.returns-in-BadByte-clause-refused
returns-in-BadByte-clause-refused c = grind (arith, common_steps)

pub returns-in-BadByte-clause-accepts : goal.returns-in-BadByte-clause-accepts
returns-in-BadByte-clause-accepts c = λ tokens lexed. absurd (none_lexed _ _ _ BadByte c.loop-at.invariant c.in-BadByte.ensures.found tokens lexed)

pub returns-in-BadByte-clause-refuses : goal.returns-in-BadByte-clause-refuses
returns-in-BadByte-clause-refuses c = once_refused _ _ _ BadByte c.loop-at.invariant c.in-BadByte.ensures.found

pub returns-in-OpenComment-clause-refused : goal.returns-in-OpenComment-clause-refused
returns-in-OpenComment-clause-refused c = grind (arith, common_steps)

pub returns-in-OpenComment-clause-accepts : goal.returns-in-OpenComment-clause-accepts
returns-in-OpenComment-clause-accepts c = λ tokens lexed. absurd (none_lexed _ _ _ OpenComment c.loop-at.invariant c.in-OpenComment.ensures.found tokens lexed)

pub returns-in-OpenComment-clause-refuses : goal.returns-in-OpenComment-clause-refuses
returns-in-OpenComment-clause-refuses c = once_refused _ _ _ OpenComment c.loop-at.invariant c.in-OpenComment.ensures.found

pub returns-in-LongNumber-clause-refused : goal.returns-in-LongNumber-clause-refused
returns-in-LongNumber-clause-refused c = grind (arith, common_steps)

pub returns-in-LongNumber-clause-accepts : goal.returns-in-LongNumber-clause-accepts
returns-in-LongNumber-clause-accepts c = λ tokens lexed. absurd (none_lexed _ _ _ LongNumber c.loop-at.invariant c.in-LongNumber.ensures.found tokens lexed)

pub returns-in-LongNumber-clause-refuses : goal.returns-in-LongNumber-clause-refuses
returns-in-LongNumber-clause-refuses c = once_refused _ _ _ LongNumber c.loop-at.invariant c.in-LongNumber.ensures.found

pub returns-clause-accepts : goal.returns-clause-accepts
returns-clause-accepts c = λ tokens lexed. Lexed-one c.args.source.now _ tokens (Lexed-from _ _ _ c.loop-at.invariant c.loop-at-test.false) lexed

pub returns-clause-refuses : goal.returns-clause-refuses
returns-clause-refuses c = λ refusal place stops. Lexed-not_Stops c.args.source.now _ refusal place (Lexed-from _ _ _ c.loop-at.invariant c.loop-at-test.false) stops
