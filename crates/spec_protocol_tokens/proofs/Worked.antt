-- The definitions on small inputs that were worked out by hand.
use Rattle.std.proofs.Common.{◌≡◌, List, [], ◌∷◌, refl, lit<}
use Rattle.std.specs.Prelude.{codes}
use Rattle.spec_protocol_tokens.specs.Token.{Token, Identifier, Reserved, Number, Symbol}
use Rattle.spec_protocol_tokens.specs.Piece.{Nothing, Blank, Comment, Lexeme, Refused, BadByte, OpenComment, LongNumber, piece}
use Rattle.spec_protocol_tokens.specs.Lexed.{Lexed}

at_free : piece (codes "free c.") ≡ Lexeme Reserved 4
at_free = refl

at_name : piece (codes "v. ") ≡ Lexeme Identifier 1
at_name = refl

at_prime : piece (codes "a'b_1-") ≡ Lexeme Identifier 5
at_prime = refl

at_blank : piece (codes " c.") ≡ Blank
at_blank = refl

at_end : piece [] ≡ Nothing
at_end = refl

at_zeros : piece (codes "007x") ≡ Lexeme Number 3
at_zeros = refl

at_nine : piece (codes "123456789,") ≡ Lexeme Number 9
at_nine = refl

at_ten : piece (codes "1234567890,") ≡ Refused LongNumber
at_ten = refl

at_open : piece (codes "(* x") ≡ Refused OpenComment
at_open = refl

at_short_open : piece (codes "(*)") ≡ Refused OpenComment
at_short_open = refl

at_comment : piece (codes "(* a (* b *) c *)") ≡ Comment 12
at_comment = refl

at_stars : piece (codes "(***) c *)") ≡ Comment 5
at_stars = refl

at_arrow : piece (codes "==>") ≡ Lexeme Symbol 3
at_arrow = refl

at_equals : piece (codes "==") ≡ Lexeme Symbol 1
at_equals = refl

at_or : piece (codes "|||") ≡ Lexeme Symbol 2
at_or = refl

at_minus : piece (codes "- >") ≡ Refused BadByte
at_minus = refl

at_high : piece (128 ∷ []) ≡ Refused BadByte
at_high = refl

three_tokens : List Token
three_tokens =
    record { kind = Reserved; from = 0; to = 4 } ∷ record { kind = Identifier; from = 5; to = 6 }
    ∷ record { kind = Symbol; from = 6; to = 7 } ∷ []

free_c : Lexed (codes "free c.") three_tokens
unfolding three_tokens
free_c = record {
  pieces = Lexeme Reserved 4 ∷ Blank ∷ Lexeme Identifier 1 ∷ Lexeme Symbol 1 ∷ [];
  cover = (refl, lit< tt, (refl, lit< tt, (refl, lit< tt, (refl, lit< tt, refl))));
  among = refl;
}
