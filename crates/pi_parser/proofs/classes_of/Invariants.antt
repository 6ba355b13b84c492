use Rattle.std.proofs.Common.{◌≡◌, map, length, take, drop}
use Rattle.spec_protocol_grammar.specs.Classes.{class_of}
use Rattle.pi_lexer.specs.Token.{token_of}
use Rattle.pi_parser.specs.Tokens.{AreWithin}
use Rattle.pi_parser.proofs.classes_of.Given as goal

-- the classes so far, and that the other tokens stand within the bytes
abbrev pub invariant-tokens : goal.invariant-tokens
invariant-tokens l = record {
  within : AreWithin (length l.source) (map token_of (drop l.token-index l.token-items));
  seen : l.classes.items ≡ map (class_of l.source) (map token_of (take l.token-index l.token-items));
}
