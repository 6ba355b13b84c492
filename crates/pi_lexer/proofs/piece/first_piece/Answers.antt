-- What stands there goes by the first byte, and fits in.
use Rattle.std.proofs.Common.{length, sym, ◌∙◌, subst}
use Rattle.spec_protocol_tokens.specs.Laws.{FitsIn}
use Rattle.spec_protocol_tokens.proofs.Sizes.{piece_first, piece_fits_in}
use Rattle.pi_lexer.proofs.piece.first_piece.Goals as goal

pub returns-clause-found : goal.returns-clause-found
returns-clause-found c = c.piece_from.ensures ∙ sym (piece_first c.args.bytes.now c.requires)

pub returns-clause-within : goal.returns-clause-within
returns-clause-within c =
    subst (FitsIn (length c.args.bytes.now)) (sym (returns-clause-found c)) (piece_fits_in c.args.bytes.now c.requires)
