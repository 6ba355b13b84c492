-- Public channels by their root.
use Rattle.std.specs.Prelude.{Bool, false}
use Rattle.std.specs.Option.{option_map_or}
use Rattle.spec_calculus.specs.Syntax.{Protocol}
use Rattle.spec_calculus.specs.Points.{numbered}
use Rattle.spec_terms.specs.Term.{Sym, Free}

-- whether the symbol is a public free name
abbrev pub is_public_root : Protocol → Sym → Bool
is_public_root P (Free n) = option_map_or (λ declared. declared.public) (numbered P.frees n) false
is_public_root P _ = false
