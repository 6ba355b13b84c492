-- What contracts see of where new variables begin.
use Rattle.spec_translation.specs.Conversion as translation
use Rattle.clause_terms.specs.declared.patterns.Fresh.{Fresh}

abbrev pub fresh_of : Fresh → translation.Fresh
fresh_of at = record { base = at.base; first = at.first }
