-- Ids that name trees of a bank.
use Rattle.std.proofs.Common.{ℕ, zero, suc, List, [], ◌∷◌, take, drop}
use Rattle.spec_terms.specs.Term.{Term}
use Rattle.term_tree.specs.declared.bank.Id.{Id}
use Rattle.term_tree.specs.Bank.{AreKnown}

-- the first so many of known ids
pub known_front : (all : List Term) (ids : List Id) (count : ℕ) → AreKnown all ids → AreKnown all (take count ids)
known_front all ids zero known = tt
known_front all [] (suc count) known = tt
known_front all (id ∷ ids) (suc count) known = (known.0, known_front all ids count known.1)

-- those behind them
pub known_behind : (all : List Term) (ids : List Id) (count : ℕ) → AreKnown all ids → AreKnown all (drop count ids)
known_behind all ids zero known = known
known_behind all [] (suc count) known = tt
known_behind all (id ∷ ids) (suc count) known = known_behind all ids count known.1
