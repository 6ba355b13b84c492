-- Room for so many symbols, less those that come; none where more come.
use Rattle.std.specs.Prelude.{ℕ, ◌-◌, nat_le, cond, List, [], ◌∷◌, map, Option, Some, None, option_and_then}
use Rattle.spec_trees.specs.Tree.{size}
use Rattle.spec_calculus.specs.Bounds.{most_symbols}
use Rattle.spec_terms.specs.Term.{Term}
use Rattle.spec_clauses.specs.Diff.{Diff}
use Rattle.spec_clauses.specs.Fact.{Fact, total}
use Rattle.spec_node_tables.specs.Large.{Piece, fact_piece, diff_piece}

abbrev pub room_less : ℕ → ℕ → Option ℕ
room_less room n = cond (nat_le n room) (Some (room - n)) None

-- behind a part of a clause: what stands before its terms may take more than there is, as long as no term follows
abbrev pub room_behind_piece : ℕ → Piece → Option ℕ
room_behind_piece room p = room_less (room - p.signs) (total size p.terms)

-- behind parts
abbrev pub room_behind_pieces : ℕ → List Piece → Option ℕ
room_behind_pieces room [] = Some room
room_behind_pieces room (p ∷ ps) = option_and_then (λ left. room_behind_pieces left ps) (room_behind_piece room p)

-- behind the constraints of a clause and its conclusion
abbrev pub room_behind_rest : List Diff → Fact Term → ℕ → Option ℕ
room_behind_rest diffs conclusion room = option_and_then (λ left. room_behind_piece left (fact_piece conclusion)) (room_behind_pieces room (map diff_piece diffs))

-- behind the parts of a clause, which may have the limit of size itself
abbrev pub room_behind_next : ℕ → List Piece → Option ℕ
room_behind_next room ps = option_and_then (λ alone. room_behind_pieces room ps) (room_behind_pieces most_symbols ps)
