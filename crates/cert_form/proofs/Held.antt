-- Clauses that lists hold: one more that is read out, and one more that is shared.
use Rattle.std.proofs.Common.{◌≡◌, ◌∙◌, ℕ, ◌+◌, ◌<◌, List, [], ◌∷◌, ◌++◌, length, map, take, get_or, ap, sym}
use Rattle.std.proofs.lemmas.List.{append_assoc, map-append, map_more}
use Rattle.spec_terms.specs.Term.{Term}
use Rattle.spec_clauses.specs.Fact.{Clause}
use Rattle.clause_form.specs.Seen.{clause_at, IdClause}

module _ {X : Type 0} where
  -- one more clause is read out behind others
  pub read_next : (all : List Term) (held : X → Clause Term) (cs : List IdClause) (i : ℕ) (c : IdClause) (before after : List X) (x : X) (front : List (Clause Term)) → map held before ≡ front ++ map (clause_at all) (take i cs) → i < length cs → c ≡ get_or cs i c → after ≡ before ++ x ∷ []
      → held x ≡ clause_at all c → map held after ≡ front ++ map (clause_at all) (take (i + 1) cs)
  read_next all held cs i c before after x front was within is more read =
      let next : map (clause_at all) (take (i + 1) cs) ≡ map (clause_at all) (take i cs) ++ clause_at all c ∷ [] =
      map_more (clause_at all) cs i c within ∙ ap (λ (d : IdClause). map (clause_at all) (take i cs) ++ clause_at all d ∷ []) (sym is) in
      ap (map held) more
      ∙ (map-append held before (x ∷ [])
      ∙ ((λ j. was j ++ read j ∷ [])
      ∙ (append_assoc front (map (clause_at all) (take i cs)) (clause_at all c ∷ []) ∙ ap (λ (ds : List (Clause Term)). front ++ ds) (sym next))))

  -- one more of a list is shared
  pub shared_next : (held : X → Clause Term) (xs : List X) (i : ℕ) (x : X) (before after : List X) (y : X) → map held before ≡ map held (take i xs) → i < length xs → x ≡ get_or xs i x → after ≡ before ++ y ∷ [] → held y ≡ held x → map held after ≡ map held (take (i + 1) xs)
  shared_next held xs i x before after y was within is more same =
      let next : map held (take (i + 1) xs) ≡ map held (take i xs) ++ held x ∷ [] = map_more held xs i x within ∙ ap (λ (z : X). map held (take i xs) ++ held z ∷ []) (sym is) in
      ap (map held) more ∙ (map-append held before (y ∷ []) ∙ ((λ j. was j ++ same j ∷ []) ∙ sym next))
