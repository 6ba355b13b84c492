-- Rows of ids that name terms, and the name of a restriction over those of a way.
use Rattle.std.proofs.Common.{◌≡◌, ℕ, zero, suc, List, [], ◌∷◌, ◌++◌, map, take, drop, sym, ap, ◌∙◌}
use Rattle.std.proofs.lemmas.List.{map-append, take-map}
use Rattle.spec_terms.specs.Term.{Term}
use Rattle.term_tree.specs.Bank.{tree_at, AreKnown}
use Rattle.term_tree.specs.declared.bank.Id.{Id}
use Rattle.attack_compiling.specs.declared.walking.Route.{Route}
use Rattle.attack_compiling.specs.declared.walking.Walk.{Walk}
use Rattle.attack_compiling.specs.Walks.{walk_of}

module _ (all : List Term) where
  pub known_taken : (count : ℕ) (ids : List Id) → AreKnown all ids → AreKnown all (take count ids)
  known_taken zero ids known = tt
  known_taken (suc count) [] known = tt
  known_taken (suc count) (id ∷ ids) known = (known.0, known_taken count ids known.1)

  pub known_dropped : (count : ℕ) (ids : List Id) → AreKnown all ids → AreKnown all (drop count ids)
  known_dropped zero ids known = known
  known_dropped (suc count) [] known = tt
  known_dropped (suc count) (id ∷ ids) known = known_dropped count ids known.1

  pub known_both : (xs ys : List Id) → AreKnown all xs → AreKnown all ys → AreKnown all (xs ++ ys)
  known_both [] ys first later = later
  known_both (x ∷ xs) ys first later = (first.0, known_both xs ys first.1 later)

  -- the arguments of a name that a restriction makes
  pub made_of : (route : Route) (walk : Walk) → map (tree_at all) (take walk.messages route.messages.now ++ take walk.sessions route.sessions.now) ≡ (walk_of all route walk).received ++ (walk_of all route walk).copied
  made_of route walk =
      map-append (tree_at all) (take walk.messages route.messages.now) (take walk.sessions route.sessions.now)
      ∙ (ap (λ (l : List Term). l ++ map (tree_at all) (take walk.sessions route.sessions.now)) (sym (take-map (tree_at all) walk.messages route.messages.now))
      ∙ ap (λ (l : List Term). (walk_of all route walk).received ++ l) (sym (take-map (tree_at all) walk.sessions route.sessions.now)))
