-- What covers a clause, and what it beats, by the terms with which their conclusions end.
use Rattle.std.proofs.Common.{◌≡◌, ◌⊎◌, ◌∙◌, ℕ, suc, ◌<◌, ◌≤◌, Bool, true, false, Option, Some, None, List, ◌++◌, length, MatchBool, refl, ap, sym, subst, inl, inr, arith}
use Rattle.std.specs.Prelude.{slice_get}
use Rattle.std.proofs.lemmas.List.{length-map}
use Rattle.spec_terms.specs.Term.{Term}
use Rattle.spec_calculus.specs.Points.{numbered}
use Rattle.spec_clauses.specs.Fact.{Clause}
use Rattle.spec_clauses.specs.Selection.{is_solved}
use Rattle.spec_saturation.proofs.Places.{numbered_within}
use Rattle.term_tree.specs.Bank.{AreShared}
use Rattle.term_tree.specs.declared.bank.Id.{Id}
use Rattle.clause_form.specs.Seen.{clause_at, IsClauseIn, IdClause}
use Rattle.clause_form.specs.Fit.{AreFit}
use Rattle.log_entries.specs.declared.log.Entry.{Entry}
use Rattle.log_entries.specs.declared.walk.Live.{Live}
use Rattle.log_entries.specs.Beating.{clauses_of, LiveCovers, SomeLiveCovers, BeatsLive}
use Rattle.log_entries.specs.Ends.{last_term, closed_end_of, ends_of}
use Rattle.log_entries.specs.Live.{AreListed, AreThose, CoversAmong, AreBeatable}
use Rattle.log_entries.specs.Numbers.{IsAmong}
use Rattle.log_entries.proofs.Numbers.{seen_there, among_left, among_right, among_either}
use Rattle.log_entries.proofs.EndTerms.{closed_is, closed_subsumes}
use Rattle.log_entries.proofs.Lanes.{fit_there, fit_numbered}
use Rattle.clause_offers.proofs.Covers.{covers_there, some_among}

-- an entry that ends with a closed term is among those that end with it
ended_there : (all : List Term) (es : List Entry) (id : Id) (numbers : List ℕ) (n : ℕ) (x : Entry) → AreThose (ends_of es) id numbers → numbered es n ≡ Some x → closed_end_of all x.clause ≡ Some id → IsAmong numbers n
ended_there all es id numbers n x those at end =
    let last = (closed_is all (last_term x.clause.conclusion) id end).0 in
    those.every n (seen_there (λ (c : IdClause). last_term c.conclusion) (clauses_of es) n x.clause (seen_there (λ (e : Entry). e.clause) es n x at) ∙ ap Some last)

-- they are numbers of entries
pub those_within : (es : List Entry) (id : Id) (numbers : List ℕ) → AreThose (ends_of es) id numbers → (n : ℕ) → IsAmong numbers n → (0 < n) × (n ≤ length es)
those_within es id numbers those n among =
    let within = numbered_within (ends_of es) n (Some id) (those.those n among) in
    let count = length-map (clauses_of es) (λ (c : IdClause). last_term c.conclusion) in
    let clauses = length-map es (λ (e : Entry). e.clause) in
    (within.0, omega (arith, within.1, count, clauses))

-- in a shared bank what covers a clause doesn't end with a closed term, or it ends with one as the clause does
ended_covers : (all : List Term) (es : List Entry) (live : Live) (clause : IdClause) → AreShared all → AreFit all (clauses_of es) → AreListed all es live → IsClauseIn all clause → SomeLiveCovers all es (clause_at all clause)
    → CoversAmong all es live.unclosed.items (clause_at all clause) ⊎ ((id : Id) × (closed_end_of all clause ≡ Some id) × ((numbers : List ℕ) → AreThose (ends_of es) id numbers → CoversAmong all es numbers (clause_at all clause)))
ended_covers all es live clause shared fit listed known some =
    let there = covers_there all es (clause_at all clause) some in
    go there.place there.entry there.at there.covers (closed_end_of all there.entry.clause) refl
  where
    go : (place : ℕ) (x : Entry) → slice_get es place ≡ Some x → LiveCovers all x (clause_at all clause) → (o : Option Id) → closed_end_of all x.clause ≡ o
        → CoversAmong all es live.unclosed.items (clause_at all clause) ⊎ ((id : Id) × (closed_end_of all clause ≡ Some id) × ((numbers : List ℕ) → AreThose (ends_of es) id numbers → CoversAmong all es numbers (clause_at all clause)))
    go place x at covers None end = inl (record { number = suc place; among = listed.unclosed.every (suc place) x at covers.0 end; covers = record { entry = x; at = at; covers = covers } })
    go place x at covers (Some id) end = inr (
      id,
      closed_subsumes all x.clause clause id shared (fit_there all es place x fit at).known known end covers.1,
      λ numbers those. record { number = suc place; among = ended_there all es id numbers (suc place) x those at end; covers = record { entry = x; at = at; covers = covers } },
    )

-- a clause that doesn't end with a closed term is covered by those that don't alone
pub unclosed_uncovered : (all : List Term) (es : List Entry) (live : Live) (clause : IdClause) → AreShared all → AreFit all (clauses_of es) → AreListed all es live → IsClauseIn all clause → closed_end_of all clause ≡ None → (CoversAmong all es live.unclosed.items (clause_at all clause) → ⊥) → SomeLiveCovers all es (clause_at all clause) → ⊥
unclosed_uncovered all es live clause shared fit listed known end none some = elim (ended_covers all es live clause shared fit listed known some) as (λ _. ⊥) [
  | inl first ↦ none first
  | inr second ↦ (let wrong : None ≡ Some second.0 = sym end ∙ second.1 in cc)
]

-- one that does by those, or by those that end as it does
pub ended_told : (all : List Term) (es : List Entry) (live : Live) (clause : IdClause) (id : Id) (numbers : List ℕ) (found : Bool) → AreShared all → AreFit all (clauses_of es) → AreListed all es live → IsClauseIn all clause → closed_end_of all clause ≡ Some id → AreThose (ends_of es) id numbers → (CoversAmong all es live.unclosed.items (clause_at all clause) → ⊥)
    → MatchBool found (CoversAmong all es numbers (clause_at all clause)) (CoversAmong all es numbers (clause_at all clause) → ⊥) → MatchBool found (SomeLiveCovers all es (clause_at all clause)) (SomeLiveCovers all es (clause_at all clause) → ⊥)
ended_told all es live clause id numbers true shared fit listed known end those none h = some_among all es numbers (clause_at all clause) h
ended_told all es live clause id numbers false shared fit listed known end those none h = λ some. elim (ended_covers all es live clause shared fit listed known some) as (λ _. ⊥) [
  | inl first ↦ none first
  | inr second ↦ (
      let both : Some second.0 ≡ Some id = sym second.1 ∙ end in
      let same : second.0 ≡ id = cc in
      h (second.2 numbers (subst (λ (k : Id). AreThose (ends_of es) k numbers) (sym same) those))
      )
]

-- what a clause beats that ends with a closed term ends with it too
pub ended_beatable : (all : List Term) (es : List Entry) (clause : IdClause) (id : Id) (numbers : List ℕ) → AreShared all → AreFit all (clauses_of es) → IsClauseIn all clause → closed_end_of all clause ≡ Some id → AreThose (ends_of es) id numbers → AreBeatable all es (clause_at all clause) numbers
ended_beatable all es clause id numbers shared fit known end those = record {
  within = those_within es id numbers those;
  every = λ n x at beats. ended_there all es id numbers n x those at (closed_subsumes all clause x.clause id shared known (fit_numbered all es n x fit at).known end beats.1);
}

-- what any clause beats is live
pub live_beatable : (all : List Term) (es : List Entry) (live : Live) (c : Clause Term) (numbers : List ℕ) → AreListed all es live → numbers ≡ live.solved.items ++ live.unsolved.items → AreBeatable all es c numbers
live_beatable all es live c numbers listed is = subst (λ ns. AreBeatable all es c ns) (sym is) (record {
  within = λ n among. within n (among_either live.solved.items live.unsolved.items n among);
  every = λ n x at beats. every n x at beats (is_solved (clause_at all x.clause).hypotheses) refl;
})
  where
    within : (n : ℕ) → IsAmong live.solved.items n ⊎ IsAmong live.unsolved.items n → (0 < n) × (n ≤ length es)
    within n (inl among) = (let there = listed.solved.live n among in numbered_within es n there.entry there.at)
    within n (inr among) = (let there = listed.unsolved.live n among in numbered_within es n there.entry there.at)

    every : (n : ℕ) (x : Entry) → numbered es n ≡ Some x → BeatsLive all c x → (b : Bool) → is_solved (clause_at all x.clause).hypotheses ≡ b → IsAmong (live.solved.items ++ live.unsolved.items) n
    every n x at beats true kind = among_left live.solved.items live.unsolved.items n (listed.solved.every n (record { entry = x; at = at; live = beats.0; kind = kind }))
    every n x at beats false kind = among_right live.solved.items live.unsolved.items n (listed.unsolved.every n (record { entry = x; at = at; live = beats.0; kind = kind }))

-- what is told of the same numbers
pub beatable_seen : (all : List Term) (es : List Entry) (c : Clause Term) (ns ms : List ℕ) → ms ≡ ns → AreBeatable all es c ns → AreBeatable all es c ms
beatable_seen all es c ns ms same h = subst (λ l. AreBeatable all es c l) (sym same) h

-- a number among the same numbers
pub among_seen : {ns ms : List ℕ} (n : ℕ) → ms ≡ ns → IsAmong ms n → IsAmong ns n
among_seen n same among = subst (λ (l : List ℕ). IsAmong l n) same among
