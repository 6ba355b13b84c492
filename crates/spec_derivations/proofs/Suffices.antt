-- The clauses of a closed list that rest suffice, by the three laws: where another is used, its chosen premise was concluded by one that
-- rests; both uses together give way to one of a clause that covers their resolvent, and the derivation gets smaller. Which hypothesis
-- is chosen doesn't matter.
use Rattle.std.proofs.Common.{◌≡◌, ◌∙◌, ℕ, false, zero, suc, ◌<◌, ◌⊎◌, List, [], ◌∷◌, ◌++◌, refl, ap, subst, inl, inr, arith}
use Rattle.std.specs.Prelude.{Option, Some, None}
use Rattle.spec_terms.specs.Term.{Term, Subst}
use Rattle.spec_clauses.specs.Fact.{Fact, Clause, fact_under}
use Rattle.spec_clauses.specs.Flat.{flat_parts}
use Rattle.spec_clauses.specs.Selection.{Selection}
use Rattle.spec_clauses.specs.Norm.{norm, norms}
use Rattle.spec_clauses.specs.Inclusion.{Has}
use Rattle.spec_clauses.specs.Subsumption.{IsCovered}
use Rattle.spec_clauses.proofs.Inclusion.{Has-filter_map, Has-within, within-trans}
use Rattle.spec_clauses.proofs.FlatUnder.{flat_parts-flat}
use Rattle.spec_derivations.specs.Derivation.{Instance, is_required_event, AreDerived, nothing, allowed, by_clause, Derive}
use Rattle.spec_derivations.specs.Choice.{choice_of, IsRight, Placed, clauses_in, resting_of, all_selected}
use Rattle.spec_derivations.specs.Closed.{ArePlacedClosed, IsAnswered}
use Rattle.spec_derivations.specs.Laws.{Follows, NormLaw, ResolutionLaw, SubsumptionLaw, PartFollows, ChosenPremise, RestingClausesSuffice, SolvedClausesSuffice}
use Rattle.spec_derivations.proofs.Forest.{uses, AreDerivedWithin, cut, join, less, grows, root}
use Rattle.spec_derivations.proofs.Choosing.{right_chosen, has_placed, has_resting, resting_has, resting_solved}

module _ (norm_law : NormLaw) (resolution_law : ResolutionLaw) (subsumption_law : SubsumptionLaw) (given : List (Clause Term)) (placed : List Placed) (events : List (Fact Term)) (closes : ArePlacedClosed given placed) where
  -- facts derived by the clauses that rest, and by at most n uses of them
  abbrev Resting : Clause Term → Type 0
  Resting = Has (resting_of placed)

  abbrev Within : List (Fact Term) → ℕ → Type 0
  Within = AreDerivedWithin Resting events

  -- a raw resolvent of clauses of the list has its norms covered
  answered : (raw : Option (Clause Term)) (clause d : Clause Term) → IsAnswered (clauses_in placed) raw → raw ≡ Some clause → Has (norms clause) d → IsCovered (clauses_in placed) d
  answered None clause d a e h = let clash : None ≡ Some clause = e in cc
  answered (Some raw) clause d a e h = let same : raw ≡ clause = cc in a d (rw same h)

  -- a premise, or what a listed clause concludes from no more
  abbrev IsPremiseOrFollows : List (Fact Term) → Fact Term → Type 0
  IsPremiseOrFollows premises f = Has premises f ⊎ ((p : Placed) × Has placed p × Follows p.clause premises f)

  -- so is what a flat part of such a resolvent concludes
  part_covered : (raw : Option (Clause Term)) (premises : List (Fact Term)) (f : Fact Term) → IsAnswered (clauses_in placed) raw → PartFollows raw premises f → IsPremiseOrFollows premises f
  part_covered raw premises f a p = go (norm_law p.part p.follows.kept f (flat_parts-flat p.clause p.part p.is_part) p.follows.instance) where
    covered : (d : Clause Term) → norm p.part ≡ Some d → Follows d p.follows.kept f → (q : Placed) × Has placed q × Follows q.clause premises f
    covered d e k =
        let (general, listed, subsumes) = answered raw p.clause d a p.is_raw (Has-filter_map norm (flat_parts p.clause) p.part d p.is_part e) in
        let g = subsumption_law general d k.kept f subsumes k.instance in
        let (q, has, same) = has_placed placed general listed in
        (q, has, record { kept = g.kept; instance = subst (λ c. Instance c g.kept f) same g.instance; within = within-trans g.kept k.kept premises g.within (within-trans k.kept p.follows.kept premises k.within p.follows.within) })

    go : Has p.follows.kept f ⊎ ((d : Clause Term) × (norm p.part ≡ Some d) × Follows d p.follows.kept f) → IsPremiseOrFollows premises f
    go (inl k) = inl (Has-within p.follows.kept premises f p.follows.within k)
    go (inr k) = inr (covered k.0 k.1 k.2)

  -- where a listed clause concludes f from premises that take fewer than n uses, one use more derives it
  abbrev Reduces : ℕ → Type 0
  Reduces n = (p : Placed) (premises : List (Fact Term)) (f : Fact Term) → is_required_event f ≡ false → Has placed p → Instance p.clause premises f → (d : AreDerived Resting events premises) → uses Resting events d < n → Within (f ∷ []) (suc (uses Resting events d))

  given_or_reduced : (n : ℕ) → Reduces n → (premises : List (Fact Term)) (f : Fact Term) → is_required_event f ≡ false → IsPremiseOrFollows premises f → (d : AreDerived Resting events premises) → uses Resting events d < n → Within (f ∷ []) (suc (uses Resting events d))
  given_or_reduced n reduces premises f plain (inl k) d few = let c = cut Resting events k.1 d in let sum = c.sum in record { derivation = c.one; few = omega arith }
  given_or_reduced n reduces premises f plain (inr k) d few =
      let l = less Resting events k.2.kept k.2.within d in
      let fewer = l.few in
      let r = reduces k.0 k.2.kept f plain k.1 k.2.instance l.derivation (omega arith) in
      let least = r.few in record { derivation = r.derivation; few = omega arith }

  -- the use of a clause and that of the one that rests and concludes its chosen premise give way to one
  resolved_away : (n : ℕ) → Reduces n → (p : Placed) (at : Selection) (premises : List (Fact Term)) (f : Fact Term) (by : Subst) → is_required_event f ≡ false → Has placed p → choice_of p.clause p.number ≡ Some at → ChosenPremise p.clause at premises f by → (d : AreDerived Resting events premises) → uses Resting events d < suc n → Within (f ∷ []) (suc (uses Resting events d))
  resolved_away n reduces p at premises f by plain h e cp d few =
      let parts = cut Resting events cp.picked d in
      let r = root parts.one cp.no_event in
      let (q, listed, zero_beside, same) = has_resting placed r.clause r.is_rule in
      let pair = closes.closed q p at listed h zero_beside e in
      let concluded : Instance q.clause r.above (fact_under by at.fact) = subst (λ (c : Clause Term). Instance c r.above (fact_under by at.fact)) same r.instance in
      let covered = part_covered pair.raw (r.above ++ cp.rest) f pair.answered (cp.resolves q.clause pair.raw r.above (closes.normal q listed) (subst (IsRight q.clause) zero_beside (closes.right q listed)) pair.is_raw concluded) in
      let both = join Resting events r.derivation parts.others in
      let few_both = both.few in let sum = parts.sum in let used = r.used in
      let w = given_or_reduced n reduces (r.above ++ cp.rest) f plain covered both.derivation (omega arith) in
      let least = w.few in record { derivation = w.derivation; few = omega arith }

  reduces : (n : ℕ) → Reduces n
  reduces zero p premises f plain h i d few = absurd (omega arith)
  reduces (suc n) p premises f plain h i d few = go (reduces n) p.number refl (closes.right p h) where
    go : Reduces n → (k : ℕ) → p.number ≡ k → IsRight p.clause p.number → Within (f ∷ []) (suc (uses Resting events d))
    go below zero e right = record { derivation = by_clause plain (resting_has placed p h e) i d nothing; few = omega arith }
    go below (suc k) e right =
        let here = subst (IsRight p.clause) e right in
        resolved_away n below p here.0 premises f i.by plain h (ap (choice_of p.clause) e ∙ here.1) (resolution_law p.clause here.0 premises f (closes.normal p h) (right_chosen p.clause k here) i) d few

  -- each given clause is covered
  suffices : {fs : List (Fact Term)} → Derive given events fs → Derive (resting_of placed) events fs
  suffices nothing = nothing
  suffices (allowed h d) = allowed h (suffices d)
  suffices (by_clause {c = c} {premises = premises} {f = f} plain r i p d) =
      let (general, listed, subsumes) = closes.covers c r in
      let (q, has, same) = has_placed placed general listed in
      let k = subsumption_law general c premises f subsumes i in
      let l = less Resting events k.kept k.within (suffices p) in
      let one = reduces (suc (uses Resting events l.derivation)) q k.kept f plain has (subst (λ g. Instance g k.kept f) same k.instance) l.derivation (omega arith) in
      let both = join Resting events one.derivation (suffices d) in both.derivation

pub resting_clauses_suffice : NormLaw → ResolutionLaw → SubsumptionLaw → RestingClausesSuffice
resting_clauses_suffice norm_law resolution_law subsumption_law given placed closes events facts d = suffices norm_law resolution_law subsumption_law given placed events closes d

-- where the largest hypotheses are chosen, solved clauses do
pub solved_clauses_suffice : RestingClausesSuffice → SolvedClausesSuffice
solved_clauses_suffice resting given clauses closes events facts d = grows events events (resting_solved clauses) (λ f h. h) (resting given (all_selected clauses) closes events facts d)
