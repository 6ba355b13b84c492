-- Some of the facts can be placed by themselves where all can.
use Rattle.std.proofs.Common.{◌≡◌, ◌∙◌, ℕ, ◌+◌, ◌<◌, ◌≤◌, Bool, true, false, cond, Option, None, MatchOption, List, [], ◌∷◌, ◌++◌, length, map, take, get_or, ap, sym, subst, append-nil, Bor}
use Rattle.std.proofs.lemmas.List.{map-append, take_more, take_all}
use Rattle.spec_terms.specs.Term.{Term}
use Rattle.spec_clauses.specs.Fact as horn
use Rattle.spec_clauses.specs.Fact.{fact_under}
use Rattle.spec_clauses.specs.Flat.{flat_under}
use Rattle.spec_clauses.specs.Inclusion.{Picks, IsWithin}
use Rattle.spec_clauses.specs.Inclusion as inclusion
use Rattle.spec_clauses.proofs.Inclusion.{within_self, within-trans, within-map, within-append, within-more_right}
use Rattle.term_tree.specs.declared.bank.Id.{Id}
use Rattle.unify_match.specs.declared.bound.Bound.{Bound}
use Rattle.unify_match.specs.Seen.{seen}
use Rattle.clause_form.specs.declared.facts.Fact.{Fact}
use Rattle.clause_form.specs.Seen.{fact_at, IsFactIn, AreFactsIn}
use Rattle.spec_placements.specs.Takes.{left}
use Rattle.spec_placements.specs.Placing.{Ending, CanPlace, all_known}
use Rattle.fact_placing.specs.declared.board.Ending as declared
use Rattle.fact_placing.specs.Boards.{facts_at, loose_seen, CanPlaceOn}
use Rattle.fact_placing.proofs.Listing.{unref}

pick_known : (all : List Term) {fs rest : List (horn.Fact Id)} {f : horn.Fact Id} → Picks fs f rest → AreFactsIn all fs → IsFactIn all f × AreFactsIn all rest
pick_known all inclusion.here known = known
pick_known all (inclusion.there pick) known = let below = pick_known all pick known.1 in (below.0, (known.0, below.1))

-- some of known facts are known
pub within_known : (all : List Term) (part facts : List (horn.Fact Id)) → IsWithin part facts → AreFactsIn all facts → AreFactsIn all part
within_known all [] facts within known = tt
within_known all (f ∷ part) facts (rest, pick, within) known = let one = pick_known all pick known in (one.0, within_known all part rest within one.1)

-- what can be placed with loose parts and constraints can be placed in part, and without them
abbrev pub nothing_left : Ending
nothing_left = record { loose = []; diffs = []; kept_in = [] }

pub part_placed : (all : List Term) (hyps : List (horn.Fact Id)) (ending : declared.Ending) (pairs : List Bound) (taken : List Bool) (facts part : List (horn.Fact Id)) → IsWithin part facts → CanPlaceOn all hyps ending pairs taken facts → CanPlace (seen all pairs) taken (facts_at all hyps) (facts_at all part) nothing_left
part_placed all hyps ending pairs taken facts part within can =
    let f = fact_under can.by in
    let these = map f (facts_at all part) in
    let those = map f (facts_at all facts) in
    let free = left taken (facts_at all hyps) in
    let among : IsWithin these those = within-map f (facts_at all part) (facts_at all facts) (within-map (fact_at all) part facts within) in
    let inside : IsWithin these free = within-trans these (those ++ flat_under can.by (all_known (map loose_seen ending.loose.now))) free (within-more_right these those (flat_under can.by (all_known (map loose_seen ending.loose.now))) among) can.within in
    record {
      by = can.by;
      agrees = can.agrees;
      kept = tt;
      within = subst (λ (ys : List (horn.Fact Term)). IsWithin ys free) (sym (append-nil these)) inside;
    }

-- a fact more, of which the part may be one
pub member_more : (facts : List (Bor Fact)) (i : ℕ) (f : Bor Fact) (b : Bool) (old new : List (horn.Fact Id)) → i < length facts → f ≡ get_or facts i f → new ≡ cond b (old ++ unref f ∷ []) old → IsWithin old (map unref (take i facts)) → IsWithin new (map unref (take (i + 1) facts))
member_more facts i f b old new within is are so_far = subst (λ (fs : List (horn.Fact Id)). IsWithin fs (map unref (take (i + 1) facts))) (sym are) (subst (λ (fs : List (horn.Fact Id)). IsWithin (cond b (old ++ unref f ∷ []) old) fs) (sym more) (go b)) where
  more : map unref (take (i + 1) facts) ≡ map unref (take i facts) ++ unref f ∷ []
  more = ap (map unref) (take_more facts i f within) ∙ (map-append unref (take i facts) (get_or facts i f ∷ []) ∙ ap (λ (h : Bor Fact). map unref (take i facts) ++ unref h ∷ []) (sym is))

  go : (c : Bool) → IsWithin (cond c (old ++ unref f ∷ []) old) (map unref (take i facts) ++ unref f ∷ [])
  go true = within-append old (unref f ∷ []) (map unref (take i facts)) (unref f ∷ []) so_far (within_self (unref f ∷ []))
  go false = within-more_right old (map unref (take i facts)) (unref f ∷ []) so_far

-- in the end all facts were looked at
pub member_all : (facts : List (Bor Fact)) (i : ℕ) (part : List (horn.Fact Id)) → length facts ≤ i → IsWithin part (map unref (take i facts)) → IsWithin part (map unref facts)
member_all facts i part past within = subst (λ (fs : List (Bor Fact)). IsWithin part (map unref fs)) (take_all i facts past) within

-- what is told where nothing was found
pub at_none : {X : Type 0} (P : Type 0) (o : Option X) (Q : X → Type 0) → o ≡ None → MatchOption o P Q → P
at_none {X} P o Q e told = let here : MatchOption None P Q = subst (λ (p : Option X). MatchOption p P Q) e told in here
