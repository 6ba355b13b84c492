-- The translation, by the attacker's clauses, those of the visits, and the goal.
use Rattle.std.proofs.Common.{◌≡◌, ℕ, zero, suc, ◌<◌, ◌≤◌, Some, None, true, List, [], ◌∷◌, ◌++◌, length, get_or, map, refl, ap, sym, subst, append_assoc, arith}
use Rattle.std.proofs.lemmas.Option.{slice_get-get_or}
use Rattle.spec_calculus.specs.Syntax.{Query, Protocol}
use Rattle.spec_calculus.specs.Points.{numbered}
use Rattle.spec_calculus.specs.Bounds.{most_visits}
use Rattle.spec_terms.specs.Term.{Term}
use Rattle.term_tree.specs.Bank.{Grows}
use Rattle.spec_translation.specs.Visit.{first_visit}
use Rattle.spec_translation.specs.Course.{Done, TooLarge}
use Rattle.spec_translation.specs.Visited.{Visited}
use Rattle.spec_translation.specs.Translation.{Clauses, LargeAt, attacker_clauses, goal_clauses, IsTranslation}
use Rattle.clause_form.specs.Seen.{clause_at, AreClausesIn, NameClauses, IdClause}
use Rattle.clause_form.specs.Fit.{AreLowWithinLimit}
use Rattle.clause_form.proofs.Low.{AreLowWithinLimit-grow, AreLowWithinLimit-append}
use Rattle.query_derive.specs.GoalRows.{OfQuery}
use Rattle.process_visits.specs.declared.listing.Listing.{Listing}
use Rattle.clause_translate.specs.Jobs.{Once, Ends}
use Rattle.clause_translate.specs.Whole.{TranslatesTo, EndsAt, AddsVisits, IsLargeAt, IsCommonTo}
use Rattle.process_visits.proofs.Adding.{clauses_later}
use Rattle.process_visits.proofs.Listings.{NameClauses-append}

there : (items : List Query) (number : ℕ) → 0 < number → number ≤ length items → (q : Query) × (numbered items number ≡ Some q)
there items zero up within = absurd (omega (arith, up))
there [] (suc index) up within = absurd (omega (arith, within))
there (x ∷ xs) (suc index) up within = (get_or (x ∷ xs) index x, slice_get-get_or (x ∷ xs) index x (omega (arith, within)))

-- the query of the number
pub query_there : (P : Protocol) (number : ℕ) → (0 < number) × (number ≤ length P.queries) → (q : Query) × (numbered P.queries number ≡ Some q)
query_there P number is = there P.queries number is.0 is.1

-- the clauses that visits of the main process added behind those that were kept
pub visits_added : (P : Protocol) (old new : List Term) (before after : Listing) → before.left ≡ most_visits → before.keeps ≡ true → Grows old new → AreClausesIn old before.clauses → AreLowWithinLimit old before.clauses → Ends P (Once P.main 1 first_visit) new before after None
    → AddsVisits P old new before.clauses after.clauses
visits_added P old new before after left keeps grows known low h = record {
  more = h.more;
  left = after.left;
  runs = subst (λ n. Visited P P.main 1 first_visit n (Done h.more after.left)) left h.runs;
  names = subst (λ (cs : List IdClause). NameClauses new cs (map (clause_at old) before.clauses ++ h.more)) (sym h.lists.clauses)
      (NameClauses-append new before.clauses h.lists.made (map (clause_at old) before.clauses) h.more (clauses_later old new before.clauses grows known) (h.lists.names keeps));
  low = subst (AreLowWithinLimit new) (sym h.lists.clauses) (AreLowWithinLimit-append new before.clauses h.lists.made (AreLowWithinLimit-grow old new before.clauses grows known low) (h.lists.low keeps));
}

-- all but the goal of each translation, by the attacker's clauses and those of the visits
pub common_to : (P : Protocol) (first mid : List Term) (known visited : List IdClause) → NameClauses first known (attacker_clauses P) → AddsVisits P first mid known visited → IsCommonTo P mid visited
common_to P first mid known visited attacker adds = record {
  list = attacker_clauses P ++ adds.more;
  names = subst (λ l. NameClauses mid visited (l ++ adds.more)) attacker.are adds.names;
  low = adds.low;
  translates = λ q. (Done adds.more adds.left, adds.runs, ap Clauses (append_assoc (attacker_clauses P) adds.more (goal_clauses P q)));
}

pub all_end_at : (P : Protocol) (point : ℕ) → IsLargeAt P point → (q : Query) → IsTranslation P q (LargeAt point)
all_end_at P point h q = (TooLarge point, h, refl)

-- one query's translation by what is so of all
pub ends_at : (P : Protocol) (number point : ℕ) → (0 < number) × (number ≤ length P.queries) → ((q : Query) → IsTranslation P q (LargeAt point)) → EndsAt P number point
ends_at P number point is h = let q = query_there P number is in record { query = q.0; is = q.1; translates = h q.0 }

pub translates_to : (P : Protocol) (number : ℕ) (mid last : List Term) (common all : List IdClause) → (0 < number) × (number ≤ length P.queries) → IsCommonTo P mid common → OfQuery P number (λ q. NameClauses last all (map (clause_at mid) common ++ goal_clauses P q)) → AreLowWithinLimit last all → TranslatesTo P number last all
translates_to P number mid last common all is whole goal low =
    let q = query_there P number is in
    record {
      query = q.0;
      is = q.1;
      list = whole.list ++ goal_clauses P q.0;
      names = subst (λ l. NameClauses last all (l ++ goal_clauses P q.0)) whole.names.are (goal q.0 q.1);
      low = low;
      translates = whole.translates q.0;
    }
