-- What an offer does to the log that the entries tell.
use Rattle.std.proofs.Common.{◌≡◌, ◌∙◌, ℕ, ◌<◌, Bool, true, false, None, List, length, MatchBool, refl, ap, sym, subst, arith}
use Rattle.spec_terms.specs.Term.{Term}
use Rattle.spec_clauses.specs.Fact.{Clause}
use Rattle.spec_saturation.specs.Key.{Key}
use Rattle.spec_saturation.specs.Key as offered
use Rattle.spec_saturation.specs.Log.{IsCoveredBy}
use Rattle.clause_form.specs.Seen.{clause_at, IdClause}
use Rattle.log_entries.specs.declared.log.Origin.{Origin}
use Rattle.log_entries.specs.declared.log.Entry.{Entry}
use Rattle.clause_form.specs.Fit.{IsFit}
use Rattle.log_entries.specs.Logs.{IsOrigin, TellsEntry, TellLog}
use Rattle.log_entries.specs.Beating.{SomeLiveCovers, IsPushed, IsAdded, IsDueEntry}
use Rattle.log_entries.proofs.Marking.{when_true, when_false}
use Rattle.log_entries.proofs.Telling.{log_length, covered_if_some, some_if_covered, pushed_tells}

-- an entry of a copied clause tells what is offered
told : (all : List Term) (log : List offered.Entry) (clause copied : IdClause) (origin : Origin) (at : Key) → IsFit all clause → copied ≡ clause → IsOrigin log origin at → TellsEntry all log (record { clause = copied; origin = origin; by = None }) (record { key = at; clause = clause_at all clause })
told all log clause copied origin at fit same is_origin = record {
  clause = record { known = copied_fit.known; is = ap (clause_at all) same };
  low = copied_fit.low;
  origin = is_origin;
}
  where
    copied_fit : IsFit all copied
    copied_fit = subst (IsFit all) (sym same) fit

pub covered_offer : (all : List Term) (items : List Entry) (c : Clause Term) (found : Bool) → found ≡ true → MatchBool found (SomeLiveCovers all items c) (SomeLiveCovers all items c → ⊥) → (log : List offered.Entry) → TellLog all items log → IsCoveredBy log c
covered_offer all items c found is h log tell =
    covered_if_some all log 1 items log c tell (when_true (SomeLiveCovers all items c) (SomeLiveCovers all items c → ⊥) found is h)

uncovered_offer : (all : List Term) (items : List Entry) (c : Clause Term) (found : Bool) → found ≡ false → MatchBool found (SomeLiveCovers all items c) (SomeLiveCovers all items c → ⊥) → (log : List offered.Entry) → TellLog all items log → IsCoveredBy log c → ⊥
uncovered_offer all items c found is h log tell covered =
    when_false (SomeLiveCovers all items c) (SomeLiveCovers all items c → ⊥) found is h (some_if_covered all log 1 items log c tell covered)

pub due_offer : (all : List Term) (items : List Entry) (clause copied : IdClause) (origin : Origin) (budget : ℕ) (found : Bool) → IsFit all clause → copied ≡ clause → found ≡ false → MatchBool found (SomeLiveCovers all items (clause_at all clause)) (SomeLiveCovers all items (clause_at all clause) → ⊥) → length items ≡ budget
    → (log : List offered.Entry) (at : Key) → TellLog all items log → IsOrigin log origin at → IsDueEntry all log items items budget (record { key = at; clause = clause_at all clause }) (record { clause = copied; origin = origin; by = None })
due_offer all items clause copied origin budget found fit same refused h full log at tell is_origin = record {
  uncovered = uncovered_offer all items (clause_at all clause) found refused h log tell;
  full = sym (log_length all items log tell) ∙ full;
  same = refl;
  tells = told all log clause copied origin at fit same is_origin;
  unbeaten = refl;
}

pub new_offer : (all : List Term) (items new : List Entry) (clause : IdClause) (origin : Origin) (budget : ℕ) (found : Bool) → IsFit all clause → found ≡ false → MatchBool found (SomeLiveCovers all items (clause_at all clause)) (SomeLiveCovers all items (clause_at all clause) → ⊥) → length items < budget
    → IsPushed all items (record { clause = clause; origin = origin; by = None }) new → (log : List offered.Entry) (at : Key) → TellLog all items log → IsOrigin log origin at → IsAdded all log new budget (record { key = at; clause = clause_at all clause })
new_offer all items new clause origin budget found fit refused h room pushed log at tell is_origin =
    let count = log_length all items log tell in
    record {
      uncovered = uncovered_offer all items (clause_at all clause) found refused h log tell;
      room = omega (arith, count, room);
      tell = pushed_tells all log items new (record { clause = clause; origin = origin; by = None }) (record { key = at; clause = clause_at all clause }) tell pushed refl (told all log clause clause origin at fit refl is_origin) refl;
    }
