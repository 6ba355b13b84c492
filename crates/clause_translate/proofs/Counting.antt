-- Visits of a process that does nothing, which are only counted.
use Rattle.std.proofs.Common.{◌≡◌, ◌∙◌, ℕ, zero, suc, ◌+◌, ◌<◌, cond, Option, Some, None, List, [], ◌∷◌, refl, ap, sym, subst, arith}
use Rattle.std.specs.Prelude.{MatchOption}
use Rattle.std.specs.List.{count_by}
use Rattle.std.specs.Option.{is_some}
use Rattle.std.proofs.lemmas.List.Sums.{sum_by-cons}
use Rattle.spec_calculus.specs.Syntax.{Nil, Expression, Protocol}
use Rattle.pi_tree.specs.Patterns.{pattern_of}
use Rattle.spec_terms.specs.Term.{Term}
use Rattle.spec_translation.specs.Visit.{Visit}
use Rattle.spec_translation.specs.Course.{Outcome, Done, TooLarge, Finished}
use Rattle.spec_translation.specs.Visited.{EachThen, Visited}
use Rattle.visit_choices.specs.declared.choice.Choosing.{Choosing}
use Rattle.process_visits.specs.declared.listing.Listing.{Listing}
use Rattle.process_visits.specs.Forms.{Lists}
use Rattle.unified_visits.specs.Places.{protocol_at}
use Rattle.unified_visits.specs.Visits.{visit_at}
use Rattle.visit_choices.specs.Walks.{choices_of}
use Rattle.process_visits.proofs.Courses.{append_none}
use Rattle.clause_translate.specs.Jobs.{Each, Ends, IsSmallLet, EndsEach}

-- so many of them go on
abbrev going : List (Option Visit) → ℕ
going outs = count_by is_some outs

going-none : (outs : List (Option Visit)) → going (None ∷ outs) ≡ 0 + going outs
going-none outs = sum_by-cons (λ (o : Option Visit). cond (is_some o) 1 0) None outs

going-some : (w : Visit) (outs : List (Option Visit)) → going (Some w ∷ outs) ≡ 1 + going outs
going-some w outs = sum_by-cons (λ (o : Option Visit). cond (is_some o) 1 0) (Some w) outs

module _ (P : Protocol) (point : ℕ) where
  abbrev R : Visit → ℕ → Outcome → Type 0
  R w left out = Visited P Nil point w left out

  -- enough visits are left
  all_counted : (outs : List (Option Visit)) (left after : ℕ) → left ≡ after + going outs → EachThen R outs Finished left (Done [] after)
  all_counted [] left after e = let same : after ≡ left = omega (arith, e) in ap (λ n. Done [] n) same
  all_counted (None ∷ outs) left after e = all_counted outs left after (omega (arith, e, going-none outs))
  all_counted (Some w ∷ outs) zero after e = absurd (omega (arith, e, going-some w outs))
  all_counted (Some w ∷ outs) (suc left) after e = (Done [] left, refl, (Done [] after, all_counted outs left after (omega (arith, e, going-some w outs)), refl))

  -- fewer are left
  some_uncounted : (outs : List (Option Visit)) (left : ℕ) → left < going outs → EachThen R outs Finished left (TooLarge point)
  some_uncounted [] left few = absurd (omega (arith, few))
  some_uncounted (None ∷ outs) left few = some_uncounted outs left (omega (arith, few, going-none outs))
  some_uncounted (Some w ∷ outs) zero few = (TooLarge point, refl, refl)
  some_uncounted (Some w ∷ outs) (suc left) few = (Done [] left, refl, (TooLarge point, some_uncounted outs left (omega (arith, few, going-some w outs)), refl))

  -- no clause is added
  lists_same : (all : List Term) (before after : Listing) → after.clauses ≡ before.clauses → after.keeps ≡ before.keeps → Lists all before after []
  lists_same all before after same kept = record {
    made = [];
    clauses = same ∙ sym (append_none before.clauses);
    names = λ keeps. record { known = tt; are = refl };
    low = λ keeps. tt;
    none = λ gone. refl;
    keeps = kept;
  }

  pub counted_ends : (all : List Term) (before after : Listing) (outs : List (Option Visit)) (large : Option ℕ) → after.clauses ≡ before.clauses → after.keeps ≡ before.keeps
      → MatchOption large (before.left ≡ after.left + going outs) (λ at. (at ≡ point) × (before.left < going outs)) → Ends P (Each Nil point outs) all before after large
  counted_ends all before after outs None same kept counts = record { more = []; runs = all_counted outs before.left after.left counts; lists = lists_same all before after same kept }
  counted_ends all before after outs (Some at) same kept counts = subst (λ n. EachThen R outs Finished before.left (TooLarge n)) (sym counts.0) (some_uncounted outs before.left counts.1)

-- so are those of the choices of a `let`
pub counted_each : (all : List Term) (choosing : Choosing) (e : Expression) (n point : ℕ) (before after : Listing) (large : Option ℕ) → IsSmallLet all choosing e n → after.clauses ≡ before.clauses → after.keeps ≡ before.keeps
    → MatchOption large (before.left ≡ after.left + n) (λ at. (at ≡ point) × (before.left < n)) → EndsEach (protocol_at choosing.place.now) (visit_at all choosing.visit.now) (pattern_of choosing.pattern.now) (choices_of choosing) Nil point all before after large
counted_each all choosing e n point before after large let_small same kept counts =
    let small = let_small.small in
    record {
      outs = small.outs;
      go = small.go;
      small = small.large;
      ends = counted_ends (protocol_at choosing.place.now) point all before after small.outs large same kept
          (subst (λ k. MatchOption large (before.left ≡ after.left + k) (λ at. (at ≡ point) × (before.left < k))) (sym small.going) counts);
    }
