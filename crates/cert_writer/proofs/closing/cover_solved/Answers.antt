use Rattle.std.proofs.Common.{◌≡◌, ◌∙◌, ◌<◌, ◌≤◌, ℕ, List, [], Some, get_or, slice_get, option_map, length, refl, ap, sym, subst, true, arith}
use Rattle.spec_terms.specs.Term.{Term}
use Rattle.spec_clauses.specs.Fact.{Bad}
use Rattle.spec_clauses.specs.Inclusion.{Has}
use Rattle.spec_clauses.specs.Selection.{is_solved}
use Rattle.std.proofs.lemmas.List.{length-map}
use Rattle.std.proofs.lemmas.Option.{slice_get-map, slice_get-get_or}
use Rattle.clause_form.specs.Seen.{clause_at, IdClause}
use Rattle.clause_form.specs.Fit.{IsFit, clauses_at}
use Rattle.cert_writer.specs.Ready.{IsReady, AreTold}
use Rattle.cert_writer.specs.Adding.{AddsPairs, pairs_of_two, MustClose}
use Rattle.log_entries.proofs.Numbers.{place_among}
use Rattle.cert_writer.proofs.Unsolved.{none_reached, more_reached, all_reached, places_are, places_ascend, place_within}
use Rattle.cert_writer.proofs.closing.cover_solved.Goals as goal

abbrev no_clause : IdClause
no_clause = record { hypotheses = []; diffs = []; conclusion = Bad [] }

pub cover_place-requires-clause-solved_fit : goal.cover_place-requires-clause-solved_fit
cover_place-requires-clause-solved_fit g c = subst (λ (all : List Term). IsFit all c.args.solving.now.clause.now) (sym c.each.invariant.bank) c.requires.fit

pub cover_place-requires-clause-place : goal.cover_place-requires-clause-place
cover_place-requires-clause-place g c =
    let unsolved = c.args.solving.now.unsolved in
    place_within (g.B.Bank.trees c.args.bank.now) c.args.writer.now.live.now unsolved c.requires.told.unsolved (get_or unsolved.places.now c.each.place-index 0) (place_among unsolved.places.now c.each.place-index 0 c.each-test.true)

pub cover_place-requires-clause-told : goal.cover_place-requires-clause-told
cover_place-requires-clause-told g c = subst (λ (all : List Term). AreTold all c.args.writer.now c.args.solving.now) (sym c.each.invariant.bank) c.requires.told

pub each-init : goal.each-init
each-init g c =
    let all = g.B.Bank.trees c.args.bank.now in
    let live = c.args.writer.now.live.now in
    let solving = c.args.solving.now in
    record {
      bank = refl;
      rows = λ i first start. none_reached (clauses_at all live) i (clause_at all solving.clause.now) first solving.unsolved.places.now solving.from solving.to (omega (arith, c.requires.within, length-map live (clause_at all))) c.args.rows.now start;
    }

pub each-preserved : goal.each-preserved
each-preserved g c =
    let all = g.B.Bank.trees c.args.bank.now in
    let live = c.args.writer.now.live.now in
    let solving = c.args.solving.now in
    let solved = solving.clause.now in
    let places = solving.unsolved.places.now in
    let place = get_or places c.each.place-index 0 in
    let unsolved = get_or live place no_clause in
    let old = c.each.rows in
    let new = c.cover_place.new.rows in
    let within : place < length live = place_within all live solving.unsolved c.requires.told.unsolved place (place_among places c.each.place-index 0 c.each-test.true) in
    let there = slice_get-get_or live place no_clause within in
    let pairs = subst (λ (all : List Term). solving.from ≤ place → place < solving.to → (x : IdClause) → slice_get live place ≡ Some x → (i j : ℕ) → AddsPairs (clauses_at all live) (pairs_of_two i (clause_at all solved) j (clause_at all x)) old new) c.each.invariant.bank c.in_ok-cover_place.ensures.met in
    record {
      bank = c.cover_place.ensures.bank ∙ c.each.invariant.bank;
      rows = λ i first start. more_reached (clauses_at all live) i (clause_at all solved) first places solving.from solving.to (omega (arith, c.requires.within, length-map live (clause_at all))) c.each.place-index (places_ascend all live solving.unsolved c.requires.told.unsolved) c.each-test.true
          (clause_at all unsolved) (slice_get-map (clause_at all) live place ∙ ap (option_map (clause_at all)) there) old new (c.each.invariant.rows i first start) (λ least most j. pairs least most unsolved there i j) c.in_ok-cover_place.ensures.passed;
    }

pub returns-clause-rows : goal.returns-clause-rows
returns-clause-rows g c =
    let all = g.B.Bank.trees c.args.bank.now in
    let live = c.args.writer.now.live.now in
    let solving = c.args.solving.now in
    λ i first start. all_reached (clauses_at all live) i (clause_at all solving.clause.now) first solving.unsolved.places.now solving.from solving.to (omega (arith, c.requires.within, length-map live (clause_at all))) c.each.place-index c.each.rows c.requires.places c.each-test.false
    (places_are all live solving.unsolved c.requires.told.unsolved) (c.each.invariant.rows i first start)

pub returns-in_err-cover_place-clause-bank : goal.returns-in_err-cover_place-clause-bank
returns-in_err-cover_place-clause-bank g c = c.cover_place.ensures.bank ∙ c.each.invariant.bank

pub cover_place-requires-clause-ready : goal.cover_place-requires-clause-ready
cover_place-requires-clause-ready g c = subst (λ (all : List Term). IsReady all c.args.writer.now) (sym c.each.invariant.bank) c.requires.ready

pub cover_place-requires-clause-solved_live : goal.cover_place-requires-clause-solved_live
cover_place-requires-clause-solved_live g c =
    subst (λ (all : List Term). Has (clauses_at all c.args.writer.now.live.now) (clause_at all c.args.solving.now.clause.now)) (sym c.each.invariant.bank) c.requires.live

pub cover_place-requires-clause-is_solved : goal.cover_place-requires-clause-is_solved
cover_place-requires-clause-is_solved g c =
    subst (λ (all : List Term). is_solved (clause_at all c.args.solving.now.clause.now).hypotheses ≡ true) (sym c.each.invariant.bank) c.requires.is_solved

pub cover_place-requires-clause-closed : goal.cover_place-requires-clause-closed
cover_place-requires-clause-closed g c = subst (λ (all : List Term). MustClose (clauses_at all c.args.writer.now.live.now)) (sym c.each.invariant.bank) c.requires.closed
