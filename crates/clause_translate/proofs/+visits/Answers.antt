use Rattle.std.proofs.Common.{◌≡◌, ℕ, suc, ◌+◌, ◌-◌, ◌<◌, ◌≤◌, true, false, Option, Some, None, List, [], map, length, take, drop, refl, ap, sym, subst, ◌∙◌, arith, ◌∷◌}
use Rattle.std.proofs.lemmas.Grind.{common_steps}
use Rattle.std.specs.Prelude.{IfOk, IfSome, MatchOption, MatchBool}
use Rattle.spec_calculus.specs.Syntax as calculus
use Rattle.pi_tree.specs.declared.syntax.Process.{Process}
use Rattle.pi_tree.specs.Terms.{term_of}
use Rattle.pi_tree.specs.Patterns.{pattern_of}
use Rattle.pi_tree.specs.Expressions.{expression_of}
use Rattle.pi_tree.specs.Events.{event_of}
use Rattle.pi_tree.specs.Processes.{condition_of, process_of}
use Rattle.spec_terms.specs.Term.{Term}
use Rattle.term_tree.specs.Bank.{Grows}
use Rattle.term_tree.proofs.BankLaws.{Grows_refl, Grows_trans, take-grows, Grows-length}
use Rattle.spec_calculus.specs.Syntax.{Ruled}
use Rattle.spec_translation.specs.Visit.{Visit, is_large_visit, after_input, after_copy, after_new, event_terms, after_event, after_phase}
use Rattle.spec_translation.specs.Choice.{EachGoesOn}
use Rattle.spec_translation.specs.Otherwise.{otherwise_visit}
use Rattle.spec_choice_walks.specs.Instructions.{completions, choices_by}
use Rattle.term_values.specs.Instructions.{instruction_of}
use Rattle.process_visits.specs.declared.listing.Listing.{Listing}
use Rattle.unified_visits.specs.declared.visit.Visit as source
use Rattle.visit_choices.specs.declared.ways.Way.{Way}
use Rattle.unified_visits.specs.Places.{protocol_at, HasFewPoints}
use Rattle.process_visits.specs.Processes.{output_form, input_form, parallel_form, let_form, event_form, phase_form, insert_form, get_form}
use Rattle.unified_visits.specs.Short.{IsFitProcess}
use Rattle.unified_visits.specs.Visits.{visit_at, NamesVisit}
use Rattle.process_visits.specs.Forms.{is_large_output, is_large_insert, Receives, IsLargeInput, EventAdds}
use Rattle.visit_choices.specs.Walks.{instructions_of, choices_of}
use Rattle.clause_translate.specs.Jobs.{Once, Uncounted, Each, Ends, AreSmallWays, IsKnownWay, EndsEach}
use Rattle.unified_visits.proofs.Named.{if_ok, visit_later}
use Rattle.visit_choices.proofs.Passing.{choices_counted}
use Rattle.clause_translate.proofs.Weights.{weight}
use Rattle.clause_translate.proofs.FewCopies.{next_copies, later_copies, kept_copies, one_copy, below_copies, known_way, entry_known}
use Rattle.clause_translate.proofs.EntryWays.{large_way, small_way}
use Rattle.clause_translate.proofs.Counting.{counted_each}
use Rattle.clause_translate.proofs.FewPoints.{next_fit, next_few, next_point, left_few, left_within, right_few, left_point, right_point, point_before, at_point}
use Rattle.clause_translate.proofs.Visiting.{none_left, nil_ends, spelled, counted_ok, ends_back, moved, moved_each, output_ends, event_ends, input_ends, copies_ends, new_ends, parallel_ends, let_ends, else_ends, next_large, output_large, event_large, input_large, new_large, left_large, let_large, choice_large, phase_ends, insert_large, insert_ends, get_large, entry_large, entry_next_large, get_ends}
use Rattle.clause_translate.proofs.LetVisits.{few_left, completed_by, choosing_known, small_let, small_later, choosing_later, passes_as, passed_within}
use Rattle.clause_translate.proofs.Repeating.{none_visited, passed_small, more_visited, large_visited, all_visited, nowhere_of, nowhere_ends, visit_ends}
use Rattle.spec_calculus.specs.Points.{point_after}
use Rattle.spec_clauses.specs.Fact.{Ev}
use Rattle.spec_attack_runs.specs.Source as attack
use Rattle.clause_sources.specs.Seen.{choice_of}
use Rattle.process_visits.specs.Telling.{TellsVisit}
use Rattle.clause_translate.specs.Gathering.{Tells, TellsBelow, TellsWay, TellsEach}
use Rattle.clause_translate.proofs.Gathering.{tells_moved, counted_tells, nil_tells, output_tells, event_tells, insert_tells, input_tells, copies_tell, new_tells, spelled_tells, phase_tells, parallel_tells, below_tells, else_told, below_moved, way_moved, nothing_way, let_tells, get_tells, ends_between}
use Rattle.clause_translate.proofs.Repeated.{gathered_way, none_told, more_told, all_told, nothing_chosen}
use Rattle.clause_translate.proofs.+visits.Goals as goal
use Rattle.clause_form.specs.Seen.{IdClause}

pub visits::visit_copies-visit_process-requires : goal.visits::visit_copies-visit_process-requires
visits::visit_copies-visit_process-requires g t c κs within =
    let old = g.B.Bank.trees c.args.bank.now in
    let w = c.args.visit.now in
    let mid = g.B.Bank.trees c.after_copy.new.bank in
    (omega (arith, c.decreases), (within, (c.in_ok-made.ensures.names.known, (next_fit (process_of c.args.copied.now) c.below-below.result c.below-below.ensures c.requires.fit, (next_few c.args.place.now.point (calculus.Replication (process_of c.args.copied.now)) (process_of c.args.copied.now) refl c.below-below.result c.below-below.ensures c.requires.points, below_copies old mid w c.in_ok-made.made c.below-below.result c.args.place.now.point c.below-below.ensures c.requires.copies (omega (arith, one_copy old mid w c.in_ok-made.made w.next c.in_ok-made.ensures.names)))))))

pub visits::visit_copies-returns-clause-ends : goal.visits::visit_copies-returns-clause-ends
visits::visit_copies-returns-clause-ends g t c =
    let old = g.B.Bank.trees c.args.bank.now in
    let P = protocol_at c.args.place.now in
    let w = c.args.visit.now in
    let v = visit_at old w in
    let mid = g.B.Bank.trees c.after_copy.new.bank in
    copies_ends c.visit_process.result P v w.next (process_of c.args.copied.now) c.args.place.now.point c.below-below.result c.in_ok-made.made mid (g.B.Bank.trees c.visit_process.new.bank) c.args.listing.now c.visit_process.new.listing
    c.below-below.ensures c.requires.visit.below c.in_ok-made.ensures.names c.visit_process.ensures.ends

pub visits::visit_event-visit_process-requires : goal.visits::visit_event-visit_process-requires
visits::visit_event-visit_process-requires g t c κs within =
    let old = g.B.Bank.trees c.args.bank.now in
    let P = protocol_at c.args.place.now in
    let w = c.args.visit.now in
    let v = visit_at old w in
    let mid = g.B.Bank.trees c.add_event.new.bank in
    let adds = subst (λ (o : Option source.Visit). EventAdds P v (event_of c.args.event.now.atom.now) mid c.args.listing.now c.add_event.new.listing o) c.in-Some.is c.in_ok-add_event.ensures.adds in
    (omega (arith, c.decreases), (within, (adds.names.known, (next_fit (process_of c.args.event.now.next.now) c.below-below.result c.below-below.ensures c.requires.fit.1, (next_few c.args.place.now.point (event_form c.args.event.now) (process_of c.args.event.now.next.now) refl c.below-below.result c.below-below.ensures c.requires.points, below_copies old mid w c.in-Some.made c.below-below.result c.args.place.now.point c.below-below.ensures c.requires.copies (omega (arith, kept_copies old mid w c.in-Some.made _ adds.names refl)))))))

pub visits::visit_event-returns-in-Some-clause-ends : goal.visits::visit_event-returns-in-Some-clause-ends
visits::visit_event-returns-in-Some-clause-ends g t c =
    let old = g.B.Bank.trees c.args.bank.now in
    let P = protocol_at c.args.place.now in
    let w = c.args.visit.now in
    let v = visit_at old w in
    let mid = g.B.Bank.trees c.add_event.new.bank in
    let adds = subst (λ (o : Option source.Visit). EventAdds P v (event_of c.args.event.now.atom.now) mid c.args.listing.now c.add_event.new.listing o) c.in-Some.is c.in_ok-add_event.ensures.adds in
    event_ends c.visit_process.result P v (event_of c.args.event.now.atom.now) (process_of c.args.event.now.next.now) c.args.place.now.point c.below-below.result c.in-Some.made mid (g.B.Bank.trees c.visit_process.new.bank) c.args.listing.now c.add_event.new.listing c.visit_process.new.listing
    c.below-below.ensures c.visit_process.ensures.grows adds c.visit_process.ensures.ends

pub visits::visit_input-visit_process-requires : goal.visits::visit_input-visit_process-requires
visits::visit_input-visit_process-requires g t c κs within =
    let old = g.B.Bank.trees c.args.bank.now in
    let P = protocol_at c.args.place.now in
    let w = c.args.visit.now in
    let v = visit_at old w in
    let mid = g.B.Bank.trees c.after_input.new.bank in
    let got = subst (λ (o : Option source.Visit). MatchOption o (IsLargeInput P v (term_of c.args.input.now.channel.now) (pattern_of c.args.input.now.pattern.now)) (λ made. Receives P v (term_of c.args.input.now.channel.now) (pattern_of c.args.input.now.pattern.now) mid made)) c.in-Some.is c.in_ok-after_input.ensures.receives in
    (omega (arith, c.decreases), (within, (got.names.known, (next_fit (process_of c.args.input.now.next.now) c.below-below.result c.below-below.ensures c.requires.fit.2, (next_few c.args.place.now.point (input_form c.args.input.now) (process_of c.args.input.now.next.now) refl c.below-below.result c.below-below.ensures c.requires.points, below_copies old mid w c.in-Some.made c.below-below.result c.args.place.now.point c.below-below.ensures c.requires.copies (omega (arith, kept_copies old mid w c.in-Some.made _ got.names refl)))))))

pub visits::visit_input-returns-in-Some-clause-ends : goal.visits::visit_input-returns-in-Some-clause-ends
visits::visit_input-returns-in-Some-clause-ends g t c =
    let old = g.B.Bank.trees c.args.bank.now in
    let P = protocol_at c.args.place.now in
    let w = c.args.visit.now in
    let v = visit_at old w in
    let mid = g.B.Bank.trees c.after_input.new.bank in
    let got = subst (λ (o : Option source.Visit). MatchOption o (IsLargeInput P v (term_of c.args.input.now.channel.now) (pattern_of c.args.input.now.pattern.now)) (λ made. Receives P v (term_of c.args.input.now.channel.now) (pattern_of c.args.input.now.pattern.now) mid made)) c.in-Some.is c.in_ok-after_input.ensures.receives in
    input_ends c.visit_process.result P v (term_of c.args.input.now.channel.now) (pattern_of c.args.input.now.pattern.now) (process_of c.args.input.now.next.now) c.args.place.now.point c.below-below.result c.in-Some.made mid (g.B.Bank.trees c.visit_process.new.bank) c.args.listing.now c.visit_process.new.listing
    c.below-below.ensures got c.visit_process.ensures.ends

pub visits::visit_new-visit_process-requires : goal.visits::visit_new-visit_process-requires
visits::visit_new-visit_process-requires g t c κs within =
    let old = g.B.Bank.trees c.args.bank.now in
    let w = c.args.visit.now in
    let v = visit_at old w in
    let mid = g.B.Bank.trees c.after_new.new.bank in
    let names : NamesVisit mid c.in-Some.made (after_new v c.args.place.now.point) = subst (λ (o : Option source.Visit). IfSome o (λ made. NamesVisit mid made (after_new v c.args.place.now.point))) c.in-Some.is c.in_ok-after_new.ensures.names in
    (omega (arith, c.decreases), (within, (names.known, (next_fit (process_of c.args.next.now) c.below-below.result c.below-below.ensures c.requires.fit, (next_few c.args.place.now.point (calculus.New [] (process_of c.args.next.now)) (process_of c.args.next.now) refl c.below-below.result c.below-below.ensures c.requires.points, below_copies old mid w c.in-Some.made c.below-below.result c.args.place.now.point c.below-below.ensures c.requires.copies (omega (arith, kept_copies old mid w c.in-Some.made _ names refl)))))))

pub visits::visit_new-returns-in-Some-clause-ends : goal.visits::visit_new-returns-in-Some-clause-ends
visits::visit_new-returns-in-Some-clause-ends g t c =
    let old = g.B.Bank.trees c.args.bank.now in
    let P = protocol_at c.args.place.now in
    let w = c.args.visit.now in
    let v = visit_at old w in
    let mid = g.B.Bank.trees c.after_new.new.bank in
    let names : NamesVisit mid c.in-Some.made (after_new v c.args.place.now.point) = subst (λ (o : Option source.Visit). IfSome o (λ made. NamesVisit mid made (after_new v c.args.place.now.point))) c.in-Some.is c.in_ok-after_new.ensures.names in
    let small : is_large_visit (after_new v c.args.place.now.point) ≡ false = subst (λ (o : Option source.Visit). MatchOption o (is_large_visit (after_new v c.args.place.now.point) ≡ true) (λ made. is_large_visit (after_new v c.args.place.now.point) ≡ false)) c.in-Some.is c.in_ok-after_new.ensures.large in
    new_ends c.visit_process.result P v (process_of c.args.next.now) c.args.place.now.point c.below-below.result c.in-Some.made mid (g.B.Bank.trees c.visit_process.new.bank) c.args.listing.now c.visit_process.new.listing
    c.below-below.ensures small names c.visit_process.ensures.ends

pub visits::visit_output-visit_process-requires : goal.visits::visit_output-visit_process-requires
visits::visit_output-visit_process-requires g t c κs within =
    let old = g.B.Bank.trees c.args.bank.now in
    let w = c.args.visit.now in
    let mid = g.B.Bank.trees c.add_output.new.bank in
    let later = visit_later old mid w c.add_output.ensures.grows c.requires.visit in
    (omega (arith, c.decreases), (within, (later.known, (next_fit (process_of c.args.output.now.next.now) c.below-below.result c.below-below.ensures c.requires.fit.2, (next_few c.args.place.now.point (output_form c.args.output.now) (process_of c.args.output.now.next.now) refl c.below-below.result c.below-below.ensures c.requires.points, next_copies c.below-below.result c.args.place.now.point w c.below-below.ensures c.requires.copies)))))

pub visits::visit_output-returns-clause-ends : goal.visits::visit_output-returns-clause-ends
visits::visit_output-returns-clause-ends g t c =
    let old = g.B.Bank.trees c.args.bank.now in
    let P = protocol_at c.args.place.now in
    let w = c.args.visit.now in
    let v = visit_at old w in
    let mid = g.B.Bank.trees c.add_output.new.bank in
    let adds = c.in_ok-add_output.ensures.adds c.if-not-branch.false in
    let later = visit_later old mid w c.add_output.ensures.grows c.requires.visit in
    let small = subst (λ b. MatchBool b (is_large_output P v (term_of c.args.output.now.channel.now) (term_of c.args.output.now.message.now) ≡ false) (is_large_output P v (term_of c.args.output.now.channel.now) (term_of c.args.output.now.message.now) ≡ true)) c.if-not-branch.false c.in_ok-add_output.ensures.large in
    output_ends c.visit_process.result P v (term_of c.args.output.now.channel.now) (term_of c.args.output.now.message.now) (process_of c.args.output.now.next.now) c.args.place.now.point c.below-below.result (visit_at mid w) mid (g.B.Bank.trees c.visit_process.new.bank) c.args.listing.now c.add_output.new.listing c.visit_process.new.listing
    c.below-below.ensures later.is small c.visit_process.ensures.grows adds c.visit_process.ensures.ends

pub visits::visit_parallel-visit_process-requires : goal.visits::visit_parallel-visit_process-requires
visits::visit_parallel-visit_process-requires g t c κs within =
    (omega (arith, c.decreases), (within, (c.requires.visit, (next_fit (process_of c.args.both.now.left.now) c.below-below.result c.below-below.ensures c.requires.fit.0, (left_few c.args.place.now.point (parallel_form c.args.both.now) (process_of c.args.both.now.left.now) (process_of c.args.both.now.right.now) refl c.below-below.result c.below-below.ensures c.requires.points, next_copies c.below-below.result c.args.place.now.point c.args.visit.now c.below-below.ensures c.requires.copies)))))

pub visits::visit_parallel-visit_process-requires-in-None : goal.visits::visit_parallel-visit_process-requires-in-None
visits::visit_parallel-visit_process-requires-in-None g t c κs within =
    let old = g.B.Bank.trees c.args.bank.now in
    let P = protocol_at c.args.place.now in
    let w = c.args.visit.now in
    let v = visit_at old w in
    let mid = g.B.Bank.trees c.visit_process.new.bank in
    let later = visit_later old mid w c.visit_process.ensures.grows c.requires.visit in
    let done = moved P (c.args.place.now.point + 1) v c.below-below.result v (process_of c.args.both.now.left.now) mid c.args.listing.now c.visit_process.new.listing None c.below-below.ensures refl
    (subst (λ (o : Option ℕ). Ends (protocol_at c.below-below.result) (Once (process_of c.args.both.now.left.now) c.below-below.result.point v) mid c.args.listing.now c.visit_process.new.listing o) c.in-None.is c.in_ok-point.ensures.ends) in
    (omega (arith, c.decreases), (within, (later.known, (next_fit (process_of c.args.both.now.right.now) c.after-after.result c.after-after.ensures c.requires.fit.1, (right_few c.args.place.now.point (parallel_form c.args.both.now) (process_of c.args.both.now.left.now) (process_of c.args.both.now.right.now) refl c.after-after.result c.after-after.ensures c.requires.points, later_copies c.after-after.result c.args.place.now.point (process_of c.args.both.now.left.now) w c.after-after.ensures c.requires.copies)))))

pub visits::visit_parallel-returns-in-None-clause-ends : goal.visits::visit_parallel-returns-in-None-clause-ends
visits::visit_parallel-returns-in-None-clause-ends g t c =
    let old = g.B.Bank.trees c.args.bank.now in
    let P = protocol_at c.args.place.now in
    let w = c.args.visit.now in
    let v = visit_at old w in
    let mid = g.B.Bank.trees c.visit_process.new.bank in
    let later = visit_later old mid w c.visit_process.ensures.grows c.requires.visit in
    let done = moved P (c.args.place.now.point + 1) v c.below-below.result v (process_of c.args.both.now.left.now) mid c.args.listing.now c.visit_process.new.listing None c.below-below.ensures refl
    (subst (λ (o : Option ℕ). Ends (protocol_at c.below-below.result) (Once (process_of c.args.both.now.left.now) c.below-below.result.point v) mid c.args.listing.now c.visit_process.new.listing o) c.in-None.is c.in_ok-point.ensures.ends) in
    parallel_ends c.visit_process-in-None.result P v (process_of c.args.both.now.left.now) (process_of c.args.both.now.right.now) c.args.place.now.point c.after-after.result (visit_at mid w) mid (g.B.Bank.trees c.visit_process-in-None.new.bank) c.args.listing.now c.visit_process.new.listing c.visit_process-in-None.new.listing
    c.after-after.ensures later.is c.visit_process-in-None.ensures.grows done c.visit_process-in-None.ensures.ends

pub visits::visit_process-returns-then-listing-eq0-clause-ends : goal.visits::visit_process-returns-then-listing-eq0-clause-ends
visits::visit_process-returns-then-listing-eq0-clause-ends g t c =
    let old = g.B.Bank.trees c.args.bank.now in
    let P = protocol_at c.args.place.now in
    let w = c.args.visit.now in
    let v = visit_at old w in
    none_left P (process_of c.args.process.now) c.args.place.now.point v c.args.listing.now.left c.if-listing-eq0.true

pub visits::visit_process-visit_counted-requires : goal.visits::visit_process-visit_counted-requires
visits::visit_process-visit_counted-requires g t c κs within =
    (omega (arith, c.decreases), (within, (c.requires.visit, (c.requires.fit, (c.requires.points, c.requires.copies)))))

pub visits::visit_process-returns-clause-ends : goal.visits::visit_process-returns-clause-ends
visits::visit_process-returns-clause-ends g t c =
    let P = protocol_at c.args.place.now in
    let v = visit_at (g.B.Bank.trees c.args.bank.now) c.args.visit.now in
    let low : Listing = record { clauses = c.args.listing.now.clauses; left = c.args.listing.now.left - 1; keeps = c.args.listing.now.keeps; choices = c.args.listing.now.choices; sources = c.args.listing.now.sources } in
    let less : c.args.listing.now.left ≡ suc low.left = omega (arith, c.if-listing-eq0.false) in
    counted_ok c.visit_counted.result P (process_of c.args.process.now) c.args.place.now.point v (g.B.Bank.trees c.visit_counted.new.bank) c.args.listing.now low c.visit_counted.new.listing refl refl less c.visit_counted.ensures.ends

pub visits::visit_counted-visit_form-requires : goal.visits::visit_counted-visit_form-requires
visits::visit_counted-visit_form-requires g t c κs within =
    (omega (arith, c.decreases), (within, (c.requires.visit, (c.requires.fit, (c.requires.points, c.requires.copies)))))

pub visits::visit_counted-returns-then-count-clause-back : goal.visits::visit_counted-returns-then-count-clause-back
visits::visit_counted-returns-then-count-clause-back g t c = λ same. absurd (omega (arith, ap (λ (cs : List IdClause). length cs) same))

pub visits::visit_counted-returns-clause-grows : goal.visits::visit_counted-returns-clause-grows
visits::visit_counted-returns-clause-grows g t c =
    let old = g.B.Bank.trees c.args.bank.now in
    let now = g.B.Bank.trees c.visit_form.new.bank in
    subst (λ (all : List Term). Grows old all) (sym (c.back.ensures ∙ (ap (λ n. take n now) c.mark-mark.ensures ∙ take-grows old now c.visit_form.ensures.grows))) (Grows_refl old)

pub visits::visit_counted-returns-clause-back : goal.visits::visit_counted-returns-clause-back
visits::visit_counted-returns-clause-back g t c =
    let old = g.B.Bank.trees c.args.bank.now in
    let now = g.B.Bank.trees c.visit_form.new.bank in
    λ same. c.back.ensures ∙ (ap (λ n. take n now) c.mark-mark.ensures ∙ take-grows old now c.visit_form.ensures.grows)

pub visits::visit_counted-returns-clause-ends : goal.visits::visit_counted-returns-clause-ends
visits::visit_counted-returns-clause-ends g t c =
    let P = protocol_at c.args.place.now in
    let v = visit_at (g.B.Bank.trees c.args.bank.now) c.args.visit.now in
    let few : length c.visit_form.new.listing.clauses ≤ length c.args.listing.now.clauses = omega arith in
    ends_back P (Uncounted (process_of c.args.process.now) c.args.place.now.point v) (g.B.Bank.trees c.back.new.self) (g.B.Bank.trees c.visit_form.new.bank) c.args.listing.now c.visit_form.new.listing c.in_ok-large.large few c.in_ok-large.ensures.ends

pub visits::visit_form-visit_output-requires : goal.visits::visit_form-visit_output-requires
visits::visit_form-visit_output-requires g t c κs within =
    let same : process_of c.args.process.now ≡ calculus.Output (term_of c.in-Output.channel) (term_of c.in-Output.message) (process_of c.deref.result.now) = ap process_of c.in-Output.is ∙ ap (λ (x : Process). calculus.Output (term_of c.in-Output.channel) (term_of c.in-Output.message) (process_of x)) (sym c.deref.ensures) in
    (omega (arith, c.decreases, ap (λ (p : calculus.Process). weight p) same), (within, (c.requires.visit, (subst (λ (p : calculus.Process). IsFitProcess (protocol_at c.args.place.now) p) same c.requires.fit, (subst (λ (p : calculus.Process). HasFewPoints c.args.place.now.point p) same c.requires.points, c.requires.copies)))))

pub visits::visit_form-returns-in-Output-clause-ends : goal.visits::visit_form-returns-in-Output-clause-ends
visits::visit_form-returns-in-Output-clause-ends g t c =
    let old = g.B.Bank.trees c.args.bank.now in
    let P = protocol_at c.args.place.now in
    let w = c.args.visit.now in
    let v = visit_at old w in
    let same : process_of c.args.process.now ≡ calculus.Output (term_of c.in-Output.channel) (term_of c.in-Output.message) (process_of c.deref.result.now) = ap process_of c.in-Output.is ∙ ap (λ (x : Process). calculus.Output (term_of c.in-Output.channel) (term_of c.in-Output.message) (process_of x)) (sym c.deref.ensures) in
    subst (λ (p : calculus.Process). IfOk c.visit_output.result (λ large. Ends P (Uncounted p c.args.place.now.point v) (g.B.Bank.trees c.visit_output.new.bank) c.args.listing.now c.visit_output.new.listing large)) (sym same)
    c.visit_output.ensures.ends

pub visits::visit_form-visit_input-requires : goal.visits::visit_form-visit_input-requires
visits::visit_form-visit_input-requires g t c κs within =
    let same : process_of c.args.process.now ≡ calculus.Input (term_of c.in-Input.channel) (pattern_of c.in-Input.pattern) (process_of c.deref-in-Input.result.now) = ap process_of c.in-Input.is ∙ ap (λ (x : Process). calculus.Input (term_of c.in-Input.channel) (pattern_of c.in-Input.pattern) (process_of x)) (sym c.deref-in-Input.ensures) in
    (omega (arith, c.decreases, ap (λ (p : calculus.Process). weight p) same), (within, (c.requires.visit, (subst (λ (p : calculus.Process). IsFitProcess (protocol_at c.args.place.now) p) same c.requires.fit, (subst (λ (p : calculus.Process). HasFewPoints c.args.place.now.point p) same c.requires.points, c.requires.copies)))))

pub visits::visit_form-returns-in-Input-clause-ends : goal.visits::visit_form-returns-in-Input-clause-ends
visits::visit_form-returns-in-Input-clause-ends g t c =
    let old = g.B.Bank.trees c.args.bank.now in
    let P = protocol_at c.args.place.now in
    let w = c.args.visit.now in
    let v = visit_at old w in
    let same : process_of c.args.process.now ≡ calculus.Input (term_of c.in-Input.channel) (pattern_of c.in-Input.pattern) (process_of c.deref-in-Input.result.now) = ap process_of c.in-Input.is ∙ ap (λ (x : Process). calculus.Input (term_of c.in-Input.channel) (pattern_of c.in-Input.pattern) (process_of x)) (sym c.deref-in-Input.ensures) in
    subst (λ (p : calculus.Process). IfOk c.visit_input.result (λ large. Ends P (Uncounted p c.args.place.now.point v) (g.B.Bank.trees c.visit_input.new.bank) c.args.listing.now c.visit_input.new.listing large)) (sym same)
    c.visit_input.ensures.ends

pub visits::visit_form-visit_parallel-requires : goal.visits::visit_form-visit_parallel-requires
visits::visit_form-visit_parallel-requires g t c κs within =
    let same : process_of c.args.process.now ≡ calculus.Parallel (process_of c.deref-in-Par.result.now) (process_of c.deref-in-Par-2.result.now) = ap process_of c.in-Par.is ∙ ap (λ (x : Process). calculus.Parallel (process_of x) (process_of c.in-Par.right.value)) (sym c.deref-in-Par.ensures) ∙ ap (λ (x : Process). calculus.Parallel (process_of c.deref-in-Par.result.now) (process_of x)) (sym c.deref-in-Par-2.ensures) in
    (omega (arith, c.decreases, ap (λ (p : calculus.Process). weight p) same), (within, (c.requires.visit, (subst (λ (p : calculus.Process). IsFitProcess (protocol_at c.args.place.now) p) same c.requires.fit, (subst (λ (p : calculus.Process). HasFewPoints c.args.place.now.point p) same c.requires.points, c.requires.copies)))))

pub visits::visit_form-returns-in-Par-clause-ends : goal.visits::visit_form-returns-in-Par-clause-ends
visits::visit_form-returns-in-Par-clause-ends g t c =
    let old = g.B.Bank.trees c.args.bank.now in
    let P = protocol_at c.args.place.now in
    let w = c.args.visit.now in
    let v = visit_at old w in
    let same : process_of c.args.process.now ≡ calculus.Parallel (process_of c.deref-in-Par.result.now) (process_of c.deref-in-Par-2.result.now) = ap process_of c.in-Par.is ∙ ap (λ (x : Process). calculus.Parallel (process_of x) (process_of c.in-Par.right.value)) (sym c.deref-in-Par.ensures) ∙ ap (λ (x : Process). calculus.Parallel (process_of c.deref-in-Par.result.now) (process_of x)) (sym c.deref-in-Par-2.ensures) in
    subst (λ (p : calculus.Process). IfOk c.visit_parallel.result (λ large. Ends P (Uncounted p c.args.place.now.point v) (g.B.Bank.trees c.visit_parallel.new.bank) c.args.listing.now c.visit_parallel.new.listing large)) (sym same)
    c.visit_parallel.ensures.ends

pub visits::visit_form-visit_copies-requires : goal.visits::visit_form-visit_copies-requires
visits::visit_form-visit_copies-requires g t c κs within =
    let same : process_of c.args.process.now ≡ calculus.Replication (process_of c.deref-in-Copies.result.now) = ap process_of c.in-Copies.is ∙ ap (λ (x : Process). calculus.Replication (process_of x)) (sym c.deref-in-Copies.ensures) in
    (omega (arith, c.decreases, ap (λ (p : calculus.Process). weight p) same), (within, (c.requires.visit, (subst (λ (p : calculus.Process). IsFitProcess (protocol_at c.args.place.now) p) same c.requires.fit, (subst (λ (p : calculus.Process). HasFewPoints c.args.place.now.point p) same c.requires.points, c.requires.copies)))))

pub visits::visit_form-returns-in-Copies-clause-ends : goal.visits::visit_form-returns-in-Copies-clause-ends
visits::visit_form-returns-in-Copies-clause-ends g t c =
    let old = g.B.Bank.trees c.args.bank.now in
    let P = protocol_at c.args.place.now in
    let w = c.args.visit.now in
    let v = visit_at old w in
    let same : process_of c.args.process.now ≡ calculus.Replication (process_of c.deref-in-Copies.result.now) = ap process_of c.in-Copies.is ∙ ap (λ (x : Process). calculus.Replication (process_of x)) (sym c.deref-in-Copies.ensures) in
    subst (λ (p : calculus.Process). IfOk c.visit_copies.result (λ large. Ends P (Uncounted p c.args.place.now.point v) (g.B.Bank.trees c.visit_copies.new.bank) c.args.listing.now c.visit_copies.new.listing large)) (sym same)
    c.visit_copies.ensures.ends

pub visits::visit_form-visit_new-requires : goal.visits::visit_form-visit_new-requires
visits::visit_form-visit_new-requires g t c κs within =
    let same : process_of c.args.process.now ≡ calculus.New c.in-New.field-0 (process_of c.deref-in-New.result.now) = ap process_of c.in-New.is ∙ ap (λ (x : Process). calculus.New c.in-New.field-0 (process_of x)) (sym c.deref-in-New.ensures) in
    (omega (arith, c.decreases, ap (λ (p : calculus.Process). weight p) same), (within, (c.requires.visit, (subst (λ (p : calculus.Process). IsFitProcess (protocol_at c.args.place.now) p) same c.requires.fit, (subst (λ (p : calculus.Process). HasFewPoints c.args.place.now.point p) same c.requires.points, c.requires.copies)))))

pub visits::visit_form-returns-in-New-clause-ends : goal.visits::visit_form-returns-in-New-clause-ends
visits::visit_form-returns-in-New-clause-ends g t c =
    let old = g.B.Bank.trees c.args.bank.now in
    let P = protocol_at c.args.place.now in
    let w = c.args.visit.now in
    let v = visit_at old w in
    let same : process_of c.args.process.now ≡ calculus.New c.in-New.field-0 (process_of c.deref-in-New.result.now) = ap process_of c.in-New.is ∙ ap (λ (x : Process). calculus.New c.in-New.field-0 (process_of x)) (sym c.deref-in-New.ensures) in
    subst (λ (p : calculus.Process). IfOk c.visit_new.result (λ large. Ends P (Uncounted p c.args.place.now.point v) (g.B.Bank.trees c.visit_new.new.bank) c.args.listing.now c.visit_new.new.listing large)) (sym same)
    (spelled c.visit_new.result P c.in-New.field-0 (process_of c.deref-in-New.result.now) c.args.place.now.point v (g.B.Bank.trees c.visit_new.new.bank) c.args.listing.now c.visit_new.new.listing c.visit_new.ensures.ends)

pub visits::visit_form-visit_let-requires : goal.visits::visit_form-visit_let-requires
visits::visit_form-visit_let-requires g t c κs within =
    let same : process_of c.args.process.now ≡ calculus.Let (pattern_of c.in-Let.pattern) (expression_of c.in-Let.expression) (process_of c.deref-in-Let.result.now) (process_of c.deref-in-Let-2.result.now) = ap process_of c.in-Let.is ∙ ap (λ (x : Process). calculus.Let (pattern_of c.in-Let.pattern) (expression_of c.in-Let.expression) (process_of x) (process_of c.in-Let.otherwise.value)) (sym c.deref-in-Let.ensures) ∙ ap (λ (x : Process). calculus.Let (pattern_of c.in-Let.pattern) (expression_of c.in-Let.expression) (process_of c.deref-in-Let.result.now) (process_of x)) (sym c.deref-in-Let-2.ensures) in
    (omega (arith, c.decreases, ap (λ (p : calculus.Process). weight p) same), (within, (c.requires.visit, (subst (λ (p : calculus.Process). IsFitProcess (protocol_at c.args.place.now) p) same c.requires.fit, (subst (λ (p : calculus.Process). HasFewPoints c.args.place.now.point p) same c.requires.points, c.requires.copies)))))

pub visits::visit_form-returns-in-Let-clause-ends : goal.visits::visit_form-returns-in-Let-clause-ends
visits::visit_form-returns-in-Let-clause-ends g t c =
    let old = g.B.Bank.trees c.args.bank.now in
    let P = protocol_at c.args.place.now in
    let w = c.args.visit.now in
    let v = visit_at old w in
    let same : process_of c.args.process.now ≡ calculus.Let (pattern_of c.in-Let.pattern) (expression_of c.in-Let.expression) (process_of c.deref-in-Let.result.now) (process_of c.deref-in-Let-2.result.now) = ap process_of c.in-Let.is ∙ ap (λ (x : Process). calculus.Let (pattern_of c.in-Let.pattern) (expression_of c.in-Let.expression) (process_of x) (process_of c.in-Let.otherwise.value)) (sym c.deref-in-Let.ensures) ∙ ap (λ (x : Process). calculus.Let (pattern_of c.in-Let.pattern) (expression_of c.in-Let.expression) (process_of c.deref-in-Let.result.now) (process_of x)) (sym c.deref-in-Let-2.ensures) in
    subst (λ (p : calculus.Process). IfOk c.visit_let.result (λ large. Ends P (Uncounted p c.args.place.now.point v) (g.B.Bank.trees c.visit_let.new.bank) c.args.listing.now c.visit_let.new.listing large)) (sym same)
    c.visit_let.ensures.ends

pub visits::visit_form-visit_event-requires : goal.visits::visit_form-visit_event-requires
visits::visit_form-visit_event-requires g t c κs within =
    let same : process_of c.args.process.now ≡ calculus.Event (event_of c.in-Event.atom) (process_of c.deref-in-Event.result.now) = ap process_of c.in-Event.is ∙ ap (λ (x : Process). calculus.Event (event_of c.in-Event.atom) (process_of x)) (sym c.deref-in-Event.ensures) in
    (omega (arith, c.decreases, ap (λ (p : calculus.Process). weight p) same), (within, (c.requires.visit, (subst (λ (p : calculus.Process). IsFitProcess (protocol_at c.args.place.now) p) same c.requires.fit, (subst (λ (p : calculus.Process). HasFewPoints c.args.place.now.point p) same c.requires.points, c.requires.copies)))))

pub visits::visit_form-returns-in-Event-clause-ends : goal.visits::visit_form-returns-in-Event-clause-ends
visits::visit_form-returns-in-Event-clause-ends g t c =
    let old = g.B.Bank.trees c.args.bank.now in
    let P = protocol_at c.args.place.now in
    let w = c.args.visit.now in
    let v = visit_at old w in
    let same : process_of c.args.process.now ≡ calculus.Event (event_of c.in-Event.atom) (process_of c.deref-in-Event.result.now) = ap process_of c.in-Event.is ∙ ap (λ (x : Process). calculus.Event (event_of c.in-Event.atom) (process_of x)) (sym c.deref-in-Event.ensures) in
    subst (λ (p : calculus.Process). IfOk c.visit_event.result (λ large. Ends P (Uncounted p c.args.place.now.point v) (g.B.Bank.trees c.visit_event.new.bank) c.args.listing.now c.visit_event.new.listing large)) (sym same)
    c.visit_event.ensures.ends

pub visits::visit_form-returns-in-Nil-clause-ends : goal.visits::visit_form-returns-in-Nil-clause-ends
visits::visit_form-returns-in-Nil-clause-ends g t c =
    let old = g.B.Bank.trees c.args.bank.now in
    let P = protocol_at c.args.place.now in
    let w = c.args.visit.now in
    let v = visit_at old w in
    subst (λ (p : calculus.Process). Ends P (Uncounted p c.args.place.now.point v) old c.args.listing.now c.args.listing.now None) (sym (ap process_of c.in-Nil.is))
    (nil_ends P c.args.place.now.point v old c.args.listing.now)

pub visits::visit_output-returns-clause-grows : goal.visits::visit_output-returns-clause-grows
visits::visit_output-returns-clause-grows g t c = Grows_trans (g.B.Bank.trees c.args.bank.now) (g.B.Bank.trees c.add_output.new.bank) (g.B.Bank.trees c.visit_process.new.bank) c.add_output.ensures.grows c.visit_process.ensures.grows

pub visits::visit_input-returns-in-Some-clause-grows : goal.visits::visit_input-returns-in-Some-clause-grows
visits::visit_input-returns-in-Some-clause-grows g t c = Grows_trans (g.B.Bank.trees c.args.bank.now) (g.B.Bank.trees c.after_input.new.bank) (g.B.Bank.trees c.visit_process.new.bank) c.after_input.ensures.grows c.visit_process.ensures.grows

pub visits::visit_parallel-returns-in-None-clause-grows : goal.visits::visit_parallel-returns-in-None-clause-grows
visits::visit_parallel-returns-in-None-clause-grows g t c = Grows_trans (g.B.Bank.trees c.args.bank.now) (g.B.Bank.trees c.visit_process.new.bank) (g.B.Bank.trees c.visit_process-in-None.new.bank) c.visit_process.ensures.grows c.visit_process-in-None.ensures.grows

pub visits::visit_copies-returns-clause-grows : goal.visits::visit_copies-returns-clause-grows
visits::visit_copies-returns-clause-grows g t c = Grows_trans (g.B.Bank.trees c.args.bank.now) (g.B.Bank.trees c.after_copy.new.bank) (g.B.Bank.trees c.visit_process.new.bank) c.after_copy.ensures.grows c.visit_process.ensures.grows

pub visits::visit_new-returns-in-Some-clause-grows : goal.visits::visit_new-returns-in-Some-clause-grows
visits::visit_new-returns-in-Some-clause-grows g t c = Grows_trans (g.B.Bank.trees c.args.bank.now) (g.B.Bank.trees c.after_new.new.bank) (g.B.Bank.trees c.visit_process.new.bank) c.after_new.ensures.grows c.visit_process.ensures.grows

pub visits::visit_event-returns-in-Some-clause-grows : goal.visits::visit_event-returns-in-Some-clause-grows
visits::visit_event-returns-in-Some-clause-grows g t c = Grows_trans (g.B.Bank.trees c.args.bank.now) (g.B.Bank.trees c.add_event.new.bank) (g.B.Bank.trees c.visit_process.new.bank) c.add_event.ensures.grows c.visit_process.ensures.grows

pub visits::visit_form-returns-in-Nil-clause-grows : goal.visits::visit_form-returns-in-Nil-clause-grows
visits::visit_form-returns-in-Nil-clause-grows g t c = Grows_refl (g.B.Bank.trees c.args.bank.now)

pub visits::visit_process-returns-then-listing-eq0-clause-grows : goal.visits::visit_process-returns-then-listing-eq0-clause-grows
visits::visit_process-returns-then-listing-eq0-clause-grows g t c = Grows_refl (g.B.Bank.trees c.args.bank.now)

pub visits::visit_output-returns-then-not-branch-clause-grows : goal.visits::visit_output-returns-then-not-branch-clause-grows
visits::visit_output-returns-then-not-branch-clause-grows g t c = c.add_output.ensures.grows

pub visits::visit_event-returns-in-None-clause-grows : goal.visits::visit_event-returns-in-None-clause-grows
visits::visit_event-returns-in-None-clause-grows g t c = c.add_event.ensures.grows

pub visits::visit_event-returns-in_err-add_event-clause-grows : goal.visits::visit_event-returns-in_err-add_event-clause-grows
visits::visit_event-returns-in_err-add_event-clause-grows g t c = c.add_event.ensures.grows

pub visits::visit_input-returns-in-None-clause-grows : goal.visits::visit_input-returns-in-None-clause-grows
visits::visit_input-returns-in-None-clause-grows g t c = c.after_input.ensures.grows

pub visits::visit_input-returns-in_err-after_input-clause-grows : goal.visits::visit_input-returns-in_err-after_input-clause-grows
visits::visit_input-returns-in_err-after_input-clause-grows g t c = c.after_input.ensures.grows

pub visits::visit_new-returns-in-None-clause-grows : goal.visits::visit_new-returns-in-None-clause-grows
visits::visit_new-returns-in-None-clause-grows g t c = c.after_new.ensures.grows

pub visits::visit_new-returns-in_err-after_new-clause-grows : goal.visits::visit_new-returns-in_err-after_new-clause-grows
visits::visit_new-returns-in_err-after_new-clause-grows g t c = c.after_new.ensures.grows

pub visits::visit_parallel-returns-in-Some-clause-grows : goal.visits::visit_parallel-returns-in-Some-clause-grows
visits::visit_parallel-returns-in-Some-clause-grows g t c = c.visit_process.ensures.grows

pub visits::visit_parallel-returns-in_err-point-clause-grows : goal.visits::visit_parallel-returns-in_err-point-clause-grows
visits::visit_parallel-returns-in_err-point-clause-grows g t c = c.visit_process.ensures.grows

pub visits::visit_copies-returns-in_err-made-clause-grows : goal.visits::visit_copies-returns-in_err-made-clause-grows
visits::visit_copies-returns-in_err-made-clause-grows g t c = c.after_copy.ensures.grows

pub visits::visit_counted-returns-then-count-clause-grows : goal.visits::visit_counted-returns-then-count-clause-grows
visits::visit_counted-returns-then-count-clause-grows g t c = c.visit_form.ensures.grows

pub visits::visit_form-returns-in-Let-clause-grows : goal.visits::visit_form-returns-in-Let-clause-grows
visits::visit_form-returns-in-Let-clause-grows g t c = c.visit_let.ensures.grows

pub visits::visit_form-returns-in-Event-clause-grows : goal.visits::visit_form-returns-in-Event-clause-grows
visits::visit_form-returns-in-Event-clause-grows g t c = c.visit_event.ensures.grows

pub visits::visit_form-returns-in-Par-clause-grows : goal.visits::visit_form-returns-in-Par-clause-grows
visits::visit_form-returns-in-Par-clause-grows g t c = c.visit_parallel.ensures.grows

pub visits::visit_form-returns-in-Input-clause-grows : goal.visits::visit_form-returns-in-Input-clause-grows
visits::visit_form-returns-in-Input-clause-grows g t c = c.visit_input.ensures.grows

pub visits::visit_form-returns-in-Output-clause-grows : goal.visits::visit_form-returns-in-Output-clause-grows
visits::visit_form-returns-in-Output-clause-grows g t c = c.visit_output.ensures.grows

pub visits::visit_form-returns-in-New-clause-grows : goal.visits::visit_form-returns-in-New-clause-grows
visits::visit_form-returns-in-New-clause-grows g t c = c.visit_new.ensures.grows

pub visits::visit_form-returns-in-Copies-clause-grows : goal.visits::visit_form-returns-in-Copies-clause-grows
visits::visit_form-returns-in-Copies-clause-grows g t c = c.visit_copies.ensures.grows

pub visits::visit_counted-back-requires : goal.visits::visit_counted-back-requires
visits::visit_counted-back-requires g t c = omega (arith, c.mark-mark.ensures, Grows-length (g.B.Bank.trees c.args.bank.now) (g.B.Bank.trees c.visit_form.new.bank) c.visit_form.ensures.grows)

pub visits::visit_output-returns-then-not-branch-clause-ends : goal.visits::visit_output-returns-then-not-branch-clause-ends
visits::visit_output-returns-then-not-branch-clause-ends g t c =
    let P = protocol_at c.args.place.now in
    let v = visit_at (g.B.Bank.trees c.args.bank.now) c.args.visit.now in
    let point = c.args.place.now.point in
    let channel = term_of c.args.output.now.channel.now in
    let message = term_of c.args.output.now.message.now in
    output_large P v channel message (process_of c.args.output.now.next.now) point c.args.listing.now.left
    (subst (λ b. MatchBool b (is_large_output P v channel message ≡ false) (is_large_output P v channel message ≡ true)) c.if-not-branch.true c.in_ok-add_output.ensures.large)

pub visits::visit_event-returns-in-None-clause-ends : goal.visits::visit_event-returns-in-None-clause-ends
visits::visit_event-returns-in-None-clause-ends g t c =
    let P = protocol_at c.args.place.now in
    let v = visit_at (g.B.Bank.trees c.args.bank.now) c.args.visit.now in
    let point = c.args.place.now.point in
    let performed = event_of c.args.event.now.atom.now in
    event_large P v performed (process_of c.args.event.now.next.now) point c.args.listing.now.left
    (subst (λ (o : Option source.Visit). EventAdds P v performed (g.B.Bank.trees c.add_event.new.bank) c.args.listing.now c.add_event.new.listing o) c.in-None.is c.in_ok-add_event.ensures.adds)

pub visits::visit_input-returns-in-None-clause-ends : goal.visits::visit_input-returns-in-None-clause-ends
visits::visit_input-returns-in-None-clause-ends g t c =
    let P = protocol_at c.args.place.now in
    let v = visit_at (g.B.Bank.trees c.args.bank.now) c.args.visit.now in
    let point = c.args.place.now.point in
    let channel = term_of c.args.input.now.channel.now in
    let pattern = pattern_of c.args.input.now.pattern.now in
    input_large P v channel pattern (process_of c.args.input.now.next.now) point c.args.listing.now.left
    (subst (λ (o : Option source.Visit). MatchOption o (IsLargeInput P v channel pattern) (λ made. Receives P v channel pattern (g.B.Bank.trees c.after_input.new.bank) made)) c.in-None.is c.in_ok-after_input.ensures.receives)

pub visits::visit_new-returns-in-None-clause-ends : goal.visits::visit_new-returns-in-None-clause-ends
visits::visit_new-returns-in-None-clause-ends g t c =
    let P = protocol_at c.args.place.now in
    let v = visit_at (g.B.Bank.trees c.args.bank.now) c.args.visit.now in
    let point = c.args.place.now.point in
    new_large P v (process_of c.args.next.now) point c.args.listing.now.left
    (subst (λ (o : Option source.Visit). MatchOption o (is_large_visit (after_new v point) ≡ true) (λ made. is_large_visit (after_new v point) ≡ false)) c.in-None.is c.in_ok-after_new.ensures.large)

pub visits::visit_parallel-returns-in-Some-clause-ends : goal.visits::visit_parallel-returns-in-Some-clause-ends
visits::visit_parallel-returns-in-Some-clause-ends g t c =
    let P = protocol_at c.args.place.now in
    let v = visit_at (g.B.Bank.trees c.args.bank.now) c.args.visit.now in
    let point = c.args.place.now.point in
    let left = process_of c.args.both.now.left.now in
    let mid = g.B.Bank.trees c.visit_process.new.bank in
    left_large P v left (process_of c.args.both.now.right.now) point c.args.listing.now.left c.in-Some.point
    (moved P (point + 1) v c.below-below.result v left mid c.args.listing.now c.visit_process.new.listing (Some c.in-Some.point) c.below-below.ensures refl
    (subst (λ (o : Option ℕ). Ends (protocol_at c.below-below.result) (Once left c.below-below.result.point v) mid c.args.listing.now c.visit_process.new.listing o) c.in-Some.is c.in_ok-point.ensures.ends))

pub visits::visit_output-below-below-requires : goal.visits::visit_output-below-below-requires
visits::visit_output-below-below-requires g t c = next_point c.args.place.now.point (output_form c.args.output.now) (process_of c.args.output.now.next.now) refl c.requires.points

pub visits::visit_input-below-below-requires : goal.visits::visit_input-below-below-requires
visits::visit_input-below-below-requires g t c = next_point c.args.place.now.point (input_form c.args.input.now) (process_of c.args.input.now.next.now) refl c.requires.points

pub visits::visit_copies-below-below-requires : goal.visits::visit_copies-below-below-requires
visits::visit_copies-below-below-requires g t c = next_point c.args.place.now.point (calculus.Replication (process_of c.args.copied.now)) (process_of c.args.copied.now) refl c.requires.points

pub visits::visit_new-below-below-requires : goal.visits::visit_new-below-below-requires
visits::visit_new-below-below-requires g t c = next_point c.args.place.now.point (calculus.New [] (process_of c.args.next.now)) (process_of c.args.next.now) refl c.requires.points

pub visits::visit_event-below-below-requires : goal.visits::visit_event-below-below-requires
visits::visit_event-below-below-requires g t c = next_point c.args.place.now.point (event_form c.args.event.now) (process_of c.args.event.now.next.now) refl c.requires.points

pub visits::visit_parallel-below-below-requires : goal.visits::visit_parallel-below-below-requires
visits::visit_parallel-below-below-requires g t c = left_point c.args.place.now.point (parallel_form c.args.both.now) (process_of c.args.both.now.left.now) (process_of c.args.both.now.right.now) refl c.requires.points

pub visits::visit_parallel-after-after-requires : goal.visits::visit_parallel-after-after-requires
visits::visit_parallel-after-after-requires g t c = right_point c.args.place.now.point (parallel_form c.args.both.now) (process_of c.args.both.now.left.now) (process_of c.args.both.now.right.now) refl c.requires.points

pub visits::visit_copies-after_copy-requires-clause-copies : goal.visits::visit_copies-after_copy-requires-clause-copies
visits::visit_copies-after_copy-requires-clause-copies g t c = omega (arith, c.requires.copies, next_point c.args.place.now.point (calculus.Replication (process_of c.args.copied.now)) (process_of c.args.copied.now) refl c.requires.points)

-- a `let`
pub branches::visit_let-else_branch-after-requires : goal.branches::visit_let-else_branch-after-requires
branches::visit_let-else_branch-after-requires g t c = right_point c.args.place.now.point (let_form c.args.choice.now) (process_of c.args.choice.now.next.now) (process_of c.args.choice.now.otherwise.now) refl c.requires.points

pub branches::visit_let-returns-then-is_large_let-clause-grows : goal.branches::visit_let-returns-then-is_large_let-clause-grows
branches::visit_let-returns-then-is_large_let-clause-grows g t c = Grows_refl (g.B.Bank.trees c.args.bank.now)

pub branches::visit_let-returns-then-is_large_let-clause-ends : goal.branches::visit_let-returns-then-is_large_let-clause-ends
branches::visit_let-returns-then-is_large_let-clause-ends g t c =
    let P = protocol_at c.args.place.now in
    let v = visit_at (g.B.Bank.trees c.args.bank.now) c.args.visit.now in
    let point = c.args.place.now.point in
    let choice = c.args.choice.now in
    let_large P v (pattern_of choice.pattern.now) (expression_of choice.expression.now) (process_of choice.next.now) (process_of choice.otherwise.now) point c.args.listing.now.left
    (sym c.is_large_let.ensures ∙ c.if-is_large_let.true)

pub branches::visit_let-count_choices-count-requires : goal.branches::visit_let-count_choices-count-requires
branches::visit_let-count_choices-count-requires g t c =
    few_left (protocol_at c.args.place.now) (map instruction_of c.deref.result.now) (expression_of c.args.choice.now.expression.now) (ap (map instruction_of) c.deref.ensures.value ∙ c.in_ok-instructions.ensures) c.requires.fit.1

pub branches::visit_let-look_at_choices-requires : goal.branches::visit_let-look_at_choices-requires
branches::visit_let-look_at_choices-requires g t c =
    let old = g.B.Bank.trees c.args.bank.now in
    let P = protocol_at c.args.place.now in
    let w = c.args.visit.now in
    let v = visit_at old w in
    let choice = c.args.choice.now in
    let e = expression_of choice.expression.now in
    let listed = ap (map instruction_of) c.deref-2.ensures.value ∙ c.in_ok-instructions.ensures in
    choosing_known old _ e listed c.requires.visit (omega (arith, c.requires.copies, left_point c.args.place.now.point (let_form choice) (process_of choice.next.now) (process_of choice.otherwise.now) refl c.requires.points)) c.requires.fit.1
    (c.count_choices-count.ensures ∙ ap (λ l. choices_by P (map instruction_of l)) (c.deref.ensures.value ∙ sym c.deref-2.ensures.value))

pub branches::visit_let-returns-then-looked-clause-ends : goal.branches::visit_let-returns-then-looked-clause-ends
branches::visit_let-returns-then-looked-clause-ends g t c =
    let old = g.B.Bank.trees c.args.bank.now in
    let P = protocol_at c.args.place.now in
    let w = c.args.visit.now in
    let v = visit_at old w in
    let choice = c.args.choice.now in
    let e = expression_of choice.expression.now in
    let listed = ap (map instruction_of) c.deref-2.ensures.value ∙ c.in_ok-instructions.ensures in
    let pattern = pattern_of choice.pattern.now in
    let found = c.in_ok-looked.ensures.looked in
    choice_large P v pattern e (process_of choice.next.now) (process_of choice.otherwise.now) c.args.place.now.point c.args.listing.now.left found.outs (sym c.is_large_let.ensures ∙ c.if-is_large_let.false)
    (subst (λ (l : List Ruled). EachGoesOn P v pattern l found.outs) (completed_by P (map instruction_of c.deref-2.result.now) e listed) found.go) (found.large ∙ c.if-looked.true)

pub branches::visit_let-visit_chosen-requires : goal.branches::visit_let-visit_chosen-requires
branches::visit_let-visit_chosen-requires g t c κs within =
    let old = g.B.Bank.trees c.args.bank.now in
    let P = protocol_at c.args.place.now in
    let w = c.args.visit.now in
    let choice = c.args.choice.now in
    let e = expression_of choice.expression.now in
    let listed = ap (map instruction_of) c.deref-2.ensures.value ∙ c.in_ok-instructions.ensures in
    let mid = g.B.Bank.trees c.look_at_choices.new.bank in
    let next = process_of choice.next.now in
    let otherwise = process_of choice.otherwise.now in
    let point = c.args.place.now.point in
    let looked = c.in_ok-looked.looked in (
      omega (arith, c.decreases),
      (
        within,
        (
          choosing_known mid _ e listed (visit_later old mid w c.look_at_choices.ensures.grows c.requires.visit).known (omega (arith, c.requires.copies, left_point point (let_form choice) next otherwise refl c.requires.points)) c.requires.fit.1
              (c.count_choices-count.ensures ∙ ap (λ l. choices_by P (map instruction_of l)) (c.deref.ensures.value ∙ sym c.deref-2.ensures.value)),
          (
            (e, small_let mid _ e listed looked.going (small_later old mid _ looked c.in_ok-looked.ensures.back c.if-looked.false c.in_ok-looked.ensures.looked)),
            (omega (arith, c.count_choices-count.ensures, few_left P (map instruction_of c.deref.result.now) e (ap (map instruction_of) c.deref.ensures.value ∙ c.in_ok-instructions.ensures) c.requires.fit.1), (c.requires.fit.2, (left_within point (let_form choice) next otherwise refl c.requires.points, c.requires.copies))),
          ),
        ),
      ),
    )

pub branches::visit_let-returns-in-Some-clause-ends : goal.branches::visit_let-returns-in-Some-clause-ends
branches::visit_let-returns-in-Some-clause-ends g t c =
    let old = g.B.Bank.trees c.args.bank.now in
    let P = protocol_at c.args.place.now in
    let w = c.args.visit.now in
    let v = visit_at old w in
    let choice = c.args.choice.now in
    let e = expression_of choice.expression.now in
    let listed = ap (map instruction_of) c.deref-2.ensures.value ∙ c.in_ok-instructions.ensures in
    let mid = g.B.Bank.trees c.look_at_choices.new.bank in
    let end = g.B.Bank.trees c.visit_chosen.new.bank in
    let pattern = pattern_of choice.pattern.now in
    let next = process_of choice.next.now in
    let point = c.args.place.now.point in
    let all = map instruction_of c.deref-2.result.now in
    let rs = completions P all [] in
    let before = c.args.listing.now in
    let after = c.visit_chosen.new.listing in
    let ends = subst (λ (o : Option ℕ). EndsEach P (visit_at mid w) pattern rs next (point + 1) end before after o) c.in-Some.is c.in_ok-point.ensures.ends in
    next_large P v pattern e next (process_of choice.otherwise.now) point rs (completed_by P all e listed) (sym c.is_large_let.ensures ∙ c.if-is_large_let.false) end before after c.in-Some.point
    (subst (λ (x : Visit). EndsEach P x pattern rs next (point + 1) end before after (Some c.in-Some.point)) (visit_later old mid w c.look_at_choices.ensures.grows c.requires.visit).is ends)

pub branches::visit_let-else_visit-requires : goal.branches::visit_let-else_visit-requires
branches::visit_let-else_visit-requires g t c =
    let old = g.B.Bank.trees c.args.bank.now in
    let mid = g.B.Bank.trees c.look_at_choices.new.bank in
    let end = g.B.Bank.trees c.visit_chosen.new.bank in
    let P = protocol_at c.args.place.now in
    let w = c.args.visit.now in
    let choice = c.args.choice.now in
    let e = expression_of choice.expression.now in
    let listed = ap (map instruction_of) c.deref-2.ensures.value ∙ c.in_ok-instructions.ensures in
    let later = visit_later old end w (Grows_trans old mid end c.look_at_choices.ensures.grows c.visit_chosen.ensures.grows) c.requires.visit in
    choosing_known end _ e listed later.known (omega (arith, c.requires.copies, left_point c.args.place.now.point (let_form choice) (process_of choice.next.now) (process_of choice.otherwise.now) refl c.requires.points)) c.requires.fit.1
    (c.count_choices-count.ensures ∙ ap (λ l. choices_by P (map instruction_of l)) (c.deref.ensures.value ∙ sym c.deref-2.ensures.value))

pub branches::visit_let-visit_branch-requires : goal.branches::visit_let-visit_branch-requires
branches::visit_let-visit_branch-requires g t c κs within =
    let w = c.args.visit.now in
    let choice = c.args.choice.now in
    let next = process_of choice.next.now in
    let otherwise = process_of choice.otherwise.now in
    let made = c.in_ok-made-in-None.made in
    let to = c.else_branch-after.result.place in
    let at = c.else_branch-after.ensures.place in
    let start = process_of c.else_branch-after.result.process.now in
    let same : start ≡ otherwise = c.else_branch-after.ensures.process in
    let lighter : weight start ≡ weight otherwise = ap weight same in
    let few = later_copies to c.args.place.now.point next w at c.requires.copies in
    let fit = subst (λ (p : calculus.Process). IsFitProcess (protocol_at c.args.place.now) p) (sym same) c.requires.fit.3 in
    let points = subst (λ (p : calculus.Process). HasFewPoints to.point p) (sym same) (right_few c.args.place.now.point (let_form choice) next otherwise refl to at c.requires.points) in
    (omega (arith, c.decreases, lighter), (within, (c.in_ok-made-in-None.ensures.known, (next_fit start to at fit, (points, omega (arith, few, ap length c.in_ok-made-in-None.ensures.sessions))))))

pub branches::visit_let-returns-clause-ends : goal.branches::visit_let-returns-clause-ends
branches::visit_let-returns-clause-ends g t c =
    let old = g.B.Bank.trees c.args.bank.now in
    let P = protocol_at c.args.place.now in
    let w = c.args.visit.now in
    let v = visit_at old w in
    let choice = c.args.choice.now in
    let e = expression_of choice.expression.now in
    let listed = ap (map instruction_of) c.deref-2.ensures.value ∙ c.in_ok-instructions.ensures in
    let mid = g.B.Bank.trees c.look_at_choices.new.bank in
    let end = g.B.Bank.trees c.visit_chosen.new.bank in
    let told = g.B.Bank.trees c.else_visit.new.bank in
    let new = g.B.Bank.trees c.visit_branch.new.bank in
    let pattern = pattern_of choice.pattern.now in
    let next = process_of choice.next.now in
    let otherwise = process_of choice.otherwise.now in
    let point = c.args.place.now.point in
    let to = c.else_branch-after.result.place in
    let all = map instruction_of c.deref-2.result.now in
    let rs = completions P all [] in
    let before = c.args.listing.now in
    let midway = c.visit_chosen.new.listing in
    let after = c.visit_branch.new.listing in
    let made = c.in_ok-made-in-None.made in
    let ends = subst (λ (o : Option ℕ). EndsEach P (visit_at mid w) pattern rs next (point + 1) end before midway o) c.in-None.is c.in_ok-point.ensures.ends in
    let first = subst (λ (x : Visit). EndsEach P x pattern rs next (point + 1) end before midway None) (visit_later old mid w c.look_at_choices.ensures.grows c.requires.visit).is ends in
    let later = visit_later old end w (Grows_trans old mid end c.look_at_choices.ensures.grows c.visit_chosen.ensures.grows) c.requires.visit in
    let besides = otherwise_visit P v pattern e in
    let named : (otherwise ≡ calculus.Nil → ⊥) → visit_at told made ≡ besides =
    λ some. (c.in_ok-made-in-None.ensures.names e (completed_by P all e listed) some).is ∙ ap (λ (x : Visit). otherwise_visit P x pattern e) later.is in
    let same : process_of c.else_branch-after.result.process.now ≡ otherwise = c.else_branch-after.ensures.process in
    let below = subst (λ (p : calculus.Process). IfOk c.visit_branch.result (λ large. Ends (protocol_at to) (Once p to.point (visit_at told made)) new midway after large)) same c.visit_branch.ensures.ends in
    let here = else_ends c.visit_branch.result (protocol_at to) otherwise to.point (visit_at told made) besides new midway after named below in
    let_ends P v pattern e next otherwise point rs (completed_by P all e listed) (sym c.is_large_let.ensures ∙ c.if-is_large_let.false)
    c.visit_branch.result to besides end new before midway after c.else_branch-after.ensures.place refl (Grows_trans end told new c.else_visit.ensures.grows c.visit_branch.ensures.grows) first here

-- those of a process that does nothing are counted
pub branches::visit_chosen-below-below-requires : goal.branches::visit_chosen-below-below-requires
branches::visit_chosen-below-below-requires g t c = point_before c.args.choosing.now.place.now.point (process_of c.args.process.now) c.requires.points

pub branches::visit_chosen-returns-in-Nil-clause-ends : goal.branches::visit_chosen-returns-in-Nil-clause-ends
branches::visit_chosen-returns-in-Nil-clause-ends g t c =
    let old = g.B.Bank.trees c.args.bank.now in
    let choosing = c.args.choosing.now in
    let point = choosing.place.now.point + 1 in
    let counts = c.count_visits.ensures in
    let before = c.args.listing.now in
    let after = c.count_visits.new.listing in
    let going = c.args.going in
    let large = c.count_visits.result in
    let here = subst (λ n. MatchOption large (before.left ≡ after.left + going) (λ at. (at ≡ n) × (before.left < going))) c.below-below.ensures.point counts.counts in
    subst (λ (p : calculus.Process). EndsEach (protocol_at choosing.place.now) (visit_at old choosing.visit.now) (pattern_of choosing.pattern.now) (choices_of choosing) p point old before after large) (sym (ap process_of c.in-Nil.is))
    (counted_each old choosing c.requires.small.0 going point before after large c.requires.small.1 counts.clauses counts.keeps here)

pub branches::visit_chosen-visit_choices-requires : goal.branches::visit_chosen-visit_choices-requires
branches::visit_chosen-visit_choices-requires g t c κs within =
    let process = process_of c.args.process.now in
    let below = c.below-below.result in
    let small = c.requires.small in
    (omega (arith, c.decreases), (within, (c.requires.known, ((small.0, c.args.going, small.1), (c.requires.few, (c.below-below.ensures, (next_fit process below c.below-below.ensures c.requires.fit, (at_point (c.args.choosing.now.place.now.point + 1) process below c.below-below.ensures c.requires.points, c.requires.copies))))))))

-- the choices of a `let`
pub branches::visit_choices-each-init : goal.branches::visit_choices-each-init
branches::visit_choices-each-init g t c =
    let choosing = c.args.choosing.now in
    let old = g.B.Bank.trees c.args.bank.now in
    record {
      visited = none_visited (protocol_at choosing.place.now) (visit_at old choosing.visit.now) (pattern_of choosing.pattern.now) (choices_of choosing) (process_of c.args.process.now) (choosing.place.now.point + 1) old c.args.listing.now;
      told = λ e is. none_told (protocol_at choosing.place.now) (visit_at old choosing.visit.now) (pattern_of choosing.pattern.now) e (process_of c.args.process.now) (choosing.place.now.point + 1) c.args.listing.now;
    }

pub branches::visit_choices-choices_from-requires-clause-known : goal.branches::visit_choices-choices_from-requires-clause-known
branches::visit_choices-choices_from-requires-clause-known g t c = choosing_later (g.B.Bank.trees c.args.bank.now) (g.B.Bank.trees c.each.bank) c.args.choosing.now c.each.invariant.visited.grows c.requires.known

pub branches::visit_choices-overflow_add-number : goal.branches::visit_choices-overflow_add-number
branches::visit_choices-overflow_add-number g t c =
    let old = g.B.Bank.trees c.args.bank.now in
    omega (arith, passed_within old (g.B.Bank.trees c.each.bank) (g.B.Bank.trees c.choices_from.new.bank) c.args.choosing.now c.each.number c.in_ok-passed.passed c.each.invariant.visited.grows c.requires.known c.each-test.true c.in_ok-passed.ensures.passes)

pub branches::visit_choices-visit_way-requires : goal.branches::visit_choices-visit_way-requires
branches::visit_choices-visit_way-requires g t c κs within =
    let old = g.B.Bank.trees c.args.bank.now in
    let mid = g.B.Bank.trees c.choices_from.new.bank in
    let choosing = c.args.choosing.now in
    let passed = c.in_ok-passed.passed in
    let passes = passes_as old (g.B.Bank.trees c.each.bank) mid choosing c.each.number passed c.each.invariant.visited.grows c.requires.known c.in_ok-passed.ensures.passes in (
      omega (arith, c.decreases),
      (
        within,
        (
          known_way (protocol_at choosing.place.now) (pattern_of choosing.pattern.now) c.args.place.now choosing.place.now.point old mid choosing.visit.now (drop c.each.number (choices_of choosing)) passed c.requires.at c.requires.copies passes,
          (c.requires.fit, c.requires.points),
        ),
      ),
    )

pub branches::visit_choices-each-preserved : goal.branches::visit_choices-each-preserved
branches::visit_choices-each-preserved g t c =
    let old = g.B.Bank.trees c.args.bank.now in
    let now = g.B.Bank.trees c.each.bank in
    let mid = g.B.Bank.trees c.choices_from.new.bank in
    let next = g.B.Bank.trees c.visit_way.new.bank in
    let choosing = c.args.choosing.now in
    let P = protocol_at choosing.place.now in
    let v = visit_at old choosing.visit.now in
    let pattern = pattern_of choosing.pattern.now in
    let rs = choices_of choosing in
    let process = process_of c.args.process.now in
    let point = choosing.place.now.point + 1 in
    let sl = c.requires.small in
    let passed = c.in_ok-passed.passed in
    let after = c.visit_way.new.listing in
    let from_now = Grows_trans now mid next c.choices_from.ensures.grows c.visit_way.ensures.grows in
    let from_old = Grows_trans old now next c.each.invariant.visited.grows from_now in
    let passes = passes_as old now mid choosing c.each.number passed c.each.invariant.visited.grows c.requires.known c.in_ok-passed.ensures.passes in
    let small = passed_small P v pattern rs sl.0 sl.2.are sl.2.small.outs sl.2.small.go sl.2.small.large process point old c.args.listing.now now c.each.listing c.each.number c.each.invariant.visited mid next passed passes from_now from_old after in
    record {
      visited = more_visited P v pattern rs sl.0 sl.2.are sl.2.small.outs sl.2.small.go sl.2.small.large process point old c.args.listing.now now c.each.listing c.each.number c.each.invariant.visited mid next passed passes from_now from_old after
          (moved_each P point c.args.place.now passes.outs process next c.each.listing after None c.requires.at
          (subst (λ (o : Option ℕ). Ends (protocol_at c.args.place.now) (Each process c.args.place.now.point passes.outs) next c.each.listing after o) c.in-None.is (c.in_ok-point.ensures.ends passes.outs small)));
      told = λ e is.
          let are = completed_by P (instructions_of choosing) e is in
          more_told P v pattern e process point c.args.listing.now c.each.listing c.each.number (c.each.invariant.told e is) mid passed.way c.in_ok-label.label passed.count passes.outs after
          (subst (λ (l : List Ruled). EachGoesOn P v pattern (take passed.count (drop c.each.number l)) passes.outs) are passes.go) small (c.in_ok-label.ensures e is)
          (way_moved P point c.args.place.now process mid c.in_ok-label.label passed.way c.each.listing after c.requires.at
          (subst (λ (o : Option ℕ). TellsWay (protocol_at c.args.place.now) process c.args.place.now.point mid c.in_ok-label.label passed.way c.each.listing after o) c.in-None.is c.in_ok-point.ensures.tells));
    }

pub branches::visit_choices-each-preserved-in-None : goal.branches::visit_choices-each-preserved-in-None
branches::visit_choices-each-preserved-in-None g t c =
    let old = g.B.Bank.trees c.args.bank.now in
    let now = g.B.Bank.trees c.each.bank in
    let mid = g.B.Bank.trees c.choices_from.new.bank in
    let next = g.B.Bank.trees c.visit_way.new.bank in
    let choosing = c.args.choosing.now in
    let P = protocol_at choosing.place.now in
    let v = visit_at old choosing.visit.now in
    let pattern = pattern_of choosing.pattern.now in
    let rs = choices_of choosing in
    let process = process_of c.args.process.now in
    let point = choosing.place.now.point + 1 in
    let sl = c.requires.small in
    let passed = c.in_ok-passed.passed in
    let after = c.visit_way.new.listing in
    let from_now = Grows_trans now mid next c.choices_from.ensures.grows c.visit_way.ensures.grows in
    let from_old = Grows_trans old now next c.each.invariant.visited.grows from_now in
    let passes = passes_as old now mid choosing c.each.number passed c.each.invariant.visited.grows c.requires.known c.in_ok-passed.ensures.passes in
    let small = passed_small P v pattern rs sl.0 sl.2.are sl.2.small.outs sl.2.small.go sl.2.small.large process point old c.args.listing.now now c.each.listing c.each.number c.each.invariant.visited mid next passed passes from_now from_old after in
    record {
      visited = more_visited P v pattern rs sl.0 sl.2.are sl.2.small.outs sl.2.small.go sl.2.small.large process point old c.args.listing.now now c.each.listing c.each.number c.each.invariant.visited mid next passed passes from_now from_old after
          (moved_each P point c.args.place.now passes.outs process next c.each.listing after None c.requires.at
          (subst (λ (o : Option ℕ). Ends (protocol_at c.args.place.now) (Each process c.args.place.now.point passes.outs) next c.each.listing after o) c.in-None.is (c.in_ok-point.ensures.ends passes.outs small)));
      told = λ e is.
          let are = completed_by P (instructions_of choosing) e is in
          more_told P v pattern e process point c.args.listing.now c.each.listing c.each.number (c.each.invariant.told e is) mid passed.way c.in_ok-label.label passed.count passes.outs after
          (subst (λ (l : List Ruled). EachGoesOn P v pattern (take passed.count (drop c.each.number l)) passes.outs) are passes.go) small (c.in_ok-label.ensures e is)
          (way_moved P point c.args.place.now process mid c.in_ok-label.label passed.way c.each.listing after c.requires.at
          (subst (λ (o : Option ℕ). TellsWay (protocol_at c.args.place.now) process c.args.place.now.point mid c.in_ok-label.label passed.way c.each.listing after o) c.in-None.is c.in_ok-point.ensures.tells));
    }

pub branches::visit_choices-returns-in-Some-clause-ends : goal.branches::visit_choices-returns-in-Some-clause-ends
branches::visit_choices-returns-in-Some-clause-ends g t c =
    let old = g.B.Bank.trees c.args.bank.now in
    let now = g.B.Bank.trees c.each.bank in
    let mid = g.B.Bank.trees c.choices_from.new.bank in
    let next = g.B.Bank.trees c.visit_way.new.bank in
    let choosing = c.args.choosing.now in
    let P = protocol_at choosing.place.now in
    let v = visit_at old choosing.visit.now in
    let pattern = pattern_of choosing.pattern.now in
    let rs = choices_of choosing in
    let process = process_of c.args.process.now in
    let point = choosing.place.now.point + 1 in
    let sl = c.requires.small in
    let passed = c.in_ok-passed.passed in
    let after = c.visit_way.new.listing in
    let from_now = Grows_trans now mid next c.choices_from.ensures.grows c.visit_way.ensures.grows in
    let from_old = Grows_trans old now next c.each.invariant.visited.grows from_now in
    let passes = passes_as old now mid choosing c.each.number passed c.each.invariant.visited.grows c.requires.known c.in_ok-passed.ensures.passes in
    let small = passed_small P v pattern rs sl.0 sl.2.are sl.2.small.outs sl.2.small.go sl.2.small.large process point old c.args.listing.now now c.each.listing c.each.number c.each.invariant.visited mid next passed passes from_now from_old after in
    large_visited P v pattern rs sl.0 sl.2.are sl.2.small.outs sl.2.small.go sl.2.small.large process point old c.args.listing.now now c.each.listing c.each.number c.each.invariant.visited mid next passed passes from_now from_old after c.in-Some.point
    (moved_each P point c.args.place.now passes.outs process next c.each.listing after (Some c.in-Some.point) c.requires.at
    (subst (λ (o : Option ℕ). Ends (protocol_at c.args.place.now) (Each process c.args.place.now.point passes.outs) next c.each.listing after o) c.in-Some.is (c.in_ok-point.ensures.ends passes.outs small)))

pub branches::visit_choices-returns-clause-ends : goal.branches::visit_choices-returns-clause-ends
branches::visit_choices-returns-clause-ends g t c =
    let old = g.B.Bank.trees c.args.bank.now in
    let choosing = c.args.choosing.now in
    let sl = c.requires.small in
    all_visited (protocol_at choosing.place.now) (visit_at old choosing.visit.now) (pattern_of choosing.pattern.now) (choices_of choosing) sl.0 sl.2.are sl.2.small.outs sl.2.small.go sl.2.small.large (process_of c.args.process.now) (choosing.place.now.point + 1) old c.args.listing.now
    (g.B.Bank.trees c.each.bank) c.each.listing c.each.number c.each.invariant.visited (omega (arith, choices_counted old choosing c.requires.known, c.each-test.false))

pub branches::visit_way-visit_branch-requires : goal.branches::visit_way-visit_branch-requires
branches::visit_way-visit_branch-requires g t c κs within =
    let known = subst (λ (x : Way). IsKnownWay (g.B.Bank.trees c.args.bank.now) c.args.place.now.point x) c.in-Visit.is c.requires.known in
    (omega (arith, c.decreases), (within, (known.0, (c.requires.fit, (c.requires.points, known.1)))))

pub branches::visit_way-returns-in-Visit-clause-ends : goal.branches::visit_way-returns-in-Visit-clause-ends
branches::visit_way-returns-in-Visit-clause-ends g t c =
    let old = g.B.Bank.trees c.args.bank.now in
    let new = g.B.Bank.trees c.visit_branch.new.bank in
    let P = protocol_at c.args.place.now in
    let process = process_of c.args.process.now in
    let point = c.args.place.now.point in
    let before = c.args.listing.now in
    let after = c.visit_branch.new.listing in
    let w = visit_at old c.in-Visit.made in
    if_ok c.visit_branch.result (λ (large : Option ℕ). Ends P (Once process point w) new before after large) (λ (large : Option ℕ). (outs : List (Option Visit)) → AreSmallWays old c.args.taken.way.now outs → Ends P (Each process point outs) new before after large)
    (λ large h. λ outs small. visit_ends P process point w outs new before after large (subst (λ (x : Way). AreSmallWays old x outs) c.in-Visit.is small) h) c.visit_branch.ensures.ends

pub branches::visit_way-returns-in-Nowhere-clause-ends : goal.branches::visit_way-returns-in-Nowhere-clause-ends
branches::visit_way-returns-in-Nowhere-clause-ends g t c =
    let old = g.B.Bank.trees c.args.bank.now in
    λ outs small.
    nowhere_ends (protocol_at c.args.place.now) (process_of c.args.process.now) c.args.place.now.point old outs c.args.listing.now (nowhere_of old c.args.taken.way.now outs c.in-Nowhere.is small)

-- the bank grows, and fewer choices are left
pub branches::visit_let-returns-in_err-instructions-clause-grows : goal.branches::visit_let-returns-in_err-instructions-clause-grows
branches::visit_let-returns-in_err-instructions-clause-grows g t c = Grows_refl (g.B.Bank.trees c.args.bank.now)

pub branches::visit_let-returns-in_err-looked-clause-grows : goal.branches::visit_let-returns-in_err-looked-clause-grows
branches::visit_let-returns-in_err-looked-clause-grows g t c = c.look_at_choices.ensures.grows

pub branches::visit_let-returns-then-looked-clause-grows : goal.branches::visit_let-returns-then-looked-clause-grows
branches::visit_let-returns-then-looked-clause-grows g t c = c.look_at_choices.ensures.grows

pub branches::visit_let-returns-in_err-point-clause-grows : goal.branches::visit_let-returns-in_err-point-clause-grows
branches::visit_let-returns-in_err-point-clause-grows g t c = Grows_trans (g.B.Bank.trees c.args.bank.now) (g.B.Bank.trees c.look_at_choices.new.bank) (g.B.Bank.trees c.visit_chosen.new.bank) c.look_at_choices.ensures.grows c.visit_chosen.ensures.grows

pub branches::visit_let-returns-in-Some-clause-grows : goal.branches::visit_let-returns-in-Some-clause-grows
branches::visit_let-returns-in-Some-clause-grows g t c = Grows_trans (g.B.Bank.trees c.args.bank.now) (g.B.Bank.trees c.look_at_choices.new.bank) (g.B.Bank.trees c.visit_chosen.new.bank) c.look_at_choices.ensures.grows c.visit_chosen.ensures.grows

pub branches::visit_let-returns-clause-grows : goal.branches::visit_let-returns-clause-grows
branches::visit_let-returns-clause-grows g t c =
    let old = g.B.Bank.trees c.args.bank.now in
    let mid = g.B.Bank.trees c.look_at_choices.new.bank in
    let end = g.B.Bank.trees c.visit_chosen.new.bank in
    let told = g.B.Bank.trees c.else_visit.new.bank in
    Grows_trans old end (g.B.Bank.trees c.visit_branch.new.bank) (Grows_trans old mid end c.look_at_choices.ensures.grows c.visit_chosen.ensures.grows) (Grows_trans end told (g.B.Bank.trees c.visit_branch.new.bank) c.else_visit.ensures.grows c.visit_branch.ensures.grows)

pub branches::visit_let-returns-in_err-made-in-None-clause-grows : goal.branches::visit_let-returns-in_err-made-in-None-clause-grows
branches::visit_let-returns-in_err-made-in-None-clause-grows g t c =
    let old = g.B.Bank.trees c.args.bank.now in
    let mid = g.B.Bank.trees c.look_at_choices.new.bank in
    let end = g.B.Bank.trees c.visit_chosen.new.bank in
    Grows_trans old end (g.B.Bank.trees c.else_visit.new.bank) (Grows_trans old mid end c.look_at_choices.ensures.grows c.visit_chosen.ensures.grows) c.else_visit.ensures.grows

pub branches::visit_choices-choices_from-requires-clause-within : goal.branches::visit_choices-choices_from-requires-clause-within
branches::visit_choices-choices_from-requires-clause-within g t c = c.each-test.true

pub branches::visit_choices-each-smaller : goal.branches::visit_choices-each-smaller
branches::visit_choices-each-smaller g t c = omega (arith, c.each-test.true, c.in_ok-passed.ensures.passes.some)

pub branches::visit_choices-each-smaller-in-None : goal.branches::visit_choices-each-smaller-in-None
branches::visit_choices-each-smaller-in-None g t c = omega (arith, c.each-test.true, c.in_ok-passed.ensures.passes.some)

pub branches::visit_choices-returns-in_err-passed-clause-grows : goal.branches::visit_choices-returns-in_err-passed-clause-grows
branches::visit_choices-returns-in_err-passed-clause-grows g t c = Grows_trans (g.B.Bank.trees c.args.bank.now) (g.B.Bank.trees c.each.bank) (g.B.Bank.trees c.choices_from.new.bank) c.each.invariant.visited.grows c.choices_from.ensures.grows

pub branches::visit_choices-returns-in_err-point-clause-grows : goal.branches::visit_choices-returns-in_err-point-clause-grows
branches::visit_choices-returns-in_err-point-clause-grows g t c =
    let now = g.B.Bank.trees c.each.bank in
    let mid = g.B.Bank.trees c.choices_from.new.bank in
    let next = g.B.Bank.trees c.visit_way.new.bank in
    Grows_trans (g.B.Bank.trees c.args.bank.now) now next c.each.invariant.visited.grows (Grows_trans now mid next c.choices_from.ensures.grows c.visit_way.ensures.grows)

pub branches::visit_choices-returns-in-Some-clause-grows : goal.branches::visit_choices-returns-in-Some-clause-grows
branches::visit_choices-returns-in-Some-clause-grows g t c =
    let now = g.B.Bank.trees c.each.bank in
    let mid = g.B.Bank.trees c.choices_from.new.bank in
    let next = g.B.Bank.trees c.visit_way.new.bank in
    Grows_trans (g.B.Bank.trees c.args.bank.now) now next c.each.invariant.visited.grows (Grows_trans now mid next c.choices_from.ensures.grows c.visit_way.ensures.grows)

pub branches::visit_choices-returns-clause-grows : goal.branches::visit_choices-returns-clause-grows
branches::visit_choices-returns-clause-grows g t c = c.each.invariant.visited.grows

-- waits for a phase, `insert`s and `get`s
pub visits::visit_form-visit_phase-requires : goal.visits::visit_form-visit_phase-requires
visits::visit_form-visit_phase-requires g t c κs within =
    let same : process_of c.args.process.now ≡ calculus.Phase c.in-Phase.number (process_of c.deref-in-Phase.result.now) = ap process_of c.in-Phase.is ∙ ap (λ (x : Process). calculus.Phase c.in-Phase.number (process_of x)) (sym c.deref-in-Phase.ensures) in
    (omega (arith, c.decreases, ap (λ (p : calculus.Process). weight p) same), (within, (c.requires.visit, (subst (λ (p : calculus.Process). IsFitProcess (protocol_at c.args.place.now) p) same c.requires.fit, (subst (λ (p : calculus.Process). HasFewPoints c.args.place.now.point p) same c.requires.points, c.requires.copies)))))

pub visits::visit_form-returns-in-Phase-clause-ends : goal.visits::visit_form-returns-in-Phase-clause-ends
visits::visit_form-returns-in-Phase-clause-ends g t c =
    let old = g.B.Bank.trees c.args.bank.now in
    let P = protocol_at c.args.place.now in
    let w = c.args.visit.now in
    let v = visit_at old w in
    let same : process_of c.args.process.now ≡ calculus.Phase c.in-Phase.number (process_of c.deref-in-Phase.result.now) = ap process_of c.in-Phase.is ∙ ap (λ (x : Process). calculus.Phase c.in-Phase.number (process_of x)) (sym c.deref-in-Phase.ensures) in
    subst (λ (p : calculus.Process). IfOk c.visit_phase.result (λ large. Ends P (Uncounted p c.args.place.now.point v) (g.B.Bank.trees c.visit_phase.new.bank) c.args.listing.now c.visit_phase.new.listing large)) (sym same)
    c.visit_phase.ensures.ends

pub visits::visit_form-returns-in-Phase-clause-grows : goal.visits::visit_form-returns-in-Phase-clause-grows
visits::visit_form-returns-in-Phase-clause-grows g t c = c.visit_phase.ensures.grows

pub visits::visit_form-visit_insert-requires : goal.visits::visit_form-visit_insert-requires
visits::visit_form-visit_insert-requires g t c κs within =
    let same : process_of c.args.process.now ≡ calculus.Insert c.in-Insert.table c.in-Insert.arguments (process_of c.deref-in-Insert.result.now) = ap process_of c.in-Insert.is ∙ ap (λ (x : Process). calculus.Insert c.in-Insert.table c.in-Insert.arguments (process_of x)) (sym c.deref-in-Insert.ensures) in
    (omega (arith, c.decreases, ap (λ (p : calculus.Process). weight p) same), (within, (c.requires.visit, (subst (λ (p : calculus.Process). IsFitProcess (protocol_at c.args.place.now) p) same c.requires.fit, (subst (λ (p : calculus.Process). HasFewPoints c.args.place.now.point p) same c.requires.points, c.requires.copies)))))

pub visits::visit_form-returns-in-Insert-clause-ends : goal.visits::visit_form-returns-in-Insert-clause-ends
visits::visit_form-returns-in-Insert-clause-ends g t c =
    let old = g.B.Bank.trees c.args.bank.now in
    let P = protocol_at c.args.place.now in
    let w = c.args.visit.now in
    let v = visit_at old w in
    let same : process_of c.args.process.now ≡ calculus.Insert c.in-Insert.table c.in-Insert.arguments (process_of c.deref-in-Insert.result.now) = ap process_of c.in-Insert.is ∙ ap (λ (x : Process). calculus.Insert c.in-Insert.table c.in-Insert.arguments (process_of x)) (sym c.deref-in-Insert.ensures) in
    subst (λ (p : calculus.Process). IfOk c.visit_insert.result (λ large. Ends P (Uncounted p c.args.place.now.point v) (g.B.Bank.trees c.visit_insert.new.bank) c.args.listing.now c.visit_insert.new.listing large)) (sym same)
    c.visit_insert.ensures.ends

pub visits::visit_form-returns-in-Insert-clause-grows : goal.visits::visit_form-returns-in-Insert-clause-grows
visits::visit_form-returns-in-Insert-clause-grows g t c = c.visit_insert.ensures.grows

pub visits::visit_form-visit_get-requires : goal.visits::visit_form-visit_get-requires
visits::visit_form-visit_get-requires g t c κs within =
    let same : process_of c.args.process.now ≡ calculus.Get c.in-Get.table c.in-Get.patterns (condition_of c.in-Get.condition) (process_of c.deref-in-Get.result.now) (process_of c.deref-in-Get-2.result.now) = ap process_of c.in-Get.is ∙ ap (λ (x : Process). calculus.Get c.in-Get.table c.in-Get.patterns (condition_of c.in-Get.condition) (process_of x) (process_of c.in-Get.otherwise.value)) (sym c.deref-in-Get.ensures) ∙ ap (λ (x : Process). calculus.Get c.in-Get.table c.in-Get.patterns (condition_of c.in-Get.condition) (process_of c.deref-in-Get.result.now) (process_of x)) (sym c.deref-in-Get-2.ensures) in
    (omega (arith, c.decreases, ap (λ (p : calculus.Process). weight p) same), (within, (c.requires.visit, (subst (λ (p : calculus.Process). IsFitProcess (protocol_at c.args.place.now) p) same c.requires.fit, (subst (λ (p : calculus.Process). HasFewPoints c.args.place.now.point p) same c.requires.points, c.requires.copies)))))

pub visits::visit_form-returns-in-Get-clause-ends : goal.visits::visit_form-returns-in-Get-clause-ends
visits::visit_form-returns-in-Get-clause-ends g t c =
    let old = g.B.Bank.trees c.args.bank.now in
    let P = protocol_at c.args.place.now in
    let w = c.args.visit.now in
    let v = visit_at old w in
    let same : process_of c.args.process.now ≡ calculus.Get c.in-Get.table c.in-Get.patterns (condition_of c.in-Get.condition) (process_of c.deref-in-Get.result.now) (process_of c.deref-in-Get-2.result.now) = ap process_of c.in-Get.is ∙ ap (λ (x : Process). calculus.Get c.in-Get.table c.in-Get.patterns (condition_of c.in-Get.condition) (process_of x) (process_of c.in-Get.otherwise.value)) (sym c.deref-in-Get.ensures) ∙ ap (λ (x : Process). calculus.Get c.in-Get.table c.in-Get.patterns (condition_of c.in-Get.condition) (process_of c.deref-in-Get.result.now) (process_of x)) (sym c.deref-in-Get-2.ensures) in
    subst (λ (p : calculus.Process). IfOk c.visit_get.result (λ large. Ends P (Uncounted p c.args.place.now.point v) (g.B.Bank.trees c.visit_get.new.bank) c.args.listing.now c.visit_get.new.listing large)) (sym same)
    c.visit_get.ensures.ends

pub visits::visit_form-returns-in-Get-clause-grows : goal.visits::visit_form-returns-in-Get-clause-grows
visits::visit_form-returns-in-Get-clause-grows g t c = c.visit_get.ensures.grows

pub visits::visit_insert-visit_process-requires : goal.visits::visit_insert-visit_process-requires
visits::visit_insert-visit_process-requires g t c κs within =
    let old = g.B.Bank.trees c.args.bank.now in
    let w = c.args.visit.now in
    let mid = g.B.Bank.trees c.add_insert.new.bank in
    let later = visit_later old mid w c.add_insert.ensures.grows c.requires.visit in
    (omega (arith, c.decreases), (within, (later.known, (next_fit (process_of c.args.insert.now.next.now) c.below-below.result c.below-below.ensures c.requires.fit.1, (next_few c.args.place.now.point (insert_form c.args.insert.now) (process_of c.args.insert.now.next.now) refl c.below-below.result c.below-below.ensures c.requires.points, next_copies c.below-below.result c.args.place.now.point w c.below-below.ensures c.requires.copies)))))

pub visits::visit_insert-returns-clause-ends : goal.visits::visit_insert-returns-clause-ends
visits::visit_insert-returns-clause-ends g t c =
    let old = g.B.Bank.trees c.args.bank.now in
    let P = protocol_at c.args.place.now in
    let w = c.args.visit.now in
    let v = visit_at old w in
    let mid = g.B.Bank.trees c.add_insert.new.bank in
    let adds = c.in_ok-add_insert.ensures.adds c.if-not-branch.false in
    let later = visit_later old mid w c.add_insert.ensures.grows c.requires.visit in
    let small = subst (λ b. MatchBool b (is_large_insert P v c.args.insert.now.table c.args.insert.now.arguments.now ≡ false) (is_large_insert P v c.args.insert.now.table c.args.insert.now.arguments.now ≡ true)) c.if-not-branch.false c.in_ok-add_insert.ensures.large in
    insert_ends c.visit_process.result P v c.args.insert.now.table c.args.insert.now.arguments.now (process_of c.args.insert.now.next.now) c.args.place.now.point c.below-below.result (visit_at mid w) mid (g.B.Bank.trees c.visit_process.new.bank) c.args.listing.now c.add_insert.new.listing c.visit_process.new.listing
    c.below-below.ensures later.is small c.visit_process.ensures.grows adds c.visit_process.ensures.ends

pub visits::visit_insert-returns-clause-grows : goal.visits::visit_insert-returns-clause-grows
visits::visit_insert-returns-clause-grows g t c = Grows_trans (g.B.Bank.trees c.args.bank.now) (g.B.Bank.trees c.add_insert.new.bank) (g.B.Bank.trees c.visit_process.new.bank) c.add_insert.ensures.grows c.visit_process.ensures.grows

pub visits::visit_insert-returns-then-not-branch-clause-grows : goal.visits::visit_insert-returns-then-not-branch-clause-grows
visits::visit_insert-returns-then-not-branch-clause-grows g t c = c.add_insert.ensures.grows

pub visits::visit_insert-returns-then-not-branch-clause-ends : goal.visits::visit_insert-returns-then-not-branch-clause-ends
visits::visit_insert-returns-then-not-branch-clause-ends g t c =
    let P = protocol_at c.args.place.now in
    let v = visit_at (g.B.Bank.trees c.args.bank.now) c.args.visit.now in
    let point = c.args.place.now.point in
    let table = c.args.insert.now.table in
    let arguments = c.args.insert.now.arguments.now in
    insert_large P v table arguments (process_of c.args.insert.now.next.now) point c.args.listing.now.left
    (subst (λ b. MatchBool b (is_large_insert P v table arguments ≡ false) (is_large_insert P v table arguments ≡ true)) c.if-not-branch.true c.in_ok-add_insert.ensures.large)

pub visits::visit_insert-below-below-requires : goal.visits::visit_insert-below-below-requires
visits::visit_insert-below-below-requires g t c = next_point c.args.place.now.point (insert_form c.args.insert.now) (process_of c.args.insert.now.next.now) refl c.requires.points

-- a wait for a phase
pub visits::visit_phase-visit_process-requires : goal.visits::visit_phase-visit_process-requires
visits::visit_phase-visit_process-requires g t c κs within =
    let old = g.B.Bank.trees c.args.bank.now in
    let w = c.args.visit.now in
    let phase = c.args.phase.now in
    let names = c.in_ok-made.ensures old c.requires.visit in
    let kept = kept_copies old old w c.in_ok-made.made (after_phase (visit_at old w) phase.number) names refl in
    (omega (arith, c.decreases), (within, (names.known, (next_fit (process_of phase.next.now) c.below-below.result c.below-below.ensures c.requires.fit, (next_few c.args.place.now.point (phase_form phase) (process_of phase.next.now) refl c.below-below.result c.below-below.ensures c.requires.points, below_copies old old w c.in_ok-made.made c.below-below.result c.args.place.now.point c.below-below.ensures c.requires.copies (omega (arith, kept)))))))

pub visits::visit_phase-returns-clause-ends : goal.visits::visit_phase-returns-clause-ends
visits::visit_phase-returns-clause-ends g t c =
    let old = g.B.Bank.trees c.args.bank.now in
    let P = protocol_at c.args.place.now in
    let w = c.args.visit.now in
    let phase = c.args.phase.now in
    phase_ends c.visit_process.result P (visit_at old w) phase.number (process_of phase.next.now) c.args.place.now.point c.below-below.result c.in_ok-made.made old (g.B.Bank.trees c.visit_process.new.bank) c.args.listing.now c.visit_process.new.listing
    c.below-below.ensures (c.in_ok-made.ensures old c.requires.visit) c.visit_process.ensures.ends

pub visits::visit_phase-below-below-requires : goal.visits::visit_phase-below-below-requires
visits::visit_phase-below-below-requires g t c = next_point c.args.place.now.point (phase_form c.args.phase.now) (process_of c.args.phase.now.next.now) refl c.requires.points

pub visits::visit_phase-returns-clause-grows : goal.visits::visit_phase-returns-clause-grows
visits::visit_phase-returns-clause-grows g t c = c.visit_process.ensures.grows

pub visits::visit_phase-returns-in_err-made-clause-grows : goal.visits::visit_phase-returns-in_err-made-clause-grows
visits::visit_phase-returns-in_err-made-clause-grows g t c = Grows_refl (g.B.Bank.trees c.args.bank.now)

-- a `get`
pub branches::visit_get-below-below-requires : goal.branches::visit_get-below-below-requires
branches::visit_get-below-below-requires g t c = left_point c.args.place.now.point (get_form c.args.get.now) (process_of c.args.get.now.next.now) (process_of c.args.get.now.otherwise.now) refl c.requires.points

pub branches::visit_get-after-after-requires : goal.branches::visit_get-after-after-requires
branches::visit_get-after-after-requires g t c = right_point c.args.place.now.point (get_form c.args.get.now) (process_of c.args.get.now.next.now) (process_of c.args.get.now.otherwise.now) refl c.requires.points

pub branches::visit_get-returns-then-some_large_compared_in-clause-grows : goal.branches::visit_get-returns-then-some_large_compared_in-clause-grows
branches::visit_get-returns-then-some_large_compared_in-clause-grows g t c = Grows_refl (g.B.Bank.trees c.args.bank.now)

pub branches::visit_get-returns-then-some_large_compared_in-clause-ends : goal.branches::visit_get-returns-then-some_large_compared_in-clause-ends
branches::visit_get-returns-then-some_large_compared_in-clause-ends g t c =
    let P = protocol_at c.args.place.now in
    let v = visit_at (g.B.Bank.trees c.args.bank.now) c.args.visit.now in
    let get = c.args.get.now in
    get_large P v get.table get.patterns.now (condition_of get.condition.now) (process_of get.next.now) (process_of get.otherwise.now) c.args.place.now.point c.args.listing.now.left
    (sym c.some_large_compared_in.ensures ∙ c.if-some_large_compared_in.true)

pub branches::visit_get-returns-in_err-way-clause-grows : goal.branches::visit_get-returns-in_err-way-clause-grows
branches::visit_get-returns-in_err-way-clause-grows g t c = c.entry_way.ensures.grows

pub branches::visit_get-returns-then-is_large-clause-grows : goal.branches::visit_get-returns-then-is_large-clause-grows
branches::visit_get-returns-then-is_large-clause-grows g t c = c.entry_way.ensures.grows

pub branches::visit_get-returns-then-is_large-clause-ends : goal.branches::visit_get-returns-then-is_large-clause-ends
branches::visit_get-returns-then-is_large-clause-ends g t c =
    let P = protocol_at c.args.place.now in
    let v = visit_at (g.B.Bank.trees c.args.bank.now) c.args.visit.now in
    let mid = g.B.Bank.trees c.entry_way.new.bank in
    let get = c.args.get.now in
    let goes = c.in_ok-way.ensures.goes in
    entry_large P v get.table get.patterns.now (condition_of get.condition.now) (process_of get.next.now) (process_of get.otherwise.now) c.args.place.now.point c.args.listing.now.left goes.large goes.out
    (sym c.some_large_compared_in.ensures ∙ c.if-some_large_compared_in.false) goes.goes (large_way mid c.in_ok-way.way goes.large goes.out (sym c.is_large.ensures ∙ c.if-is_large.true) goes.way)

pub branches::visit_get-visit_way-requires : goal.branches::visit_get-visit_way-requires
branches::visit_get-visit_way-requires g t c κs within =
    let old = g.B.Bank.trees c.args.bank.now in
    let mid = g.B.Bank.trees c.entry_way.new.bank in
    let P = protocol_at c.args.place.now in
    let get = c.args.get.now in
    let next = process_of get.next.now in
    let otherwise = process_of get.otherwise.now in
    let point = c.args.place.now.point in
    let goes = c.in_ok-way.ensures.goes in
    (omega (arith, c.decreases), (within, (entry_known P get.table get.patterns.now (condition_of get.condition.now) c.below-below.result point old mid c.args.visit.now goes.large goes.out c.in_ok-way.way c.below-below.ensures c.requires.copies goes.goes goes.way, (next_fit next c.below-below.result c.below-below.ensures c.requires.fit.2, left_few point (get_form get) next otherwise refl c.below-below.result c.below-below.ensures c.requires.points))))

pub branches::visit_get-returns-in_err-point-clause-grows : goal.branches::visit_get-returns-in_err-point-clause-grows
branches::visit_get-returns-in_err-point-clause-grows g t c = Grows_trans (g.B.Bank.trees c.args.bank.now) (g.B.Bank.trees c.entry_way.new.bank) (g.B.Bank.trees c.visit_way.new.bank) c.entry_way.ensures.grows c.visit_way.ensures.grows

pub branches::visit_get-returns-in-Some-clause-grows : goal.branches::visit_get-returns-in-Some-clause-grows
branches::visit_get-returns-in-Some-clause-grows g t c = Grows_trans (g.B.Bank.trees c.args.bank.now) (g.B.Bank.trees c.entry_way.new.bank) (g.B.Bank.trees c.visit_way.new.bank) c.entry_way.ensures.grows c.visit_way.ensures.grows

pub branches::visit_get-returns-in-Some-clause-ends : goal.branches::visit_get-returns-in-Some-clause-ends
branches::visit_get-returns-in-Some-clause-ends g t c =
    let old = g.B.Bank.trees c.args.bank.now in
    let mid = g.B.Bank.trees c.entry_way.new.bank in
    let end = g.B.Bank.trees c.visit_way.new.bank in
    let P = protocol_at c.args.place.now in
    let v = visit_at old c.args.visit.now in
    let get = c.args.get.now in
    let next = process_of get.next.now in
    let point = c.args.place.now.point in
    let goes = c.in_ok-way.ensures.goes in
    let small = small_way mid c.in_ok-way.way goes.large goes.out (sym c.is_large.ensures ∙ c.if-is_large.false) goes.way in
    let before = c.args.listing.now in
    let after = c.visit_way.new.listing in
    let ends = subst (λ (o : Option ℕ). Ends (protocol_at c.below-below.result) (Each next c.below-below.result.point (goes.out ∷ [])) end before after o) c.in-Some.is (c.in_ok-point.ensures.ends (goes.out ∷ []) small.ways) in
    entry_next_large P v get.table get.patterns.now (condition_of get.condition.now) next (process_of get.otherwise.now) point goes.large goes.out (sym c.some_large_compared_in.ensures ∙ c.if-some_large_compared_in.false) goes.goes small.is end before after c.in-Some.point
    (moved_each P (point + 1) c.below-below.result (goes.out ∷ []) next end before after (Some c.in-Some.point) c.below-below.ensures ends)

pub branches::visit_get-visit_branch-requires : goal.branches::visit_get-visit_branch-requires
branches::visit_get-visit_branch-requires g t c κs within =
    let old = g.B.Bank.trees c.args.bank.now in
    let mid = g.B.Bank.trees c.entry_way.new.bank in
    let end = g.B.Bank.trees c.visit_way.new.bank in
    let w = c.args.visit.now in
    let get = c.args.get.now in
    let next = process_of get.next.now in
    let otherwise = process_of get.otherwise.now in
    let later = visit_later old end w (Grows_trans old mid end c.entry_way.ensures.grows c.visit_way.ensures.grows) c.requires.visit in
    (omega (arith, c.decreases), (within, (later.known, (next_fit otherwise c.after-after.result c.after-after.ensures c.requires.fit.3, (right_few c.args.place.now.point (get_form get) next otherwise refl c.after-after.result c.after-after.ensures c.requires.points, later_copies c.after-after.result c.args.place.now.point next w c.after-after.ensures c.requires.copies)))))

pub branches::visit_get-returns-clause-ends : goal.branches::visit_get-returns-clause-ends
branches::visit_get-returns-clause-ends g t c =
    let old = g.B.Bank.trees c.args.bank.now in
    let mid = g.B.Bank.trees c.entry_way.new.bank in
    let end = g.B.Bank.trees c.visit_way.new.bank in
    let P = protocol_at c.args.place.now in
    let w = c.args.visit.now in
    let v = visit_at old w in
    let get = c.args.get.now in
    let next = process_of get.next.now in
    let point = c.args.place.now.point in
    let goes = c.in_ok-way.ensures.goes in
    let small = small_way mid c.in_ok-way.way goes.large goes.out (sym c.is_large.ensures ∙ c.if-is_large.false) goes.way in
    let before = c.args.listing.now in
    let midway = c.visit_way.new.listing in
    let ends = subst (λ (o : Option ℕ). Ends (protocol_at c.below-below.result) (Each next c.below-below.result.point (goes.out ∷ [])) end before midway o) c.in-None.is (c.in_ok-point.ensures.ends (goes.out ∷ []) small.ways) in
    let done = moved_each P (point + 1) c.below-below.result (goes.out ∷ []) next end before midway None c.below-below.ensures ends in
    let later = visit_later old end w (Grows_trans old mid end c.entry_way.ensures.grows c.visit_way.ensures.grows) c.requires.visit in
    get_ends P v get.table get.patterns.now (condition_of get.condition.now) next (process_of get.otherwise.now) point goes.large goes.out (sym c.some_large_compared_in.ensures ∙ c.if-some_large_compared_in.false) goes.goes small.is
    c.visit_branch.result c.after-after.result (visit_at end w) end (g.B.Bank.trees c.visit_branch.new.bank) before midway c.visit_branch.new.listing c.after-after.ensures later.is c.visit_branch.ensures.grows done c.visit_branch.ensures.ends

pub branches::visit_get-returns-clause-grows : goal.branches::visit_get-returns-clause-grows
branches::visit_get-returns-clause-grows g t c =
    let old = g.B.Bank.trees c.args.bank.now in
    let mid = g.B.Bank.trees c.entry_way.new.bank in
    let end = g.B.Bank.trees c.visit_way.new.bank in
    Grows_trans old end (g.B.Bank.trees c.visit_branch.new.bank) (Grows_trans old mid end c.entry_way.ensures.grows c.visit_way.ensures.grows) c.visit_branch.ensures.grows

-- a branch
pub branches::visit_branch-visit_process-requires : goal.branches::visit_branch-visit_process-requires
branches::visit_branch-visit_process-requires g t c κs within = (omega (arith, c.decreases), (within, (c.requires.visit, (c.requires.fit, (c.requires.points, c.requires.copies)))))

pub branches::visit_branch-returns-clause-ends : goal.branches::visit_branch-returns-clause-ends
branches::visit_branch-returns-clause-ends g t c =
    let old = g.B.Bank.trees c.args.bank.now in
    let chosen = c.in_ok-choose.ensures in
    let left = c.leave.ensures in
    ends_between (protocol_at c.args.place.now) (Once (process_of c.args.process.now) c.args.place.now.point (visit_at old c.args.branch.visit.now)) (g.B.Bank.trees c.visit_process.new.bank) c.args.listing.now c.choose.new.self c.visit_process.new.listing c.leave.new.self c.in_ok-large.large
    (ap (λ (l : Listing). l.left) chosen) (ap (λ (l : Listing). l.clauses) chosen) (ap (λ (l : Listing). l.keeps) chosen) left.left left.clauses left.keeps c.in_ok-large.ensures.ends

pub branches::visit_branch-returns-clause-tells : goal.branches::visit_branch-returns-clause-tells
branches::visit_branch-returns-clause-tells g t c =
    let old = g.B.Bank.trees c.args.bank.now in
    let chosen = c.in_ok-choose.ensures in
    let left = c.leave.ensures in
    let choice = choice_of c.args.branch.choice in
    below_tells (protocol_at c.args.place.now) (process_of c.args.process.now) c.args.place.now.point (visit_at old c.args.branch.visit.now) choice c.args.listing.now c.choose.new.self c.visit_process.new.listing c.leave.new.self c.in_ok-large.large
    (ap (λ (l : Listing). l.sources) chosen) (ap (λ (l : Listing). l.choices) chosen) left.sources (left.choices c.args.listing.now.choices choice) c.in_ok-large.ensures.tells

pub branches::visit_branch-returns-clause-grows : goal.branches::visit_branch-returns-clause-grows
branches::visit_branch-returns-clause-grows g t c = c.visit_process.ensures.grows

pub branches::visit_branch-returns-in_err-large-clause-grows : goal.branches::visit_branch-returns-in_err-large-clause-grows
branches::visit_branch-returns-in_err-large-clause-grows g t c = c.visit_process.ensures.grows

pub branches::visit_branch-returns-in_err-choose-clause-grows : goal.branches::visit_branch-returns-in_err-choose-clause-grows
branches::visit_branch-returns-in_err-choose-clause-grows g t c = Grows_refl (g.B.Bank.trees c.args.bank.now)

-- the labels of choices
pub branches::visit_choices-label_at-requires : goal.branches::visit_choices-label_at-requires
branches::visit_choices-label_at-requires g t c = record { count = record { is = c.requires.known.count; few = c.requires.few }; within = c.each-test.true }

-- what is told of sources
pub visits::visit_process-returns-clause-tells : goal.visits::visit_process-returns-clause-tells
visits::visit_process-returns-clause-tells g t c =
    let P = protocol_at c.args.place.now in
    let v = visit_at (g.B.Bank.trees c.args.bank.now) c.args.visit.now in
    let process = process_of c.args.process.now in
    let point = c.args.place.now.point in
    let before = c.args.listing.now in
    let after = c.visit_counted.new.listing in
    let low : Listing = record { clauses = before.clauses; left = before.left - 1; keeps = before.keeps; choices = before.choices; sources = before.sources } in
    if_ok c.visit_counted.result (λ (large : Option ℕ). Tells P process point v low after large) (λ (large : Option ℕ). Tells P process point v before after large)
    (λ large h. counted_tells P process point v before low after large refl refl h) c.visit_counted.ensures.tells

pub visits::visit_counted-returns-clause-tells : goal.visits::visit_counted-returns-clause-tells
visits::visit_counted-returns-clause-tells g t c = c.in_ok-large.ensures.tells

pub visits::visit_counted-returns-then-count-clause-tells : goal.visits::visit_counted-returns-then-count-clause-tells
visits::visit_counted-returns-then-count-clause-tells g t c = c.in_ok-large.ensures.tells

pub visits::visit_form-returns-in-Output-clause-tells : goal.visits::visit_form-returns-in-Output-clause-tells
visits::visit_form-returns-in-Output-clause-tells g t c =
    let P = protocol_at c.args.place.now in
    let v = visit_at (g.B.Bank.trees c.args.bank.now) c.args.visit.now in
    let same : process_of c.args.process.now ≡ calculus.Output (term_of c.in-Output.channel) (term_of c.in-Output.message) (process_of c.deref.result.now) = ap process_of c.in-Output.is ∙ ap (λ (x : Process). calculus.Output (term_of c.in-Output.channel) (term_of c.in-Output.message) (process_of x)) (sym c.deref.ensures) in
    subst (λ (p : calculus.Process). IfOk c.visit_output.result (λ large. Tells P p c.args.place.now.point v c.args.listing.now c.visit_output.new.listing large)) (sym same)
    c.visit_output.ensures.tells

pub visits::visit_form-returns-in-Input-clause-tells : goal.visits::visit_form-returns-in-Input-clause-tells
visits::visit_form-returns-in-Input-clause-tells g t c =
    let P = protocol_at c.args.place.now in
    let v = visit_at (g.B.Bank.trees c.args.bank.now) c.args.visit.now in
    let same : process_of c.args.process.now ≡ calculus.Input (term_of c.in-Input.channel) (pattern_of c.in-Input.pattern) (process_of c.deref-in-Input.result.now) = ap process_of c.in-Input.is ∙ ap (λ (x : Process). calculus.Input (term_of c.in-Input.channel) (pattern_of c.in-Input.pattern) (process_of x)) (sym c.deref-in-Input.ensures) in
    subst (λ (p : calculus.Process). IfOk c.visit_input.result (λ large. Tells P p c.args.place.now.point v c.args.listing.now c.visit_input.new.listing large)) (sym same)
    c.visit_input.ensures.tells

pub visits::visit_form-returns-in-Par-clause-tells : goal.visits::visit_form-returns-in-Par-clause-tells
visits::visit_form-returns-in-Par-clause-tells g t c =
    let P = protocol_at c.args.place.now in
    let v = visit_at (g.B.Bank.trees c.args.bank.now) c.args.visit.now in
    let same : process_of c.args.process.now ≡ calculus.Parallel (process_of c.deref-in-Par.result.now) (process_of c.deref-in-Par-2.result.now) = ap process_of c.in-Par.is ∙ ap (λ (x : Process). calculus.Parallel (process_of x) (process_of c.in-Par.right.value)) (sym c.deref-in-Par.ensures) ∙ ap (λ (x : Process). calculus.Parallel (process_of c.deref-in-Par.result.now) (process_of x)) (sym c.deref-in-Par-2.ensures) in
    subst (λ (p : calculus.Process). IfOk c.visit_parallel.result (λ large. Tells P p c.args.place.now.point v c.args.listing.now c.visit_parallel.new.listing large)) (sym same)
    c.visit_parallel.ensures.tells

pub visits::visit_form-returns-in-Copies-clause-tells : goal.visits::visit_form-returns-in-Copies-clause-tells
visits::visit_form-returns-in-Copies-clause-tells g t c =
    let P = protocol_at c.args.place.now in
    let v = visit_at (g.B.Bank.trees c.args.bank.now) c.args.visit.now in
    let same : process_of c.args.process.now ≡ calculus.Replication (process_of c.deref-in-Copies.result.now) = ap process_of c.in-Copies.is ∙ ap (λ (x : Process). calculus.Replication (process_of x)) (sym c.deref-in-Copies.ensures) in
    subst (λ (p : calculus.Process). IfOk c.visit_copies.result (λ large. Tells P p c.args.place.now.point v c.args.listing.now c.visit_copies.new.listing large)) (sym same)
    c.visit_copies.ensures.tells

pub visits::visit_form-returns-in-New-clause-tells : goal.visits::visit_form-returns-in-New-clause-tells
visits::visit_form-returns-in-New-clause-tells g t c =
    let P = protocol_at c.args.place.now in
    let v = visit_at (g.B.Bank.trees c.args.bank.now) c.args.visit.now in
    let same : process_of c.args.process.now ≡ calculus.New c.in-New.field-0 (process_of c.deref-in-New.result.now) = ap process_of c.in-New.is ∙ ap (λ (x : Process). calculus.New c.in-New.field-0 (process_of x)) (sym c.deref-in-New.ensures) in
    subst (λ (p : calculus.Process). IfOk c.visit_new.result (λ large. Tells P p c.args.place.now.point v c.args.listing.now c.visit_new.new.listing large)) (sym same)
    (if_ok c.visit_new.result (λ (large : Option ℕ). Tells P (calculus.New [] (process_of c.deref-in-New.result.now)) c.args.place.now.point v c.args.listing.now c.visit_new.new.listing large)
    (λ (large : Option ℕ). Tells P (calculus.New c.in-New.field-0 (process_of c.deref-in-New.result.now)) c.args.place.now.point v c.args.listing.now c.visit_new.new.listing large)
    (λ large h. spelled_tells P v c.in-New.field-0 (process_of c.deref-in-New.result.now) c.args.place.now.point c.args.listing.now c.visit_new.new.listing large h) c.visit_new.ensures.tells)

pub visits::visit_form-returns-in-Let-clause-tells : goal.visits::visit_form-returns-in-Let-clause-tells
visits::visit_form-returns-in-Let-clause-tells g t c =
    let P = protocol_at c.args.place.now in
    let v = visit_at (g.B.Bank.trees c.args.bank.now) c.args.visit.now in
    let same : process_of c.args.process.now ≡ calculus.Let (pattern_of c.in-Let.pattern) (expression_of c.in-Let.expression) (process_of c.deref-in-Let.result.now) (process_of c.deref-in-Let-2.result.now) = ap process_of c.in-Let.is ∙ ap (λ (x : Process). calculus.Let (pattern_of c.in-Let.pattern) (expression_of c.in-Let.expression) (process_of x) (process_of c.in-Let.otherwise.value)) (sym c.deref-in-Let.ensures) ∙ ap (λ (x : Process). calculus.Let (pattern_of c.in-Let.pattern) (expression_of c.in-Let.expression) (process_of c.deref-in-Let.result.now) (process_of x)) (sym c.deref-in-Let-2.ensures) in
    subst (λ (p : calculus.Process). IfOk c.visit_let.result (λ large. Tells P p c.args.place.now.point v c.args.listing.now c.visit_let.new.listing large)) (sym same)
    c.visit_let.ensures.tells

pub visits::visit_form-returns-in-Event-clause-tells : goal.visits::visit_form-returns-in-Event-clause-tells
visits::visit_form-returns-in-Event-clause-tells g t c =
    let P = protocol_at c.args.place.now in
    let v = visit_at (g.B.Bank.trees c.args.bank.now) c.args.visit.now in
    let same : process_of c.args.process.now ≡ calculus.Event (event_of c.in-Event.atom) (process_of c.deref-in-Event.result.now) = ap process_of c.in-Event.is ∙ ap (λ (x : Process). calculus.Event (event_of c.in-Event.atom) (process_of x)) (sym c.deref-in-Event.ensures) in
    subst (λ (p : calculus.Process). IfOk c.visit_event.result (λ large. Tells P p c.args.place.now.point v c.args.listing.now c.visit_event.new.listing large)) (sym same)
    c.visit_event.ensures.tells

pub visits::visit_form-returns-in-Phase-clause-tells : goal.visits::visit_form-returns-in-Phase-clause-tells
visits::visit_form-returns-in-Phase-clause-tells g t c =
    let P = protocol_at c.args.place.now in
    let v = visit_at (g.B.Bank.trees c.args.bank.now) c.args.visit.now in
    let same : process_of c.args.process.now ≡ calculus.Phase c.in-Phase.number (process_of c.deref-in-Phase.result.now) = ap process_of c.in-Phase.is ∙ ap (λ (x : Process). calculus.Phase c.in-Phase.number (process_of x)) (sym c.deref-in-Phase.ensures) in
    subst (λ (p : calculus.Process). IfOk c.visit_phase.result (λ large. Tells P p c.args.place.now.point v c.args.listing.now c.visit_phase.new.listing large)) (sym same)
    c.visit_phase.ensures.tells

pub visits::visit_form-returns-in-Insert-clause-tells : goal.visits::visit_form-returns-in-Insert-clause-tells
visits::visit_form-returns-in-Insert-clause-tells g t c =
    let P = protocol_at c.args.place.now in
    let v = visit_at (g.B.Bank.trees c.args.bank.now) c.args.visit.now in
    let same : process_of c.args.process.now ≡ calculus.Insert c.in-Insert.table c.in-Insert.arguments (process_of c.deref-in-Insert.result.now) = ap process_of c.in-Insert.is ∙ ap (λ (x : Process). calculus.Insert c.in-Insert.table c.in-Insert.arguments (process_of x)) (sym c.deref-in-Insert.ensures) in
    subst (λ (p : calculus.Process). IfOk c.visit_insert.result (λ large. Tells P p c.args.place.now.point v c.args.listing.now c.visit_insert.new.listing large)) (sym same)
    c.visit_insert.ensures.tells

pub visits::visit_form-returns-in-Get-clause-tells : goal.visits::visit_form-returns-in-Get-clause-tells
visits::visit_form-returns-in-Get-clause-tells g t c =
    let P = protocol_at c.args.place.now in
    let v = visit_at (g.B.Bank.trees c.args.bank.now) c.args.visit.now in
    let same : process_of c.args.process.now ≡ calculus.Get c.in-Get.table c.in-Get.patterns (condition_of c.in-Get.condition) (process_of c.deref-in-Get.result.now) (process_of c.deref-in-Get-2.result.now) = ap process_of c.in-Get.is ∙ ap (λ (x : Process). calculus.Get c.in-Get.table c.in-Get.patterns (condition_of c.in-Get.condition) (process_of x) (process_of c.in-Get.otherwise.value)) (sym c.deref-in-Get.ensures) ∙ ap (λ (x : Process). calculus.Get c.in-Get.table c.in-Get.patterns (condition_of c.in-Get.condition) (process_of c.deref-in-Get.result.now) (process_of x)) (sym c.deref-in-Get-2.ensures) in
    subst (λ (p : calculus.Process). IfOk c.visit_get.result (λ large. Tells P p c.args.place.now.point v c.args.listing.now c.visit_get.new.listing large)) (sym same)
    c.visit_get.ensures.tells

pub visits::visit_form-returns-in-Nil-clause-tells : goal.visits::visit_form-returns-in-Nil-clause-tells
visits::visit_form-returns-in-Nil-clause-tells g t c =
    let P = protocol_at c.args.place.now in
    let v = visit_at (g.B.Bank.trees c.args.bank.now) c.args.visit.now in
    subst (λ (p : calculus.Process). Tells P p c.args.place.now.point v c.args.listing.now c.args.listing.now None) (sym (ap process_of c.in-Nil.is)) (nil_tells P c.args.place.now.point v c.args.listing.now)

pub visits::visit_output-returns-clause-tells : goal.visits::visit_output-returns-clause-tells
visits::visit_output-returns-clause-tells g t c =
    let old = g.B.Bank.trees c.args.bank.now in
    let mid = g.B.Bank.trees c.add_output.new.bank in
    let P = protocol_at c.args.place.now in
    let w = c.args.visit.now in
    let v = visit_at old w in
    let output = c.args.output.now in
    let next = process_of output.next.now in
    let point = c.args.place.now.point in
    let to = c.below-below.result in
    let before = c.args.listing.now in
    let midway = c.add_output.new.listing in
    let after = c.visit_process.new.listing in
    if_ok c.visit_process.result (λ (large : Option ℕ). Tells (protocol_at to) next to.point (visit_at mid w) midway after large) (λ (large : Option ℕ). Tells P (output_form output) point v before after large)
    (λ large h. output_tells P v (term_of output.channel.now) (term_of output.message.now) next point before midway after large (c.in_ok-add_output.ensures.tells c.if-not-branch.false)
    (tells_moved P (point + 1) v to (visit_at mid w) next midway after large c.below-below.ensures (visit_later old mid w c.add_output.ensures.grows c.requires.visit).is h)) c.visit_process.ensures.tells

pub visits::visit_insert-returns-clause-tells : goal.visits::visit_insert-returns-clause-tells
visits::visit_insert-returns-clause-tells g t c =
    let old = g.B.Bank.trees c.args.bank.now in
    let mid = g.B.Bank.trees c.add_insert.new.bank in
    let P = protocol_at c.args.place.now in
    let w = c.args.visit.now in
    let v = visit_at old w in
    let insert = c.args.insert.now in
    let next = process_of insert.next.now in
    let point = c.args.place.now.point in
    let to = c.below-below.result in
    let before = c.args.listing.now in
    let midway = c.add_insert.new.listing in
    let after = c.visit_process.new.listing in
    if_ok c.visit_process.result (λ (large : Option ℕ). Tells (protocol_at to) next to.point (visit_at mid w) midway after large) (λ (large : Option ℕ). Tells P (insert_form insert) point v before after large)
    (λ large h. insert_tells P v insert.table insert.arguments.now next point before midway after large (c.in_ok-add_insert.ensures.tells c.if-not-branch.false)
    (tells_moved P (point + 1) v to (visit_at mid w) next midway after large c.below-below.ensures (visit_later old mid w c.add_insert.ensures.grows c.requires.visit).is h)) c.visit_process.ensures.tells

pub visits::visit_event-returns-in-Some-clause-tells : goal.visits::visit_event-returns-in-Some-clause-tells
visits::visit_event-returns-in-Some-clause-tells g t c =
    let old = g.B.Bank.trees c.args.bank.now in
    let mid = g.B.Bank.trees c.add_event.new.bank in
    let P = protocol_at c.args.place.now in
    let v = visit_at old c.args.visit.now in
    let e = event_of c.args.event.now.atom.now in
    let next = process_of c.args.event.now.next.now in
    let point = c.args.place.now.point in
    let to = c.below-below.result in
    let before = c.args.listing.now in
    let midway = c.add_event.new.listing in
    let after = c.visit_process.new.listing in
    let adds = subst (λ (o : Option source.Visit). EventAdds P v e mid before midway o) c.in-Some.is c.in_ok-add_event.ensures.adds in
    let told = subst (λ (o : Option source.Visit). IfSome o (λ made. TellsVisit point v (Ev e.event (event_terms P v e)) before midway)) c.in-Some.is c.in_ok-add_event.ensures.tells in
    if_ok c.visit_process.result (λ (large : Option ℕ). Tells (protocol_at to) next to.point (visit_at mid c.in-Some.made) midway after large) (λ (large : Option ℕ). Tells P (event_form c.args.event.now) point v before after large)
    (λ large h. event_tells P v e next point before midway after large told
    (tells_moved P (point + 1) (after_event P v e) to (visit_at mid c.in-Some.made) next midway after large c.below-below.ensures adds.names.is h)) c.visit_process.ensures.tells

pub visits::visit_input-returns-in-Some-clause-tells : goal.visits::visit_input-returns-in-Some-clause-tells
visits::visit_input-returns-in-Some-clause-tells g t c =
    let old = g.B.Bank.trees c.args.bank.now in
    let mid = g.B.Bank.trees c.after_input.new.bank in
    let P = protocol_at c.args.place.now in
    let v = visit_at old c.args.visit.now in
    let channel = term_of c.args.input.now.channel.now in
    let pattern = pattern_of c.args.input.now.pattern.now in
    let next = process_of c.args.input.now.next.now in
    let point = c.args.place.now.point in
    let to = c.below-below.result in
    let before = c.args.listing.now in
    let after = c.visit_process.new.listing in
    let got = subst (λ (o : Option source.Visit). MatchOption o (IsLargeInput P v channel pattern) (λ made. Receives P v channel pattern mid made)) c.in-Some.is c.in_ok-after_input.ensures.receives in
    if_ok c.visit_process.result (λ (large : Option ℕ). Tells (protocol_at to) next to.point (visit_at mid c.in-Some.made) before after large) (λ (large : Option ℕ). Tells P (input_form c.args.input.now) point v before after large)
    (λ large h. input_tells P v channel pattern got.at next point before after large got.is_fresh
    (tells_moved P (point + 1) (after_input P v channel pattern got.at) to (visit_at mid c.in-Some.made) next before after large c.below-below.ensures got.names.is h)) c.visit_process.ensures.tells

pub visits::visit_copies-returns-clause-tells : goal.visits::visit_copies-returns-clause-tells
visits::visit_copies-returns-clause-tells g t c =
    let old = g.B.Bank.trees c.args.bank.now in
    let mid = g.B.Bank.trees c.after_copy.new.bank in
    let P = protocol_at c.args.place.now in
    let w = c.args.visit.now in
    let v = visit_at old w in
    let copied = process_of c.args.copied.now in
    let point = c.args.place.now.point in
    let to = c.below-below.result in
    let before = c.args.listing.now in
    let after = c.visit_process.new.listing in
    if_ok c.visit_process.result (λ (large : Option ℕ). Tells (protocol_at to) copied to.point (visit_at mid c.in_ok-made.made) before after large) (λ (large : Option ℕ). Tells P (calculus.Replication copied) point v before after large)
    (λ large h. copies_tell P v w.next copied point before after large c.requires.visit.below
    (tells_moved P (point + 1) (after_copy v w.next) to (visit_at mid c.in_ok-made.made) copied before after large c.below-below.ensures c.in_ok-made.ensures.names.is h)) c.visit_process.ensures.tells

pub visits::visit_new-returns-in-Some-clause-tells : goal.visits::visit_new-returns-in-Some-clause-tells
visits::visit_new-returns-in-Some-clause-tells g t c =
    let old = g.B.Bank.trees c.args.bank.now in
    let mid = g.B.Bank.trees c.after_new.new.bank in
    let P = protocol_at c.args.place.now in
    let v = visit_at old c.args.visit.now in
    let next = process_of c.args.next.now in
    let point = c.args.place.now.point in
    let to = c.below-below.result in
    let before = c.args.listing.now in
    let after = c.visit_process.new.listing in
    let names : NamesVisit mid c.in-Some.made (after_new v point) = subst (λ (o : Option source.Visit). IfSome o (λ made. NamesVisit mid made (after_new v point))) c.in-Some.is c.in_ok-after_new.ensures.names in
    if_ok c.visit_process.result (λ (large : Option ℕ). Tells (protocol_at to) next to.point (visit_at mid c.in-Some.made) before after large) (λ (large : Option ℕ). Tells P (calculus.New [] next) point v before after large)
    (λ large h. new_tells P v [] next point before after large
    (tells_moved P (point + 1) (after_new v point) to (visit_at mid c.in-Some.made) next before after large c.below-below.ensures names.is h)) c.visit_process.ensures.tells

pub visits::visit_phase-returns-clause-tells : goal.visits::visit_phase-returns-clause-tells
visits::visit_phase-returns-clause-tells g t c =
    let old = g.B.Bank.trees c.args.bank.now in
    let P = protocol_at c.args.place.now in
    let v = visit_at old c.args.visit.now in
    let phase = c.args.phase.now in
    let next = process_of phase.next.now in
    let point = c.args.place.now.point in
    let to = c.below-below.result in
    let before = c.args.listing.now in
    let after = c.visit_process.new.listing in
    if_ok c.visit_process.result (λ (large : Option ℕ). Tells (protocol_at to) next to.point (visit_at old c.in_ok-made.made) before after large) (λ (large : Option ℕ). Tells P (phase_form phase) point v before after large)
    (λ large h. phase_tells P v phase.number next point before after large
    (tells_moved P (point + 1) (after_phase v phase.number) to (visit_at old c.in_ok-made.made) next before after large c.below-below.ensures (c.in_ok-made.ensures old c.requires.visit).is h)) c.visit_process.ensures.tells

pub visits::visit_parallel-returns-in-None-clause-tells : goal.visits::visit_parallel-returns-in-None-clause-tells
visits::visit_parallel-returns-in-None-clause-tells g t c =
    let old = g.B.Bank.trees c.args.bank.now in
    let mid = g.B.Bank.trees c.visit_process.new.bank in
    let P = protocol_at c.args.place.now in
    let w = c.args.visit.now in
    let v = visit_at old w in
    let left = process_of c.args.both.now.left.now in
    let right = process_of c.args.both.now.right.now in
    let point = c.args.place.now.point in
    let to = c.after-after.result in
    let before = c.args.listing.now in
    let midway = c.visit_process.new.listing in
    let after = c.visit_process-in-None.new.listing in
    let first = tells_moved P (point + 1) v c.below-below.result v left before midway None c.below-below.ensures refl
    (subst (λ (o : Option ℕ). Tells (protocol_at c.below-below.result) left c.below-below.result.point v before midway o) c.in-None.is c.in_ok-point.ensures.tells) in
    if_ok c.visit_process-in-None.result (λ (large : Option ℕ). Tells (protocol_at to) right to.point (visit_at mid w) midway after large) (λ (large : Option ℕ). Tells P (parallel_form c.args.both.now) point v before after large)
    (λ large h. parallel_tells P v left right point before midway after large first
    (tells_moved P (point_after (point + 1) left) v to (visit_at mid w) right midway after large c.after-after.ensures (visit_later old mid w c.visit_process.ensures.grows c.requires.visit).is h)) c.visit_process-in-None.ensures.tells

pub branches::visit_let-returns-clause-tells : goal.branches::visit_let-returns-clause-tells
branches::visit_let-returns-clause-tells g t c =
    let old = g.B.Bank.trees c.args.bank.now in
    let P = protocol_at c.args.place.now in
    let w = c.args.visit.now in
    let v = visit_at old w in
    let choice = c.args.choice.now in
    let e = expression_of choice.expression.now in
    let listed = ap (map instruction_of) c.deref-2.ensures.value ∙ c.in_ok-instructions.ensures in
    let mid = g.B.Bank.trees c.look_at_choices.new.bank in
    let end = g.B.Bank.trees c.visit_chosen.new.bank in
    let told = g.B.Bank.trees c.else_visit.new.bank in
    let pattern = pattern_of choice.pattern.now in
    let next = process_of choice.next.now in
    let otherwise = process_of choice.otherwise.now in
    let point = c.args.place.now.point in
    let to = c.else_branch-after.result.place in
    let all = map instruction_of c.deref-2.result.now in
    let before = c.args.listing.now in
    let midway = c.visit_chosen.new.listing in
    let after = c.visit_branch.new.listing in
    let made = c.in_ok-made-in-None.made in
    let besides = otherwise_visit P v pattern e in
    let each = subst (λ (o : Option ℕ). TellsEach P (visit_at mid w) pattern e next (point + 1) before midway o) c.in-None.is (c.in_ok-point.ensures.tells e listed) in
    let first = subst (λ (x : Visit). TellsEach P x pattern e next (point + 1) before midway None) (visit_later old mid w c.look_at_choices.ensures.grows c.requires.visit).is each in
    let later = visit_later old end w (Grows_trans old mid end c.look_at_choices.ensures.grows c.visit_chosen.ensures.grows) c.requires.visit in
    let named : (otherwise ≡ calculus.Nil → ⊥) → visit_at told made ≡ besides =
    λ some. (c.in_ok-made-in-None.ensures.names e (completed_by P all e listed) some).is ∙ ap (λ (x : Visit). otherwise_visit P x pattern e) later.is in
    let same : process_of c.else_branch-after.result.process.now ≡ otherwise = c.else_branch-after.ensures.process in
    let below = subst (λ (p : calculus.Process). IfOk c.visit_branch.result (λ large. TellsBelow (protocol_at to) p to.point (visit_at told made) attack.Else midway after large)) same c.visit_branch.ensures.tells in
    if_ok c.visit_branch.result (λ (large : Option ℕ). TellsBelow (protocol_at to) otherwise to.point (visit_at told made) attack.Else midway after large) (λ (large : Option ℕ). Tells P (let_form choice) point v before after large)
    (λ large h. let_tells P v pattern e next otherwise point before midway after large first
    (else_told P otherwise (point_after (point + 1) next) (visit_at told made) besides attack.Else midway after large named
    (below_moved P (point_after (point + 1) next) to (visit_at told made) attack.Else otherwise midway after large c.else_branch-after.ensures.place h))) below

pub branches::visit_chosen-returns-in-Nil-clause-tells : goal.branches::visit_chosen-returns-in-Nil-clause-tells
branches::visit_chosen-returns-in-Nil-clause-tells g t c = λ e is.
    let old = g.B.Bank.trees c.args.bank.now in
    let choosing = c.args.choosing.now in
    let P = protocol_at choosing.place.now in
    let v = visit_at old choosing.visit.now in
    let pattern = pattern_of choosing.pattern.now in
    let point = choosing.place.now.point + 1 in
    let counts = c.count_visits.ensures in
    let before = c.args.listing.now in
    let after = c.count_visits.new.listing in
    let small = c.requires.small.1.small in
    subst (λ (p : calculus.Process). TellsEach P v pattern e p point before after c.count_visits.result) (sym (ap process_of c.in-Nil.is))
    (nothing_chosen P v pattern e point small.outs before after c.count_visits.result (subst (λ (l : List Ruled). EachGoesOn P v pattern l small.outs) (completed_by P (instructions_of choosing) e is) small.go) counts.sources counts.choices)

pub branches::visit_choices-returns-clause-tells : goal.branches::visit_choices-returns-clause-tells
branches::visit_choices-returns-clause-tells g t c = λ e is.
    let old = g.B.Bank.trees c.args.bank.now in
    let choosing = c.args.choosing.now in
    let P = protocol_at choosing.place.now in
    let counted = choices_counted old choosing c.requires.known in
    all_told P (visit_at old choosing.visit.now) (pattern_of choosing.pattern.now) e (process_of c.args.process.now) (choosing.place.now.point + 1) c.args.listing.now c.each.listing c.each.number (c.each.invariant.told e is)
    (omega (arith, counted, ap length (completed_by P (instructions_of choosing) e is), c.each-test.false))

pub branches::visit_choices-returns-in-Some-clause-tells : goal.branches::visit_choices-returns-in-Some-clause-tells
branches::visit_choices-returns-in-Some-clause-tells g t c = λ e is. tt

pub branches::visit_way-returns-in-Visit-clause-tells : goal.branches::visit_way-returns-in-Visit-clause-tells
branches::visit_way-returns-in-Visit-clause-tells g t c =
    let old = g.B.Bank.trees c.args.bank.now in
    let P = protocol_at c.args.place.now in
    let process = process_of c.args.process.now in
    let point = c.args.place.now.point in
    let before = c.args.listing.now in
    let after = c.visit_branch.new.listing in
    subst (λ (x : Way). IfOk c.visit_branch.result (λ large. TellsWay P process point old c.args.taken.label x before after large)) (sym c.in-Visit.is) c.visit_branch.ensures.tells

pub branches::visit_way-returns-in-Nowhere-clause-tells : goal.branches::visit_way-returns-in-Nowhere-clause-tells
branches::visit_way-returns-in-Nowhere-clause-tells g t c =
    nothing_way (protocol_at c.args.place.now) (process_of c.args.process.now) c.args.place.now.point (g.B.Bank.trees c.args.bank.now) c.args.taken.label c.args.taken.way.now c.args.listing.now c.in-Nowhere.is

pub branches::visit_get-returns-clause-tells : goal.branches::visit_get-returns-clause-tells
branches::visit_get-returns-clause-tells g t c =
    let old = g.B.Bank.trees c.args.bank.now in
    let mid = g.B.Bank.trees c.entry_way.new.bank in
    let end = g.B.Bank.trees c.visit_way.new.bank in
    let P = protocol_at c.args.place.now in
    let w = c.args.visit.now in
    let v = visit_at old w in
    let get = c.args.get.now in
    let next = process_of get.next.now in
    let otherwise = process_of get.otherwise.now in
    let point = c.args.place.now.point in
    let to = c.after-after.result in
    let goes = c.in_ok-way.ensures.goes in
    let small = small_way mid c.in_ok-way.way goes.large goes.out (sym c.is_large.ensures ∙ c.if-is_large.false) goes.way in
    let before = c.args.listing.now in
    let midway = c.visit_way.new.listing in
    let after = c.visit_branch.new.listing in
    let empty = c.new.result.items in
    let label : List ℕ = [] in
    let told = way_moved P (point + 1) c.below-below.result next mid empty c.in_ok-way.way before midway c.below-below.ensures
    (subst (λ (o : Option ℕ). TellsWay (protocol_at c.below-below.result) next c.below-below.result.point mid empty c.in_ok-way.way before midway o) c.in-None.is c.in_ok-point.ensures.tells) in
    let tells = subst (λ (l : List ℕ). TellsWay P next (point + 1) mid l c.in_ok-way.way before midway None) c.new.ensures.items told in
    let found = gathered_way P next (point + 1) mid label c.in_ok-way.way (attack.Taken label ∷ []) (goes.out ∷ []) before midway (λ one. refl) small.ways tells in
    let later = visit_later old end w (Grows_trans old mid end c.entry_way.ensures.grows c.visit_way.ensures.grows) c.requires.visit in
    if_ok c.visit_branch.result (λ (large : Option ℕ). TellsBelow (protocol_at to) otherwise to.point (visit_at end w) attack.Else midway after large) (λ (large : Option ℕ). Tells P (get_form get) point v before after large)
    (λ large h. get_tells P v get.table get.patterns.now (condition_of get.condition.now) next otherwise point goes.large goes.out found.more before midway after large goes.goes found.gathers found.told
    (subst (λ (x : Visit). TellsBelow P otherwise (point_after (point + 1) next) x attack.Else midway after large) later.is
    (below_moved P (point_after (point + 1) next) to (visit_at end w) attack.Else otherwise midway after large c.after-after.ensures h))) c.visit_branch.ensures.tells

pub visits::visit_process-returns-then-listing-eq0-clause-tells : goal.visits::visit_process-returns-then-listing-eq0-clause-tells
visits::visit_process-returns-then-listing-eq0-clause-tells g t c = tt

pub visits::visit_output-returns-then-not-branch-clause-tells : goal.visits::visit_output-returns-then-not-branch-clause-tells
visits::visit_output-returns-then-not-branch-clause-tells g t c = tt

pub visits::visit_event-returns-in-None-clause-tells : goal.visits::visit_event-returns-in-None-clause-tells
visits::visit_event-returns-in-None-clause-tells g t c = tt

pub visits::visit_input-returns-in-None-clause-tells : goal.visits::visit_input-returns-in-None-clause-tells
visits::visit_input-returns-in-None-clause-tells g t c = tt

pub visits::visit_new-returns-in-None-clause-tells : goal.visits::visit_new-returns-in-None-clause-tells
visits::visit_new-returns-in-None-clause-tells g t c = tt

pub visits::visit_parallel-returns-in-Some-clause-tells : goal.visits::visit_parallel-returns-in-Some-clause-tells
visits::visit_parallel-returns-in-Some-clause-tells g t c = tt

pub branches::visit_let-returns-then-is_large_let-clause-tells : goal.branches::visit_let-returns-then-is_large_let-clause-tells
branches::visit_let-returns-then-is_large_let-clause-tells g t c = tt

pub branches::visit_let-returns-then-looked-clause-tells : goal.branches::visit_let-returns-then-looked-clause-tells
branches::visit_let-returns-then-looked-clause-tells g t c = tt

pub branches::visit_let-returns-in-Some-clause-tells : goal.branches::visit_let-returns-in-Some-clause-tells
branches::visit_let-returns-in-Some-clause-tells g t c = tt

pub visits::visit_insert-returns-then-not-branch-clause-tells : goal.visits::visit_insert-returns-then-not-branch-clause-tells
visits::visit_insert-returns-then-not-branch-clause-tells g t c = tt

pub branches::visit_get-returns-then-some_large_compared_in-clause-tells : goal.branches::visit_get-returns-then-some_large_compared_in-clause-tells
branches::visit_get-returns-then-some_large_compared_in-clause-tells g t c = tt

pub branches::visit_get-returns-then-is_large-clause-tells : goal.branches::visit_get-returns-then-is_large-clause-tells
branches::visit_get-returns-then-is_large-clause-tells g t c = tt

pub branches::visit_get-returns-in-Some-clause-tells : goal.branches::visit_get-returns-in-Some-clause-tells
branches::visit_get-returns-in-Some-clause-tells g t c = tt

pub branches::visit_choices-returns-in_err-label-clause-grows : goal.branches::visit_choices-returns-in_err-label-clause-grows
branches::visit_choices-returns-in_err-label-clause-grows g t c = grind (arith, common_steps)

pub branches::visit_let-invariant_of-choosing : goal.branches::visit_let-invariant_of-choosing
branches::visit_let-invariant_of-choosing g t c = grind (arith, common_steps)
