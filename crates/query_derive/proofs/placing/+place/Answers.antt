use Rattle.std.proofs.Common.{◌≡◌, ◌∙◌, ℕ, ◌+◌, ◌-◌, Some, List, [], ◌∷◌, length, map, drop, ap, sym, subst, arith}
use Rattle.std.proofs.lemmas.List.{length-map}
use Rattle.spec_terms.specs.Term.{Term}
use Rattle.spec_clauses.specs.Fact.{Fact, fact_under}
use Rattle.spec_clauses.specs.Subsumption.{hypothesis_at}
use Rattle.unify_match.specs.declared.bound.Bound.{Bound}
use Rattle.clause_form.specs.Facts.{fact_of}
use Rattle.clause_form.specs.Seen.{fact_at}
use Rattle.clause_form.proofs.Walks.{fact_known_at}
use Rattle.query_derive.specs.Narrowing.{Narrows, Excludes, ArePlaced, AreFirstPlaced}
use Rattle.query_derive.specs.Wanted.{event_fact}
use Rattle.query_derive.proofs.Narrowing.{fact_there}
use Rattle.query_derive.proofs.Searching.{NoneTo, none_placed, none_to_next, none_here, none_after, none_at_all, first_placed, others_of, first_rest, none_below, taken_back, if_some_at}
use Rattle.query_derive.proofs.placing.+place.Goals.{then-branch+in_ok-row+in-None, else-branch}
use Rattle.std.proofs.lemmas.Grind.{common_steps}
use Rattle.spec_terms.proofs.Replace.{some_none}
use Rattle.query_derive.proofs.placing.+place.Goals as goal

pub returns-in_default-clause-some : goal.returns-in_default-clause-some
returns-in_default-clause-some g t c =
    let all = g.B.Bank.trees c.args.bank.now in
    let hs = map (fact_at all) (map fact_of c.args.hyps.now) in
    let none : map event_fact c.args.events.now ≡ [] = ap (map event_fact) (none_below c.args.events.now c.in_default.len_below) in
    subst (λ (es : List (Fact Term)). AreFirstPlaced all c.args.binds.now.pairs es hs c.new.result.items) (sym none)
    (subst (λ (row : List ℕ). AreFirstPlaced all c.args.binds.now.pairs [] hs row) (sym c.new.ensures.items) (none_placed all c.args.binds.now.pairs hs c.requires.bindings))

pub match_event-requires-clause-known : goal.match_event-requires-clause-known
match_event-requires-clause-known g t c = fact_known_at (g.B.Bank.trees c.args.bank.now) c.args.hyps.now c.each.k c.index-hyps-k.result c.index-hyps-k.is c.requires.known c.each-test.true

pub returns-in-Some-clause-some : goal.returns-in-Some-clause-some
returns-in-Some-clause-some g t c =
    let all = g.B.Bank.trees c.args.bank.now in
    let hs = map (fact_at all) (map fact_of c.args.hyps.now) in
    let h = fact_at all (fact_of c.index-hyps-k.result) in
    let e = event_fact c.first-item.result in
    let es = map event_fact (others_of c.args.events.now) in
    let split : map event_fact c.args.events.now ≡ e ∷ es = first_rest c.args.events.now c.first-item.result c.in-len1-up.len_at_least c.first-item.is in
    let there : hypothesis_at hs (c.each.k + 1) ≡ Some h = fact_there all c.args.hyps.now c.each.k c.index-hyps-k.result c.each-test.true c.index-hyps-k.is in
    let step : Narrows all c.args.binds.now.pairs c.match_event.new.binds.pairs (λ s. fact_under s e ≡ h) = subst (λ (bs : List Bound). Narrows all bs c.match_event.new.binds.pairs (λ s. fact_under s e ≡ h)) c.each.invariant.same (c.in_ok-match_event.ensures.yes c.if-branch.true) in
    let rest : AreFirstPlaced all c.match_event.new.binds.pairs es hs c.in-Some.row = if_some_at (λ row. AreFirstPlaced all c.match_event.new.binds.pairs es hs row) c.in_ok-row.field-0 c.in-Some.row c.in-Some.is c.in_ok-row.ensures.some in
    let before : NoneTo all c.args.binds.now.pairs hs (e ∷ es) c.each.k = subst (λ (fs : List (Fact Term)). NoneTo all c.args.binds.now.pairs hs fs c.each.k) split c.each.invariant.none in
    subst (λ (fs : List (Fact Term)). AreFirstPlaced all c.args.binds.now.pairs fs hs c.in_ok-behind-in-Some.field-0) (sym split)
    (subst (λ (row : List ℕ). AreFirstPlaced all c.args.binds.now.pairs (e ∷ es) hs row) (sym c.in_ok-behind-in-Some.ensures)
    (first_placed all c.args.binds.now.pairs hs c.match_event.new.binds.pairs e es c.each.k h c.in-Some.row before there step rest))

pub each-preserved : goal.each-preserved
each-preserved g t c =
    let all = g.B.Bank.trees c.args.bank.now in
    let old = c.args.binds.now.pairs in
    let hs = map (fact_at all) (map fact_of c.args.hyps.now) in
    let h = fact_at all (fact_of c.index-hyps-k.result) in
    let e = event_fact c.first-item.result in
    let es = map event_fact (others_of c.args.events.now) in
    let split : map event_fact c.args.events.now ≡ e ∷ es = first_rest c.args.events.now c.first-item.result c.in-len1-up.len_at_least c.first-item.is in
    let there : hypothesis_at hs (c.each.k + 1) ≡ Some h = fact_there all c.args.hyps.now c.each.k c.index-hyps-k.result c.each-test.true c.index-hyps-k.is in
    let next : ((row : List ℕ) → ArePlaced all old (e ∷ es) hs ((c.each.k + 1) ∷ row) → ⊥) → NoneTo all old hs (map event_fact c.args.events.now) (c.each.k + 1) =
    λ never. none_to_next all old hs (map event_fact c.args.events.now) c.each.k c.each.invariant.none (λ row k. never row (subst (λ (fs : List (Fact Term)). ArePlaced all old fs hs ((c.each.k + 1) ∷ row)) split k)) in
    elim c.if-branch.branch [
      | then-branch+in_ok-row+in-None w ↦ (
          let stays : c.if-branch.binds.pairs ≡ c.match_event.new.binds.pairs = ap (λ b. b.pairs) w.binds-is ∙ w.in_ok-row.ensures.back w.in-None.is in
          let step : Narrows all old c.match_event.new.binds.pairs (λ s. fact_under s e ≡ h) = subst (λ (bs : List Bound). Narrows all bs c.match_event.new.binds.pairs (λ s. fact_under s e ≡ h)) c.each.invariant.same (c.in_ok-match_event.ensures.yes w.if-branch.true) in
          record {
            same = taken_back old c.each.binds.pairs c.match_event.new.binds.pairs c.undo.new.self.pairs c.level-level.result c.each.invariant.same c.match_event.ensures.extends (c.undo.ensures.pairs ∙ ap (λ bs. drop (length bs - c.level-level.result) bs) stays) c.level-level.ensures;
            none = next (none_after all old hs c.match_event.new.binds.pairs e es (c.each.k + 1) h there step (w.in_ok-row.ensures.none w.in-None.is));
          }
          )
      | else-branch w ↦ (
          let stays : c.if-branch.binds.pairs ≡ c.match_event.new.binds.pairs = ap (λ b. b.pairs) w.binds-is in
          let never : Excludes all old (λ s. fact_under s e ≡ h) = subst (λ (bs : List Bound). Excludes all bs (λ s. fact_under s e ≡ h)) c.each.invariant.same (c.in_ok-match_event.ensures.no w.if-branch.false) in
          record {
            same = taken_back old c.each.binds.pairs c.match_event.new.binds.pairs c.undo.new.self.pairs c.level-level.result c.each.invariant.same c.match_event.ensures.extends (c.undo.ensures.pairs ∙ ap (λ bs. drop (length bs - c.level-level.result) bs) stays) c.level-level.ensures;
            none = next (none_here all old hs e es (c.each.k + 1) h there never);
          }
          )
    ]

pub returns-clause-none : goal.returns-clause-none
returns-clause-none g t c = λ _ row k.
    let all = g.B.Bank.trees c.args.bank.now in
    let hs = map (fact_at all) (map fact_of c.args.hyps.now) in
    let e = event_fact c.first-item.result in
    let es = map event_fact (others_of c.args.events.now) in
    let split : map event_fact c.args.events.now ≡ e ∷ es = first_rest c.args.events.now c.first-item.result c.in-len1-up.len_at_least c.first-item.is in
    let before : NoneTo all c.args.binds.now.pairs hs (e ∷ es) c.each.k = subst (λ (fs : List (Fact Term)). NoneTo all c.args.binds.now.pairs hs fs c.each.k) split c.each.invariant.none in
    none_at_all all c.args.binds.now.pairs hs e es c.each.k (omega (arith, c.each-test.false, length-map (map fact_of c.args.hyps.now) (fact_at all), length-map c.args.hyps.now fact_of)) before row
    (subst (λ (fs : List (Fact Term)). ArePlaced all c.args.binds.now.pairs fs hs row) split k)

pub undo-requires : goal.undo-requires
undo-requires g t c = grind (arith, common_steps)

pub returns-in-Some-clause-none : goal.returns-in-Some-clause-none
returns-in-Some-clause-none g t c = λ e. absurd (some_none e)

pub returns-in-Some-clause-back : goal.returns-in-Some-clause-back
returns-in-Some-clause-back g t c = λ e. absurd (some_none e)

pub returns-in_default-clause-none : goal.returns-in_default-clause-none
returns-in_default-clause-none g t c = λ e. absurd (some_none e)

pub returns-in_default-clause-back : goal.returns-in_default-clause-back
returns-in_default-clause-back g t c = λ e. absurd (some_none e)

pub place-requires : goal.place-requires
place-requires g t c κs within = (omega (arith, c.decreases), (within, (c.requires.known, (c.requires.few, c.match_event.ensures.bindings))))
