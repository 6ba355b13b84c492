-- The lanes of a clause: what is counted, and that it fits 16 bits.
use Rattle.std.proofs.Common.{◌≡◌, ℕ, ◌+◌, ◌^◌, ◌<◌, ◌≤◌, List, [], ◌∷◌, length, map, take, refl, ap, sym, ◌∙◌, arith}
use Rattle.spec_terms.specs.Term.{Term}
use Rattle.spec_clauses.specs.Fact.{total, fact_size, clause_size}
use Rattle.spec_clauses.specs.Fact as horn
use Rattle.spec_clauses.specs.Limits.{IsWithinLimit}
use Rattle.spec_clauses.specs.Subsumption.{firm}
use Rattle.spec_features.specs.Features.{one_if, number_of, fact_symbols, firm_weight}
use Rattle.spec_features.specs.Features as features
use Rattle.spec_features.proofs.Growing.{total-firm}
use Rattle.spec_features.proofs.Fitting.{firm_size, one_size, fact_symbols_size}
use Rattle.term_tree.specs.declared.bank.Id.{Id}
use Rattle.clause_form.specs.declared.facts.Fact.{Fact}
use Rattle.clause_form.specs.Facts.{fact_of}
use Rattle.clause_form.specs.Seen.{fact_at, clause_at, IdClause}
use Rattle.clause_form.proofs.Lists.{total_all, total-map}
use Rattle.feature_index.specs.declared.clause_features.Lane.{Lane}
use Rattle.feature_index.specs.declared.clause_features.Lane.TheVariants.{Att, Mess, Ev, Mev, Symbols}
use Rattle.feature_index.specs.Lanes.{told, weight, sum_of}

-- what a fact of a bank adds to a lane as a hypothesis
abbrev pub weight_at : List Term → Lane → Fact → ℕ
weight_at all lane f = firm_weight (weight lane) (fact_at all (fact_of f))

-- the sum over all of them
pub all_weighed : (all : List Term) (lane : Lane) (fs : List Fact) (i sum : ℕ) → length fs ≤ i → sum ≡ told (0 + total (weight_at all lane) (take i fs)) → sum ≡ told (total (weight lane) (firm (map (fact_at all) (map fact_of fs))))
all_weighed all lane fs i sum past was =
    let whole = total_all (weight_at all lane) fs i past in
    let seen : total (firm_weight (weight lane)) (map (fact_at all) (map fact_of fs)) ≡ total (weight_at all lane) fs = total-map (firm_weight (weight lane)) (fact_at all) (map fact_of fs) ∙ total-map (λ f. firm_weight (weight lane) (fact_at all f)) fact_of fs in
    let plain : told (0 + total (weight_at all lane) (take i fs)) ≡ told (total (weight_at all lane) (take i fs)) = omega arith in
    was ∙ plain ∙ ap told (whole ∙ (sym seen ∙ sym (total-firm (weight lane) (map (fact_at all) (map fact_of fs)))))

messages_size : (f : horn.Fact Term) → one_if features.Mess f + one_if features.Tab f ≤ fact_size f
messages_size (horn.Att k t) = omega arith
messages_size (horn.Mess k t u) = omega arith
messages_size (horn.Tab n ts) = omega arith
messages_size (horn.Ev e ts) = omega arith
messages_size (horn.Mev e ts) = omega arith
messages_size (horn.Bad ts) = omega arith

weight_size : (lane : Lane) (f : horn.Fact Term) → weight lane f ≤ fact_size f
weight_size Att f = one_size features.Att f
weight_size Mess f = messages_size f
weight_size Ev f = one_size features.Ev f
weight_size Mev f = one_size features.Mev f
weight_size Symbols f = fact_symbols_size f

-- what hypotheses add to a lane is the lane
both_numbers : (hs : List (horn.Fact Term)) → total (weight Mess) hs ≡ number_of features.Mess hs + number_of features.Tab hs
both_numbers [] = refl
both_numbers (h ∷ hs) = omega (arith, both_numbers hs)

pub summed : (lane : Lane) (hs : List (horn.Fact Term)) → total (weight lane) hs ≡ sum_of lane hs
summed Att hs = refl
summed Mess hs = both_numbers hs
summed Ev hs = refl
summed Mev hs = refl
summed Symbols hs = refl

-- the number that is told is the lane, and fits
pub record IsLane (n lane : ℕ) : Type 0 where
  pub is : n ≡ lane
  pub fits : n < 2 ^ 16

pub lane_fits : (all : List Term) (c : IdClause) (lane : Lane) (hs : List (horn.Fact Id)) (n : ℕ) → IsWithinLimit (clause_at all c) → hs ≡ c.hypotheses → n ≡ told (total (weight lane) (firm (map (fact_at all) hs)))
    → IsLane n (total (weight lane) (firm (clause_at all c).hypotheses))
lane_fits all c lane hs n small same told_is =
    let there : total (weight lane) (firm (clause_at all c).hypotheses) ≡ total (weight lane) (firm (map (fact_at all) hs)) = ap (λ l. total (weight lane) (firm (map (fact_at all) l))) (sym same) in
    let bound = firm_size (weight lane) (weight_size lane) (clause_at all c).hypotheses in
    record { is = omega (arith, told_is, there, bound, small); fits = omega (arith, told_is, there, bound, small) }

pub conclusion_fits : (all : List Term) (c : IdClause) (f : horn.Fact Id) (n : ℕ) → IsWithinLimit (clause_at all c) → f ≡ c.conclusion → n ≡ told (0 + fact_symbols (fact_at all f)) → IsLane n (fact_symbols (clause_at all c).conclusion)
conclusion_fits all c f n small same told_is =
    let there : fact_symbols (clause_at all c).conclusion ≡ fact_symbols (fact_at all f) = ap (λ g. fact_symbols (fact_at all g)) (sym same) in
    let bound = fact_symbols_size (clause_at all c).conclusion in
    record { is = omega (arith, told_is, there, bound, small); fits = omega (arith, told_is, there, bound, small) }
