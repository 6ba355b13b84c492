-- The features of a clause within the limit of size fit 16 bits.
use Rattle.std.proofs.Common.{ℕ, ◌+◌, ◌-◌, ◌^◌, ◌≤◌, ◌<◌, true, false, not, cond, List, [], ◌∷◌, arith}
use Rattle.std.specs.List.{AllByRecursion}
use Rattle.spec_trees.specs.Tree.{Trees, Leaf, Node, none, more, size, sizes}
use Rattle.spec_terms.specs.Term.{Sym, Term}
use Rattle.spec_clauses.specs.Fact.{Fact, Att, Mess, Tab, Ev, Mev, Bad, Clause, total, fact_size, is_variable_known}
use Rattle.spec_clauses.specs.Limits.{IsWithinLimit}
use Rattle.spec_clauses.specs.Subsumption.{firm}
use Rattle.spec_features.specs.Features.{Predicate, predicate_of, predicate_number, same_predicate, one_if, number_of, symbols, row_symbols, fact_symbols, features_of}
use Rattle.spec_features.specs.Features as features

-- the symbols of a term, of a row, and of a fact are no more than its size
mutual
  pub symbols_size : (t : Term) → symbols t ≤ size t
  symbols_size (Leaf x) = omega arith
  symbols_size (Node f args) = omega (arith, row_symbols_size args)

  row_symbols_size : (ts : Trees ℕ Sym) → row_symbols ts ≤ sizes ts
  row_symbols_size none = omega arith
  row_symbols_size (more t ts) = omega (arith, symbols_size t, row_symbols_size ts)

all_symbols_size : (ts : List Term) → total symbols ts ≤ total size ts
all_symbols_size [] = omega arith
all_symbols_size (t ∷ ts) = omega (arith, symbols_size t, all_symbols_size ts)

pub fact_symbols_size : (f : Fact Term) → fact_symbols f ≤ fact_size f
fact_symbols_size (Att k t) = omega (arith, symbols_size t)
fact_symbols_size (Mess k t u) = omega (arith, symbols_size t, symbols_size u)
fact_symbols_size (Tab n ts) = omega (arith, all_symbols_size ts)
fact_symbols_size (Ev e ts) = omega (arith, all_symbols_size ts)
fact_symbols_size (Mev e ts) = omega (arith, all_symbols_size ts)
fact_symbols_size (Bad ts) = omega (arith, all_symbols_size ts)

some_size : (f : Fact Term) → 0 < fact_size f
some_size (Att k t) = omega arith
some_size (Mess k t u) = omega arith
some_size (Tab n ts) = omega arith
some_size (Ev e ts) = omega arith
some_size (Mev e ts) = omega arith
some_size (Bad ts) = omega arith

pub one_size : (p : Predicate) (f : Fact Term) → one_if p f ≤ fact_size f
one_size p f = elim (same_predicate p (predicate_of f)) as (λ b. cond b 1 0 ≤ fact_size f) [ true ↦ some_size f | false ↦ omega arith ]

-- and so is each sum over firm hypotheses
pub firm_size : (weight : Fact Term → ℕ) → ((f : Fact Term) → weight f ≤ fact_size f) → (hs : List (Fact Term)) → total weight (firm hs) ≤ total fact_size hs
firm_size weight small [] = omega arith
firm_size weight small (h ∷ hs) =
    let later = firm_size weight small hs in
    let here = small h in
    elim (is_variable_known h) as (λ b. total weight (cond (not b) (h ∷ firm hs) (firm hs)) ≤ fact_size h + total fact_size hs) [ true ↦ omega arith | false ↦ omega arith ]

number_size : (p : Predicate) (hs : List (Fact Term)) → number_of p (firm hs) ≤ total fact_size hs
number_size p hs = firm_size (one_if p) (one_size p) hs

pub predicate_small : (p : Predicate) → predicate_number p ≤ 4
predicate_small features.Att = omega arith
predicate_small features.Mess = omega arith
predicate_small features.Tab = omega arith
predicate_small features.Ev = omega arith
predicate_small features.Mev = omega arith
predicate_small features.Bad = omega arith

pub features_fit : (c : Clause Term) → IsWithinLimit c → AllByRecursion (λ n. n < 2 ^ 16) (features_of c)
features_fit c small =
    let hs = c.hypotheses in
    let one : (p : Predicate) → number_of p (firm hs) < 2 ^ 16 = λ p. omega (arith, small, number_size p hs) in
    let d = predicate_small (predicate_of c.conclusion) in
    let last : AllByRecursion (λ n. n < 2 ^ 16) (predicate_number (predicate_of c.conclusion) ∷ (4 - predicate_number (predicate_of c.conclusion)) ∷ []) = (omega (arith, d), (omega (arith, d), tt)) in
    let sums : AllByRecursion (λ n. n < 2 ^ 16) (total fact_symbols (firm hs) ∷ fact_symbols c.conclusion ∷ []) = (omega (arith, small, firm_size fact_symbols fact_symbols_size hs), (omega (arith, small, fact_symbols_size c.conclusion), tt)) in
    let messages : number_of features.Mess (firm hs) + number_of features.Tab (firm hs) < 2 ^ 16 = omega (arith, small, number_size features.Mess hs, number_size features.Tab hs) in
    (one features.Att, (messages, (one features.Ev, (one features.Mev, (sums.0, (sums.1.0, last))))))
