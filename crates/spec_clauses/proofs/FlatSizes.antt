-- How many flat facts there are, and how large they are.
use Rattle.std.proofs.Common.{◌≡◌, ℕ, ◌+◌, ◌*◌, ◌≤◌, true, false, cond, List, [], ◌∷◌, ◌++◌, map, length, refl, ap, arith}
use Rattle.std.specs.Prelude.{flat_map}
use Rattle.std.proofs.lemmas.List.{length-map}
use Rattle.spec_trees.specs.Tree.{Trees, Leaf, Node, none, more, size, sizes}
use Rattle.spec_terms.specs.Term.{Sym, Term}
use Rattle.spec_clauses.specs.Diff.{diff_size}
use Rattle.spec_clauses.specs.Fact.{Fact, Att, Mess, Tab, Ev, Mev, Bad, Clause, total, fact_size, clause_size}
use Rattle.spec_clauses.specs.Flat.{is_data, parts, row_parts, flat, flat_parts}
use Rattle.spec_clauses.specs.Inclusion.{Has}
use Rattle.spec_clauses.proofs.Inclusion.{Has-map_source}
use Rattle.spec_clauses.proofs.NormKeeps.{total-pick}

total-append : {X : Type 0} (f : X → ℕ) (xs ys : List X) → total f (xs ++ ys) ≡ total f xs + total f ys
total-append f [] ys = omega arith
total-append f (x ∷ xs) ys = omega (arith, total-append f xs ys)

-- the parts of a term, and its data symbols, are no larger than it
mutual
  parts-size : (t : Term) → total size (parts t) ≤ size t
  parts-size (Leaf x) = omega arith
  parts-size (Node f args) =
      let row = row_parts-size args in
      elim (is_data f) as (λ b. total size (cond b (row_parts args) (Node f args ∷ [])) ≤ 1 + sizes args) [ true ↦ omega arith | false ↦ omega arith ]

  row_parts-size : (ts : Trees ℕ Sym) → total size (row_parts ts) ≤ sizes ts
  row_parts-size none = omega arith
  row_parts-size (more t ts) = omega (arith, parts-size t, row_parts-size ts, total-append size (parts t) (row_parts ts))

length-le-total : (ts : List Term) → length ts ≤ total size ts
length-le-total [] = omega arith
length-le-total (Leaf x ∷ ts) = omega (arith, length-le-total ts)
length-le-total (Node f args ∷ ts) = omega (arith, length-le-total ts)

known-size : (phase : ℕ) (ts : List Term) → total fact_size (map (Att phase) ts) ≡ length ts + total size ts
known-size phase [] = refl
known-size phase (t ∷ ts) = omega (arith, known-size phase ts)

-- at most as many facts as the fact has symbols, and twice its size in all
pub length-flat : (f : Fact Term) → length (flat f) ≤ fact_size f
length-flat (Att phase t) = omega (arith, length-map (parts t) (Att phase), length-le-total (parts t), parts-size t)
length-flat (Mess phase t u) = omega arith
length-flat (Tab e ts) = omega arith
length-flat (Ev e ts) = omega arith
length-flat (Mev e ts) = omega arith
length-flat (Bad ts) = omega arith

pub total-flat : (f : Fact Term) → total fact_size (flat f) ≤ 2 * fact_size f
total-flat (Att phase t) = omega (arith, known-size phase (parts t), length-le-total (parts t), parts-size t)
total-flat (Mess phase t u) = omega arith
total-flat (Tab e ts) = omega arith
total-flat (Ev e ts) = omega arith
total-flat (Mev e ts) = omega arith
total-flat (Bad ts) = omega arith

known-each : (phase n : ℕ) (ts : List Term) → total size ts ≤ n → (p : Fact Term) → Has (map (Att phase) ts) p → fact_size p ≤ 1 + n
known-each phase n ts fits p h =
    let source = Has-map_source (Att phase) ts p h in
    let same : fact_size p ≡ 1 + size source.0 = ap fact_size source.2 in
    let here = source.1 in
    omega (arith, total-pick size here.1)

-- and each is no larger than the fact
pub flat-each : (f p : Fact Term) → Has (flat f) p → fact_size p ≤ fact_size f
flat-each (Att phase t) p h = known-each phase (size t) (parts t) (parts-size t) p h
flat-each (Mess phase t u) p h = omega (arith, total-pick fact_size h.1)
flat-each (Tab e ts) p h = omega (arith, total-pick fact_size h.1)
flat-each (Ev e ts) p h = omega (arith, total-pick fact_size h.1)
flat-each (Mev e ts) p h = omega (arith, total-pick fact_size h.1)
flat-each (Bad ts) p h = omega (arith, total-pick fact_size h.1)

total-flats : (fs : List (Fact Term)) → total fact_size (flat_map flat fs) ≤ 2 * total fact_size fs
total-flats [] = omega arith
total-flats (f ∷ fs) = omega (arith, total-flat f, total-flats fs, total-append fact_size (flat f) (flat_map flat fs))

-- so with the parts of a clause
pub flat_parts-size : (c part : Clause Term) → Has (flat_parts c) part → clause_size part ≤ 2 * clause_size c
flat_parts-size c part h =
    let source = Has-map_source (λ f. record { hypotheses = flat_map flat c.hypotheses; diffs = c.diffs; conclusion = f }) (flat c.conclusion) part h in
    let same : clause_size part ≡ (fact_size source.0 + total fact_size (flat_map flat c.hypotheses)) + total diff_size c.diffs = ap clause_size source.2 in
    omega (arith, flat-each c.conclusion source.0 source.1, total-flats c.hypotheses)

pub length-flat_parts : (c : Clause Term) → length (flat_parts c) ≤ clause_size c
length-flat_parts c = omega (arith, length-map {B = Clause Term} (flat c.conclusion) (λ f. record { hypotheses = flat_map flat c.hypotheses; diffs = c.diffs; conclusion = f }), length-flat c.conclusion)
