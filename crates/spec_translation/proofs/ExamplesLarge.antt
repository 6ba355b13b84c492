-- Translations of files whose terms double with each `let`: the largest that is within the limit, and the first that is not.
use Rattle.std.proofs.Common.{◌≡◌, ◌∙◌, ℕ, zero, suc, ◌+◌, ◌<◌, ◌≤◌, Bool, true, false, not, ◌||◌, cond, nat_eq, Some, None, [], ◌∷◌, ◌++◌, refl, ap, sym, subst, arith, ne_eqb}
use Rattle.std.specs.Prelude.{nat_le, unwrap_or}
use Rattle.std.specs.List.{list_any}
use Rattle.std.proofs.lemmas.Bool.Decides.{nat_tests}
use Rattle.std.proofs.lemmas.List.Folds.{list_any-append}
use Rattle.spec_trees.specs.Tree.{Leaf, node, size, bind}
use Rattle.spec_calculus.specs.Syntax.{Name, Variable, Bind, Process, Nil, Output, Let, Secret, Protocol}
use Rattle.spec_calculus.specs.Syntax as calculus
use Rattle.spec_calculus.specs.Points.{point_after}
use Rattle.spec_calculus.specs.Values.{same_name}
use Rattle.spec_terms.specs.Term.{Ctor, Term, Subst}
use Rattle.spec_terms.proofs.Replace.{eqb_self}
use Rattle.spec_clauses.specs.Fact.{Att, Bad, clause_size}
use Rattle.spec_clauses.specs.Variables.{clause_variables}
use Rattle.spec_clauses.specs.Norm.{numbering, norms}
use Rattle.spec_clauses.specs.Limits.{is_large_raw, IsWithinLimit}
use Rattle.spec_clauses.proofs.Limits.{large_raw-decides}
use Rattle.spec_translation.specs.Conversion.{StandsFor, Scope, found_in, term_in, free_term}
use Rattle.spec_translation.specs.Visit.{Visit, bound, is_large_term, is_large_visit, evaluates_large, sent, raw_clause}
use Rattle.spec_translation.specs.Course.{Outcome, Done, TooLarge, Then, Unless, Adds}
use Rattle.spec_translation.specs.Visited.{Visited}
use Rattle.spec_translation.specs.Translation.{IsTranslation, Clauses, LargeAt}
use Rattle.spec_translation.proofs.ExampleWords.{public_name, private_name, constructor_of, name, variable, apply, clause, x, free, own_names, hears, says}
use Rattle.spec_translation.proofs.PlainLet.{plain_let_visited}

-- what the lets double: the name c first, and then what the last one bound
abbrev last : ℕ → calculus.Term
last zero = name 1
last (suc i) = variable (suc i)

-- so many lets, behind i others: let x(i+1) = h(xi,xi) in .. out(c,x)
abbrev lets : ℕ → ℕ → Process
lets zero i = Output (name 1) (last i) Nil
lets (suc count) i = Let (Leaf (Bind (suc i))) (Leaf (apply 1 (last i ∷ last i ∷ []))) (lets count (suc i)) Nil

-- free c. private free s. fun h/2. query attacker(s). process let x1 = h(c,c) in let x2 = h(x1,x1) in .. out(c,xK)
abbrev doubling : ℕ → Protocol
doubling count = record {
  frees = public_name 99 ∷ private_name 115 ∷ [];
  constructors = constructor_of 104 2 ∷ [];
  destructors = [];
  events = [];
  tables = [];
  queries = Secret (name 2) 0 ∷ [];
  main = lets count 0;
}

-- the term that the i-th let binds, and how large it is
abbrev pub doubled : ℕ → Term
doubled zero = free 1
doubled (suc i) = node (Ctor 1) (doubled i ∷ doubled i ∷ [])

abbrev pub weight : ℕ → ℕ
weight zero = 1
weight (suc i) = 1 + (weight i + (weight i + 0))

doubled-size : (i : ℕ) → size (doubled i) ≡ weight i
doubled-size zero = refl
doubled-size (suc i) = ap (λ n. 1 + (n + (n + 0))) (doubled-size i)

doubled-closed : (s : Subst) (i : ℕ) → bind s (doubled i) ≡ doubled i
doubled-closed s zero = refl
doubled-closed s (suc i) = ap (λ t. node (Ctor 1) (t ∷ t ∷ [])) (doubled-closed s i)

-- what is bound behind i lets
abbrev scope_behind : ℕ → Scope
scope_behind zero = []
scope_behind (suc i) = scope_behind i ++ record { name = Variable (suc i); term = doubled (suc i) } ∷ []

abbrev behind : ℕ → Visit
behind i = record { scope = scope_behind i; hypotheses = []; diffs = []; messages = []; sessions = []; phase = 0 }

found_last : (scope : Scope) (b : StandsFor) (n : Name) → found_in scope n ≡ None → found_in (scope ++ b ∷ []) n ≡ found_in (b ∷ []) n
found_last [] b n e = refl
found_last (c ∷ cs) b n e = go (same_name c.name n) e (found_last cs b n) where
  go : (t : Bool) → cond t (Some c.term) (found_in cs n) ≡ None → (found_in cs n ≡ None → found_in (cs ++ b ∷ []) n ≡ found_in (b ∷ []) n) → cond t (Some c.term) (found_in (cs ++ b ∷ []) n) ≡ found_in (b ∷ []) n
  go true k others = cc
  go false k others = others k

not_yet : (i j : ℕ) → i < j → found_in (scope_behind i) (Variable j) ≡ None
not_yet zero j l = refl
not_yet (suc i) j l =
    let other : nat_eq (suc i) j ≡ false = ne_eqb (suc i) j (λ e. omega arith) in
    found_last (scope_behind i) (record { name = Variable (suc i); term = doubled (suc i) }) (Variable j) (not_yet i j (omega arith))
    ∙ (λ k. cond (other k) (Some (doubled (suc i))) None)

found_bound : (i : ℕ) → found_in (scope_behind (suc i)) (Variable (suc i)) ≡ Some (doubled (suc i))
found_bound i =
    let same = eqb_self (suc i) in
    found_last (scope_behind i) (record { name = Variable (suc i); term = doubled (suc i) }) (Variable (suc i)) (not_yet i (suc i) (omega arith))
    ∙ (λ k. cond (same k) (Some (doubled (suc i))) None)

module _ (P : Protocol) where
  last_term : (i : ℕ) → term_in P (scope_behind i) (last i) ≡ doubled i
  last_term zero = refl
  last_term (suc i) = ap (λ o. unwrap_or o (free_term 0)) (found_bound i)

term_small : (i : ℕ) → weight i ≤ 16384 → is_large_term (doubled i) ≡ false
term_small i fits = let e = doubled-size i in let test : nat_le (size (doubled i)) 16384 ≡ true = grind (arith, nat_tests) in ap not test

term_large : (i : ℕ) → 16384 < weight i → is_large_term (doubled i) ≡ true
term_large i over = let e = doubled-size i in let test : nat_le (size (doubled i)) 16384 ≡ false = grind (arith, nat_tests) in ap not test

scope_small : (i : ℕ) → weight i ≤ 16384 → list_any (λ (b : StandsFor). is_large_term b.term) (scope_behind i) ≡ false
scope_small zero fits = refl
scope_small (suc i) fits =
    let others = scope_small i (omega arith) in
    let first = term_small (suc i) fits in
    list_any-append (λ (b : StandsFor). is_large_term b.term) (scope_behind i) (record { name = Variable (suc i); term = doubled (suc i) } ∷ [])
    ∙ (λ k. others k || (first k || false))

visit_small : (i : ℕ) → weight i ≤ 16384 → is_large_visit (behind i) ≡ false
visit_small i fits = ap (λ b. b || false) (scope_small i fits)

weight_grows : (count i : ℕ) → weight i ≤ weight (count + i)
weight_grows zero i = let same : 0 + i ≡ i = omega arith in let e = ap weight same in omega arith
weight_grows (suc count) i =
    let same : suc count + i ≡ suc (count + i) = omega arith in
    let e : weight (suc count + i) ≡ weight (suc (count + i)) = ap weight same in
    let below = weight_grows count i in omega arith

-- the raw clause of the output is flat, and its own norm
own_norms : (i : ℕ) → norms (clause [] (Att 0 (doubled i))) ≡ clause [] (Att 0 (doubled i)) ∷ []
own_norms zero = refl
own_norms (suc i) =
    let closed = doubled-closed (numbering (clause_variables (clause [] (Att 0 (doubled (suc i)))))) (suc i) in
    λ k. clause [] (Att 0 (closed k)) ∷ []

raw_small : (i : ℕ) → weight i ≤ 16383 → is_large_raw (clause [] (Att 0 (doubled i))) ≡ false
raw_small zero fits = refl
raw_small (suc i) fits =
    let c = clause [] (Att 0 (doubled (suc i))) in
    let e = doubled-size (suc i) in
    let within : IsWithinLimit c = omega arith in
    (large_raw-decides c).1 (within, (within, tt))

-- the visits of a file of so many lets
module _ (total : ℕ) where
  abbrev P : Protocol
  P = doubling total

  let_term : (i : ℕ) → term_in P (scope_behind i) (apply 1 (last i ∷ last i ∷ [])) ≡ doubled (suc i)
  let_term i = let e = last_term P i in λ k. node (Ctor 1) (e k ∷ e k ∷ [])

  let_evaluates : (i : ℕ) (next : Process) → evaluates_large P (behind i) (Let (Leaf (Bind (suc i))) (Leaf (apply 1 (last i ∷ last i ∷ []))) next Nil) ≡ is_large_term (doubled (suc i)) || false
  let_evaluates i next = ap (λ t. is_large_term t || false) (let_term i)

  -- one let that is within the limit
  one_let : (i : ℕ) (next : Process) (point left : ℕ) (out : Outcome) → weight (suc i) ≤ 16384
      → Then (Visited P next (point + 1) (behind (suc i))) (Visited P Nil (point_after (point + 1) next) (behind i)) left out
      → Visited P (Let (Leaf (Bind (suc i))) (Leaf (apply 1 (last i ∷ last i ∷ []))) next Nil) point (behind i) (suc left) out
  one_let i next point left out fits below =
      let e = let_term i in
      let same : bound (behind i) (suc i) (term_in P (scope_behind i) (apply 1 (last i ∷ last i ∷ []))) ≡ behind (suc i) = ap (bound (behind i) (suc i)) e in
      plain_let_visited P (behind i) (suc i) (apply 1 (last i ∷ last i ∷ [])) next point left out
      (let_evaluates i next ∙ ap (λ b. b || false) (term_small (suc i) fits))
      (ap is_large_visit same ∙ visit_small (suc i) fits)
      (subst (λ w. Then (Visited P next (point + 1) w) (Visited P Nil (point_after (point + 1) next) (behind i)) left out) (sym same) below)

  -- the output behind them
  output_visited : (i point rest : ℕ) → weight i ≤ 16383 → Visited P (lets 0 i) point (behind i) (suc (suc rest)) (Done (clause [] (Att 0 (doubled i)) ∷ []) rest)
  output_visited i point rest fits =
      let e = last_term P i in
      let evaluated : evaluates_large P (behind i) (Output (name 1) (last i) Nil) ≡ false = ap (λ t. is_large_term t || false) e ∙ ap (λ b. b || false) (term_small i (omega arith)) in
      let same : raw_clause (behind i) (sent P 0 (free 1) (term_in P (scope_behind i) (last i))) ≡ clause [] (Att 0 (doubled i)) = λ k. clause [] (Att 0 (e k)) in
      let small : is_large_raw (raw_clause (behind i) (sent P 0 (free 1) (term_in P (scope_behind i) (last i)))) ≡ false = ap is_large_raw same ∙ raw_small i fits in
      let added : norms (raw_clause (behind i) (sent P 0 (free 1) (term_in P (scope_behind i) (last i)))) ≡ clause [] (Att 0 (doubled i)) ∷ [] = ap norms same ∙ own_norms i in
      let out = Done (clause [] (Att 0 (doubled i)) ∷ []) rest in
      let done : Adds (clause [] (Att 0 (doubled i)) ∷ []) (Visited P Nil (point + 1) (behind i)) (suc rest) out = (Done [] rest, refl, refl) in
      let whole : Adds (norms (raw_clause (behind i) (sent P 0 (free 1) (term_in P (scope_behind i) (last i))))) (Visited P Nil (point + 1) (behind i)) (suc rest) out = subst (λ cs. Adds cs (Visited P Nil (point + 1) (behind i)) (suc rest) out) (sym added) done in
      let large : (evaluates_large P (behind i) (Output (name 1) (last i) Nil) || is_large_raw (raw_clause (behind i) (sent P 0 (free 1) (term_in P (scope_behind i) (last i))))) ≡ false = λ k. evaluated k || small k in
      subst (λ b. Unless b point (Adds (norms (raw_clause (behind i) (sent P 0 (free 1) (term_in P (scope_behind i) (last i))))) (Visited P Nil (point + 1) (behind i))) (suc rest) out) (sym large) whole

  -- how many visits so many lets, their else branches and the output take
  abbrev lefts : ℕ → ℕ → ℕ
  lefts zero rest = suc (suc rest)
  lefts (suc count) rest = suc (lefts count (suc rest))

  lets_visited : (count i point rest : ℕ) → weight (count + i) ≤ 16383 → Visited P (lets count i) point (behind i) (lefts count rest) (Done (clause [] (Att 0 (doubled (count + i))) ∷ []) rest)
  lets_visited zero i point rest fits =
      let same : 0 + i ≡ i = omega arith in
      let here : weight i ≤ 16383 = subst (λ n. weight n ≤ 16383) same fits in
      subst (λ n. Visited P (lets 0 i) point (behind i) (suc (suc rest)) (Done (clause [] (Att 0 (doubled n)) ∷ []) rest)) (sym same) (output_visited i point rest here)
  lets_visited (suc count) i point rest fits =
      let same : count + suc i ≡ suc count + i = omega arith in
      let there : weight (count + suc i) ≤ 16383 = subst (λ n. weight n ≤ 16383) (sym same) fits in
      let here = weight_grows count (suc i) in
      let added = clause [] (Att 0 (doubled (count + suc i))) ∷ [] in
      let below = lets_visited count (suc i) (point + 1) (suc rest) there in
      let whole = one_let i (lets count (suc i)) point (lefts count (suc rest)) (Done added rest) (omega arith) (Done added (suc rest), below, (Done [] rest, refl, refl)) in
      subst (λ n. Visited P (lets (suc count) i) point (behind i) (lefts (suc count) rest) (Done (clause [] (Att 0 (doubled n)) ∷ []) rest)) same whole

  -- the point of a let behind so many others
  abbrev point_behind : ℕ → ℕ → ℕ
  point_behind zero point = point
  point_behind (suc count) point = point_behind count (point + 1)

  abbrev visits_behind : ℕ → ℕ → ℕ
  visits_behind zero left = suc left
  visits_behind (suc count) left = suc (visits_behind count left)

  -- so many lets, and one more, with others below it
  abbrev lets_behind : ℕ → ℕ → ℕ → Process
  lets_behind zero more i = lets (suc more) i
  lets_behind (suc count) more i = Let (Leaf (Bind (suc i))) (Leaf (apply 1 (last i ∷ last i ∷ []))) (lets_behind count more (suc i)) Nil

  large_visited : (count more i point left : ℕ) → weight (count + i) ≤ 16384 → 16384 < weight (suc count + i) → Visited P (lets_behind count more i) point (behind i) (visits_behind count left) (TooLarge (point_behind count point))
  large_visited zero more i point left fits over =
      let same : suc 0 + i ≡ suc i = omega arith in
      let here : 16384 < weight (suc i) = subst (λ n. 16384 < weight n) same over in
      let next = lets more (suc i) in
      let evaluated : evaluates_large P (behind i) (Let (Leaf (Bind (suc i))) (Leaf (apply 1 (last i ∷ last i ∷ []))) next Nil) ≡ true = let_evaluates i next ∙ ap (λ b. b || false) (term_large (suc i) here) in
      rw evaluated refl
  large_visited (suc count) more i point left fits over =
      let same : count + suc i ≡ suc count + i = omega arith in
      let next_same : suc count + suc i ≡ suc (suc count) + i = omega arith in
      let there : weight (count + suc i) ≤ 16384 = subst (λ n. weight n ≤ 16384) (sym same) fits in
      let beyond : 16384 < weight (suc count + suc i) = subst (λ n. 16384 < weight n) (sym next_same) over in
      let here = weight_grows count (suc i) in
      let below = large_visited count more (suc i) (point + 1) left there beyond in
      one_let i (lets_behind count more (suc i)) point (visits_behind count left) (TooLarge (point_behind count (point + 1))) (omega arith) (TooLarge (point_behind count (point + 1)), below, refl)

-- Of thirteen lets the output's clause has 16,384 symbols.
pub thirteen_are_translated : IsTranslation (doubling 13) (Secret (name 2) 0) (Clauses (
    clause [] (Att 0 (free 1)) ∷ own_names
    ∷ clause (Att 0 (x 0) ∷ Att 0 (x 1) ∷ []) (Att 0 (node (Ctor 1) (x 0 ∷ x 1 ∷ [])))
    ∷ hears ∷ says
    ∷ clause [] (Att 0 (doubled 13))
    ∷ clause (Att 0 (free 2) ∷ []) (Bad []) ∷ []))
thirteen_are_translated = (Done (clause [] (Att 0 (doubled 13)) ∷ []) 65508, lets_visited 13 13 0 1 65508 (omega arith), refl)

its_size : clause_size (clause [] (Att 0 (doubled 13))) ≡ 16384
its_size = ap (λ n. 1 + n + 0) (doubled-size 13)

-- With a fourteenth the translation is large at the fourteenth's point.
pub fourteen_are_large : IsTranslation (doubling 14) (Secret (name 2) 0) (LargeAt 14)
fourteen_are_large = (TooLarge 14, large_visited 14 13 0 0 1 65522 (omega arith) (omega arith), refl)
