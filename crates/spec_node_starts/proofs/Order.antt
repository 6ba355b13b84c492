-- The walk through a node completes the nodes behind those that are complete, in order, exactly where as many are complete as its start
-- asks for.
use Rattle.std.proofs.Common.{◌≡◌, ℕ, zero, suc, ◌<◌, ◌≤◌, ◌⊎◌, inl, inr, max, Bool, true, false, cond, ◌||◌, ◌==◌, nat_le, if◌then◌else◌, List, [], ◌∷◌, ◌++◌, length, map, take, refl, sym, ◌∙◌, ap, subst, arith}
use Rattle.std.specs.Prelude.{flat_map}
use Rattle.std.specs.List.{AllByRecursion}
use Rattle.std.proofs.lemmas.Bool.Decides.{nat_tests}
use Rattle.spec_trees.specs.Tree.{trees}
use Rattle.spec_terms.specs.Term.{Term}
use Rattle.spec_node_tables.specs.Table.{walk, walk_row}
use Rattle.spec_node_tables.specs.Nodes.{TableNode, Variable, Over, term_at, term_of}
use Rattle.spec_node_tables.specs.Text.{node_numbers}
use Rattle.spec_node_tables.specs.Order.{IsNumberOf}
use Rattle.spec_node_faults.specs.Clauses.{is_front, completed}
use Rattle.spec_node_starts.specs.Starts.{start_at, Row, through, through_row, start_behind}
use Rattle.spec_node_starts.specs.Tables.{IsNodeBehind, HaveStarts}
use Rattle.spec_node_starts.proofs.Runs.{stands_in, with_term, run, run-append, completed_more}
use Rattle.spec_node_starts.proofs.Fronts.{front_take, run_stays, front_next, take_next, stands_at, lacks_fewer}

row_walk : (ts : List Term) → walk_row (trees ts) ≡ flat_map walk ts
row_walk [] = refl
row_walk (t ∷ ts) = ap (λ zs. walk t ++ zs) (row_walk ts)

-- the arguments of a node, and then its term
node_walk : (ts : List Term) (n : TableNode) → walk (term_of ts n) ≡ flat_map walk (map (term_at ts) (node_numbers n)) ++ term_of ts n ∷ []
node_walk ts (Variable x) = refl
node_walk ts (Over f ns) = ap (λ zs. zs ++ term_of ts (Over f ns) ∷ []) (row_walk (map (term_at ts) ns))

pub either : {A B C : Type 0} → A ⊎ B → (A → C) → (B → C) → C
either (inl a) f g = f a
either (inr b) f g = g b

pub at_most : (m n : ℕ) → (m ≤ n) ⊎ (n < m)
at_most zero n = inl (omega arith)
at_most (suc m) zero = inr (omega arith)
at_most (suc m) (suc n) = either (at_most m n) (λ le. inl (omega (arith, le))) (λ more. inr (omega (arith, more)))

pub test_true : (m n : ℕ) → m ≤ n → nat_le m n ≡ true
test_true m n le = grind (arith, nat_tests)

pub test_false : (m n : ℕ) → n < m → nat_le m n ≡ false
test_false m n less = grind (arith, nat_tests)

module _ (ts : List Term) (ss : List ℕ) (is : HaveStarts ts ss) where
  -- from so many complete nodes through the node of that number
  abbrev visit : ℕ → ℕ → List Term
  visit k n = run (take k ts) (walk (term_at ts n))

  record Tells (n : ℕ) : Type 0 where
    small : start_at ss n < n
    again : (k : ℕ) → k ≤ length ts → n ≤ k → visit k n ≡ take k ts
    goes : (k : ℕ) → k < n → start_at ss n ≤ k → visit k n ≡ take n ts
    stops : (k : ℕ) → k < start_at ss n → is_front (visit k n) ts ≡ false

  -- where the walk through a row is, from k complete nodes on
  abbrev IsAt : ℕ → Row → List Term → Type 0
  IsAt k row now = ((row.least ≤ k) × (now ≡ take (max k row.last) ts)) ⊎ ((k < row.least) × (is_front now ts ≡ false))

  record Goes (k bound : ℕ) (row : Row) (now : List Term) : Type 0 where
    order : row.least ≤ row.last
    within : row.last ≤ bound
    come : IsAt k row now

  go_back : (k bound a : ℕ) (row : Row) (now : List Term) → k ≤ length ts → bound ≤ length ts → Goes k bound row now → a ≤ row.last → Tells a → Goes k bound row (run now (walk (term_at ts a)))
  go_back k bound a row now few short g le tells = record {
    order = g.order;
    within = g.within;
    come = either g.come
        (λ fits. inl (fits.0, ap (λ zs. run zs (walk (term_at ts a))) fits.1 ∙ tells.again (max k row.last) (omega (arith, few, short, g.within)) (omega (arith, le))))
        (λ wrong. inr (wrong.0, run_stays now (walk (term_at ts a)) ts wrong.1));
  }

  go_on : (k bound a : ℕ) (row : Row) (now : List Term) → k ≤ length ts → bound ≤ length ts → Goes k bound row now → row.last < a → a ≤ bound → start_at ss a ≤ row.last → Tells a
      → Goes k bound (record { least = row.least; last = a }) (run now (walk (term_at ts a)))
  go_on k bound a row now few short g later le starts tells = record {
    order = omega (arith, g.order, later);
    within = le;
    come = either g.come
        (λ fits. inl (
          fits.0,
          ap (λ zs. run zs (walk (term_at ts a))) fits.1 ∙ either (at_most a k)
              (λ done. let c : max k row.last ≡ k = omega (arith, later, done) in
              let d : max k a ≡ k = omega (arith, done) in
              ap (λ m. visit m a) c ∙ (tells.again k few done ∙ ap (λ m. take m ts) (sym d)))
              (λ new. let d : max k a ≡ a = omega (arith, new) in
              tells.goes (max k row.last) (omega (arith, later, new)) (omega (arith, starts)) ∙ ap (λ m. take m ts) (sym d)),
        ))
        (λ wrong. inr (wrong.0, run_stays now (walk (term_at ts a)) ts wrong.1));
  }

  go_anew : (k bound a : ℕ) (row : Row) (now : List Term) → k ≤ length ts → bound ≤ length ts → Goes k bound row now → row.last < a → a ≤ bound → row.last < start_at ss a → Tells a
      → Goes k bound (record { least = start_at ss a; last = a }) (run now (walk (term_at ts a)))
  go_anew k bound a row now few short g later le starts tells = record {
    order = omega (arith, tells.small);
    within = le;
    come = either g.come
        (λ fits. either (at_most (start_at ss a) k)
        (λ enough. let c : max k row.last ≡ k = omega (arith, starts, enough) in
        inl (
          enough,
          ap (λ zs. run zs (walk (term_at ts a))) fits.1 ∙ (ap (λ m. visit m a) c ∙ either (at_most a k)
              (λ done. let d : max k a ≡ k = omega (arith, done) in tells.again k few done ∙ ap (λ m. take m ts) (sym d))
              (λ new. let d : max k a ≡ a = omega (arith, new) in tells.goes k new enough ∙ ap (λ m. take m ts) (sym d))),
        ))
        (λ fewer. inr (fewer, ap (λ zs. is_front (run zs (walk (term_at ts a))) ts) fits.1 ∙ tells.stops (max k row.last) (omega (arith, starts, fewer)))))
        (λ wrong. inr (omega (arith, wrong.0, g.order, starts), run_stays now (walk (term_at ts a)) ts wrong.1));
  }

  abbrev Through : ℕ → ℕ → Row → List Term → ℕ → Type 0
  Through k bound row now a = Goes k bound row (run now (walk (term_at ts a)))

  abbrev anew : Row → ℕ → Bool → Row
  anew row a starts = if starts then record { least = row.least; last = a } else record { least = start_at ss a; last = a }

  abbrev again_or : Row → ℕ → Bool → Row
  again_or row a back = if back then row else anew row a (nat_le (start_at ss a) row.last)

  go_through : (k bound a : ℕ) (row : Row) (now : List Term) → k ≤ length ts → bound ≤ length ts → Goes k bound row now → a ≤ bound → Tells a → Goes k bound (through ss row a) (run now (walk (term_at ts a)))
  go_through k bound a row now few short g le tells = either (at_most a row.last)
      (λ back. subst (λ r. Through k bound r now a) (sym (ap (again_or row a) (test_true a row.last back))) (go_back k bound a row now few short g back tells))
      (λ later. subst (λ r. Through k bound r now a) (sym (ap (again_or row a) (test_false a row.last later)))
      (either (at_most (start_at ss a) row.last)
      (λ starts. subst (λ r. Through k bound r now a) (sym (ap (anew row a) (test_true (start_at ss a) row.last starts))) (go_on k bound a row now few short g later le starts tells))
      (λ starts. subst (λ r. Through k bound r now a) (sym (ap (anew row a) (test_false (start_at ss a) row.last starts))) (go_anew k bound a row now few short g later le starts tells))))

  go_row : (k bound : ℕ) (ns : List ℕ) (row : Row) (now : List Term) → k ≤ length ts → bound ≤ length ts → ((a : ℕ) → 1 ≤ a → a ≤ bound → Tells a) → AllByRecursion (IsNumberOf bound) ns
      → Goes k bound row now → Goes k bound (through_row ss row ns) (run now (flat_map walk (map (term_at ts) ns)))
  go_row k bound [] row now few short tells are g = g
  go_row k bound (a ∷ ns) row now few short tells (number, are) g =
      subst (λ zs. Goes k bound (through_row ss (through ss row a) ns) zs) (sym (run-append now (walk (term_at ts a)) (flat_map walk (map (term_at ts) ns))))
      (go_row k bound ns (through ss row a) (run now (walk (term_at ts a))) few short tells are (go_through k bound a row now few short g number.1 (tells a number.0 number.1)))

  -- the walk through the numbers of a node
  record Behind (k m : ℕ) (n : IsNodeBehind ts ss m) (row : Row) : Type 0 where
    goes : Goes k m row (run (take k ts) (flat_map walk (map (term_at ts) (node_numbers n.node))))
    visits : visit k (suc m) ≡ with_term (run (take k ts) (flat_map walk (map (term_at ts) (node_numbers n.node)))) (term_at ts (suc m))
    starts : start_at ss (suc m) ≡ start_behind m row

  behind : (k m : ℕ) → m < length ts → k ≤ length ts → ((a : ℕ) → 1 ≤ a → a ≤ m → Tells a) → (n : IsNodeBehind ts ss m) → Behind k m n (through_row ss record { least = 0; last = 0 } (node_numbers n.node))
  behind k m below few tells n =
      let ns = node_numbers n.node in
      record {
        goes = go_row k m ns record { least = 0; last = 0 } (take k ts) few (omega (arith, below)) tells n.numbers
            record { order = omega arith; within = omega arith; come = inl (omega arith, (let c : k ≡ max k 0 = omega arith in ap (λ j. take j ts) c)) };
        visits = ap (λ t. run (take k ts) (walk t)) n.term
            ∙ (ap (run (take k ts)) (node_walk ts n.node)
            ∙ (run-append (take k ts) (flat_map walk (map (term_at ts) ns)) (term_of ts n.node ∷ [])
            ∙ ap (with_term (run (take k ts) (flat_map walk (map (term_at ts) ns)))) (sym n.term)));
        starts = n.start;
      }

  last_is : (m : ℕ) (row : Row) → row.last ≡ m → start_behind m row ≡ row.least
  last_is m row e = let same : (row.last == m) ≡ true = grind (arith, nat_tests) in ap (λ b. if b then row.least else m) same

  last_isnt : (m : ℕ) (row : Row) → row.last < m → start_behind m row ≡ m
  last_isnt m row less = let other : (row.last == m) ≡ false = grind (arith, nat_tests) in ap (λ b. if b then row.least else m) other

  -- a new term behind the first m
  put_next : (m : ℕ) (now : List Term) → m < length ts → (n : IsNodeBehind ts ss m) → now ≡ take m ts → with_term now (term_at ts (suc m)) ≡ take (suc m) ts
  put_next m now below n same =
      ap (λ zs. with_term zs (term_at ts (suc m))) same
      ∙ (ap (λ b. cond b (take m ts) (take m ts ++ term_at ts (suc m) ∷ [])) n.new ∙ take_next ts m below)

  put_again : (k m : ℕ) (now : List Term) → m < length ts → suc m ≤ k → now ≡ take k ts → with_term now (term_at ts (suc m)) ≡ take k ts
  put_again k m now below le same =
      ap (λ zs. with_term zs (term_at ts (suc m))) same
      ∙ ap (λ b. cond b (take k ts) (take k ts ++ term_at ts (suc m) ∷ [])) (stands_at ts m k (omega (arith, le)) below)

  -- a term that isn't the next
  put_wrong : (c m : ℕ) (now : List Term) → m < length ts → c < m → (n : IsNodeBehind ts ss m) → now ≡ take c ts → is_front (with_term now (term_at ts (suc m))) ts ≡ false
  put_wrong c m now below less n same =
      ap (λ zs. is_front (with_term zs (term_at ts (suc m))) ts) same
      ∙ (ap (λ b. is_front (cond b (take c ts) (take c ts ++ term_at ts (suc m) ∷ [])) ts) (lacks_fewer ts c m (term_at ts (suc m)) (omega (arith, less)) n.new) ∙ by (is_front (take c ts ++ term_at ts (suc m) ∷ []) ts) refl)
    where
      by : (b : Bool) → is_front (take c ts ++ term_at ts (suc m) ∷ []) ts ≡ b → b ≡ false
      by false e = refl
      by true e =
          let next = front_next ts c (term_at ts (suc m)) (omega (arith, less, below)) e in
          let stands : stands_in (take m ts) (term_at ts (suc m)) ≡ true = ap (stands_in (take m ts)) next.1 ∙ stands_at ts c m less next.0 in
          let never : true ≡ false = sym stands ∙ n.new in absurd (cc)

  put_stays : (now : List Term) (t : Term) → is_front now ts ≡ false → is_front (with_term now t) ts ≡ false
  put_stays now t e = run_stays now (t ∷ []) ts e

  abbrev row_behind : (m : ℕ) → IsNodeBehind ts ss m → Row
  row_behind m n = through_row ss record { least = 0; last = 0 } (node_numbers n.node)

  abbrev now_behind : (k m : ℕ) → IsNodeBehind ts ss m → List Term
  now_behind k m n = run (take k ts) (flat_map walk (map (term_at ts) (node_numbers n.node)))

  last_cases : (m : ℕ) (row : Row) → row.last ≤ m → (row.last ≡ m) ⊎ (row.last < m)
  last_cases m row le = either (at_most m row.last) (λ more. inl (omega (arith, more, le))) (λ less. inr less)

  start_small : (m : ℕ) → m < length ts → ((a : ℕ) → 1 ≤ a → a ≤ m → Tells a) → (n : IsNodeBehind ts ss m) → start_at ss (suc m) ≤ m
  start_small m below tells n = let first = behind 0 m below (omega arith) tells n in either (last_cases m (row_behind m n) first.goes.within)
      (λ last. omega (arith, first.starts, last_is m (row_behind m n) last, first.goes.order, first.goes.within))
      (λ less. omega (arith, first.starts, last_isnt m (row_behind m n) less))

  again_tells : (m k : ℕ) → m < length ts → ((a : ℕ) → 1 ≤ a → a ≤ m → Tells a) → (n : IsNodeBehind ts ss m) → k ≤ length ts → suc m ≤ k → visit k (suc m) ≡ take k ts
  again_tells m k below tells n few le = let b = behind k m below few tells n in b.visits ∙ put_again k m (now_behind k m n) below le (either b.goes.come
      (λ fits. let c : max k (row_behind m n).last ≡ k = omega (arith, b.goes.within, le) in fits.1 ∙ ap (λ j. take j ts) c)
      (λ wrong. absurd (omega (arith, wrong.0, b.goes.order, b.goes.within, le))))

  goes_tells : (m k : ℕ) → m < length ts → ((a : ℕ) → 1 ≤ a → a ≤ m → Tells a) → (n : IsNodeBehind ts ss m) → k < suc m → start_at ss (suc m) ≤ k → visit k (suc m) ≡ take (suc m) ts
  goes_tells m k below tells n less starts = let b = behind k m below (omega (arith, less, below)) tells n in b.visits ∙ put_next m (now_behind k m n) below n (either b.goes.come
      (λ fits. let c : max k (row_behind m n).last ≡ m = either (last_cases m (row_behind m n) b.goes.within)
      (λ last. omega (arith, last, less)) (λ fewer. omega (arith, fewer, less, starts, b.starts, last_isnt m (row_behind m n) fewer)) in fits.1 ∙ ap (λ j. take j ts) c)
      (λ wrong. absurd (either (last_cases m (row_behind m n) b.goes.within)
      (λ last. omega (arith, wrong.0, starts, b.starts, last_is m (row_behind m n) last)) (λ fewer. omega (arith, wrong.0, b.goes.order, fewer, less, starts, b.starts, last_isnt m (row_behind m n) fewer)))))

  stops_tells : (m k : ℕ) → m < length ts → ((a : ℕ) → 1 ≤ a → a ≤ m → Tells a) → (n : IsNodeBehind ts ss m) → k < start_at ss (suc m) → is_front (visit k (suc m)) ts ≡ false
  stops_tells m k below tells n fewer = let b = behind k m below (omega (arith, fewer, start_small m below tells n, below)) tells n in ap (λ zs. is_front zs ts) b.visits ∙ either b.goes.come
      (λ fits. put_wrong (max k (row_behind m n).last) m (now_behind k m n) below (either (last_cases m (row_behind m n) b.goes.within)
      (λ last. absurd (omega (arith, fits.0, fewer, b.starts, last_is m (row_behind m n) last))) (λ less. omega (arith, less, fewer, b.starts, last_isnt m (row_behind m n) less))) n fits.1)
      (λ wrong. put_stays (now_behind k m n) (term_at ts (suc m)) wrong.1)

  next_tells : (m : ℕ) → m < length ts → ((a : ℕ) → 1 ≤ a → a ≤ m → Tells a) → Tells (suc m)
  next_tells m below tells = record {
    small = omega (arith, start_small m below tells (is.each m below));
    again = λ k few le. again_tells m k below tells (is.each m below) few le;
    goes = λ k less starts. goes_tells m k below tells (is.each m below) less starts;
    stops = λ k fewer. stops_tells m k below tells (is.each m below) fewer;
  }

  all_tell : (most n : ℕ) → n ≤ most → most ≤ length ts → 1 ≤ n → Tells n
  all_tell zero n le short some = absurd (omega (arith, le, some))
  all_tell (suc most) zero le short some = absurd (omega (arith, some))
  all_tell (suc most) (suc m) le short some = next_tells m (omega (arith, le, short)) (λ a first last. all_tell most a (omega (arith, last, le)) (omega (arith, short)) first)

  tells_of : (n : ℕ) → 1 ≤ n → n ≤ length ts → Tells n
  tells_of n some within = all_tell (length ts) n within (omega arith) some

  visited : (seen : List Term) (k n : ℕ) → completed seen ≡ take k ts → completed (seen ++ term_at ts n ∷ []) ≡ visit k n
  visited seen k n so_far = completed_more seen (term_at ts n) ∙ ap (λ zs. run zs (walk (term_at ts n))) so_far

  pub front_where : (seen : List Term) (k n : ℕ) → completed seen ≡ take k ts → k ≤ length ts → 1 ≤ n → n ≤ length ts
      → is_front (completed (seen ++ term_at ts n ∷ [])) ts ≡ (nat_le n k || nat_le (start_at ss n) k)
  front_where seen k n so_far few some within =
      let tells = tells_of n some within in
      ap (λ zs. is_front zs ts) (visited seen k n so_far) ∙ either (at_most n k)
      (λ back. ap (λ zs. is_front zs ts) (tells.again k few back) ∙ (front_take ts k ∙ sym (ap (λ b. b || nat_le (start_at ss n) k) (test_true n k back))))
      (λ on. either (at_most (start_at ss n) k)
      (λ starts. ap (λ zs. is_front zs ts) (tells.goes k on starts) ∙ (front_take ts n ∙ sym (ap (λ b. b || nat_le (start_at ss n) k) (test_false n k on) ∙ test_true (start_at ss n) k starts)))
      (λ fewer. tells.stops k fewer ∙ sym (ap (λ b. b || nat_le (start_at ss n) k) (test_false n k on) ∙ test_false (start_at ss n) k fewer)))

  pub completed_on : (seen : List Term) (k n : ℕ) → completed seen ≡ take k ts → k ≤ length ts → 1 ≤ n → n ≤ length ts → (nat_le n k || nat_le (start_at ss n) k) ≡ true
      → completed (seen ++ term_at ts n ∷ []) ≡ take (if nat_le n k then k else n) ts
  completed_on seen k n so_far few some within next =
      let tells = tells_of n some within in
      visited seen k n so_far ∙ either (at_most n k)
      (λ back. tells.again k few back ∙ ap (λ b. take (if b then k else n) ts) (sym (test_true n k back)))
      (λ on. tells.goes k on (either (at_most (start_at ss n) k) (λ starts. starts)
      (λ fewer. let never : true ≡ false = sym next ∙ (ap (λ b. b || nat_le (start_at ss n) k) (test_false n k on) ∙ test_false (start_at ss n) k fewer) in absurd (cc)))
      ∙ ap (λ b. take (if b then k else n) ts) (sym (test_false n k on)))
