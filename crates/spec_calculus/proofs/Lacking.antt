-- Configurations in whose values no name passes a test.
use Rattle.std.proofs.Common.{◌≡◌, ℕ, zero, suc, ◌+◌, Bool, true, false, ◌||◌, nat_eq, nat_lt, cond, List, [], ◌∷◌, ◌++◌, map, length, Option, None, Some, IfSome, option_and_then, option_map, is_some, refl, ◌∙◌}
use Rattle.std.specs.List.{AllByRecursion, list_any}
use Rattle.spec_trees.specs.Tree.{Trees, Leaf, Node, none, more, trees, items_of, some_leaf, some_leaves}
use Rattle.spec_trees.proofs.Occurrence.{or_false, some_leaf-bind, some_leaf-never}
use Rattle.spec_calculus.specs.Syntax.{Name, Free, Made, Variable, Symbol, Term, Hole, Bind, Equal, Pattern, Head, Builds, Calls, Expression, Rule, Ruled, Process, Nil, Output, Input, Parallel, Replication, New, Let, Event, Phase, Insert, Get, Condition, Protocol}
use Rattle.spec_calculus.specs.Points.{numbered, nodes, point_after, greatest_phase}
use Rattle.spec_calculus.specs.Values.{Atom, FreeName, MadeName, AttackerName, Value, Environment, same_name, same_symbol, same_value, same_values, bound_to, value_of_bound, value_of_name, value_of, values_of}
use Rattle.spec_calculus.specs.Matching.{matched, matched_row, places, places_row, instance_of, rule_value, rules_of}
use Rattle.spec_calculus.specs.Tables.{Held, row_pattern, row_value, if_met, meets, row_matched, matched_entry}
use Rattle.spec_calculus.specs.Choices.{choices, choice_at, same_label, label_of, head_value, ruled_value, ruled_values, value_at, values_at}
use Rattle.spec_calculus.specs.Runs.{Thread, At, Ended, Configuration, Step, Build, Reduce, Part, Fresh, Split, Copy, Make, Pass, Hear, Say, Take, Fail, Mark, Next, Put, Fetch, Miss, acts, acting, knows, learns, goes_on, begins, known_values, can_build, built, is_data, part_of, received, after_split, after_copy, after_make, after_receipt, after_pass, after_hear, after_say, after_take, after_fail, after_mark, after_put, after_fetch, after_miss, at_phase, enters, raised, after_step}
use Rattle.spec_calculus.specs.Absence.{some_term, some_pattern, some_side, some_expression, some_name}
use Rattle.spec_calculus.specs.Standing.{Lacks, EnvironmentLacks, ThreadLacks, EventLacks, EntryLacks, IsLacking}
use Rattle.spec_calculus.proofs.Items.{each-append, each-numbered, each-map, each-weaker, each-replaced, each-found, each-holds, if_some-is, if_some-choice, if_some-cond, if_some-unwrap, if_some-then, if_some-map}
use Rattle.spec_calculus.proofs.Leaves.{some_leaf-weaker}
use Rattle.spec_calculus.proofs.Choices.{IsOver, IsRowOver, choices_over, each_leaf_fails}

-- where no term of a process has a leaf that passes, none of a node of it has one
pub nodes_lack : (test : Name → Bool) (process : Process) → some_name test process ≡ false → AllByRecursion (λ node. some_name test node ≡ false) (nodes process)
nodes_lack test Nil h = (h, tt)
nodes_lack test (Output channel message next) h =
    (h, nodes_lack test next (or_false (some_leaf test channel || some_leaf test message) (some_name test next) h).1)
nodes_lack test (Input channel pattern next) h =
    (h, nodes_lack test next (or_false (some_leaf test channel || some_pattern test pattern) (some_name test next) h).1)
nodes_lack test (Parallel left right) h =
    let parts = or_false (some_name test left) (some_name test right) h in
    (h, each-append (λ node. some_name test node ≡ false) (nodes left) (nodes right) (nodes_lack test left parts.0) (nodes_lack test right parts.1))
nodes_lack test (Replication copied) h = (h, nodes_lack test copied h)
nodes_lack test (New word next) h = (h, nodes_lack test next h)
nodes_lack test (Let pattern expression next otherwise) h =
    let parts = or_false (some_pattern test pattern || some_expression test expression || some_name test next) (some_name test otherwise) h in
    let front = or_false (some_pattern test pattern || some_expression test expression) (some_name test next) parts.0 in
    (h, each-append (λ node. some_name test node ≡ false) (nodes next) (nodes otherwise) (nodes_lack test next front.1) (nodes_lack test otherwise parts.1))
nodes_lack test (Event performed next) h = (h, nodes_lack test next (or_false (some_term test performed.arguments) (some_name test next) h).1)
nodes_lack test (Phase number next) h = (h, nodes_lack test next h)
nodes_lack test (Insert table arguments next) h = (h, nodes_lack test next (or_false (some_term test arguments) (some_name test next) h).1)
nodes_lack test (Get table patterns condition next otherwise) h =
    let parts = or_false (some_pattern test (row_pattern patterns) || some_side test condition || some_name test next) (some_name test otherwise) h in
    let front = or_false (some_pattern test (row_pattern patterns) || some_side test condition) (some_name test next) parts.0 in
    (h, each-append (λ node. some_name test node ≡ false) (nodes next) (nodes otherwise) (nodes_lack test next front.1) (nodes_lack test otherwise parts.1))

-- no name that the step makes passes the test
abbrev pub MakesNone : (Atom → Bool) → Configuration → Step → Type 0
MakesNone p c Fresh = p (AttackerName c.next) ≡ false
MakesNone p c (Make i) = (q : ℕ) → p (MadeName q c.next) ≡ false
MakesNone p c step = Unit {0}

-- rows and lists of values
module _ (p : Atom → Bool) where
  pub row_lacks : (vs : List Value) → AllByRecursion (Lacks p) vs → some_leaves p (trees vs) ≡ false
  row_lacks [] h = refl
  row_lacks (v ∷ vs) h = let a = h.0 in let b = row_lacks vs h.1 in cc

  pub items_lack : (vs : Trees Atom Symbol) → some_leaves p vs ≡ false → AllByRecursion (Lacks p) (items_of vs)
  items_lack none h = tt
  items_lack (more v vs) h = let parts = or_false (some_leaf p v) (some_leaves p vs) h in (parts.0, items_lack vs parts.1)

  pub built_lacks : (f : ℕ) (vs : List Value) → AllByRecursion (Lacks p) vs → Lacks p (built f vs)
  built_lacks zero vs h = row_lacks vs h
  built_lacks (suc f) vs h = row_lacks vs h

  pub part_lacks : (P : Protocol) (i : ℕ) (v : Value) → Lacks p v → IfSome (part_of P i v) (Lacks p)
  part_lacks P i (Leaf x) h = tt
  part_lacks P i (Node f vs) h = kept (is_data P f) (each-numbered (Lacks p) (items_of vs) i (items_lack vs h))
    where
      kept : (b : Bool) → IfSome (numbered (items_of vs) i) (Lacks p) → IfSome (cond b (numbered (items_of vs) i) None) (Lacks p)
      kept true k = k
      kept false k = tt

  -- what a pattern binds are parts of the value
  mutual
    pub matched_lacks : (environment : Environment) (pattern : Pattern) (v : Value) → Lacks p v → IfSome (matched environment pattern v) (EnvironmentLacks p)
    matched_lacks environment (Leaf (Bind i)) v h = (h, tt)
    matched_lacks environment (Leaf (Equal term)) v h = if_some-cond (EnvironmentLacks p) (same_value (value_of environment term) v) [] tt
    matched_lacks environment (Node f patterns) (Leaf x) h = tt
    matched_lacks environment (Node f patterns) (Node g vs) h = kept (same_symbol f g) (matched_row_lacks environment patterns vs h)
      where
        kept : (b : Bool) → IfSome (matched_row environment patterns vs) (EnvironmentLacks p) → IfSome (cond b (matched_row environment patterns vs) None) (EnvironmentLacks p)
        kept true k = k
        kept false k = tt

    matched_row_lacks : (environment : Environment) (patterns : Trees Hole Symbol) (vs : Trees Atom Symbol) → some_leaves p vs ≡ false → IfSome (matched_row environment patterns vs) (EnvironmentLacks p)
    matched_row_lacks environment none none h = tt
    matched_row_lacks environment none (more v vs) h = tt
    matched_row_lacks environment (more q qs) none h = tt
    matched_row_lacks environment (more q qs) (more v vs) h =
        let parts = or_false (some_leaf p v) (some_leaves p vs) h in
        let front = matched_lacks environment q v parts.0 in
        let back = matched_row_lacks environment qs vs parts.1 in
        if_some-then (EnvironmentLacks p) (λ first. option_map (λ others. first ++ others) (matched_row environment qs vs)) (matched environment q v)
        (λ first is. if_some-map (EnvironmentLacks p) (λ others. first ++ others) (matched_row environment qs vs)
        (λ others is_too. each-append (λ b. Lacks p b.value) first others (if_some-is (EnvironmentLacks p) (matched environment q v) first front is)
        (if_some-is (EnvironmentLacks p) (matched_row environment qs vs) others back is_too)))

  -- what a `get` binds are parts of an entry
  entry_lacks : (environment : Environment) (table : ℕ) (patterns : List Pattern) (condition : Condition) (held : Held) → EntryLacks p held → IfSome (matched_entry environment table patterns condition held) (EnvironmentLacks p)
  entry_lacks environment table patterns condition held h =
      if_some-then (EnvironmentLacks p) (if_met environment condition) (row_matched environment table patterns held)
      (λ bindings is. if_some-cond (EnvironmentLacks p) (meets (environment ++ bindings) condition) bindings
      (if_some-is (EnvironmentLacks p) (row_matched environment table patterns held) bindings bound is))
    where
      bound : IfSome (row_matched environment table patterns held) (EnvironmentLacks p)
      bound = if_some-choice (EnvironmentLacks p) (nat_eq held.table table) (matched environment (row_pattern patterns) (row_value held.arguments)) None
          (matched_lacks environment (row_pattern patterns) (row_value held.arguments) (row_lacks held.arguments h)) tt

  -- and so is what a rule's variables stand for
  mutual
    places_lack : (t : Term) (v : Value) → Lacks p v → EnvironmentLacks p (places t v)
    places_lack (Leaf x) v h = (h, tt)
    places_lack (Node f ts) (Leaf y) h = tt
    places_lack (Node f ts) (Node g vs) h = places_row_lack ts vs h

    places_row_lack : (ts : Trees Name Symbol) (vs : Trees Atom Symbol) → some_leaves p vs ≡ false → EnvironmentLacks p (places_row ts vs)
    places_row_lack none vs h = tt
    places_row_lack (more t ts) none h = tt
    places_row_lack (more t ts) (more v vs) h =
        let parts = or_false (some_leaf p v) (some_leaves p vs) h in
        each-append (λ b. Lacks p b.value) (places t v) (places_row ts vs) (places_lack t v parts.0) (places_row_lack ts vs parts.1)

-- p tests names in values, and test leaves of terms: each free name that passes p passes test
module _ (p : Atom → Bool) (test : Name → Bool) (free : (n : ℕ) → test (Free n) ≡ false → p (FreeName n) ≡ false) (unbound : p (FreeName 0) ≡ false) where
  found_lacks : (environment : Environment) (x : Name) → EnvironmentLacks p environment → IfSome (bound_to environment x) (Lacks p)
  found_lacks [] x h = tt
  found_lacks (binding ∷ later) x h = if_some-choice (Lacks p) (same_name binding.name x) (Some binding.value) (bound_to later x) h.0 (found_lacks later x h.1)

  bound_lacks : (environment : Environment) (x : Name) → EnvironmentLacks p environment → Lacks p (value_of_bound environment x)
  bound_lacks environment x h = if_some-unwrap (Lacks p) (bound_to environment x) (Leaf (FreeName 0)) (found_lacks environment x h) unbound

  leaf_lacks : (environment : Environment) → EnvironmentLacks p environment → (x : Name) → test x ≡ false → Lacks p (value_of_name environment x)
  leaf_lacks environment h (Free n) k = free n k
  leaf_lacks environment h (Made q) k = bound_lacks environment (Made q) h
  leaf_lacks environment h (Variable i) k = bound_lacks environment (Variable i) h

  -- the value of a term
  pub value_lacks : (environment : Environment) → EnvironmentLacks p environment → (t : Term) → some_leaf test t ≡ false → Lacks p (value_of environment t)
  value_lacks environment h t k =
      some_leaf-bind p (value_of_name environment) t
      ∙ some_leaf-weaker test (λ x. some_leaf p (value_of_name environment x)) (leaf_lacks environment h) t k

  pub values_lack : (environment : Environment) → EnvironmentLacks p environment → (ts : List Term) → some_term test ts ≡ false → AllByRecursion (Lacks p) (values_of environment ts)
  values_lack environment h [] k = tt
  values_lack environment h (t ∷ ts) k =
      let parts = or_false (some_leaf test t) (some_term test ts) k in (value_lacks environment h t parts.0, values_lack environment h ts parts.1)

  -- a rule's value
  pub instance_lacks : (s : Environment) (t : Term) → EnvironmentLacks p s → Lacks p (instance_of s t)
  instance_lacks s t h = some_leaf-bind p (value_of_bound s) t ∙ some_leaf-never (λ x. some_leaf p (value_of_bound s x)) (λ x. bound_lacks s x h) t

  pub rule_value_lacks : (rule : Rule) (vs : List Value) → AllByRecursion (Lacks p) vs → IfSome (rule_value rule vs) (Lacks p)
  rule_value_lacks rule vs h =
      if_some-cond (Lacks p) (same_values (map (instance_of (places_row (trees rule.left) (trees vs))) rule.left) vs)
      (instance_of (places_row (trees rule.left) (trees vs)) rule.right)
      (instance_lacks (places_row (trees rule.left) (trees vs)) rule.right (places_row_lack p (trees rule.left) (trees vs) (row_lacks p vs h)))

  -- the value by chosen rules
  abbrev LacksTerm : Term → Type 0
  LacksTerm t = some_leaf test t ≡ false

  abbrev AnyRule : Rule → Type 0
  AnyRule rule = Unit {0}

  mutual
    ruled_lacks : (environment : Environment) → EnvironmentLacks p environment → (r : Ruled) → IsOver LacksTerm AnyRule r → IfSome (ruled_value environment r) (Lacks p)
    ruled_lacks environment h (Leaf t) k = value_lacks environment h t k
    ruled_lacks environment h (Node (Builds f) parts) k =
        if_some-then (Lacks p) (head_value (Builds f)) (ruled_values environment parts)
        (λ vs is. row_lacks p vs (if_some-is (AllByRecursion (Lacks p)) (ruled_values environment parts) vs (ruled_row_lacks environment h parts k) is))
    ruled_lacks environment h (Node (Calls rule) parts) k =
        if_some-then (Lacks p) (head_value (Calls rule)) (ruled_values environment parts)
        (λ vs is. rule_value_lacks rule vs (if_some-is (AllByRecursion (Lacks p)) (ruled_values environment parts) vs (ruled_row_lacks environment h parts k.1) is))

    ruled_row_lacks : (environment : Environment) → EnvironmentLacks p environment → (rs : Trees Term (Head Rule)) → IsRowOver LacksTerm AnyRule rs → IfSome (ruled_values environment rs) (AllByRecursion (Lacks p))
    ruled_row_lacks environment h none k = tt
    ruled_row_lacks environment h (more part parts) k =
        if_some-then (AllByRecursion (Lacks p)) (λ v. option_map (λ vs. v ∷ vs) (ruled_values environment parts)) (ruled_value environment part)
        (λ v is. if_some-map (AllByRecursion (Lacks p)) (λ vs. v ∷ vs) (ruled_values environment parts)
        (λ vs is_too. (
          if_some-is (Lacks p) (ruled_value environment part) v (ruled_lacks environment h part k.0) is,
          if_some-is (AllByRecursion (Lacks p)) (ruled_values environment parts) vs (ruled_row_lacks environment h parts k.1) is_too,
        )))

  value_at_lacks : (P : Protocol) (environment : Environment) (e : Expression) (label : List ℕ) → EnvironmentLacks p environment → some_expression test e ≡ false → IfSome (value_at P environment e label) (Lacks p)
  value_at_lacks P environment e label h k =
      if_some-then (Lacks p) (λ c. ruled_value environment c.ruled) (choice_at P e label)
      (λ c is. ruled_lacks environment h c.ruled (each-found (λ d. same_label (label_of d.rules) label) (λ d. IsOver LacksTerm AnyRule d.ruled) (choices P e) c
      (choices_over LacksTerm AnyRule P (λ d. each-holds AnyRule (λ rule. tt) (rules_of P d)) e (each_leaf_fails (some_leaf test) e k)) is))

  known_values_lack : (c : Configuration) (ks : List ℕ) → IsLacking p c → IfSome (known_values c ks) (AllByRecursion (Lacks p))
  known_values_lack c [] h = tt
  known_values_lack c (k ∷ ks) h =
      if_some-then (AllByRecursion (Lacks p)) (λ v. option_map (λ vs. v ∷ vs) (known_values c ks)) (numbered c.known k)
      (λ v is. if_some-map (AllByRecursion (Lacks p)) (λ vs. v ∷ vs) (known_values c ks)
      (λ vs is_too. (
        if_some-is (Lacks p) (numbered c.known k) v (each-numbered (Lacks p) c.known k h.known) is,
        if_some-is (AllByRecursion (Lacks p)) (known_values c ks) vs (known_values_lack c ks h) is_too,
      )))

  -- what the parts of a step make of a configuration
  learns_lacks : (c : Configuration) (v : Value) → IsLacking p c → Lacks p v → IsLacking p (learns c v)
  learns_lacks c v h k = record { known = each-append (Lacks p) c.known (v ∷ []) h.known (k, tt); threads = h.threads; events = h.events; entries = h.entries }

  goes_on_lacks : (c : Configuration) (i : ℕ) (thread : Thread) → IsLacking p c → ThreadLacks p thread → IsLacking p (goes_on c i thread)
  goes_on_lacks c i thread h k = record { known = h.known; threads = each-replaced (ThreadLacks p) c.threads i thread k h.threads; events = h.events; entries = h.entries }

  begins_lacks : (c : Configuration) (thread : Thread) → IsLacking p c → ThreadLacks p thread → IsLacking p (begins c thread)
  begins_lacks c thread h k = record { known = h.known; threads = each-append (ThreadLacks p) c.threads (thread ∷ []) h.threads (k, tt); events = h.events; entries = h.entries }

  longer_lacks : (environment bindings : Environment) → EnvironmentLacks p environment → EnvironmentLacks p bindings → EnvironmentLacks p (environment ++ bindings)
  longer_lacks environment bindings h k = each-append (λ b. Lacks p b.value) environment bindings h k

  received_lacks : (point : ℕ) (environment : Environment) (o : Option Environment) → EnvironmentLacks p environment → IfSome o (EnvironmentLacks p) → ThreadLacks p (received point environment o)
  received_lacks point environment None h k = tt
  received_lacks point environment (Some bindings) h k = longer_lacks environment bindings h k

  module _ (P : Protocol) (held : some_name test P.main ≡ false) where
    -- what an action makes of a thread
    abbrev Keeps : (ℕ → Environment → Process → Option Configuration) → Type 0
    Keeps action = (point : ℕ) (environment : Environment) (process : Process) → EnvironmentLacks p environment → some_name test process ≡ false → IfSome (action point environment process) (IsLacking p)

    acts_lacks : (thread : Thread) (action : ℕ → Environment → Process → Option Configuration) → ThreadLacks p thread → Keeps action → IfSome (acts P thread action) (IsLacking p)
    acts_lacks (At point environment) action h kept =
        if_some-then (IsLacking p) (action point environment) (numbered (nodes P.main) point)
        (λ process is. kept point environment process h (if_some-is (λ node. some_name test node ≡ false) (numbered (nodes P.main) point) process
        (each-numbered (λ node. some_name test node ≡ false) (nodes P.main) point (nodes_lack test P.main held)) is))
    acts_lacks Ended action h kept = tt

    acting_lacks : (c : Configuration) (i : ℕ) (action : ℕ → Environment → Process → Option Configuration) → IsLacking p c → Keeps action → IfSome (acting P c i action) (IsLacking p)
    acting_lacks c i action h kept =
        if_some-then (IsLacking p) (λ thread. acts P thread action) (numbered c.threads i) (λ thread is.
        acts_lacks thread action (if_some-is (ThreadLacks p) (numbered c.threads i) thread (each-numbered (ThreadLacks p) c.threads i h.threads) is) kept)

    split_lacks : (c : Configuration) (i : ℕ) → IsLacking p c → Keeps (after_split c i)
    split_lacks c i h point environment (Parallel left right) k l =
        begins_lacks (goes_on c i (At (point + 1) environment)) (At (point_after (point + 1) left) environment) (goes_on_lacks c i (At (point + 1) environment) h k) k
    split_lacks c i h point environment other k l = tt

    copy_lacks : (c : Configuration) → IsLacking p c → Keeps (after_copy c)
    copy_lacks c h point environment (Replication copied) k l = begins_lacks c (At (point + 1) environment) h k
    copy_lacks c h point environment other k l = tt

    make_lacks : (c : Configuration) (i : ℕ) → ((q : ℕ) → p (MadeName q c.next) ≡ false) → IsLacking p c → Keeps (after_make c i)
    make_lacks c i made h point environment (New word next) k l =
        let bindings : Environment = record { name = Made point; value = Leaf (MadeName point c.next) } ∷ [] in
        let kept = goes_on_lacks c i (At (point + 1) (environment ++ bindings)) h (longer_lacks environment bindings k (made point, tt)) in
        record { known = kept.known; threads = kept.threads; events = kept.events; entries = kept.entries }
    make_lacks c i made h point environment other k l = tt

    receipt_lacks : (c : Configuration) (i j : ℕ) (sent : Thread) (channel message : Value) → IsLacking p c → ThreadLacks p sent → Lacks p message → Keeps (after_receipt c i j sent channel message)
    receipt_lacks c i j sent channel message h s m point environment (Input on pattern next) k l =
        if_some-cond (IsLacking p) (same_value channel (value_of environment on))
        (goes_on (goes_on c i sent) j (received point environment (matched environment pattern message)))
        (goes_on_lacks (goes_on c i sent) j (received point environment (matched environment pattern message)) (goes_on_lacks c i sent h s)
        (received_lacks point environment (matched environment pattern message) k (matched_lacks p environment pattern message m)))
    receipt_lacks c i j sent channel message h s m point environment other k l = tt

    pass_lacks : (c : Configuration) (i j : ℕ) → IsLacking p c → Keeps (after_pass P c i j)
    pass_lacks c i j h point environment (Output channel message next) k l =
        let parts = or_false (some_leaf test channel || some_leaf test message) (some_name test next) l in
        let terms = or_false (some_leaf test channel) (some_leaf test message) parts.0 in
        acting_lacks c j (after_receipt c i j (At (point + 1) environment) (value_of environment channel) (value_of environment message)) h
        (receipt_lacks c i j (At (point + 1) environment) (value_of environment channel) (value_of environment message) h k (value_lacks environment k message terms.1))
    pass_lacks c i j h point environment other k l = tt

    hear_lacks : (c : Configuration) (i : ℕ) → IsLacking p c → Keeps (after_hear c i)
    hear_lacks c i h point environment (Output channel message next) k l =
        let parts = or_false (some_leaf test channel || some_leaf test message) (some_name test next) l in
        let terms = or_false (some_leaf test channel) (some_leaf test message) parts.0 in
        if_some-cond (IsLacking p) (knows c (value_of environment channel))
        (learns (goes_on c i (At (point + 1) environment)) (value_of environment message))
        (learns_lacks (goes_on c i (At (point + 1) environment)) (value_of environment message) (goes_on_lacks c i (At (point + 1) environment) h k)
        (value_lacks environment k message terms.1))
    hear_lacks c i h point environment other k l = tt

    say_lacks : (c : Configuration) (j : ℕ) (v : Value) → IsLacking p c → Lacks p v → Keeps (after_say c j v)
    say_lacks c j v h m point environment (Input channel pattern next) k l =
        if_some-cond (IsLacking p) (knows c (value_of environment channel))
        (goes_on c j (received point environment (matched environment pattern v)))
        (goes_on_lacks c j (received point environment (matched environment pattern v)) h
        (received_lacks point environment (matched environment pattern v) k (matched_lacks p environment pattern v m)))
    say_lacks c j v h m point environment other k l = tt

    take_lacks : (c : Configuration) (i : ℕ) (label : List ℕ) → IsLacking p c → Keeps (after_take P c i label)
    take_lacks c i label h point environment (Let pattern expression next otherwise) k l =
        let parts = or_false (some_pattern test pattern || some_expression test expression || some_name test next) (some_name test otherwise) l in
        let front = or_false (some_pattern test pattern || some_expression test expression) (some_name test next) parts.0 in
        let terms = or_false (some_pattern test pattern) (some_expression test expression) front.0 in
        let lacking = value_at_lacks P environment expression label k terms.1 in
        let bound : IfSome (option_and_then (matched environment pattern) (value_at P environment expression label)) (EnvironmentLacks p) =
        if_some-then (EnvironmentLacks p) (matched environment pattern) (value_at P environment expression label)
        (λ v is. matched_lacks p environment pattern v (if_some-is (Lacks p) (value_at P environment expression label) v lacking is)) in
        if_some-map (IsLacking p) (λ bindings. goes_on c i (At (point + 1) (environment ++ bindings)))
        (option_and_then (matched environment pattern) (value_at P environment expression label))
        (λ bindings is. goes_on_lacks c i (At (point + 1) (environment ++ bindings)) h (longer_lacks environment bindings k
        (if_some-is (EnvironmentLacks p) (option_and_then (matched environment pattern) (value_at P environment expression label)) bindings bound is)))
    take_lacks c i label h point environment other k l = tt

    fail_lacks : (c : Configuration) (i : ℕ) → IsLacking p c → Keeps (after_fail P c i)
    fail_lacks c i h point environment (Let pattern expression next otherwise) k l =
        kept (list_any (λ v. is_some (matched environment pattern v)) (values_at P environment expression))
      where
        kept : (b : Bool) → IfSome (cond b None (Some (goes_on c i (At (point_after (point + 1) next) environment)))) (IsLacking p)
        kept true = tt
        kept false = goes_on_lacks c i (At (point_after (point + 1) next) environment) h k
    fail_lacks c i h point environment other k l = tt

    mark_lacks : (c : Configuration) (i : ℕ) → IsLacking p c → Keeps (after_mark c i)
    mark_lacks c i h point environment (Event performed next) k l =
        let parts = or_false (some_term test performed.arguments) (some_name test next) l in
        let kept = goes_on_lacks c i (At (point + 1) environment) h k in
        record {
          known = kept.known;
          threads = kept.threads;
          events = each-append (EventLacks p) c.events (record { event = performed.event; arguments = values_of environment performed.arguments } ∷ []) h.events
              (values_lack environment k performed.arguments parts.0, tt);
          entries = kept.entries;
        }
    mark_lacks c i h point environment other k l = tt

    put_lacks : (c : Configuration) (i : ℕ) → IsLacking p c → Keeps (after_put c i)
    put_lacks c i h point environment (Insert table arguments next) k l =
        let parts = or_false (some_term test arguments) (some_name test next) l in
        let kept = goes_on_lacks c i (At (point + 1) environment) h k in
        record {
          known = kept.known;
          threads = kept.threads;
          events = kept.events;
          entries = each-append (EntryLacks p) c.entries (record { table = table; arguments = values_of environment arguments } ∷ []) h.entries
              (values_lack environment k arguments parts.0, tt);
        }
    put_lacks c i h point environment other k l = tt

    fetch_lacks : (c : Configuration) (i e : ℕ) → IsLacking p c → Keeps (after_fetch c i e)
    fetch_lacks c i e h point environment (Get table patterns condition next otherwise) k l =
        let bound : IfSome (option_and_then (matched_entry environment table patterns condition) (numbered c.entries e)) (EnvironmentLacks p) =
        if_some-then (EnvironmentLacks p) (matched_entry environment table patterns condition) (numbered c.entries e)
        (λ held is. entry_lacks p environment table patterns condition held
        (if_some-is (EntryLacks p) (numbered c.entries e) held (each-numbered (EntryLacks p) c.entries e h.entries) is)) in
        if_some-map (IsLacking p) (λ bindings. goes_on c i (At (point + 1) (environment ++ bindings)))
        (option_and_then (matched_entry environment table patterns condition) (numbered c.entries e))
        (λ bindings is. goes_on_lacks c i (At (point + 1) (environment ++ bindings)) h (longer_lacks environment bindings k
        (if_some-is (EnvironmentLacks p) (option_and_then (matched_entry environment table patterns condition) (numbered c.entries e)) bindings bound is)))
    fetch_lacks c i e h point environment other k l = tt

    miss_lacks : (c : Configuration) (i : ℕ) → IsLacking p c → Keeps (after_miss c i)
    miss_lacks c i h point environment (Get table patterns condition next otherwise) k l =
        kept (list_any (λ held. is_some (matched_entry environment table patterns condition held)) c.entries)
      where
        kept : (b : Bool) → IfSome (cond b None (Some (goes_on c i (At (point_after (point + 1) next) environment)))) (IsLacking p)
        kept true = tt
        kept false = goes_on_lacks c i (At (point_after (point + 1) next) environment) h k
    miss_lacks c i h point environment other k l = tt

    -- a thread takes nothing into a new phase that it had not
    enters_lacks : (n : ℕ) (thread : Thread) → ThreadLacks p thread → ThreadLacks p (enters P n thread)
    enters_lacks n Ended h = tt
    enters_lacks n (At point environment) h = at_process (numbered (nodes P.main) point)
      where
        waiting : (a b : Bool) → ThreadLacks p (cond a (At (point + 1) environment) (cond b (At point environment) Ended))
        waiting true b = h
        waiting false true = h
        waiting false false = tt

        at_process : (o : Option Process) → ThreadLacks p (at_phase n point environment o)
        at_process (Some (Phase number next)) = waiting (nat_eq number n) (nat_lt n number)
        at_process other = tt

    raised_lacks : (c : Configuration) → IsLacking p c → IsLacking p (raised P c)
    raised_lacks c h = record {
      known = h.known;
      threads = each-map (ThreadLacks p) (enters P (c.phase + 1)) c.threads
          (each-weaker (ThreadLacks p) (λ thread. ThreadLacks p (enters P (c.phase + 1) thread)) (enters_lacks (c.phase + 1)) c.threads h.threads);
      events = h.events;
      entries = h.entries;
    }

    -- a step that makes no name that passes leads to no value in which one passes
    pub step_lacks : (c : Configuration) (step : Step) → MakesNone p c step → IsLacking p c → IfSome (after_step P c step) (IsLacking p)
    step_lacks c (Build f ks) made h = kept (can_build P f (length ks))
      where
        kept : (b : Bool) → IfSome (cond b (option_map (λ vs. learns c (built f vs)) (known_values c ks)) None) (IsLacking p)
        kept true = if_some-map (IsLacking p) (λ vs. learns c (built f vs)) (known_values c ks)
            (λ vs is. learns_lacks c (built f vs) h (built_lacks p f vs (if_some-is (AllByRecursion (Lacks p)) (known_values c ks) vs (known_values_lack c ks h) is)))
        kept false = tt
    step_lacks c (Reduce d r ks) made h =
        if_some-then (IsLacking p) (λ rule. option_map (learns c) (option_and_then (rule_value rule) (known_values c ks))) (numbered (rules_of P d) r)
        (λ rule is. if_some-map (IsLacking p) (learns c) (option_and_then (rule_value rule) (known_values c ks))
        (λ v found. learns_lacks c v h (if_some-is (Lacks p) (option_and_then (rule_value rule) (known_values c ks)) v
        (if_some-then (Lacks p) (rule_value rule) (known_values c ks) (λ vs is_too. rule_value_lacks rule vs
        (if_some-is (AllByRecursion (Lacks p)) (known_values c ks) vs (known_values_lack c ks h) is_too))) found)))
    step_lacks c (Part k i) made h =
        if_some-map (IsLacking p) (learns c) (option_and_then (part_of P i) (numbered c.known k))
        (λ v found. learns_lacks c v h (if_some-is (Lacks p) (option_and_then (part_of P i) (numbered c.known k)) v
        (if_some-then (Lacks p) (part_of P i) (numbered c.known k) (λ w is. part_lacks p P i w
        (if_some-is (Lacks p) (numbered c.known k) w (each-numbered (Lacks p) c.known k h.known) is))) found))
    step_lacks c Fresh made h = let kept = learns_lacks c (Leaf (AttackerName c.next)) h made in
        record { known = kept.known; threads = kept.threads; events = kept.events; entries = kept.entries }
    step_lacks c (Split i) made h = acting_lacks c i (after_split c i) h (split_lacks c i h)
    step_lacks c (Copy i) made h = acting_lacks c i (after_copy c) h (copy_lacks c h)
    step_lacks c (Make i) made h = acting_lacks c i (after_make c i) h (make_lacks c i made h)
    step_lacks c (Pass i j) made h = acting_lacks c i (after_pass P c i j) h (pass_lacks c i j h)
    step_lacks c (Hear i) made h = acting_lacks c i (after_hear c i) h (hear_lacks c i h)
    step_lacks c (Say j k) made h =
        if_some-then (IsLacking p) (λ v. acting P c j (after_say c j v)) (numbered c.known k)
        (λ v is. acting_lacks c j (after_say c j v) h (say_lacks c j v h (if_some-is (Lacks p) (numbered c.known k) v (each-numbered (Lacks p) c.known k h.known) is)))
    step_lacks c (Take i label) made h = acting_lacks c i (after_take P c i label) h (take_lacks c i label h)
    step_lacks c (Fail i) made h = acting_lacks c i (after_fail P c i) h (fail_lacks c i h)
    step_lacks c (Mark i) made h = acting_lacks c i (after_mark c i) h (mark_lacks c i h)
    step_lacks c Next made h = if_some-cond (IsLacking p) (nat_lt c.phase (greatest_phase P.main)) (raised P c) (raised_lacks c h)
    step_lacks c (Put i) made h = acting_lacks c i (after_put c i) h (put_lacks c i h)
    step_lacks c (Fetch i e) made h = acting_lacks c i (after_fetch c i e) h (fetch_lacks c i e h)
    step_lacks c (Miss i) made h = acting_lacks c i (after_miss c i) h (miss_lacks c i h)
