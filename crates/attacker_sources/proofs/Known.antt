-- The attacker's raw clauses, from what they are made of.
use Rattle.std.proofs.Common.{◌≡◌, ℕ, zero, suc, ◌+◌, true, false, not, ◌&&◌, cond, Some, None, List, [], ◌∷◌, ◌++◌, map, option_map, sym, ap, ◌∙◌, arith, Result, Ok, Err, IfOk}
use Rattle.std.specs.List.{cons_option}
use Rattle.std.specs.declared.alloc.AllocError.{AllocError}
use Rattle.std.proofs.lemmas.List.{map-id}
use Rattle.std.proofs.lemmas.Simd.{map-map}
use Rattle.spec_trees.specs.Tree.{Leaf, node}
use Rattle.spec_calculus.specs.Syntax.{Rule, Declared, Protocol}
use Rattle.spec_terms.specs.Term.{Free, Ctor, Attacker, Term}
use Rattle.spec_clauses.specs.Fact.{Att, Clause}
use Rattle.spec_translation.specs.Conversion.{free_term, rule_term}
use Rattle.spec_translation.specs.Attacker.{variables_from, name_known, fresh_known, kept_known, rule_applied}
use Rattle.spec_attack_runs.specs.Source.{Builds}
use Rattle.spec_attack_runs.specs.Gathered.{idle}
use Rattle.clause_diffs.specs.declared.plain.Tree.{Tree}
use Rattle.clause_diffs.specs.Plain.{term_of}
use Rattle.attacker_sources.specs.Deeds.{constructor_deed}

-- the clause that who has these terms in a phase has the last in a phase
abbrev pub known_raw : ℕ → List Term → ℕ → Term → Clause Term
known_raw before ts phase t = record { hypotheses = map (Att before) ts; diffs = []; conclusion = Att phase t }

-- variables, one more
variables_more : (n i : ℕ) → variables_from n (suc i) ≡ variables_from n i ++ Leaf (n + i) ∷ []
variables_more n zero = let same : n ≡ n + 0 = omega arith in ap (λ k. Leaf k ∷ []) same
variables_more n (suc i) =
    let same : n + 1 + i ≡ n + suc i = omega arith in
    ap (λ l. Leaf n ∷ l) (variables_more (n + 1) i ∙ ap (λ k. variables_from (n + 1) i ++ Leaf k ∷ []) same)

pub variables_next : (i : ℕ) → variables_from 0 i ++ Leaf i ∷ [] ≡ variables_from 0 (i + 1)
variables_next i =
    let number : i + 1 ≡ suc i = omega arith in
    let start : 0 + i ≡ i = omega arith in
    sym (ap (variables_from 0) number ∙ (variables_more 0 i ∙ ap (λ k. variables_from 0 i ++ Leaf k ∷ []) start))

-- what is told of a free name
pub name_told : (number : ℕ) (d : Declared) (raw : Clause Term) (ts us : List Term) → d.public ≡ true → raw ≡ known_raw 0 ts 0 (node (Free number) us) → ts ≡ [] → us ≡ [] → idle raw ∷ [] ≡ map idle (cons_option (name_known (number, d)) [])
name_told number d raw ts us public is none empty =
    ap (λ r. idle r ∷ []) (is ∙ (λ i. known_raw 0 (none i) 0 (node (Free number) (empty i))))
    ∙ sym (ap (λ b. map idle (cons_option (cond b (Some (known_raw 0 [] 0 (free_term number))) None) [])) public)

pub name_hidden : (number : ℕ) (d : Declared) → d.public ≡ false → [] ≡ map idle (cons_option (name_known (number, d)) [])
name_hidden number d hidden = sym (ap (λ b. map idle (cons_option (cond b (Some (known_raw 0 [] 0 (free_term number))) None) [])) hidden)

-- of names of his own, and of what he keeps
pub own_told : (raw : Clause Term) (ts us : List Term) → raw ≡ known_raw 0 ts 0 (node Attacker us) → ts ≡ [] → us ≡ Leaf 0 ∷ [] → idle raw ∷ [] ≡ idle fresh_known ∷ []
own_told raw ts us is none one = ap (λ r. idle r ∷ []) (is ∙ (λ i. known_raw 0 (none i) 0 (node Attacker (one i))))

pub kept_told : (phase : ℕ) (raw : Clause Term) (ts : List Term) → raw ≡ known_raw phase ts (phase + 1) (Leaf 0) → ts ≡ Leaf 0 ∷ [] → idle raw ∷ [] ≡ idle (kept_known phase) ∷ []
kept_told phase raw ts is one = ap (λ r. idle r ∷ []) (is ∙ ap (λ l. known_raw phase l (phase + 1) (Leaf 0)) one)

-- of a constructor
pub constructor_told : (phase number : ℕ) (d : Declared) (raw : Clause Term) (ts us : List Term) → (d.public && not d.is_data) ≡ true → raw ≡ known_raw phase ts phase (node (Ctor number) us)
    → ts ≡ variables_from 0 d.arity → us ≡ variables_from 0 d.arity → (Builds number, raw) ∷ [] ≡ cons_option (constructor_deed phase (number, d)) []
constructor_told phase number d raw ts us applied is are same =
    let vs = variables_from 0 d.arity in
    ap (λ r. (Builds number, r) ∷ []) (is ∙ (λ i. known_raw phase (are i) phase (node (Ctor number) (same i))))
    ∙ sym (ap (λ b. cons_option (option_map (λ r. (Builds number, r)) (cond b (Some (known_raw phase vs phase (node (Ctor number) vs))) None)) []) applied)

pub constructor_hidden : (phase number : ℕ) (d : Declared) → (d.public && not d.is_data) ≡ false → [] ≡ cons_option (constructor_deed phase (number, d)) []
constructor_hidden phase number d hidden =
    let vs = variables_from 0 d.arity in
    sym (ap (λ b. cons_option (option_map (λ r. (Builds number, r)) (cond b (Some (known_raw phase vs phase (node (Ctor number) vs))) None)) []) hidden)

-- of the facts of parts, one after another
pub known_all : (before : ℕ) (parts : List Term) (yielded items : List Tree) → map (λ x. x) yielded ≡ items → map term_of items ≡ parts → map (λ t. Att before (term_of t)) yielded ≡ map (Att before) parts
known_all before parts yielded items same seen = sym (map-map (Att before) term_of yielded) ∙ ap (map (Att before)) (ap (map term_of) (sym (map-id yielded) ∙ same) ∙ seen)

-- of a rule
pub if_ok_is : {X : Type 0} (r : Result X AllocError) (x y : X) → x ≡ y → IfOk r (λ made. made ≡ x) → IfOk r (λ made. made ≡ y)
if_ok_is (Ok made) x y same is = is ∙ same
if_ok_is (Err failed) x y same is = tt

pub rule_told : (P : Protocol) (phase : ℕ) (rule : Rule) (ts : List Term) (t : Term) → ts ≡ map (rule_term P 0) rule.left → t ≡ rule_term P 0 rule.right → known_raw phase ts phase t ≡ rule_applied P phase rule
rule_told P phase rule ts t are is =
    (λ i. known_raw phase (are i) phase (is i)) ∙ ap (λ l. record { hypotheses = l; diffs = []; conclusion = Att phase (rule_term P 0 rule.right) }) (map-map (Att phase) (rule_term P 0) rule.left)
