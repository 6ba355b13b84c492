-- The lines of nodes: a reader of one goes on with its term, and tells the first fault.
use Rattle.std.proofs.Common.{◌≡◌, ℕ, ◌+◌, ◌≤◌, ◌==◌, inl, inr, Bool, true, false, List, [], ◌∷◌, length, codes, refl, sym, ◌∙◌, ap, subst}
use Rattle.std.specs.List.{AllByRecursion}
use Rattle.spec_calculus.specs.Syntax.{Protocol}
use Rattle.spec_terms.specs.Term.{Term}
use Rattle.spec_clauses.specs.Fact.{same_term}
use Rattle.spec_clauses.specs.Inclusion.{here, there, Has}
use Rattle.spec_clauses.proofs.Equality.{same_term-decides}
use Rattle.spec_clauses.proofs.Inclusion.{all_has}
use Rattle.spec_certificate_text.specs.OfProtocol.{HasNames}
use Rattle.spec_certificate_text.specs.Terms.{Code}
use Rattle.spec_certificate_text.specs.Outcomes.{Found, next, front, Reader, read_fixed}
use Rattle.spec_certificate_text.proofs.Parts.{Finds}
use Rattle.spec_certificate_faults.specs.Grammar.{EndsAt}
use Rattle.spec_certificate_faults.specs.First.{Kind}
use Rattle.spec_first_faults.specs.Kinds.{fixed, behind, marked, last, further}
use Rattle.spec_first_faults.proofs.Tells.{Anything, Tells, IsSameKind, kind_tells, same_tells}
use Rattle.spec_first_faults.proofs.Behind.{then_read}
use Rattle.spec_first_faults.proofs.OneOf.{IsToldBy, told_by_fixed}
use Rattle.spec_first_faults.proofs.Many.{next_twice}
use Rattle.spec_first_faults.proofs.Closed.{closed_by, behind_fixed, closed_thing}
use Rattle.spec_first_faults.proofs.Clauses.{begun_long, begun_within}
use Rattle.spec_first_faults.proofs.Marked.{judged, checked}
use Rattle.spec_first_faults.proofs.Rows.{next_same}
use Rattle.spec_node_tables.specs.Nodes.{term_of}
use Rattle.spec_node_reading.specs.Kinds.{in_state}
use Rattle.spec_node_reading.specs.Nodes.{lower_numbers, spaced_numbers, bodies, own_number, NodeFault, line_behind, LeadsOn, node_lines}
use Rattle.spec_node_reading.specs.ReadNodes.{read_body, read_node_line}
use Rattle.spec_node_reading.proofs.NodesFound.{node_line-found}
use Rattle.spec_node_reading.proofs.NodesThere.{node_line-there}
use Rattle.spec_node_first_faults.proofs.InState.{FormsIn, TellsIn}
use Rattle.spec_node_first_faults.proofs.NodeSpaced.{node_goes_on}
use Rattle.spec_node_first_faults.proofs.NodeJudged.{judge_node, judged_as, nodes_tell}

-- Texts are the same behind whichever nodes.

abbrev spaced : ℕ → Kind
spaced own = behind (fixed (codes " ")) (lower_numbers own)

numbers_turned : (own other : ℕ) (bytes rest : List ℕ) → (spaced_numbers own).Text bytes rest → (spaced_numbers other).Text bytes rest
numbers_turned own other bytes rest (last none) = last none
numbers_turned own other bytes rest (further mid one more) = further mid one (numbers_turned own other mid rest more)

body_turned : (P : Protocol) (own other : ℕ) (bytes rest : List ℕ) → (bodies P own).Text bytes rest → (bodies P other).Text bytes rest
body_turned P own other bytes rest (inl text) = inl text
body_turned P own other bytes rest (inr (inl text)) = inr (inl text)
body_turned P own other bytes rest (inr (inr (mid, head, numbers))) = inr (inr (mid, head, numbers_turned own other mid rest numbers))

line_turned : (P : Protocol) (before others : List Term) (bytes rest : List ℕ) → (line_behind P before).Text bytes rest → (line_behind P others).Text bytes rest
line_turned P before others bytes rest (mid, opens, (end, body, closes)) = (mid, opens, (end, body_turned P (own_number before) (own_number others) mid end body, closes))

abbrev pub terms_of_nodes : List Term → List Term
terms_of_nodes ts = ts

module _ (P : Protocol) (names : HasNames P) where
  abbrev inner : List Term → Kind
  inner before = behind (marked (bodies P (own_number before)) (NodeFault P before)) (fixed (codes "\n"))

  abbrev read_node : List Term → Reader (List Term)
  read_node before = checked (judge_node P names before) (read_body P (own_number before))

  abbrev inner_read : List Term → Reader (List Term)
  inner_read before = then_read (read_node before) (λ at after. closed_by (codes "\n") after)

  inner_tells : (before : List Term) → Tells ⊥ (inner before) Anything Anything (inner_read before)
  inner_tells before = closed_thing (marked (bodies P (own_number before)) (NodeFault P before)) (EndsAt node_goes_on) (codes "\n") (read_node before) (λ after. after) (nodes_tell P names before) (λ rest. refl)

  line_as : (before : List Term) (bytes : List ℕ) (at : ℕ) → read_node_line P before bytes at ≡ then_read (read_fixed (codes "n ")) (λ _ _. inner_read before) bytes at
  line_as before bytes at =
      next_same (read_fixed (codes "n ") bytes at) _ _ (λ u from r.
      next_same (read_body P (own_number before) r from) _ _ (λ x p k. ap (λ o. next o (λ after q l. closed_by (codes "\n") after l q)) (judged_as P names before x from p k))
      ∙ sym (next_twice (read_body P (own_number before) r from) (λ x p k. judged (judge_node P names before x) from p k) (λ after q l. closed_by (codes "\n") after l q)))

  line_tells : (before : List Term) → Tells ⊥ (line_behind P before) Anything Anything (read_node_line P before)
  line_tells before =
      same_tells (line_behind P before) Anything Anything (read_node_line P before) (then_read (read_fixed (codes "n ")) (λ _ _. inner_read before)) (line_as before)
      (behind_fixed (codes "n ") (inner before) Anything (λ _ _. inner_read before) (λ at u. inner_tells before))

  line_is : (before : List Term) → IsSameKind (line_behind P before) (in_state (node_lines P) before)
  line_is before = record {
    text = line_turned P before [];
    text_back = line_turned P [] before;
    fault = λ code bytes stands fault. fault;
    fault_back = λ code bytes stands fault. fault;
  }

  node_lines-told : (before : List Term) → Tells ⊥ (in_state (node_lines P) before) Anything Anything (read_node_line P before)
  node_lines-told before = kind_tells (line_behind P before) (in_state (node_lines P) before) Anything Anything (read_node_line P before) (line_is before) (line_tells before)

  -- The terms behind a node.

  none_is : (t : Term) (us : List Term) → (Has us t → ⊥) → AllByRecursion (λ u. same_term t u ≡ false) us
  none_is t [] new = tt
  none_is t (u ∷ us) new = (by (same_term t u) refl, none_is t us (λ has. new (u ∷ has.0, there has.1)))
    where
      by : (b : Bool) → same_term t u ≡ b → same_term t u ≡ false
      by false is = is
      by true is = absurd (new (subst (λ v. Has (v ∷ us) t) ((same_term-decides t u).0 is) (us, here)))

  lead_found : (before : List Term) (bytes rest : List ℕ) (after : List Term) (at : ℕ) → LeadsOn P before bytes rest after → Finds (read_node_line P before bytes at) after rest
  lead_found before bytes rest after at leads =
      let new = leads.new in
      let found = node_line-found P names before leads.node rest at new.is new.below (none_is (term_of before leads.node) before new.new) new.small in
      record { place = found.place; is = ap (λ bs. read_node_line P before bs at) leads.text ∙ (found.is ∙ ap (λ ts. Found ts found.place rest) (sym leads.so)) }

  lead_there : (before : List Term) (bytes : List ℕ) (at : ℕ) (after : List Term) (place : ℕ) (rest : List ℕ) → read_node_line P before bytes at ≡ Found after place rest → LeadsOn P before bytes rest after
  lead_there before bytes at after place rest e =
      let is = node_line-there P before bytes at after place rest e in
      let t = term_of before is.node in
      record {
        node = is.node;
        new = record { is = is.is; below = is.below; new = λ has. not_itself t (all_has (λ u. same_term t u ≡ false) before t is.new has); small = is.small };
        text = is.text;
        so = is.so;
      }
    where
      not_itself : (t : Term) → same_term t t ≡ false → ⊥
      not_itself t other = let never : true ≡ false = sym ((same_term-decides t t).1 refl) ∙ other in cc

  pub node_lines-forms : FormsIn (node_lines P) Anything
  node_lines-forms = record {
    each = λ before. (node_lines-told before).forms;
    text = λ before bytes rest after leads. let found = lead_found before bytes rest after 0 leads in (node_lines-told before).found bytes 0 found.place after rest tt found.is;
  }

  -- the line of a node is read, and its first fault told; it leads on with the term of the node
  pub node_lines-tell : (before : List Term) → TellsIn (node_lines P) before Anything Anything terms_of_nodes (read_node_line P before)
  node_lines-tell before = record {
    tells = node_lines-told before;
    leads = λ bytes at place after rest of e. lead_there before bytes at after place rest e;
    read = λ after bytes rest at of leads. let found = lead_found before bytes rest after at leads in inl record { value = after; place = found.place; is = found.is; so = refl };
  }

  pub node_begins : (before : List Term) → IsToldBy (in_state (node_lines P) before) (λ bs. front bs == 110) true
  node_begins before =
      let told = told_by_fixed (codes "n ") (inner before) (λ bs. front bs == 110) true (λ rest. refl) in
      record { texts = λ bytes rest text. told.texts bytes rest (line_turned P [] before bytes rest text); faults = told.faults }

  pub node_long : (before : List Term) (bytes rest : List ℕ) → (in_state (node_lines P) before).Text bytes rest → length rest + 1 ≤ length bytes
  node_long before bytes rest text = begun_long 110 (32 ∷ []) (inner []) Anything (inner_tells []).forms bytes rest text

  pub node_within : (before : List Term) (code : Code) (bytes stands : List ℕ) → (in_state (node_lines P) before).Fault code bytes stands → length stands + 1 ≤ length bytes
  node_within before code bytes stands fault = begun_within 110 (32 ∷ []) (inner before) Anything (inner_tells before).forms code bytes stands fault
