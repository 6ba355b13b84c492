-- The lines of nodes are put one by one.
use Rattle.std.proofs.Common.{◌≡◌, ℕ, zero, suc, ◌+◌, ◌<◌, ◌≤◌, List, [], ◌∷◌, ◌++◌, length, map, slice_get, get_or, unwrap_or, refl, sym, ◌∙◌, ap, subst, arith}
use Rattle.std.specs.Fmt.{decimal}
use Rattle.std.proofs.lemmas.Option.{slice_get-get_or}
use Rattle.std.proofs.lemmas.Simd.{map-map}
use Rattle.spec_trees.specs.Tree.{Leaf, node}
use Rattle.spec_trees.proofs.Rows.{items_of-trees}
use Rattle.spec_calculus.specs.Syntax.{Protocol}
use Rattle.spec_terms.specs.Term.{Sym, Term}
use Rattle.term_tree.specs.Bank.{tree_at, AreKnown}
use Rattle.term_tree.specs.declared.bank.Id.{Id}
use Rattle.term_tree.proofs.BankLaws.{AreKnown-at}
use Rattle.spec_certificate_text.specs.Text.{numbers_text}
use Rattle.spec_node_tables.specs.Table.{number_in}
use Rattle.spec_node_tables.specs.Nodes.{Over, node_of}
use Rattle.spec_node_tables.specs.Text.{symbol_head, head_text, node_text, node_lines}
use Rattle.cert_form.specs.Appends.{Appends}
use Rattle.cert_form.specs.Remaining.{HasPut, numbers_from, nodes_from}
use Rattle.cert_form.proofs.Items.{then, nothing, GoesOn, one_more, all_put}

numbers_go_on : GoesOn numbers_from (λ n m rest. 32 ∷ (decimal m ++ rest))
numbers_go_on = record { is = λ n m ms rest. refl }

nodes_go_on : (P : Protocol) → GoesOn (nodes_from P) (λ n o rest. 110 ∷ 32 ∷ node_text P o (10 ∷ rest))
nodes_go_on P = record { is = λ n o os rest. refl }

module _ (all : List Term) where
  abbrev pub numbered : Id → ℕ
  numbered id = number_in all (tree_at all id)

  pub known_at : (ids : List Id) (n : ℕ) (d : Id) → AreKnown all ids → n < length ids → (get_or ids n d).index < length all
  known_at ids n d known below = AreKnown-at all ids n (get_or ids n d) known (slice_get-get_or ids n d below)

  -- one more number was put, and all
  pub argument_put : (ids : List Id) (n : ℕ) (d : Id) (number : ℕ) (start before spaced after : List ℕ) → HasPut numbers_from n (map numbered ids) start before → n < length ids → number ≡ numbered (get_or ids n d) → Appends (λ rest. 32 ∷ rest) before spaced → Appends (λ rest. decimal number ++ rest) spaced after
      → HasPut numbers_from (n + 1) (map numbered ids) start after
  argument_put ids n d number start before spaced after has below is space digits =
      let x = get_or ids n d in
      let put = subst (λ m. Appends (λ rest. decimal m ++ rest) spaced after) is digits in
      one_more numbered numbers_from (λ k m rest. 32 ∷ (decimal m ++ rest)) numbers_go_on (map numbered ids) ids n x start before after refl has below (itself ids n below) (then (λ rest. 32 ∷ rest) (λ rest. decimal (numbered x) ++ rest) before spaced after space put)
    where
      itself : (js : List Id) (k : ℕ) → k < length js → get_or js k d ≡ get_or js k (get_or js k d)
      itself [] k less = absurd (omega arith)
      itself (y ∷ ys) zero less = refl
      itself (y ∷ ys) (suc k) less = itself ys k (omega arith)

  pub arguments_put : (ids : List Id) (n : ℕ) (start after : List ℕ) → HasPut numbers_from n (map numbered ids) start after → length ids ≤ n → Appends (numbers_text (map numbered ids)) start after
  arguments_put ids n start after has past = all_put numbered numbers_from (λ k rest. rest) (λ k rest. refl) (map numbered ids) ids n start after after refl has past (nothing after)

  -- a symbol over terms of the table
  pub symbol_put : (P : Protocol) (t : Term) (f : Sym) (ids : List Id) (start opened after : List ℕ) → t ≡ node f (map (tree_at all) ids) → Appends (head_text (symbol_head P f)) start opened → Appends (numbers_text (map numbered ids)) opened after → Appends (node_text P (node_of all t)) start after
  symbol_put P t f ids start opened after is head numbers =
      let rows : node_of all t ≡ Over f (map numbered ids) =
      ap (node_of all) is ∙ (ap (λ us. Over f (map (number_in all) us)) (items_of-trees (map (tree_at all) ids)) ∙ ap (Over f) (map-map (number_in all) (tree_at all) ids)) in
      subst (λ o. Appends (node_text P o) start after) (sym rows) (then (head_text (symbol_head P f)) (numbers_text (map numbered ids)) start opened after head numbers)

  -- one more line was put, and all
  pub node_put : (P : Protocol) (n : ℕ) (id : Id) (start before opened told after : List ℕ) → HasPut (nodes_from P) n (map (node_of all) all) start before → n < length all → id.index ≡ n → Appends (λ rest. 110 ∷ 32 ∷ rest) before opened → Appends (node_text P (node_of all (tree_at all id))) opened told
      → Appends (λ rest. 10 ∷ rest) told after → HasPut (nodes_from P) (n + 1) (map (node_of all) all) start after
  node_put P n id start before opened told after has below is opening text closing =
      let t = tree_at all id in
      let here : t ≡ get_or all n t = ap (λ k. unwrap_or (slice_get all k) (Leaf 0)) is ∙ ap (λ o. unwrap_or o (Leaf 0)) (slice_get-get_or all n t below) in
      one_more (node_of all) (nodes_from P) (λ k o rest. 110 ∷ 32 ∷ node_text P o (10 ∷ rest)) (nodes_go_on P) (map (node_of all) all) all n t start before after refl has below here
      (then (λ rest. 110 ∷ 32 ∷ rest) (λ rest. node_text P (node_of all t) (10 ∷ rest)) before opened after opening (then (node_text P (node_of all t)) (λ rest. 10 ∷ rest) opened told after text closing))

  pub nodes_put : (P : Protocol) (n : ℕ) (start after : List ℕ) → HasPut (nodes_from P) n (map (node_of all) all) start after → length all ≤ n → Appends (node_lines P (map (node_of all) all)) start after
  nodes_put P n start after has past = all_put (node_of all) (nodes_from P) (λ k rest. rest) (λ k rest. refl) (map (node_of all) all) all n start after after refl has past (nothing after)
