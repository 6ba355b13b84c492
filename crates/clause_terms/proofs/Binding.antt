-- What patterns bind, one by one.
use Rattle.std.proofs.Common.{◌≡◌, ℕ, ◌+◌, ◌<◌, ◌≤◌, List, [], ◌∷◌, ◌++◌, length, map, flat_map, filter_map, take, get_or, refl, sym, ap, ◌∙◌, subst, append_assoc, append-nil, Result, Ok, Err, OnOk}
use Rattle.std.specs.declared.alloc.AllocError.{AllocError}
use Rattle.std.proofs.lemmas.List.Elements.{filter_map-append}
use Rattle.std.proofs.lemmas.List.Folds.{flat_map-map}
use Rattle.spec_trees.specs.Tree.{Leaf, Node, trees}
use Rattle.spec_trees.specs.Leaves.{leaves, row_leaves}
use Rattle.spec_calculus.specs.Syntax.{Name, Symbol, Variable, Bind, Pattern}
use Rattle.spec_calculus.specs.Syntax as calculus
use Rattle.spec_calculus.specs.Tables.{row_pattern}
use Rattle.spec_terms.specs.Term.{Term}
use Rattle.spec_translation.specs.Conversion.{Scope, Fresh, fresh_leaf, hole_standing, pattern_scope}
use Rattle.term_tree.specs.Bank.{Names, Grows}
use Rattle.term_tree.proofs.BankLaws.{Grows_refl, Grows_trans}
use Rattle.clause_form.proofs.Lists.{flat_map_more, flat_map_all}
use Rattle.pi_tree.specs.declared.syntax.Pat.{Pat}
use Rattle.pi_tree.specs.Patterns.{pattern_of}
use Rattle.clause_terms.specs.Scopes.{Held, NamesScope}
use Rattle.clause_terms.proofs.Standings.{NamesScope-grows, NamesScope-push}

row_scope : (at : Fresh) (ps : List Pattern) → filter_map (hole_standing at) (row_leaves (trees ps)) ≡ flat_map (pattern_scope at) ps
row_scope at [] = refl
row_scope at (p ∷ ps) = filter_map-append (hole_standing at) (leaves p) (row_leaves (trees ps)) ∙ ap (λ l. pattern_scope at p ++ l) (row_scope at ps)

pub node_scope : (at : Fresh) (p : Pattern) (f : Symbol) (ps : List Pattern) → p ≡ Node f (trees ps) → flat_map (pattern_scope at) ps ≡ pattern_scope at p
node_scope at p f ps is = sym (row_scope at ps) ∙ ap (pattern_scope at) (sym is)

-- how far what patterns bind is added
pub record AreBound (at : Fresh) (old now : List Term) (first scope : List Held) (ps : List Pat) (i : ℕ) : Type 0 where
  pub grows : Grows old now
  pub names : (before : Scope) → NamesScope old first before → NamesScope now scope (before ++ flat_map (λ p. pattern_scope at (pattern_of p)) (take i ps))

pub none_bound : (at : Fresh) (all : List Term) (scope : List Held) (ps : List Pat) → AreBound at all all scope scope ps 0
none_bound at all scope ps = record { grows = Grows_refl all; names = λ before named. subst (λ (l : Scope). NamesScope all scope l) (sym (append-nil before)) named }

pub bound_on : (at : Fresh) (old now next : List Term) (first scope new : List Held) (ps : List Pat) (i : ℕ) (p : Pat) → AreBound at old now first scope ps i → i < length ps → p ≡ get_or ps i p → Grows now next
    → ((before : Scope) → NamesScope now scope before → NamesScope next new (before ++ pattern_scope at (pattern_of p))) → AreBound at old next first new ps (i + 1)
bound_on at old now next first scope new ps i p was within is grows adds =
    let bound = λ (q : Pat). pattern_scope at (pattern_of q) in
    let more : flat_map bound (take (i + 1) ps) ≡ flat_map bound (take i ps) ++ bound p = flat_map_more bound ps i p within ∙ ap (λ q. flat_map bound (take i ps) ++ bound q) (sym is) in
    record {
      grows = Grows_trans old now next was.grows grows;
      names = λ before named. subst (λ (l : Scope). NamesScope next new l) (append_assoc before (flat_map bound (take i ps)) (bound p) ∙ ap (λ l. before ++ l) (sym more))
          (adds (before ++ flat_map bound (take i ps)) (was.names before named));
    }

pub all_bound : (at : Fresh) (old now : List Term) (first scope : List Held) (ps : List Pat) (patterns : List Pattern) (i : ℕ) → AreBound at old now first scope ps i → length ps ≤ i → map pattern_of ps ≡ patterns
    → (before : Scope) → NamesScope old first before → NamesScope now scope (before ++ flat_map (pattern_scope at) patterns)
all_bound at old now first scope ps patterns i was past seen before named =
    let whole = flat_map_all (λ q. pattern_scope at (pattern_of q)) ps i past ∙ (sym (flat_map-map (pattern_scope at) pattern_of ps) ∙ ap (flat_map (pattern_scope at)) seen) in
    subst (λ (l : Scope). NamesScope now scope (before ++ l)) whole (was.names before named)

-- what a node binds is what its arguments bind
pub node_bound : (at : Fresh) (old now : List Term) (first scope : List Held) (p : Pattern) (f : Symbol) (ps : List Pattern) (r : Result (Unit {0}) AllocError) → p ≡ Node f (trees ps)
    → OnOk r ((before : Scope) → NamesScope old first before → NamesScope now scope (before ++ flat_map (pattern_scope at) ps)) → OnOk r ((before : Scope) → NamesScope old first before → NamesScope now scope (before ++ pattern_scope at p))
node_bound at old now first scope p f ps (Ok done) is adds = λ before named. subst (λ (l : Scope). NamesScope now scope (before ++ l)) (node_scope at p f ps is) (adds before named)
node_bound at old now first scope p f ps (Err failed) is adds = tt

abbrev single : Name → Term → Scope
single x t = record { name = x; term = t } ∷ []

-- and a hole that binds a variable binds it alone
pub hole_bound : (at : Fresh) (old now : List Term) (first scope : List Held) (p : Pattern) (i : ℕ) (h : Held) (r : Result (Unit {0}) AllocError) → p ≡ Leaf (Bind i) → Grows old now → Names now h.id (fresh_leaf at i) → h.name ≡ Variable i
    → OnOk r (scope ≡ first ++ h ∷ []) → OnOk r ((before : Scope) → NamesScope old first before → NamesScope now scope (before ++ pattern_scope at p))
hole_bound at old now first scope p i h (Ok done) is grows named name pushed = λ before names.
    let one : single h.name (fresh_leaf at i) ≡ pattern_scope at p = ap (λ x. single x (fresh_leaf at i)) name ∙ ap (pattern_scope at) (sym is) in
    subst (λ (l : Scope). NamesScope now scope (before ++ l)) one
    (subst (λ (l : List Held). NamesScope now l (before ++ single h.name (fresh_leaf at i))) (sym pushed) (NamesScope-push now first before h (fresh_leaf at i) (NamesScope-grows old now first before grows names) named))
hole_bound at old now first scope p i h (Err failed) is grows named name pushed = tt

-- what is bound is added to nothing
pub bound_alone : (at : Fresh) (old now : List Term) (first scope : List Held) (p : Pattern) → first ≡ [] → ((before : Scope) → NamesScope old first before → NamesScope now scope (before ++ pattern_scope at p)) → NamesScope now scope (pattern_scope at p)
bound_alone at old now first scope p none adds = adds [] (subst (λ (l : List Held). NamesScope old l []) (sym none) (record { known = tt; is = refl }))

pub row_alone : (at : Fresh) (old now : List Term) (first scope : List Held) (ps : List Pattern) → first ≡ [] → ((before : Scope) → NamesScope old first before → NamesScope now scope (before ++ flat_map (pattern_scope at) ps)) → NamesScope now scope (pattern_scope at (row_pattern ps))
row_alone at old now first scope ps none adds =
    subst (λ (l : Scope). NamesScope now scope l) (node_scope at (row_pattern ps) calculus.Tuple ps refl)
    (adds [] (subst (λ (l : List Held). NamesScope old l []) (sym none) (record { known = tt; is = refl })))
