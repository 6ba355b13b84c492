-- Building what a term is after a substitution.
use Rattle.std.proofs.Common.{◌≡◌, ◌↔◌, ℕ, zero, suc, ◌+◌, ◌≤◌, ◌<◌, Bool, true, nat_eq, Option, Some, None, List, [], ◌∷◌, ◌++◌, length, map, take, drop, get_or, append_assoc, append-nil, add-one, refl, sym, ap, ◌∙◌, arith}
use Rattle.std.proofs.lemmas.List.{map-append, get_or-map, length-map}
use Rattle.std.proofs.Math.Seq.{take-suc, take-length, drop-append_seam}
use Rattle.std.proofs.lemmas.Bool.{false≢true, or_left, or_right}
use Rattle.spec_trees.specs.Tree.{Trees, Leaf, Node, none, more, node, trees, bind, binds, some_leaves}
use Rattle.spec_trees.proofs.Rows.{items_of-trees, trees-items_of, bind-node, node-injective}
use Rattle.spec_terms.specs.Term.{Sym, Term, Subst, has_var}
use Rattle.spec_terms.specs.Binding.{resolved}
use Rattle.spec_terms.specs.Rank.{height, heights, ranks}
use Rattle.spec_terms.proofs.Replace.{eqb_self}
use Rattle.spec_terms.proofs.Resolve.{resolved-unbound, resolved-free}
use Rattle.term_tree.specs.Bank.{tree_at, AreKnown, Grows, Names}
use Rattle.term_tree.specs.declared.bank.Id.{Id}
use Rattle.term_tree.proofs.BankLaws.{Grows_refl, Grows_trans, Grows-length, tree_at-grows, AreKnown-append, AreKnown-grows, trees_at-grow, known-at}
use Rattle.unify_match.specs.declared.bound.Bound.{Bound}
use Rattle.unify_match.specs.declared.substitute.Substitution.{Substitution}
use Rattle.unify_match.specs.declared.substitute.Substitution.TheVariants.{Bindings, Offset, Numbers}
use Rattle.unify_match.specs.Trail.{id_of}
use Rattle.unify_match.specs.Seen.{seen, IsReady, IsWalked}
use Rattle.unify_match.specs.Substitution.{subst_of, CanChange, Fits, rank_of, arguments}
use Rattle.unify_match.proofs.SeenLemmas.{seen-grows, IsReady-grows, IsReady-sound, bound_to-seen, bound_to-seen_none}

pub arguments-node : (f : Sym) (ts : List Term) → arguments (node f ts) ≡ ts
arguments-node f ts = items_of-trees ts

-- a term with arguments has a symbol
pub node-arguments : (t : Term) → 0 < length (arguments t) → (f : Sym) × (t ≡ node f (arguments t))
node-arguments (Leaf x) h = absurd (omega arith)
node-arguments (Node f args) h = (f, ap (Node f) (sym (trees-items_of args)))

-- an argument is lower than the term, and its variables are the term's
height_in-row : (h : ℕ → ℕ) (ts : List Term) (i : ℕ) → i < length ts → height h (get_or ts i (Leaf 0)) ≤ heights h (trees ts)
height_in-row h [] i less = absurd (omega arith)
height_in-row h (t ∷ ts) zero less = omega arith
height_in-row h (t ∷ ts) (suc i) less = let below = height_in-row h ts i (omega arith) in omega arith

pub height-argument : (h : ℕ → ℕ) (t : Term) (i : ℕ) → i < length (arguments t) → height h (get_or (arguments t) i (Leaf 0)) < height h t
height-argument h t i less =
    let whole = node-arguments t (omega arith) in
    let below = height_in-row h (arguments t) i less in
    let row = ap (height h) whole.1 in omega arith

has_var_in-row : (x : ℕ) (ts : List Term) (i : ℕ) → i < length ts → has_var x (get_or ts i (Leaf 0)) ≡ true → some_leaves (nat_eq x) (trees ts) ≡ true
has_var_in-row x [] i less here = absurd (omega arith)
has_var_in-row x (t ∷ ts) zero less here = or_left (has_var x t) (some_leaves (nat_eq x) (trees ts)) here
has_var_in-row x (t ∷ ts) (suc i) less here = or_right (has_var x t) (some_leaves (nat_eq x) (trees ts)) (has_var_in-row x ts i (omega arith) here)

has_var-argument : (x : ℕ) (t : Term) (i : ℕ) → i < length (arguments t) → has_var x (get_or (arguments t) i (Leaf 0)) ≡ true → has_var x t ≡ true
has_var-argument x t i less here = let whole = node-arguments t (omega arith) in ap (has_var x) whole.1 ∙ has_var_in-row x (arguments t) i less here

-- substitutions in a grown bank
pub subst_of-grows : (old now : List Term) (change : Substitution) (t : Term) → Grows old now → CanChange old change t → subst_of now change ≡ subst_of old change
subst_of-grows old now (Bindings b) t grows ready = ap resolved (seen-grows old now b.now.pairs grows ready.known)
subst_of-grows old now (Offset n) t grows ready = refl
subst_of-grows old now (Numbers table) t grows ready = refl

pub rank_of-grows : (old now : List Term) (change : Substitution) (t u : Term) → Grows old now → CanChange old change t → height (rank_of now change) u ≡ height (rank_of old change) u
rank_of-grows old now (Bindings b) t u grows ready = ap (λ bs. height (ranks bs) u) (seen-grows old now b.now.pairs grows ready.known)
rank_of-grows old now (Offset n) t u grows ready = refl
rank_of-grows old now (Numbers table) t u grows ready = refl

pub CanChange-argument : (old now : List Term) (change : Substitution) (t : Term) (i : ℕ) → Grows old now → CanChange old change t → i < length (arguments t) → CanChange now change (get_or (arguments t) i (Leaf 0))
CanChange-argument old now (Bindings b) t i grows ready less = IsReady-grows old now b.now.pairs grows ready
CanChange-argument old now (Offset n) t i grows fits less = λ x here. fits x (has_var-argument x t i less here)
CanChange-argument old now (Numbers table) t i grows ready less = tt

pub variable-fits : (all : List Term) (change : Substitution) (x : ℕ) → CanChange all change (Leaf x) → Fits change x
variable-fits all (Bindings b) x ready = tt
variable-fits all (Offset n) x fits = fits x (eqb_self x)
variable-fits all (Numbers table) x ready = tt

-- the root's arguments and symbol, as a bank tells them
pub length-arguments : (all : List Term) (t : Term) (f : Sym) (ids : List Id) → t ≡ node f (map (tree_at all) ids) → length ids ≡ length (arguments t)
length-arguments all t f ids is = sym (length-map ids (tree_at all)) ∙ (ap length (sym (arguments-node f (map (tree_at all) ids))) ∙ ap (λ u. length (arguments u)) (sym is))

pub argument-at : (all : List Term) (t : Term) (f : Sym) (ids : List Id) (i : ℕ) (d : Id) → t ≡ node f (map (tree_at all) ids) → i < length ids → tree_at all (get_or ids i d) ≡ get_or (arguments t) i (Leaf 0)
argument-at all t f ids i d is less = sym (get_or-map (tree_at all) ids i d (Leaf 0) less) ∙ (ap (λ l. get_or l i (Leaf 0)) (sym (arguments-node f (map (tree_at all) ids))) ∙ ap (λ u. get_or (arguments u) i (Leaf 0)) (sym is))

pub symbol-at : (all : List Term) (t : Term) (f : Sym) (ids : List Id) → t ≡ node f (map (tree_at all) ids) → t ≡ node f (arguments t)
symbol-at all t f ids is = is ∙ ap (node f) (sym (arguments-node f (map (tree_at all) ids)) ∙ ap arguments (sym is))

-- a symbol without arguments is its own instance
pub constant_stays : (s : Subst) (all : List Term) (t : Term) (f : Sym) (ids : List Id) → t ≡ node f (map (tree_at all) ids) → arguments t ≡ [] → bind s t ≡ t
constant_stays s all t f ids is empty =
    let bare : t ≡ node f [] = symbol-at all t f ids is ∙ ap (node f) empty in
    ap (bind s) bare ∙ sym bare

known-from : (all : List Term) (ids : List Id) (i : ℕ) → AreKnown all ids → AreKnown all (drop i ids)
known-from all ids zero known = known
known-from all [] (suc i) known = tt
known-from all (id ∷ ids) (suc i) known = known-from all ids i known.1

pub known-argument : (all : List Term) (ids : List Id) (i : ℕ) (d : Id) → AreKnown all ids → i < length ids → (get_or ids i d).index < length all
known-argument all ids i d known less = (known-at all ids i d less (known-from all ids i known)).0

-- where a walk ends
pub led_by_walk : (all : List Term) (pairs : List Bound) (from to : Id) → IsReady all pairs → IsWalked all pairs from to → bind (resolved (seen all pairs)) (tree_at all from) ≡ tree_at all from → to ≡ from
led_by_walk all pairs from to ready walked unchanged = walked.stays (λ x is. go x is (id_of pairs x) refl) where
  go : (x : ℕ) → tree_at all from ≡ Leaf x → (o : Option Id) → id_of pairs x ≡ o → id_of pairs x ≡ None
  go x is None e = e
  go x is (Some id) e =
      let itself : resolved (seen all pairs) x ≡ Leaf x = sym (ap (bind (resolved (seen all pairs))) is) ∙ (unchanged ∙ is) in
      let free = resolved-free (seen all pairs) (IsReady-sound all pairs ready) x (tree_at all id) (bound_to-seen all pairs x id e) x in
      absurd (false≢true (sym free ∙ (ap (has_var x) itself ∙ eqb_self x)))

-- how far the arguments are built: `kept` says that each is what it was
pub record IsRebuilding (s : Subst) (old now : List Term) (ts : List Term) (before stack : List Id) (i : ℕ) (kept : Bool) : Type 0 where
  pub grows : Grows old now
  pub built : List Id
  pub stacked : stack ≡ before ++ built
  pub in_bank : AreKnown now built
  pub done : map (tree_at now) built ≡ map (bind s) (take i ts)
  pub same : kept ≡ true → map (tree_at now) built ≡ take i ts
  pub unchanged : map (bind s) ts ≡ ts → (kept ≡ true) × (now ≡ old)

pub rebuilding_begins : (s : Subst) (old : List Term) (ts : List Term) (before : List Id) → IsRebuilding s old old ts before before 0 true
rebuilding_begins s old ts before = record {
  grows = Grows_refl old;
  built = [];
  stacked = sym (append-nil before);
  in_bank = tt;
  done = refl;
  same = λ h. refl;
  unchanged = λ h. (refl, refl);
}

take-more : (ts : List Term) (i : ℕ) → i < length ts → take (i + 1) ts ≡ take i ts ++ get_or ts i (Leaf 0) ∷ []
take-more ts i less = ap (λ n. take n ts) (add-one i) ∙ take-suc ts i (Leaf 0) less

-- one argument more
pub rebuilding_on : (s : Subst) (old now next : List Term) (ts : List Term) (before stack : List Id) (i : ℕ) (kept after : Bool) (arg made : Id) → IsRebuilding s old now ts before stack i kept → i < length ts
    → arg.index < length now → tree_at now arg ≡ get_or ts i (Leaf 0) → Grows now next → Names next made (bind s (get_or ts i (Leaf 0)))
    → (bind s (get_or ts i (Leaf 0)) ≡ get_or ts i (Leaf 0) → (next ≡ now) × (made ≡ arg))
    → ((after ≡ true) ↔ ((kept ≡ true) × (made ≡ arg))) → IsRebuilding s old next ts before (stack ++ made ∷ []) (i + 1) after
rebuilding_on s old now next ts before stack i kept after arg made was less known is grows names itself all_kept =
    let t = get_or ts i (Leaf 0) in
    let earlier : map (tree_at next) was.built ≡ map (tree_at now) was.built = trees_at-grow now next was.built grows was.in_bank in
    record {
      grows = Grows_trans old now next was.grows grows;
      built = was.built ++ made ∷ [];
      stacked = ap (λ l. l ++ made ∷ []) was.stacked ∙ append_assoc before was.built (made ∷ []);
      in_bank = AreKnown-append next was.built made (AreKnown-grows now next was.built grows was.in_bank) names.known;
      done =
          map-append (tree_at next) was.built (made ∷ [])
          ∙ (ap (λ l. l ++ tree_at next made ∷ []) (earlier ∙ was.done)
          ∙ (ap (λ u. map (bind s) (take i ts) ++ u ∷ []) names.is
          ∙ (sym (map-append (bind s) (take i ts) (t ∷ [])) ∙ ap (map (bind s)) (sym (take-more ts i less)))));
      same = λ h.
          let parts = all_kept.0 h in
          let this : tree_at next made ≡ t = ap (tree_at next) parts.1 ∙ (tree_at-grows now next arg grows known ∙ is) in
          map-append (tree_at next) was.built (made ∷ [])
          ∙ (ap (λ l. l ++ tree_at next made ∷ []) (earlier ∙ was.same parts.0) ∙ (ap (λ u. take i ts ++ u ∷ []) this ∙ sym (take-more ts i less)));
      unchanged = λ h.
          let before_it = was.unchanged h in
          let this = itself (sym (get_or-map (bind s) ts i (Leaf 0) (Leaf 0) less) ∙ ap (λ l. get_or l i (Leaf 0)) h) in
          (all_kept.1 (before_it.0, this.1), this.0 ∙ before_it.1);
    }

-- all arguments are what they were
pub rebuilding_kept : (s : Subst) (old now : List Term) (end : Id) (before stack : List Id) (i : ℕ) (kept : Bool) → end.index < length old → 0 < length (arguments (tree_at old end))
    → IsRebuilding s old now (arguments (tree_at old end)) before stack i kept → i ≡ length (arguments (tree_at old end)) → kept ≡ true → Names now end (bind s (tree_at old end))
rebuilding_kept s old now end before stack i kept known some was all_done all_kept =
    let ts = arguments (tree_at old end) in
    let whole = node-arguments (tree_at old end) some in
    let full : take i ts ≡ ts = ap (λ n. take n ts) all_done ∙ take-length ts in
    let same : map (bind s) ts ≡ ts = sym (ap (map (bind s)) full) ∙ (sym was.done ∙ (was.same all_kept ∙ full)) in
    let longer = Grows-length old now was.grows in
    record {
      known = omega arith;
      is = tree_at-grows old now end was.grows known ∙ (whole.1 ∙ (ap (node whole.0) (sym same) ∙ (sym (bind-node s whole.0 ts) ∙ sym (ap (bind s) whole.1))));
    }

-- the arguments that were built, under the symbol
pub rebuilding_ends : (s : Subst) (old now : List Term) (end : Id) (f : Sym) (before stack : List Id) (i : ℕ) (kept : Bool) → tree_at old end ≡ node f (arguments (tree_at old end))
    → IsRebuilding s old now (arguments (tree_at old end)) before stack i kept → i ≡ length (arguments (tree_at old end))
    → node f (map (tree_at now) (drop (length before) stack)) ≡ bind s (tree_at old end)
rebuilding_ends s old now end f before stack i kept whole was all_done =
    let ts = arguments (tree_at old end) in
    let full : take i ts ≡ ts = ap (λ n. take n ts) all_done ∙ take-length ts in
    let items : drop (length before) stack ≡ was.built = ap (drop (length before)) was.stacked ∙ drop-append_seam before was.built in
    ap (λ l. node f (map (tree_at now) l)) items ∙ (ap (node f) (was.done ∙ ap (map (bind s)) full) ∙ (sym (bind-node s f ts) ∙ sym (ap (bind s) whole)))

-- a term that is as it was has its arguments as they were
pub arguments_unchanged : (s : Subst) (t : Term) → 0 < length (arguments t) → bind s t ≡ t → map (bind s) (arguments t) ≡ arguments t
arguments_unchanged s t some same =
    let whole = node-arguments t some in
    (node-injective whole.0 whole.0 (map (bind s) (arguments t)) (arguments t) (sym (bind-node s whole.0 (arguments t)) ∙ (sym (ap (bind s) whole.1) ∙ (same ∙ whole.1)))).1

-- where nothing changes, all arguments of the end are as they were
pub end_unchanged : (s : Subst) (all : List Term) (id end : Id) → bind s (tree_at all end) ≡ bind s (tree_at all id) → (bind s (tree_at all id) ≡ tree_at all id → end ≡ id) → 0 < length (arguments (tree_at all end))
    → bind s (tree_at all id) ≡ tree_at all id → map (bind s) (arguments (tree_at all end)) ≡ arguments (tree_at all end)
end_unchanged s all id end same stays some unchanged = arguments_unchanged s (tree_at all end) some (same ∙ (unchanged ∙ sym (ap (tree_at all) (stays unchanged))))

-- and each of them
pub row_unchanged : (s : Subst) (ts : List Term) (i : ℕ) → i < length ts → map (bind s) ts ≡ ts → bind s (get_or ts i (Leaf 0)) ≡ get_or ts i (Leaf 0)
row_unchanged s ts i less same = sym (get_or-map (bind s) ts i (Leaf 0) (Leaf 0) less) ∙ ap (λ l. get_or l i (Leaf 0)) same

pub argument_unchanged : (s r : Subst) (now : List Term) (arg : Id) (t : Term) → r ≡ s → tree_at now arg ≡ t → bind s t ≡ t → bind r (tree_at now arg) ≡ tree_at now arg
argument_unchanged s r now arg t same is unchanged = ap (λ q. bind q (tree_at now arg)) same ∙ (ap (bind s) is ∙ (unchanged ∙ sym is))

-- what is named, told otherwise
pub Names-same : (all : List Term) (id : Id) (t u : Term) → t ≡ u → Names all id t → Names all id u
Names-same all id t u e names = record { known = names.known; is = names.is ∙ e }

-- a term keeps its tree where its variables stay
mutual
  bind-stays : (s : Subst) (t : Term) → ((x : ℕ) → has_var x t ≡ true → s x ≡ Leaf x) → bind s t ≡ t
  bind-stays s (Leaf x) h = h x (eqb_self x)
  bind-stays s (Node f args) h = ap (Node f) (binds-stay s args h)

  binds-stay : (s : Subst) (ts : Trees ℕ Sym) → ((x : ℕ) → some_leaves (nat_eq x) ts ≡ true → s x ≡ Leaf x) → binds s ts ≡ ts
  binds-stay s none h = refl
  binds-stay s (more t ts) h = cc (
    bind-stays s t (λ x here. h x (or_left (has_var x t) (some_leaves (nat_eq x) ts) here)),
    binds-stay s ts (λ x here. h x (or_right (has_var x t) (some_leaves (nat_eq x) ts) here)),
  )

-- so bindings of other variables leave a term as it is
pub unbound_stays : (all : List Term) (pairs : List Bound) (t : Term) → ((x : ℕ) → has_var x t ≡ true → id_of pairs x ≡ None) → bind (resolved (seen all pairs)) t ≡ t
unbound_stays all pairs t unbound = bind-stays (resolved (seen all pairs)) t (λ x here. resolved-unbound (seen all pairs) x (bound_to-seen_none all pairs x (unbound x here)))
