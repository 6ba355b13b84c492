-- A table that grows.
use Rattle.std.proofs.Common.{◌≡◌, ℕ, zero, suc, ◌<◌, ◌≤◌, ◌⊎◌, inl, inr, false, if◌then◌else◌, nat_le, List, [], ◌∷◌, ◌++◌, length, map, take, slice_get, refl, sym, ◌∙◌, ap, subst, arith, length-append}
use Rattle.std.specs.Option.{unwrap_or}
use Rattle.std.specs.List.{AllByRecursion, list_any}
use Rattle.std.proofs.lemmas.List.{take-append-le}
use Rattle.spec_trees.specs.Tree.{Leaf, node}
use Rattle.spec_terms.specs.Term.{Term}
use Rattle.spec_clauses.specs.Fact.{same_term}
use Rattle.spec_node_tables.specs.Nodes.{TableNode, Variable, Over, term_at, term_of}
use Rattle.spec_node_tables.specs.Text.{node_numbers}
use Rattle.spec_node_tables.specs.Order.{IsNumberOf}
use Rattle.spec_node_starts.specs.Starts.{start_at, Row, through, through_row, start_behind, start_of}
use Rattle.spec_node_starts.specs.Tables.{IsNodeBehind, HaveStarts}

got_left : {A : Type 0} (xs ys : List A) (k : ℕ) → k < length xs → slice_get (xs ++ ys) k ≡ slice_get xs k
got_left [] ys k below = absurd (omega (arith, below))
got_left (x ∷ xs) ys zero below = refl
got_left (x ∷ xs) ys (suc k) below = got_left xs ys k (omega (arith, below))

got_last : {A : Type 0} (xs : List A) (y d : A) → unwrap_or (slice_get (xs ++ y ∷ []) (length xs)) d ≡ y
got_last [] y d = refl
got_last (x ∷ xs) y d = got_last xs y d

term_left : (ts us : List Term) (n : ℕ) → IsNumberOf (length ts) n → term_at (ts ++ us) n ≡ term_at ts n
term_left ts us zero is = absurd (omega (arith, is.0))
term_left ts us (suc k) is = ap (λ o. unwrap_or o (Leaf 0)) (got_left ts us k (omega (arith, is.1)))

terms_left : (ts us : List Term) (ns : List ℕ) → AllByRecursion (IsNumberOf (length ts)) ns → map (term_at (ts ++ us)) ns ≡ map (term_at ts) ns
terms_left ts us [] are = refl
terms_left ts us (n ∷ ns) (is, are) = ap (λ t. t ∷ map (term_at (ts ++ us)) ns) (term_left ts us n is) ∙ ap (λ zs. term_at ts n ∷ zs) (terms_left ts us ns are)

node_left : (ts us : List Term) (n : TableNode) → AllByRecursion (IsNumberOf (length ts)) (node_numbers n) → term_of (ts ++ us) n ≡ term_of ts n
node_left ts us (Variable x) are = refl
node_left ts us (Over f ns) are = ap (node f) (terms_left ts us ns are)

start_left : (ss rs : List ℕ) (n : ℕ) → IsNumberOf (length ss) n → start_at (ss ++ rs) n ≡ start_at ss n
start_left ss rs zero is = absurd (omega (arith, is.0))
start_left ss rs (suc k) is = ap (λ o. unwrap_or o 0) (got_left ss rs k (omega (arith, is.1)))

abbrev through_by : ℕ → Row → ℕ → Row
through_by start row n = if nat_le n row.last then row else (if nat_le start row.last then record { least = row.least; last = n } else record { least = start; last = n })

row_left : (ss rs : List ℕ) (row : Row) (ns : List ℕ) → AllByRecursion (IsNumberOf (length ss)) ns → through_row (ss ++ rs) row ns ≡ through_row ss row ns
row_left ss rs row [] are = refl
row_left ss rs row (n ∷ ns) (is, are) =
    ap (λ s. through_row (ss ++ rs) (through_by s row n) ns) (start_left ss rs n is) ∙ row_left ss rs (through ss row n) ns are

fewer_numbers : (k m : ℕ) (ns : List ℕ) → k ≤ m → AllByRecursion (IsNumberOf k) ns → AllByRecursion (IsNumberOf m) ns
fewer_numbers k m [] le are = tt
fewer_numbers k m (n ∷ ns) le (is, are) = ((is.0, omega (arith, is.1, le)), fewer_numbers k m ns le are)

pub no_starts : HaveStarts [] []
no_starts = record { as_many = refl; each = λ k below. absurd (omega (arith, below)) }

-- behind so many others the node stands, also where further ones follow
stays_behind : (ts us : List Term) (ss rs : List ℕ) (k : ℕ) → k < length ts → length ss ≡ length ts → IsNodeBehind ts ss k → IsNodeBehind (ts ++ us) (ss ++ rs) k
stays_behind ts us ss rs k below long is =
    let number : IsNumberOf (length ts) (suc k) = (omega arith, omega (arith, below)) in
    let same = term_left ts us (suc k) number in
    let less : k ≤ length ts = omega (arith, below) in
    record {
      node = is.node;
      numbers = is.numbers;
      term = same ∙ (is.term ∙ sym (node_left ts us is.node (fewer_numbers k (length ts) (node_numbers is.node) less is.numbers)));
      new = ap (λ t. list_any (same_term t) (take k (ts ++ us))) same ∙ (ap (λ zs. list_any (same_term (term_at ts (suc k))) zs) (take-append-le k ts us less) ∙ is.new);
      start = start_left ss rs (suc k) (omega arith, omega (arith, below, long))
          ∙ (is.start ∙ sym (ap (start_behind k) (row_left ss rs record { least = 0; last = 0 } (node_numbers is.node) (fewer_numbers k (length ss) (node_numbers is.node) (omega (arith, below, long)) is.numbers))));
    }

either : {A B C : Type 0} → A ⊎ B → (A → C) → (B → C) → C
either (inl a) f g = f a
either (inr b) f g = g b

less_or_same : (m n : ℕ) → m < suc n → (m < n) ⊎ (m ≡ n)
less_or_same zero zero below = inr refl
less_or_same zero (suc n) below = inl (omega arith)
less_or_same (suc m) zero below = absurd (omega (arith, below))
less_or_same (suc m) (suc n) below = either (less_or_same m n (omega (arith, below))) (λ less. inl (omega (arith, less))) (λ same. inr (ap suc same))

last_behind : (ts : List Term) (ss : List ℕ) (n : TableNode) → length ss ≡ length ts → AllByRecursion (IsNumberOf (length ts)) (node_numbers n) → list_any (same_term (term_of ts n)) ts ≡ false
    → IsNodeBehind (ts ++ term_of ts n ∷ []) (ss ++ start_of ss (length ts) (node_numbers n) ∷ []) (length ts)
last_behind ts ss n long numbers new =
    let t = term_of ts n in
    let here : term_at (ts ++ t ∷ []) (suc (length ts)) ≡ t = got_last ts t (Leaf 0) in
    let start = start_of ss (length ts) (node_numbers n) in
    let there : start_at (ss ++ start ∷ []) (suc (length ts)) ≡ start = ap (λ k. start_at (ss ++ start ∷ []) (suc k)) (sym long) ∙ got_last ss start 0 in
    let whole : take (length ts) (ts ++ t ∷ []) ≡ ts = take-append-le (length ts) ts (t ∷ []) (omega arith) ∙ take_whole ts in
    record {
      node = n;
      numbers = numbers;
      term = here ∙ sym (node_left ts (t ∷ []) n numbers);
      new = ap (λ u. list_any (same_term u) (take (length ts) (ts ++ t ∷ []))) here ∙ (ap (λ zs. list_any (same_term t) zs) whole ∙ new);
      start = there ∙ sym (ap (start_behind (length ts)) (row_left ss (start ∷ []) record { least = 0; last = 0 } (node_numbers n) (subst (λ k. AllByRecursion (IsNumberOf k) (node_numbers n)) (sym long) numbers)));
    }
  where
    take_whole : (zs : List Term) → take (length zs) zs ≡ zs
    take_whole [] = refl
    take_whole (z ∷ zs) = ap (λ ys. z ∷ ys) (take_whole zs)

pub one_more : (ts : List Term) (ss : List ℕ) (n : TableNode) → HaveStarts ts ss → AllByRecursion (IsNumberOf (length ts)) (node_numbers n) → list_any (same_term (term_of ts n)) ts ≡ false
    → HaveStarts (ts ++ term_of ts n ∷ []) (ss ++ start_of ss (length ts) (node_numbers n) ∷ [])
one_more ts ss n is numbers new =
    let t = term_of ts n in
    let start = start_of ss (length ts) (node_numbers n) in
    let long : length (ts ++ t ∷ []) ≡ suc (length ts) = omega (arith, length-append ts (t ∷ [])) in
    record {
      as_many = omega (arith, is.as_many, length-append ts (t ∷ []), length-append ss (start ∷ []));
      each = λ k below. either (less_or_same k (length ts) (omega (arith, below, long)))
          (λ less. stays_behind ts (t ∷ []) ss (start ∷ []) k less is.as_many (is.each k less))
          (λ same. subst (IsNodeBehind (ts ++ t ∷ []) (ss ++ start ∷ [])) (sym same) (last_behind ts ss n is.as_many numbers new));
    }
