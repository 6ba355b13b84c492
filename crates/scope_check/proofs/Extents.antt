-- The numbers of symbols, of applications and of choices of expressions, and of rows of them.
use Rattle.std.proofs.Common.{◌≡◌, ℕ, zero, suc, ◌+◌, ◌-◌, ◌*◌, ◌<◌, ◌≤◌, min, List, [], ◌∷◌, ◌++◌, length, map, Option, Some, None, get_or, Ok, inl, inr, refl, sym, ap, subst, ◌∙◌, arith}
use Rattle.std.proofs.Math.Nat.{mul-zero, zero-min, mul_comm, mul_assoc, le-mul_of_pos_right}
use Rattle.std.proofs.lemmas.Bool.{cases_lt, le-leb, lt-leb}
use Rattle.std.proofs.lemmas.List.{length-map}
use Rattle.std.proofs.lemmas.Option.{slice_get_past}
use Rattle.std.specs.Option.{option_map_or}
use Rattle.spec_trees.specs.Tree.{Leaf, Node, node, trees, sizes}
use Rattle.spec_calculus.specs.Bounds.{most_written_symbols, most_choices}
use Rattle.spec_calculus.specs.Syntax.{Term, Head, Builds, Calls, Expression}
use Rattle.spec_calculus.specs.Points.{numbered}
use Rattle.spec_calculus.specs.Choices.{applications, row_applications, choice_count, row_choice_count}
use Rattle.spec_calculus.proofs.Items.{of_some, of_map}
use Rattle.spec_well_formed.specs.Terms.{expression_size, row_expression_size}
use Rattle.spec_protocol_scope.specs.Answers.{TooMany, fault, within}
use Rattle.spec_protocol_scope.specs.Expressions.{terms_of, rooted, sized}
use Rattle.pi_tree.specs.declared.destructors.Dtor.{Dtor}
use Rattle.pi_tree.specs.Rules.{destructor_of}
use Rattle.pi_tree.proofs.Items.{numbered-index}
use Rattle.scope_check.specs.Extents.{Counts, CountsExpression, CountsRow, CountsRoot, capped_applications, capped_choices, root_applications, root_choices}
use Rattle.scope_declarations.specs.Terms.{capped}
use Rattle.scope_check.specs.declared.expressions.Extent.{Extent}

-- a product whose first factor is over the limit
product_over : (a b c : ℕ) → c ≤ a → 0 < c → 0 < b → min (min a c * min b c) c ≡ min (a * b) c
product_over a b c over limit some =
    let grown : min a c ≤ min a c * min b c = le-mul_of_pos_right (min a c) (omega (arith, limit, some)) in
    let whole : a ≤ a * b = le-mul_of_pos_right a some in
    omega (arith, over, grown, whole)

-- and one whose other factor is none
product_none : (a c : ℕ) → min (min a c * min zero c) c ≡ min (a * zero) c
product_none a c = ap (λ (k : ℕ). min (min a c * k) c) (zero-min c) ∙ ap (λ (k : ℕ). min k c) (mul-zero (min a c) ∙ sym (mul-zero a))

product_from : (a b c : ℕ) → c ≤ a → 0 < c → min (min a c * min b c) c ≡ min (a * b) c
product_from a zero c over limit = product_none a c
product_from a (suc b) c over limit = product_over a (suc b) c over limit (omega arith)

-- factors may be capped as their product is
capped_product : (a b c : ℕ) → 0 < c → min (min a c * min b c) c ≡ min (a * b) c
capped_product a b c limit =
    elim (cases_lt a c) [
      | inr over ↦ product_from a b c over limit
      | inl below ↦ elim (cases_lt b c) [
        | inr over ↦ ap (λ (k : ℕ). min k c) (mul_comm (min a c) (min b c)) ∙ (product_from b a c over limit ∙ ap (λ (k : ℕ). min k c) (mul_comm b a))
        | inl within ↦ let first : min a c ≡ a = omega (arith, below) in let other : min b c ≡ b = omega (arith, within) in λ i. min (first i * other i) c
      ]
    ]

-- what is counted of two, where it is combined
counts_combined : (s t a b m n : ℕ) (one other both : Extent) → Counts s a m one → Counts t b n other → both.symbols ≡ capped (one.symbols + other.symbols)
    → both.applications ≡ capped_applications (one.applications + other.applications) → both.choices ≡ capped_choices (one.choices * other.choices) → Counts (s + t) (a + b) (m * n) both
counts_combined s t a b m n one other both first second symbols calls chosen = record {
  symbols = omega (arith, first.symbols, second.symbols, symbols);
  applications = omega (arith, first.applications, second.applications, calls);
  chosen = chosen ∙ ((λ i. capped_choices (first.chosen i * second.chosen i)) ∙ capped_product m n (most_choices + 1) (omega arith));
}

counts_same : (s t a b m n : ℕ) (x : Extent) → s ≡ t → a ≡ b → m ≡ n → Counts s a m x → Counts t b n x
counts_same s t a b m n x e f g h = record {
  symbols = h.symbols ∙ ap capped e;
  applications = h.applications ∙ ap capped_applications f;
  chosen = h.chosen ∙ ap capped_choices g;
}

size_more : (es : List Expression) (e : Expression) → row_expression_size (trees es) + expression_size e ≡ row_expression_size (trees (es ++ e ∷ []))
size_more [] e = omega arith
size_more (x ∷ es) e = omega (arith, size_more es e)

applications_more : (es : List Expression) (e : Expression) → row_applications (trees es) + applications e ≡ row_applications (trees (es ++ e ∷ []))
applications_more [] e = omega arith
applications_more (x ∷ es) e = omega (arith, applications_more es e)

choices_more : (rules : ℕ → ℕ) (es : List Expression) (e : Expression) → row_choice_count rules (trees es) * choice_count rules e ≡ row_choice_count rules (trees (es ++ e ∷ []))
choices_more rules [] e = mul_comm 1 (choice_count rules e)
choices_more rules (x ∷ es) e =
    mul_assoc (choice_count rules x) (row_choice_count rules (trees es)) (choice_count rules e) ∙ ap (λ (k : ℕ). choice_count rules x * k) (choices_more rules es e)

-- a row with one more
pub row_counted_more : (rules : ℕ → ℕ) (es now : List Expression) (e : Expression) (before more after : Extent) → now ≡ es ++ e ∷ [] → CountsRow rules es before → CountsExpression rules e more
    → after.symbols ≡ capped (before.symbols + more.symbols) → after.applications ≡ capped_applications (before.applications + more.applications) → after.choices ≡ capped_choices (before.choices * more.choices)
    → CountsRow rules now after
row_counted_more rules es now e before more after is front last symbols calls chosen =
    subst (λ (xs : List Expression). CountsRow rules xs after) (sym is)
    (counts_same _ _ _ _ _ _ after (size_more es e) (applications_more es e) (choices_more rules es e)
    (counts_combined _ _ _ _ _ _ before more after front last symbols calls chosen))

-- what is counted of parts that are terms
record AreCounted (rules : ℕ → ℕ) (es : List Expression) (ts : List Term) : Type 0 where
  symbols : row_expression_size (trees es) ≡ sizes (trees ts)
  calls : row_applications (trees es) ≡ 0
  chosen : row_choice_count rules (trees es) ≡ 1

terms_counted : (rules : ℕ → ℕ) (es : List Expression) (ts : List Term) → terms_of es ≡ Some ts → AreCounted rules es ts
terms_counted rules [] ts e = subst (λ (us : List Term). AreCounted rules [] us) (of_some [] ts e) (record { symbols = refl; calls = refl; chosen = refl })
terms_counted rules (Leaf t ∷ es) ts e =
    let (others, there, is) = of_map (λ (us : List Term). t ∷ us) (terms_of es) ts e in
    let later = terms_counted rules es others there in
    subst (λ (us : List Term). AreCounted rules (Leaf t ∷ es) us) is (record {
      symbols = omega (arith, later.symbols);
      calls = omega (arith, later.calls);
      chosen = omega (arith, later.chosen);
    })
terms_counted rules (Node root inner ∷ es) ts e = absurd (let same = e in cc)

-- what is counted of a root over parts
record IsCounted (rules : ℕ → ℕ) (root : Head ℕ) (es : List Expression) (e : Expression) : Type 0 where
  symbols : row_expression_size (trees es) + 1 ≡ expression_size e
  calls : row_applications (trees es) + root_applications root ≡ applications e
  chosen : row_choice_count rules (trees es) * root_choices rules root ≡ choice_count rules e

root_counted : (rules : ℕ → ℕ) (root : Head ℕ) (es : List Expression) → IsCounted rules root es (rooted root es)
root_counted rules (Calls d) es = record { symbols = omega arith; calls = refl; chosen = refl }
root_counted rules (Builds f) es = by (terms_of es) refl
  where
    by : (o : Option (List Term)) → terms_of es ≡ o → IsCounted rules (Builds f) es (option_map_or (λ ts. Leaf (node f ts)) o (node (Builds f) es))
    by None e = record { symbols = omega arith; calls = omega arith; chosen = omega arith }
    by (Some ts) e =
        let parts = terms_counted rules es ts e in
        record { symbols = omega (arith, parts.symbols); calls = omega (arith, parts.calls); chosen = omega (arith, parts.chosen) }

pub rooted_counted : (rules : ℕ → ℕ) (root : Head ℕ) (es : List Expression) (e : Expression) (inner own whole : Extent) → e ≡ rooted root es → CountsRow rules es inner → CountsRoot rules root own
    → whole.symbols ≡ capped (inner.symbols + own.symbols) → whole.applications ≡ capped_applications (inner.applications + own.applications) → whole.choices ≡ capped_choices (inner.choices * own.choices)
    → CountsExpression rules e whole
rooted_counted rules root es e inner own whole is row alone symbols calls chosen =
    let counted = root_counted rules root es in
    subst (λ (x : Expression). CountsExpression rules x whole) (sym is)
    (counts_same _ _ _ _ _ _ whole counted.symbols counted.calls counted.chosen
    (counts_combined _ _ _ _ _ _ inner own whole row alone symbols calls chosen))

-- a root over parts, within the limit of symbols and over it
pub sized_within : (n : ℕ) (root : Head ℕ) (es : List Expression) → 1 + row_expression_size (trees es) ≤ most_written_symbols → sized n (rooted root es) ≡ Ok (rooted root es)
sized_within n root es few =
    let counted = root_counted (λ d. 0) root es in
    ap (λ b. within b n (rooted root es)) (le-leb (expression_size (rooted root es)) most_written_symbols (omega (arith, few, counted.symbols)))

pub sized_over : (n : ℕ) (root : Head ℕ) (es : List Expression) → most_written_symbols < 1 + row_expression_size (trees es) → sized n (rooted root es) ≡ fault TooMany n
sized_over n root es many =
    let counted = root_counted (λ d. 0) root es in
    ap (λ b. within b n (rooted root es)) (lt-leb (expression_size (rooted root es)) most_written_symbols (omega (arith, many, counted.symbols)))

-- how many rules the destructor of a number has, and one that is not there
pub rules_found : (items : List Dtor) (number : ℕ) (d : Dtor) → 0 < number → number - 1 < length items → d ≡ get_or items (number - 1) d
    → length (destructor_of d).rules ≡ option_map_or (λ x. length x.rules) (numbered (map destructor_of items) number) 0
rules_found items number d some within at =
    sym (ap (λ o. option_map_or (λ x. length x.rules) o 0) (numbered-index destructor_of items number d some (omega (arith, some, within, length-map items destructor_of)) at))

pub rules_missing : (items : List Dtor) (number : ℕ) → length items ≤ number - 1 → 0 ≡ option_map_or (λ x. length x.rules) (numbered (map destructor_of items) number) 0
rules_missing items zero past = refl
rules_missing items (suc index) past =
    let beyond : length (map destructor_of items) ≤ index = omega (arith, past, length-map items destructor_of) in
    sym (ap (λ o. option_map_or (λ x. length x.rules) o 0) (slice_get_past (map destructor_of items) index beyond))
