-- One variable more, in the list and in the table that finds its number.
use Rattle.std.proofs.Common.{◌≡◌, ℕ, ◌+◌, Bool, true, false, cond, List, [], ◌∷◌, ◌++◌, length, Option, Some, None, option_map, bytes_eq, refl, sym, ap, ◌∙◌, arith}
use Rattle.std.specs.Cmp.Lexicographic.{bytes_decides}
use Rattle.std.specs.HashMap.{HashMap, get_by, UpdatesBy}
use Rattle.std.specs.declared.hash.BuildHasherDefault.{BuildHasherDefault}
use Rattle.std.specs.declared.hash.FoldHasher.{FoldHasher}
use Rattle.std.specs.Global.{Vec}
use Rattle.spec_protocol_scope.specs.Names.{Texts, find_from, variable_of}
use Rattle.scope_declarations.proofs.Found.{missed, hit, unmapped}
use Rattle.scope_declarations.proofs.Texts.{updates_text}

abbrev Table : Type 0
Table = HashMap (Vec ℕ) ℕ (BuildHasherDefault FoldHasher)

-- the number of one more, which none before it is spelled as
added : (text : Texts) (variables : List ℕ) (token n : ℕ) → bytes_eq (text token) (text n) ≡ true → variable_of text variables token ≡ None
    → variable_of text (variables ++ token ∷ []) n ≡ Some (length variables + 1)
added text variables token n e fresh =
    let same : text token ≡ text n = (bytes_decides (text token) (text n)).0 e in
    ap (option_map (λ (f : ℕ × ℕ). f.0))
    (hit text 1 variables token (text n) e (unmapped (λ (f : ℕ × ℕ). f.0) (find_from text 1 variables (text n)) (ap (λ (w : List ℕ). option_map (λ (f : ℕ × ℕ). f.0) (find_from text 1 variables w)) (sym same) ∙ fresh)))
    ∙ ap (λ (m : ℕ). Some m) (omega arith)

by_test : (b : Bool) (text : Texts) (variables : List ℕ) (token number n : ℕ) (before after : Option ℕ) → bytes_eq (text token) (text n) ≡ b
    → number ≡ length variables + 1 → variable_of text variables token ≡ None → before ≡ variable_of text variables n → after ≡ cond b (Some number) before
    → after ≡ variable_of text (variables ++ token ∷ []) n
by_test true text variables token number n before after e is fresh was put =
    put ∙ (ap (λ (m : ℕ). Some m) is ∙ sym (added text variables token n e fresh))
by_test false text variables token number n before after e is fresh was put =
    put ∙ (was ∙ sym (ap (option_map (λ (f : ℕ × ℕ). f.0)) (missed text 1 variables token (text n) e)))

-- the table with one entry more finds the variables with one more
pub variable_more : (text : Texts) (old new : Table) (variables now : List ℕ) (token number : ℕ) (word : List ℕ)
    → now ≡ variables ++ token ∷ [] → number ≡ length variables + 1 → word ≡ text token
    → UpdatesBy (λ x y. bytes_eq x.items y.items) (λ k. bytes_eq word k.items) old new (Some number)
    → ((n : ℕ) → get_by (λ k. bytes_eq (text n) k.items) old ≡ variable_of text variables n)
    → variable_of text variables token ≡ None
    → (n : ℕ) → get_by (λ k. bytes_eq (text n) k.items) new ≡ variable_of text now n
variable_more text old new variables now token number word pushed is spelled put was fresh n =
    by_test (bytes_eq (text token) (text n)) text variables token number n (get_by (λ k. bytes_eq (text n) k.items) old) (get_by (λ k. bytes_eq (text n) k.items) new) refl is fresh (was n)
    (updates_text word old new (Some number) put (text n) ∙ ap (λ (w : List ℕ). cond (bytes_eq w (text n)) (Some number) (get_by (λ k. bytes_eq (text n) k.items) old)) spelled)
    ∙ ap (λ (vs : List ℕ). variable_of text vs n) (sym pushed)
