-- One identifier more that is bound, in the list and in the table that finds it.
use Rattle.std.proofs.Common.{◌≡◌, ℕ, Bool, true, false, cond, if◌then◌else◌, List, [], ◌∷◌, ◌++◌, map, Option, Some, None, option_map, bytes_eq, refl, sym, ap, ◌∙◌}
use Rattle.std.proofs.lemmas.List.{map-append}
use Rattle.std.specs.Option.{option_or}
use Rattle.std.specs.Cmp.Lexicographic.{bytes_decides}
use Rattle.std.specs.HashMap.{HashMap, get_by, UpdatesBy}
use Rattle.std.specs.declared.hash.BuildHasherDefault.{BuildHasherDefault}
use Rattle.std.specs.declared.hash.FoldHasher.{FoldHasher}
use Rattle.std.specs.Global.{Vec}
use Rattle.scope_declarations.proofs.Texts.{updates_text}
use Rattle.spec_calculus.specs.Syntax.{Name}
use Rattle.spec_protocol_scope.specs.Names.{Texts, Bound, bound_as, same_text}
use Rattle.scope_declarations.specs.declared.bound.BoundName.{BoundName}
use Rattle.scope_declarations.specs.declared.bound.Binding.{Binding}
use Rattle.scope_declarations.specs.Bound.{name_of, binding_of}
use Rattle.scope_declarations.proofs.Lists.{outside}

abbrev Table : Type 0
Table = HashMap (Vec ℕ) BoundName (BuildHasherDefault FoldHasher)

-- tokens of one text are bound alike
alike : (text : Texts) (bound : List Bound) (m n : ℕ) → text m ≡ text n → bound_as text bound m ≡ bound_as text bound n
alike text [] m n e = refl
alike text (b ∷ outer) m n e =
    ap (λ (word : List ℕ). if bytes_eq (text b.token) word then Some b.name else bound_as text outer m) e
    ∙ ap (λ found. if same_text text b.token n then Some b.name else found) (alike text outer m n e)

picked : (test : Bool) (name : BoundName) (old new : Option BoundName) (before : Option Name)
    → new ≡ cond test (Some name) old → option_map name_of old ≡ before → (test ≡ true → before ≡ None)
    → option_map name_of new ≡ option_or before (if test then Some (name_of name) else None)
picked true name old new before put was fresh = ap (option_map name_of) put ∙ sym (ap (λ o. option_or o (Some (name_of name))) (fresh refl))
picked false name old new None put was fresh = ap (option_map name_of) put ∙ was
picked false name old new (Some x) put was fresh = ap (option_map name_of) put ∙ was

-- the table with one entry more finds the bindings with one more
pub bound_more : (text : Texts) (old new : Table) (bindings now : List Binding) (binding : Binding) (word : List ℕ)
    → now ≡ bindings ++ binding ∷ [] → word ≡ text binding.token
    → UpdatesBy (λ x y. bytes_eq x.items y.items) (λ k. bytes_eq word k.items) old new (Some binding.name)
    → ((n : ℕ) → option_map name_of (get_by (λ k. bytes_eq (text n) k.items) old) ≡ bound_as text (map binding_of bindings) n)
    → bound_as text (map binding_of bindings) binding.token ≡ None
    → (n : ℕ) → option_map name_of (get_by (λ k. bytes_eq (text n) k.items) new) ≡ bound_as text (map binding_of now) n
bound_more text old new bindings now binding word pushed spelled put was fresh n =
    picked (bytes_eq (text binding.token) (text n)) binding.name (get_by (λ k. bytes_eq (text n) k.items) old) (get_by (λ k. bytes_eq (text n) k.items) new) (bound_as text (map binding_of bindings) n)
    (updates_text word old new (Some binding.name) put (text n) ∙ ap (λ (w : List ℕ). cond (bytes_eq w (text n)) (Some binding.name) (get_by (λ k. bytes_eq (text n) k.items) old)) spelled) (was n)
    (λ e. alike text (map binding_of bindings) n binding.token (sym ((bytes_decides (text binding.token) (text n)).0 e)) ∙ fresh)
    ∙ (sym (outside text (map binding_of bindings) (binding_of binding ∷ []) n)
    ∙ ap (λ (bs : List Bound). bound_as text bs n) (sym (ap (map binding_of) pushed ∙ map-append binding_of bindings (binding ∷ []))))
