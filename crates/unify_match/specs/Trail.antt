-- What callers see of bindings: the pairs in their order, and how many more fit.
use Rattle.std.specs.Prelude.{◌≡◌, ℕ, cond, nat_eq, Option, Some, None, List, [], ◌∷◌, ◌++◌, refl}
use Rattle.std.specs.Coded.{Coded, code_by, coded×, coded_ℕ, coded_list}
use Rattle.term_tree.specs.declared.bank.Id.{Id}
use Rattle.unify_match.specs.declared.bound.Bound.{Bound}

-- the pairs, the newest first, and the room that is reserved for more
pub record Trail : Type 0 where
  pub pairs : List Bound
  pub room : ℕ

-- the id that a variable is bound to, if it is bound
abbrev pub id_of : List Bound → ℕ → Option Id
id_of [] x = None
id_of (b ∷ bs) x = cond (nat_eq x b.var) (Some b.id) (id_of bs x)

-- no variable is bound twice
abbrev pub BindsOnce : List Bound → Type 0
BindsOnce [] = Unit {0}
BindsOnce (b ∷ bs) = (id_of bs b.var ≡ None) × BindsOnce bs

-- the later pairs are the earlier ones, with more of them in front
abbrev pub Extends : List Bound → List Bound → Type 0
Extends old new = (more : List Bound) × (new ≡ more ++ old)

-- how a trail is stored
abbrev pub coded_bound : Coded Bound
coded_bound = code_by (ℕ × ℕ) (coded× coded_ℕ coded_ℕ) (λ b. (b.var, b.id.index)) (λ p. record { var = p.0; id = record { index = p.1 } }) (λ _. refl)

abbrev pub coded_trail : Coded Trail
coded_trail = code_by (List Bound × ℕ) (coded× (coded_list coded_bound) coded_ℕ) (λ t. (t.pairs, t.room)) (λ p. record { pairs = p.0; room = p.1 }) (λ _. refl)
