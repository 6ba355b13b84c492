-- Declared free names by their number, and public channels.
use Rattle.std.proofs.Common.{◌≡◌, ℕ, suc, ◌+◌, ◌<◌, ◌≤◌, false, List, [], ◌∷◌, Some, map, length, get_or, slice_get, option_map, refl, ap, ◌∙◌, sym, arith}
use Rattle.std.specs.Option.{option_map_or}
use Rattle.std.proofs.lemmas.Option.{slice_get-map, slice_get_read}
use Rattle.spec_trees.specs.Tree.{node}
use Rattle.spec_calculus.specs.Syntax.{Protocol}
use Rattle.spec_calculus.specs.Points.{numbered}
use Rattle.pi_tree.specs.declared.names.Declared.{Declared}
use Rattle.pi_tree.specs.Names.{declared_of}
use Rattle.spec_terms.specs.Term.{Term}
use Rattle.spec_terms.specs.Term as term
use Rattle.spec_translation.specs.Visit.{is_public_channel}
use Rattle.process_visits.specs.Channels.{is_public_root}

numbered-next : {A : Type 0} (items : List A) (index number : ℕ) → number ≡ index + 1 → numbered items number ≡ slice_get items index
numbered-next items index number next = let e : number ≡ suc index = omega (arith, next) in ap (numbered items) e

pub public_at : (items : List Declared) (index number : ℕ) (declared : Declared) → number ≡ index + 1 → index < length items → declared ≡ get_or items index declared
    → declared.public ≡ option_map_or (λ d. d.public) (numbered (map declared_of items) number) false
public_at items index number declared next within at =
    let read : slice_get items index ≡ Some declared = slice_get_read items (length items) index declared refl within at in
    let mapped : slice_get (map declared_of items) index ≡ Some (declared_of declared) = slice_get-map declared_of items index ∙ ap (option_map declared_of) read in
    sym (ap (λ o. option_map_or (λ d. d.public) o false) (numbered-next (map declared_of items) index number next ∙ mapped))

pub ruleset by_number = (public_at)

-- a channel with arguments is none, and else its root tells
pub channel_root : (P : Protocol) (f : term.Sym) → is_public_root P f ≡ is_public_channel P (node f [])
channel_root P (term.Free n) = refl
channel_root P (term.Ctor n) = refl
channel_root P (term.Data n) = refl
channel_root P (term.Tuple n) = refl
channel_root P (term.Point n) = refl
channel_root P term.Attacker = refl

pub no_channel : (P : Protocol) (f : term.Sym) (t : Term) (ts : List Term) → false ≡ is_public_channel P (node f (t ∷ ts))
no_channel P (term.Free n) t ts = refl
no_channel P (term.Ctor n) t ts = refl
no_channel P (term.Data n) t ts = refl
no_channel P (term.Tuple n) t ts = refl
no_channel P (term.Point n) t ts = refl
no_channel P term.Attacker t ts = refl

pub channel_of : {X : Type 0} (P : Protocol) (f : term.Sym) (g : X → Term) (xs : List X) (t : Term) → t ≡ node f (map g xs) → length xs ≡ 0 → is_public_root P f ≡ is_public_channel P t
channel_of P f g [] t is none = channel_root P f ∙ ap (is_public_channel P) (sym is)
channel_of P f g (x ∷ xs) t is none = absurd (omega arith)

pub no_channel_of : {X : Type 0} (P : Protocol) (f : term.Sym) (g : X → Term) (xs : List X) (t : Term) → t ≡ node f (map g xs) → 1 ≤ length xs → false ≡ is_public_channel P t
no_channel_of P f g [] t is some = absurd (omega arith)
no_channel_of P f g (x ∷ xs) t is some = no_channel P f (g x) (map g xs) ∙ ap (is_public_channel P) (sym is)
