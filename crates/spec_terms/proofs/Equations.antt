-- A list of equations as one equation between applications of a symbol.
use Rattle.std.proofs.Common.{◌≡◌, ◌↔◌, List, map, sym, ap, ◌∙◌}
use Rattle.spec_trees.specs.Tree.{bind, node}
use Rattle.spec_trees.proofs.Rows.{node-injective, bind-node}
use Rattle.spec_terms.specs.Term.{Sym, Attacker, Term, Subst}
use Rattle.spec_terms.specs.Unifier.{Unifies, UnifiesAll, Matches, MatchesAll, IsMostGeneral}
use Rattle.spec_terms.proofs.Existence.{mgu_exists}

pub all_unified : (s : Subst) (f : Sym) (xs ys : List Term) → UnifiesAll s xs ys ↔ Unifies s (node f xs) (node f ys)
all_unified s f xs ys = (
  λ h. bind-node s f xs ∙ (ap (node f) h ∙ sym (bind-node s f ys)),
  λ h. (node-injective f f (map (bind s) xs) (map (bind s) ys) (sym (bind-node s f xs) ∙ (h ∙ bind-node s f ys))).1,
)

pub all_matched : (s : Subst) (f : Sym) (xs ys : List Term) → MatchesAll s xs ys ↔ Matches s (node f xs) (node f ys)
all_matched s f xs ys = (
  λ h. bind-node s f xs ∙ ap (node f) h,
  λ h. (node-injective f f (map (bind s) xs) ys (sym (bind-node s f xs) ∙ h)).1,
)

-- equations that have a unifier have a most general one
pub all_exist : (xs ys : List Term) (u : Subst) → UnifiesAll u xs ys → (s : Subst) × IsMostGeneral (λ r. UnifiesAll r xs ys) s
all_exist xs ys u h =
    let one = mgu_exists (node Attacker xs) (node Attacker ys) u ((all_unified u Attacker xs ys).0 h) in (
      one.0,
      record {
        accepted = (all_unified one.0 Attacker xs ys).1 one.1.accepted;
        most = λ r accepted. one.1.most r ((all_unified r Attacker xs ys).0 accepted);
      },
    )
