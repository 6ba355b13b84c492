-- What a read of the plain bank's entries gives.
use Rattle.std.proofs.Common.{◌≡◌, ◌<◌, Some, List, [], length, map, slice_get, refl, ap, ◌∙◌, sym, arith, get_or}
use Rattle.std.proofs.lemmas.Option.{slice_get_read}
use Rattle.spec_terms.specs.Term.{Term}
use Rattle.term_tree.specs.Bank.{tree_at}
use Rattle.term_tree.specs.declared.bank.Id.{Id}
use Rattle.term_tree.specs.declared.tree_bank.Entry.{Entry}
use Rattle.term_tree.specs.Roots.{tree_of, built, told}
use Rattle.term_tree.specs.TreeBank.{root_of, roots, IsWell}
use Rattle.term_tree.proofs.Roots.{IsPlace, IsPlace-tree, place_at, told_at, items-length}

pub record IsEntry (all : List Term) (id : Id) (e : Entry) : Type 0 where
  pub place : IsPlace all id.index (root_of e.shape)
  pub tree : tree_at all id ≡ tree_of all (root_of e.shape)
  pub tells : (e.size, e.ground) ≡ told (tree_at all id)

-- the entry that is read for an id of a bank that is seen as `all`
pub entry_at : (es : List Entry) (all : List Term) (id : Id) (e : Entry) → built [] (roots es) ≡ all → IsWell es → id.index < length all → e ≡ get_or es id.index e → IsEntry all id e
entry_at es all id e view well within read =
    let inside : id.index < length es = omega (arith, items-length (λ (x : Entry). root_of x.shape) es all view, within) in
    let found : slice_get es id.index ≡ Some e = slice_get_read es (length es) id.index e refl inside read in
    let place = place_at (λ (x : Entry). root_of x.shape) es all id.index e view well.args found in
    let tree = IsPlace-tree all id (root_of e.shape) place in
    record {
      place = place;
      tree = tree;
      tells = told_at (λ (x : Entry). (x.size, x.ground)) es all id.index e (tree_of all (root_of e.shape)) (well.tells ∙ ap (map told) view) found place.at ∙ ap told (sym tree);
    }
