use Rattle.std.proofs.Common.{[], map, arith, ap, ◌∙◌, sym}
use Rattle.std.proofs.lemmas.Grind.{common_steps}
use Rattle.term_tree.specs.Roots.{built, tree_of, told}
use Rattle.term_tree.specs.TreeBank.{root_of, roots}
use Rattle.term_tree.specs.declared.tree_bank.Entry.{Entry}
use Rattle.term_tree.proofs.Roots.{items-length, built-push, HaveArgs-push, told-push}
use Rattle.term_tree.proofs.tree_bank.TreeBank.add.Goals as goal

pub invariant_of-self-2 : goal.invariant_of-self-2
invariant_of-self-2 c =
    let root = λ (x : Entry). root_of x.shape in
    let view = c.self.view_is in
    let now = built-push root c.self.inside.entries.items c.args.self.now c.args.entry view in
    rw c.in_ok-push.ensures.items record {
      args = HaveArgs-push root c.self.inside.entries.items c.args.self.now c.args.entry view c.self.invariant.args c.requires.args;
      tells = told-push (λ (x : Entry). (x.size, x.ground)) c.self.inside.entries.items c.args.entry c.args.self.now (tree_of c.args.self.now (root_of c.args.entry.shape))
          (c.self.invariant.tells ∙ ap (map told) view) c.requires.tells ∙ ap (map told) (sym now);
    }

pub returns-clause-ok : goal.returns-clause-ok
returns-clause-ok c = (
  omega (arith, items-length (λ (x : Entry). root_of x.shape) c.self.inside.entries.items c.args.self.now c.self.view_is, c.len.ensures),
  ap (λ es. built [] (roots es)) c.in_ok-push.ensures.items ∙ built-push (λ (x : Entry). root_of x.shape) c.self.inside.entries.items c.args.self.now c.args.entry c.self.view_is,
)

pub invariant_of-self : goal.invariant_of-self
invariant_of-self c = grind (arith, common_steps)
