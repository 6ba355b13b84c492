use Rattle.std.proofs.Common.{[], map, ap, ◌∙◌, sym}
use Rattle.term_tree.specs.Roots.{built, told}
use Rattle.term_tree.specs.TreeBank.{root_of, roots}
use Rattle.term_tree.specs.declared.tree_bank.Entry.{Entry}
use Rattle.term_tree.proofs.Roots.{built-cut, HaveArgs-cut, told-cut}
use Rattle.term_tree.proofs.tree_bank.TreeBankBank.back.Goals as goal

pub invariant_of-self : goal.invariant_of-self
invariant_of-self c =
    let root = λ (x : Entry). root_of x.shape in
    let now = built-cut root c.self.inside.entries.items c.args.self.now c.args.to.len c.self.view_is c.requires in
    rw c.truncate.ensures.items record {
      args = HaveArgs-cut root c.self.inside.entries.items c.args.to.len c.self.invariant.args;
      tells = told-cut (λ (x : Entry). (x.size, x.ground)) c.self.inside.entries.items c.args.self.now c.args.to.len (c.self.invariant.tells ∙ ap (map told) c.self.view_is) ∙ ap (map told) (sym now);
    }

pub returns : goal.returns
returns c =
    ap (λ es. built [] (roots es)) c.truncate.ensures.items
    ∙ built-cut (λ (x : Entry). root_of x.shape) c.self.inside.entries.items c.args.self.now c.args.to.len c.self.view_is c.requires
