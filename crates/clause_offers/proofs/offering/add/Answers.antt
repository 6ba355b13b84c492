use Rattle.std.proofs.Common.{◌≡◌, ◌+◌, None, List, [], ◌∷◌, ◌++◌, ap, length, refl, subst, ◌∙◌, arith}
use Rattle.clause_form.specs.Seen.{clause_at, IdClause}
use Rattle.log_entries.specs.declared.log.Entry.{Entry}
use Rattle.log_entries.specs.Beating.{AreMarked}
use Rattle.log_entries.proofs.Listing.{marked_count, pushed_listed}
use Rattle.clause_offers.proofs.offering.add.Goals as goal

pub returns-clause-pushed : goal.returns-clause-pushed
returns-clause-pushed g c =
    let all = g.B.Bank.trees c.args.bank.now in
    let clause = clause_at all c.args.offer.now.clause.now in
    let olds = c.args.walk.now.items.items in
    let marks : List Entry = c.beat.new.walk.items.items in
    record {
      marked = marks;
      are_marked = subst (λ n. AreMarked all clause n olds marks) c.requires.number c.in_ok-beat.ensures.marked;
      is = c.in_ok-push.ensures.items ∙ ap (λ (d : IdClause). marks ++ record { clause = d; origin = c.args.origin; by = None } ∷ []) c.in_ok-clause.ensures;
    }

pub returns-clause-listed : goal.returns-clause-listed
returns-clause-listed g c =
    let all = g.B.Bank.trees c.args.bank.now in
    let offer = c.args.offer.now in
    let entry : Entry = record { clause = offer.clause.now; origin = c.args.origin; by = None } in
    let olds = c.args.walk.now.items.items in
    let marks : List Entry = c.beat.new.walk.items.items in
    let count = marked_count all (clause_at all offer.clause.now) offer.number olds marks c.in_ok-beat.ensures.marked in
    let number : offer.number ≡ length marks + 1 = omega (arith, count, c.requires.number) in
    let news : c.push.new.self.items ≡ marks ++ entry ∷ [] = c.in_ok-push.ensures.items ∙ ap (λ (d : IdClause). marks ++ record { clause = d; origin = c.args.origin; by = None } ∷ []) c.in_ok-clause.ensures in
    pushed_listed all offer.number marks c.push.new.self.items entry offer.looks c.beat.new.walk.live c.list.new.live c.list_end.new.live c.in_ok-beat.ensures.listed number refl news c.in_ok-list.ensures c.in_ok-list_end.ensures c.requires.looks
