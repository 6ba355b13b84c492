use Rattle.std.proofs.Common.{◌≡◌, [], ◌∷◌, ◌++◌, Option, sym, subst, rules}
use Rattle.std.specs.Prelude.{IfSome}
use Rattle.clause_form.specs.Fit.{IsFit, AreFit}
use Rattle.clause_form.specs.Seen.{IdClause}
use Rattle.clause_form.proofs.Fit.{AreFit-grow}
use Rattle.table_calls.proofs.log_rows.Fits.{AreFit-push}
use Rattle.table_calls.proofs.log_rows.saturated.add_fit.Goals as goal

pub returns-in_ok-push-in-Some : goal.returns-in_ok-push-in-Some
returns-in_ok-push-in-Some c =
    let now = c.fit_copy.new.bank in
    let before = AreFit-grow c.args.bank.now now c.args.given.now c.fit_copy.ensures.grows c.requires in
    let same : c.push.new.self.items ≡ c.args.given.now ++ c.in-Some.made ∷ [] = search rules in
    let fit : IsFit now c.in-Some.made = subst (λ (o : Option IdClause). IfSome o (IsFit now)) c.in-Some.is c.in_ok-fit_copy.ensures.fit in
    subst (AreFit now) (sym same) (AreFit-push now c.args.given.now c.in-Some.made before fit)

pub returns-in-None : goal.returns-in-None
returns-in-None c =
    let now = c.fit_copy.new.bank in
    AreFit-grow c.args.bank.now now c.args.given.now c.fit_copy.ensures.grows c.requires
