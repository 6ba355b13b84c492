-- what is left stands for the same
use Rattle.std.proofs.Common.{◌≡◌, ◌≤◌}
use Rattle.scope_declarations.specs.Scope.{scope_of}
use Rattle.scope_check.specs.Numbers.{numbers_of}
use Rattle.scope_check.specs.Forms.{form_of, site_of, read_at, reading_of, used_at, weight_of}
use Rattle.scope_check.proofs.site.open_form.Given as goal

abbrev pub invariant-loop-form : goal.invariant-loop-form
invariant-loop-form l = record {
  same : read_at l.site (form_of l.start) ≡ reading_of (scope_of l.site.place.scope) l.macros (used_at l.used (site_of l.site)) (numbers_of l.site.numbers) (form_of l.form);
  lighter : weight_of l.macros (form_of l.form) ≤ weight_of l.site.macros.now (form_of l.start);
}

abbrev pub decreases-loop-form : goal.decreases-loop-form
decreases-loop-form l = weight_of l.macros (form_of l.form)
