-- `lines::step` meets its contract: what it stores is the step at fixed places, which is the step under the moving names.
-- Assumes nothing.
use mathlib.Core.Path.{◌≡◌}
use lib.ListN.{length}
use Rattle.tables.specs.declared.Size.TheVariants.{Four, Five}
use Rattle.lines.proofs.Places.{fixed_step}
use borrow.Author.Rules.{rules}
use Rattle.lines.proofs.step.Goals as goal

pub returns-in-Four : goal.returns-in-Four
returns-in-Four c =
    let a = c.args in
    let h : length a.v ≡ 5 = search rules in
    rw (
      c.mix-m.ensures,
      c.place-d.ensures.0,
      c.place-c.ensures.0,
      c.place-b.ensures.0,
      c.place-a.ensures.0,
      c.in-Four.is,
      ← fixed_step Four a.j a.f a.x a.k a.s a.v h,
    )

pub returns-in-Five : goal.returns-in-Five
returns-in-Five c =
    let a = c.args in
    let h : length a.v ≡ 5 = search rules in
    rw (
      c.rol.ensures,
      c.place-e.ensures.0,
      c.mix-m.ensures,
      c.place-d.ensures.0,
      c.place-c.ensures.0,
      c.place-b.ensures.0,
      c.place-a.ensures.0,
      c.in-Five.is,
      ← fixed_step Five a.j a.f a.x a.k a.s a.v h,
    )
