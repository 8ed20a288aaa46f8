use Rattle.std.proofs.Common.{arith, refl, ◌≡◌, ◌≤◌, ◌++◌, ◌∷◌, [], length, false, sym, ap, subst}
use Rattle.std.proofs.lemmas.List.{length_push}
use Rattle.uc_shelf.specs.declared.entry.Entry.TheVariants.{Born}
use Rattle.uc_machine.specs.declared.state.Meeting.TheVariants.{Unmet}
use Rattle.uc_rows.specs.declared.facts.FactRow.{FactRow}
use Rattle.uc_rows.specs.FactRows.{AreRows, NoneUnmetBelow}
use Rattle.uc_rows.proofs.FactRows.{rows-born, met-push, few-born}
use Rattle.uc_rows.proofs.facts.Facts.adopt.Goals as goal

pub invariant_of-self : goal.invariant_of-self
invariant_of-self c =
    let g = rw (← c.self.view_is) at c.requires.grew in
    let es = c.self.inside.front.entries in
    let items = c.self.inside.rows.items in
    let row : FactRow = record { meeting = Unmet; is_dead = false; weight = c.args.weight } in
    let e : c.push_reserved.new.self.items ≡ items ++ row ∷ [] = c.push_reserved.ensures.items in
    let old : c.self.inside.unmet_from ≤ length items = c.self.invariant.within in
    let rows : AreRows c.args.front.entries c.push_reserved.new.self.items
    = subst (λ fs. AreRows fs c.push_reserved.new.self.items) (sym g.is) (subst (AreRows (es ++ Born g.fact ∷ [])) (sym e) (rows-born es items g.fact row refl (sym g.weight_is) c.self.invariant.rows)) in
    record {
      rows = rows;
      met = subst (NoneUnmetBelow c.self.inside.unmet_from) (sym e) (met-push items c.self.inside.unmet_from row old c.self.invariant.met);
      within = omega (arith, ap length e, length_push items row);
      few = few-born c.args.front.entries c.push_reserved.new.self.items rows c.requires.few;
    }
