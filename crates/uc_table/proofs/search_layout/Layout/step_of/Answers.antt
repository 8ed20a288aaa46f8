use Rattle.std.proofs.Common.{sym, ◌∙◌}
use Rattle.uc_table.proofs.SearchLayouts.{first_some}
use Rattle.uc_table.proofs.search_layout.Layout.step_of.Goals as goal

pub arity-requires : goal.arity-requires
arity-requires c =
    let r = first_some c.args.symbols.now c.args.self.now.size c.args.signature.now c.in-App.f c.in-Some-first_cell.first (sym c.first_cell.ensures ∙ c.in-Some-first_cell.is) in
    c.requires.laid_out.has r.0 c.in-App.f r.1
