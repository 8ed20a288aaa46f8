use Rattle.std.proofs.Common.{◌∙◌, ap, refl, Some}
use Rattle.std.proofs.lemmas.Option.{slice_get-get_or}
use Rattle.uc_term.specs.declared.node.Node.TheVariants.{App, Var}
use Rattle.uc_disc.proofs.Passing.{parts_app, parts_var, some_node}
use Rattle.uc_disc.proofs.heads.parts_of.Goals as goal

pub returns-in-App : goal.returns-in-App
returns-in-App c = rw c.start_at-first.ensures (parts_app c.args.term.now c.requires.whole c.args.places.now c.args.heads.now c.requires.heads (App c.in-App.f c.in-App.field-1) (slice_get-get_or c.args.term.now 0 _ (some_node c.args.term.now c.requires.whole) ∙ ap Some c.in-App.is) c.in-App.f c.in-App.field-1 c.part_under.result refl c.part_under.ensures)

pub returns-in-Var : goal.returns-in-Var
returns-in-Var c = rw c.start_at-first.ensures (parts_var c.args.term.now c.requires.whole c.args.places.now c.args.heads.now c.requires.heads (Var c.in-Var.field-0) (slice_get-get_or c.args.term.now 0 _ (some_node c.args.term.now c.requires.whole) ∙ ap Some c.in-Var.is) c.in-Var.field-0 refl)
