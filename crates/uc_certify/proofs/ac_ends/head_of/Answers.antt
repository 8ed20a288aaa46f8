use Rattle.std.proofs.Common.{◌≡◌, Some, length, slice_get, refl}
use Rattle.std.proofs.lemmas.Option.{slice_get_read, slice_get_past}
use Rattle.uc_certify.proofs.AcEnds.{no_law, none_headed, one_headed}
use Rattle.uc_ac.specs.declared.ac_law.AcLaw.TheVariants.{Comm}
use Rattle.uc_certify.proofs.ac_ends.head_of.Goals as goal

pub returns-in_default : goal.returns-in_default
returns-in_default c = λ f i. no_law c.args.facts.now Comm f c.args.number (slice_get_past c.args.facts.now c.args.number c.in_default.ensures.lookup.3) i

pub returns-in-Var : goal.returns-in-Var
returns-in-Var c =
    let at : slice_get c.args.facts.now c.args.number ≡ Some c.in-Some.fact.now = slice_get_read c.args.facts.now (length c.args.facts.now) c.args.number c.in-Some.fact.now refl c.in-Some.ensures.lookup.3.0 c.in-Some.ensures.lookup.1 in
    λ f i. none_headed c.args.facts.now c.args.number c.in-Some.fact.now at c.as_nodes.result.now _ c.as_nodes.ensures.value _ c.in-Var.is f i

pub returns-in-App : goal.returns-in-App
returns-in-App c =
    let at : slice_get c.args.facts.now c.args.number ≡ Some c.in-Some.fact.now = slice_get_read c.args.facts.now (length c.args.facts.now) c.args.number c.in-Some.fact.now refl c.in-Some.ensures.lookup.3.0 c.in-Some.ensures.lookup.1 in
    λ f i. one_headed c.args.facts.now c.args.number c.in-Some.fact.now at c.as_nodes.result.now _ c.as_nodes.ensures.value c.in-App.symbol _ c.in-App.is f i
