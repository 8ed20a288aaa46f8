use Rattle.std.proofs.Common.{◌≡◌, Some, length, slice_get, refl}
use Rattle.std.proofs.lemmas.Option.{slice_get_read, slice_get_past}
use Rattle.uc_term.specs.Flat.{tree_of}
use Rattle.uc_certify.proofs.AcEnds.{no_law, fact_if, law_if}
use Rattle.uc_certify.proofs.Lists.{never}
use Rattle.uc_certify.proofs.ac_ends.is_fact_that.Goals as goal

pub returns-in_default : goal.returns-in_default
returns-in_default c = never (no_law c.args.facts.now c.args.law c.args.symbol c.args.number (slice_get_past c.args.facts.now c.args.number c.in_default.ensures.lookup.3))

pub returns : goal.returns
returns c =
    let at : slice_get c.args.facts.now c.args.number ≡ Some c.in-Some.fact.now = slice_get_read c.args.facts.now (length c.args.facts.now) c.args.number c.in-Some.fact.now refl c.in-Some.ensures.lookup.3.0 c.in-Some.ensures.lookup.1 in (
      λ h. fact_if c.args.facts.now c.args.number c.in-Some.fact.now at c.args.law c.args.symbol (tree_of c.as_nodes.result.now) (tree_of c.as_nodes-2.result.now) c.as_nodes.ensures.tree c.as_nodes-2.ensures.tree (c.is_law.ensures.0 h),
      λ i. c.is_law.ensures.1 (law_if c.args.facts.now c.args.number c.in-Some.fact.now at c.args.law c.args.symbol (tree_of c.as_nodes.result.now) (tree_of c.as_nodes-2.result.now) c.as_nodes.ensures.tree c.as_nodes-2.ensures.tree i),
    )
