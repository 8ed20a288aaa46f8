use Rattle.std.proofs.Common.{◌≡◌, IsTrue, Bool, false, length, ap, refl}
use Rattle.uc_term.specs.declared.node.Node.TheVariants.{App}
use Rattle.uc_ac.proofs.LawNodes.{extended_nodes, are_extended_sides}
use Rattle.uc_ac.proofs.ac_law.are_extended.Goals as goal

never : {A : Type 0} {b : Bool} → IsTrue b → b ≡ false → A
never h e = absurd cc

pub returns-then-from-ne5 : goal.returns-then-from-ne5
returns-then-from-ne5 c = (λ h. never h refl, λ s. absurd (c.if-from-ne5.true (ap length (extended_nodes c.args.f c.args.from.now c.args.to.now (App c.args.f 2) c.requires.from_whole c.requires.to_whole s).0)))

pub returns-then-not-same_nodes : goal.returns-then-not-same_nodes
returns-then-not-same_nodes c = (λ h. never h refl, λ s. never (c.same_nodes.ensures.1 (extended_nodes c.args.f c.args.from.now c.args.to.now _ c.requires.from_whole c.requires.to_whole s).0) c.if-not-same_nodes.true)

pub returns-then-not-same_nodes-2 : goal.returns-then-not-same_nodes-2
returns-then-not-same_nodes-2 c = (λ h. never h refl, λ s. never (c.same_nodes-2.ensures.1 (extended_nodes c.args.f c.args.from.now c.args.to.now _ c.requires.from_whole c.requires.to_whole s).1) c.if-not-same_nodes-2.true)

pub returns : goal.returns
returns c = (
  λ h. are_extended_sides c.args.f c.args.from.now c.args.to.now _ _ _ (c.same_nodes.ensures.0 c.if-not-same_nodes.false) (c.same_nodes-2.ensures.0 c.if-not-same_nodes-2.false) (c.are_variables.ensures.0 h),
  λ s. c.are_variables.ensures.1 (extended_nodes c.args.f c.args.from.now c.args.to.now _ c.requires.from_whole c.requires.to_whole s).2,
)
