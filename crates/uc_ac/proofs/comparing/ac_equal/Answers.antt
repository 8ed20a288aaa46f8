use Rattle.std.proofs.Common.{IsTrue, false, refl, sym, subst}
use Rattle.std.proofs.lemmas.Bool.{eqb-true, eq-eqb}
use Rattle.uc_term.specs.Tree.{Tree}
use Rattle.uc_ac.specs.AcEqual.{AcEqual}
use Rattle.uc_ac.specs.Classes.{Has}
use Rattle.uc_ac.proofs.Equal.{AcEqual-refl}
use Rattle.uc_ac.proofs.OneClass.{one_class, same_class, kept_class, none_different}
use Rattle.uc_ac.proofs.comparing.ac_equal.Goals as goal

never : {A : Type 0} → IsTrue false → A
never h = absurd cc

pub returns-then-same : goal.returns-then-same
returns-then-same c = (λ h. subst (AcEqual c.args.symbols.now c.args.s.now) (c.same.ensures.0 c.if-same.true) (AcEqual-refl c.args.symbols.now c.args.s.now), λ e. refl)

pub returns-then-sizes_or_heads_differ : goal.returns-then-sizes_or_heads_differ
returns-then-sizes_or_heads_differ c = (λ h. never h, λ e. absurd (c.sizes_or_heads_differ.ensures c.if-sizes_or_heads_differ.true c.args.symbols.now e))

pub returns : goal.returns
returns c =
    let symbols = c.args.symbols.now in
    let s = c.args.s.now in
    let t = c.args.t.now in
    let j = c.in_ok-left.left in
    let k = c.in_ok-right.right in
    let table = c.number_of-2.new.classes in
    let left = kept_class symbols c.number_of.new.classes table c.in_ok-right.ensures.grown j s (subst (λ (u : Tree). Has symbols c.number_of.new.classes j u) c.as_nodes.ensures.tree c.in_ok-left.ensures.number) in
    let right = subst (λ (u : Tree). Has symbols table k u) c.as_nodes-2.ensures.tree c.in_ok-right.ensures.number in
    let different = c.in_ok-right.ensures.grown.different (c.in_ok-left.ensures.grown.different (none_different c.new-classes.result c.new-classes.ensures)) in (
      λ h. one_class symbols table j s t left (subst (λ i. Has symbols table i t) (sym (eqb-true j k h)) right),
      λ e. eq-eqb j k (same_class symbols table different j k s t e left right),
    )
