use Rattle.std.proofs.Common.{◌≡◌, ℕ, List, ap, ◌∙◌, arith, inr}
use Rattle.uc_term.specs.declared.node.Node.{Node}
use Rattle.uc_term.specs.Tree.{Tree, apply, nodes, subterm}
use Rattle.uc_term.specs.Flat.{tree_of}
use Rattle.uc_term.specs.Subst.{image}
use Rattle.uc_pair.proofs.Replacing.{nodes-put, put_sum}
use Rattle.uc_pair.proofs.judging.right_size.Goals as goal

pub returns-in_err-inner : goal.returns-in_err-inner
returns-in_err-inner c = rw c.from_residual-in_err-inner.ensures (inr (omega (arith, c.in_err-inner.ensures, nodes-put (image c.args.subst.now) c.args.terms.now.outer_from c.args.there.place c.args.terms.now.inner_to c.requires.part.inside)))

-- the part's instance
part_size : (σ : ℕ → Tree) (ns : List Node) (u : Tree) (size : ℕ) → tree_of ns ≡ u → size ≡ nodes (apply σ (tree_of ns)) → size ≡ nodes (apply σ u)
part_size σ ns u size e s = s ∙ ap (λ u. nodes (apply σ u)) e

pub overflow_sub-size : goal.overflow_sub-size
overflow_sub-size c =
    let σ = image c.args.subst.now in
    let t = c.args.terms.now.outer_from in
    let v = c.args.terms.now.inner_to in
    omega (arith, part_size σ c.part.result.now (subterm t c.args.there.place) c.instance_size-part.result c.part.ensures.tree c.instance_size-part.ensures, (c.in_ok-peak.ensures).1, nodes-put σ t c.args.there.place v c.requires.part.inside, put_sum σ t c.args.there.place v c.requires.part.inside)

pub overflow_cast-size : goal.overflow_cast-size
overflow_cast-size c = omega (arith, overflow_sub-size c, (c.in_ok-peak.ensures).0, (c.in_ok-peak.ensures).1)

pub returns-then-is_too_large : goal.returns-then-is_too_large
returns-then-is_too_large c =
    let σ = image c.args.subst.now in
    let t = c.args.terms.now.outer_from in
    let v = c.args.terms.now.inner_to in
    inr (omega (arith, nodes-put σ t c.args.there.place v c.requires.part.inside, c.is_too_large.ensures.large c.if-is_too_large.true, part_size σ c.part.result.now (subterm t c.args.there.place) c.instance_size-part.result c.part.ensures.tree c.instance_size-part.ensures, (c.in_ok-peak.ensures).1, (c.in_ok-inner.ensures).1, put_sum σ t c.args.there.place v c.requires.part.inside))

pub returns-else-is_too_large : goal.returns-else-is_too_large
returns-else-is_too_large c =
    let σ = image c.args.subst.now in
    let t = c.args.terms.now.outer_from in
    let v = c.args.terms.now.inner_to in
    let part = part_size σ c.part.result.now (subterm t c.args.there.place) c.instance_size-part.result c.part.ensures.tree c.instance_size-part.ensures in
    let sum = put_sum σ t c.args.there.place v c.requires.part.inside in
    let low = nodes-put σ t c.args.there.place v c.requires.part.inside in (
      (c.in_ok-peak.ensures).0,
      omega (arith, c.is_too_large.ensures.small c.if-is_too_large.false, part, (c.in_ok-peak.ensures).1, (c.in_ok-inner.ensures).1, sum, low),
      omega (arith, part, (c.in_ok-peak.ensures).1, (c.in_ok-inner.ensures).1, sum, low),
    )
