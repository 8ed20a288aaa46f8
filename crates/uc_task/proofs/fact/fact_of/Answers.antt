use Rattle.std.proofs.Common.{◌≡◌, List, true, false, length, sym, ap, subst, arith}
use Rattle.std.proofs.lemmas.Result.{IfOk-weaker}
use Rattle.uc_term.specs.declared.node.Node.{Node}
use Rattle.uc_term.specs.Tree.{Tree}
use Rattle.uc_term.specs.Flat.{tree_of}
use Rattle.uc_fact.specs.declared.chain.Chain.{Chain}
use Rattle.uc_machine.specs.Results.{Trial, GivesFact, made}
use Rattle.uc_task.specs.Ends.{HasEnds}
use Rattle.uc_task.proofs.Reversing.{as_many_back}
use Rattle.uc_task.proofs.Made.{left_greater, right_greater, none_greater}
use Rattle.uc_task.proofs.fact.fact_of.Goals as goal

-- what is said of the terms of two lists
two : (R : Tree → Tree → Type 0) (a b : List Node) (c d : Tree) → tree_of a ≡ c → tree_of b ≡ d → R (tree_of a) (tree_of b) → R c d
two R a b c d e f h = subst (λ z. R c z) f (subst (λ z. R z (tree_of b)) e h)

untwo : (R : Tree → Tree → Type 0) (a b : List Node) (c d : Tree) → tree_of a ≡ c → tree_of b ≡ d → R c d → R (tree_of a) (tree_of b)
untwo R a b c d e f h = subst (λ x. R x (tree_of b)) (sym e) (subst (R c) (sym f) h)

pub made-requires-in-Less : goal.made-requires-in-Less
made-requires-in-Less g c =
    let long = ap (λ (x : Chain). length x.steps) c.in_ok-reversed-in-Less.ensures in
    omega (arith, long, as_many_back c.args.chain.start c.args.chain.steps, c.requires)

pub returns-in-Greater : goal.returns-in-Greater
returns-in-Greater g c =
    let m = g.O.Order.meaning c.args.order.now in
    let l = c.args.left.now in
    let r = c.args.right.now in
    let o = c.args.source.origin in
    let n = c.args.source.front in
    let greater = two m.greater c.as_nodes.result.now c.as_nodes-2.result.now l.term r.term c.as_nodes.ensures.tree c.as_nodes-2.ensures.tree (c.compare.ensures.greater.0 c.in-Greater.is) in
    IfOk-weaker c.made.result (λ fact. fact ≡ made true o n l.term r.term c.args.chain l.stop r.stop) (λ fact. (t : Trial) → HasEnds l r c.args.chain t → GivesFact m o n t fact)
    (λ fact e t h. left_greater m o n l r c.args.chain fact t h greater e) c.made.ensures

pub returns-in_ok-reversed-in-Less : goal.returns-in_ok-reversed-in-Less
returns-in_ok-reversed-in-Less g c =
    let m = g.O.Order.meaning c.args.order.now in
    let l = c.args.left.now in
    let r = c.args.right.now in
    let o = c.args.source.origin in
    let n = c.args.source.front in
    let back = c.in_ok-reversed-in-Less.field-0 in
    let greater = two m.greater c.as_nodes-2.result.now c.as_nodes.result.now r.term l.term c.as_nodes-2.ensures.tree c.as_nodes.ensures.tree (c.compare.ensures.less.0 c.in-Less.is) in
    IfOk-weaker c.made-in-Less.result (λ fact. fact ≡ made true o n r.term l.term back r.stop l.stop) (λ fact. (t : Trial) → HasEnds l r c.args.chain t → GivesFact m o n t fact)
    (λ fact e t h. right_greater m o n l r c.args.chain fact t h back c.in_ok-reversed-in-Less.ensures greater e) c.made-in-Less.ensures

pub returns-in-Equal : goal.returns-in-Equal
returns-in-Equal g c =
    let m = g.O.Order.meaning c.args.order.now in
    let l = c.args.left.now in
    let r = c.args.right.now in
    let o = c.args.source.origin in
    let n = c.args.source.front in
    let s = c.as_nodes.result.now in
    let t = c.as_nodes-2.result.now in
    let is = c.in-Equal.is in
    let less : m.greater l.term r.term → ⊥ = λ x. (let q = c.compare.ensures.greater.1 (untwo m.greater s t l.term r.term c.as_nodes.ensures.tree c.as_nodes-2.ensures.tree x) in cc) in
    let more : m.greater r.term l.term → ⊥ = λ x. (let q = c.compare.ensures.less.1 (untwo m.greater t s r.term l.term c.as_nodes-2.ensures.tree c.as_nodes.ensures.tree x) in cc) in
    IfOk-weaker c.made-in-Equal.result (λ fact. fact ≡ made false o n l.term r.term c.args.chain l.stop r.stop) (λ fact. (t : Trial) → HasEnds l r c.args.chain t → GivesFact m o n t fact)
    (λ fact e t h. none_greater m o n l r c.args.chain fact t h less more e) c.made-in-Equal.ensures

pub returns-in-Unknown : goal.returns-in-Unknown
returns-in-Unknown g c =
    let m = g.O.Order.meaning c.args.order.now in
    let l = c.args.left.now in
    let r = c.args.right.now in
    let o = c.args.source.origin in
    let n = c.args.source.front in
    let s = c.as_nodes.result.now in
    let t = c.as_nodes-2.result.now in
    let is = c.in-Unknown.is in
    let less : m.greater l.term r.term → ⊥ = λ x. (let q = c.compare.ensures.greater.1 (untwo m.greater s t l.term r.term c.as_nodes.ensures.tree c.as_nodes-2.ensures.tree x) in cc) in
    let more : m.greater r.term l.term → ⊥ = λ x. (let q = c.compare.ensures.less.1 (untwo m.greater t s r.term l.term c.as_nodes-2.ensures.tree c.as_nodes.ensures.tree x) in cc) in
    IfOk-weaker c.made-in-Unknown.result (λ fact. fact ≡ made false o n l.term r.term c.args.chain l.stop r.stop) (λ fact. (t : Trial) → HasEnds l r c.args.chain t → GivesFact m o n t fact)
    (λ fact e t h. none_greater m o n l r c.args.chain fact t h less more e) c.made-in-Unknown.ensures
