use Rattle.std.proofs.Common.{◌≡◌, ◌∙◌, sym, ap, subst}
use Rattle.uc_term.specs.Tree.{Tree}
use Rattle.uc_order.specs.VarOrders.{represented}
use Rattle.uc_rewrite.specs.declared.normal.Normal.{Normal}
use Rattle.uc_rewrite.proofs.Unique.{one_normal}
use Rattle.uc_certify.specs.Making.{AreMovesOf}
use Rattle.uc_certify.proofs.MadeSteps.{normal_by_facts}
use Rattle.uc_certify.proofs.ending.case_of.Goals as goal

pub moves_of-requires : goal.moves_of-requires
moves_of-requires g c = normal_by_facts ((g.O.Order.meaning c.args.order.now).under c.args.cases) (g.O.Order.meaning c.args.order.now).least (g.I.Index.live c.args.index.now) 4096 (represented c.args.cases c.args.s.now) c.in_ok-from_left.from_left c.in_ok-from_left.ensures.normal

pub moves_of-requires-2 : goal.moves_of-requires-2
moves_of-requires-2 g c = normal_by_facts ((g.O.Order.meaning c.args.order.now).under c.args.cases) (g.O.Order.meaning c.args.order.now).least (g.I.Index.live c.args.index.now) 4096 (represented c.args.cases c.args.t.now) c.in_ok-from_right.from_right c.in_ok-from_right.ensures.normal

pub returns : goal.returns
returns g c =
    let m = g.O.Order.meaning c.args.order.now in
    let live = g.I.Index.live c.args.index.now in
    let left = c.in_ok-from_left.ensures.normal in
    let right = c.in_ok-from_right.ensures.normal in
    let meet = c.requires.meet in
    let l : c.in_ok-from_left.from_left.term ≡ meet.end = ap (λ (n : Normal). n.term) (one_normal (m.under c.args.cases) m.least live 4096 (represented c.args.cases c.args.s.now) c.in_ok-from_left.from_left meet.left_comes.normal left meet.left_comes.normal_is) ∙ meet.left_comes.end_is in
    let r : c.in_ok-from_right.from_right.term ≡ meet.end = ap (λ (n : Normal). n.term) (one_normal (m.under c.args.cases) m.least live 4096 (represented c.args.cases c.args.t.now) c.in_ok-from_right.from_right meet.right_comes.normal right meet.right_comes.normal_is) ∙ meet.right_comes.end_is in
    record {
      cases_are = c.cases.view_is;
      left = c.in_ok-from_left.from_left;
      right = c.in_ok-from_right.from_right;
      left_is = left;
      right_is = right;
      left_moves = subst (λ (u : Tree). AreMovesOf u c.in_ok-from_left.from_left.chain.steps c.in_ok-moves_of.field-0) left.start c.in_ok-moves_of.ensures;
      right_moves = subst (λ (u : Tree). AreMovesOf u c.in_ok-from_right.from_right.chain.steps c.in_ok-moves_of-2.field-0) right.start c.in_ok-moves_of-2.ensures;
      meet = l ∙ sym r;
    }
