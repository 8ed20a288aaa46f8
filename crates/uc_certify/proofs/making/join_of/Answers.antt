use Rattle.std.proofs.Common.{◌≡◌, ap, subst}
use Rattle.uc_term.specs.Tree.{Tree}
use Rattle.uc_fact.specs.declared.joinable.Joinable.TheVariants.{Joined}
use Rattle.uc_rewrite.specs.declared.normal.Normal.{Normal}
use Rattle.uc_rewrite.proofs.Unique.{one_normal}
use Rattle.uc_ac.specs.Ends.{IsEndsAnswer}
use Rattle.uc_certify.specs.Making.{AreMovesOf}
use Rattle.uc_certify.proofs.MadeSteps.{normal_by_facts}
use Rattle.uc_certify.proofs.making.join_of.Goals as goal

pub moves_of-requires : goal.moves_of-requires
moves_of-requires g c = normal_by_facts (g.O.Order.meaning c.args.order.now).greater (g.O.Order.meaning c.args.order.now).least (g.I.Index.live c.args.index.now) 4096 c.args.l.now c.in_ok-from_left.from_left c.in_ok-from_left.ensures.normal

pub moves_of-requires-2 : goal.moves_of-requires-2
moves_of-requires-2 g c = normal_by_facts (g.O.Order.meaning c.args.order.now).greater (g.O.Order.meaning c.args.order.now).least (g.I.Index.live c.args.index.now) 4096 c.args.r.now c.in_ok-from_right.from_right c.in_ok-from_right.ensures.normal

pub end_of-requires : goal.end_of-requires
end_of-requires g c =
    let m = g.O.Order.meaning c.args.order.now in
    let live = g.I.Index.live c.args.index.now in
    let found = c.requires in
    let l : found.left.term ≡ c.in_ok-from_left.from_left.term = ap (λ (n : Normal). n.term) (one_normal m.greater m.least live 4096 c.args.l.now found.left c.in_ok-from_left.from_left found.left_is c.in_ok-from_left.ensures.normal) in
    let r : found.right.term ≡ c.in_ok-from_right.from_right.term = ap (λ (n : Normal). n.term) (one_normal m.greater m.least live 4096 c.args.r.now found.right c.in_ok-from_right.from_right found.right_is c.in_ok-from_right.ensures.normal) in
    (found.why, subst (λ (u : Tree). IsEndsAnswer m live u c.in_ok-from_right.from_right.term (Joined found.why)) l (subst (λ (u : Tree). IsEndsAnswer m live found.left.term u (Joined found.why)) r found.answer_is))

pub returns-clause-made : goal.returns-clause-made
returns-clause-made g c =
    let left = c.in_ok-from_left.ensures.normal in
    let right = c.in_ok-from_right.ensures.normal in
    let m = g.O.Order.meaning c.args.order.now in
    let live = g.I.Index.live c.args.index.now in
    let given = c.requires in
    let l : given.left.term ≡ c.in_ok-from_left.from_left.term = ap (λ (n : Normal). n.term) (one_normal m.greater m.least live 4096 c.args.l.now given.left c.in_ok-from_left.from_left given.left_is left) in
    let r : given.right.term ≡ c.in_ok-from_right.from_right.term = ap (λ (n : Normal). n.term) (one_normal m.greater m.least live 4096 c.args.r.now given.right c.in_ok-from_right.from_right given.right_is right) in
    let answer = subst (λ (u : Tree). IsEndsAnswer m live u c.in_ok-from_right.from_right.term (Joined given.why)) l (subst (λ (u : Tree). IsEndsAnswer m live given.left.term u (Joined given.why)) r given.answer_is) in
    record {
      found = record { left = c.in_ok-from_left.from_left; right = c.in_ok-from_right.from_right; left_is = left; right_is = right; why = given.why; answer_is = answer };
      left_moves = subst (λ (u : Tree). AreMovesOf u c.in_ok-from_left.from_left.chain.steps c.in_ok-moves_of.field-0) left.start c.in_ok-moves_of.ensures;
      right_moves = subst (λ (u : Tree). AreMovesOf u c.in_ok-from_right.from_right.chain.steps c.in_ok-moves_of-2.field-0) right.start c.in_ok-moves_of-2.ensures;
      end = c.in_ok-end_of.ensures given.why answer;
    }
