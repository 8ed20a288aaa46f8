use Rattle.std.proofs.Common.{◌≡◌, subst}
use Rattle.std.proofs.lemmas.Result.{IfOk-weaker}
use Rattle.uc_fact.specs.declared.joinable.Joinable.TheVariants.{Joined}
use Rattle.uc_fact.specs.declared.joinable.Reason.{Reason}
use Rattle.uc_ac.specs.Ends.{IsEndsAnswer}
use Rattle.uc_ac.proofs.Ends.{one_ends}
use Rattle.uc_certify.specs.Making.{SaysWhy}
use Rattle.uc_certify.proofs.ending.end_of.Goals as goal

pub end_by-requires : goal.end_by-requires
end_by-requires g c = subst (IsEndsAnswer (g.O.Order.meaning c.args.order.now) (g.I.Index.live c.args.index.now) c.args.s.now c.args.t.now) c.in-Joined.is c.in_ok-why.ensures.answer

pub returns : goal.returns
returns g c =
    IfOk-weaker c.end_by.result (SaysWhy (g.O.Order.meaning c.args.order.now) (g.I.Index.live c.args.index.now) c.args.s.now c.args.t.now c.in-Joined.why) (λ end. (why : Reason) → IsEndsAnswer (g.O.Order.meaning c.args.order.now) (g.I.Index.live c.args.index.now) c.args.s.now c.args.t.now (Joined why) → SaysWhy (g.O.Order.meaning c.args.order.now) (g.I.Index.live c.args.index.now) c.args.s.now c.args.t.now why end)
    (λ end h why a.
    (let own = subst (IsEndsAnswer (g.O.Order.meaning c.args.order.now) (g.I.Index.live c.args.index.now) c.args.s.now c.args.t.now) c.in-Joined.is c.in_ok-why.ensures.answer in
    let q : Joined c.in-Joined.why ≡ Joined why = one_ends (g.I.Index.live c.args.index.now) (g.O.Order.meaning c.args.order.now) c.args.s.now c.args.t.now (Joined c.in-Joined.why) (Joined why) own a in
    let same : c.in-Joined.why ≡ why = cc in
    subst (λ (w : Reason). SaysWhy (g.O.Order.meaning c.args.order.now) (g.I.Index.live c.args.index.now) c.args.s.now c.args.t.now w end) same h))
    c.end_by.ensures

pub unreachable-requires : goal.unreachable-requires
unreachable-requires g c =
    let q : c.in_ok-why.field-0 ≡ Joined c.requires.0 = one_ends (g.I.Index.live c.args.index.now) (g.O.Order.meaning c.args.order.now) c.args.s.now c.args.t.now c.in_ok-why.field-0 (Joined c.requires.0) c.in_ok-why.ensures.answer c.requires.1 in
    let is = c.in-Apart.is in
    absurd cc

pub unreachable-requires-in-TooManyVariables : goal.unreachable-requires-in-TooManyVariables
unreachable-requires-in-TooManyVariables g c =
    let q : c.in_ok-why.field-0 ≡ Joined c.requires.0 = one_ends (g.I.Index.live c.args.index.now) (g.O.Order.meaning c.args.order.now) c.args.s.now c.args.t.now c.in_ok-why.field-0 (Joined c.requires.0) c.in_ok-why.ensures.answer c.requires.1 in
    let is = c.in-TooManyVariables.is in
    absurd cc
