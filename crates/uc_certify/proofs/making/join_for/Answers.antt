use Rattle.std.proofs.Common.{◌≡◌, ◌<◌, ◌∙◌, List, length, slice_get, Some, refl, sym, ap, subst}
use Rattle.std.specs.Result.{IfOk}
use Rattle.std.proofs.lemmas.Option.{slice_get-get_or}
use Rattle.uc_fact.specs.Live.{Live}
use Rattle.uc_certificate.specs.declared.certificate.Join.{Join}
use Rattle.uc_certificate.specs.declared.certificate.What.TheVariants.{Axiom}
use Rattle.uc_certify.specs.declared.expected.Member.{Member}
use Rattle.uc_certify.specs.declared.expected.Member.TheVariants as member
use Rattle.uc_certify.specs.Gathering.{IsKnownMember}
use Rattle.uc_certify.specs.Joining.{Names, of_axiom}
use Rattle.uc_certify.specs.Making.{AreFoundJoined, IsFoundJoined, IsMade, IsMadeFor}
use Rattle.uc_certify.proofs.MadeJoins.{both_ok}
use Rattle.uc_certify.proofs.making.join_for.Goals as goal

pub join_of-requires : goal.join_of-requires
join_of-requires g c =
    let m = g.O.Order.meaning c.args.order.now in
    let within : c.in-Axiom.k < length c.args.axioms.now = subst (IsKnownMember c.args.facts.now c.args.axioms.now) c.in-Axiom.is c.requires.known in
    let at : slice_get c.args.axioms.now c.in-Axiom.k ≡ Some c.index-axioms-k.result = slice_get-get_or c.args.axioms.now c.in-Axiom.k _ within ∙ ap Some (sym c.index-axioms-k.is) in
    let found = subst (IsFoundJoined m c.args.facts.now c.args.axioms.now) c.in-Axiom.is c.requires.joined in
    subst (λ (l : List Live). AreFoundJoined m l c.index-axioms-k.result.left c.index-axioms-k.result.right) (sym c.requires.index) (found.joined c.index-axioms-k.result.left c.index-axioms-k.result.right (of_axiom at))

pub returns-in-Axiom : goal.returns-in-Axiom
returns-in-Axiom g c =
    let m = g.O.Order.meaning c.args.order.now in
    let within : c.in-Axiom.k < length c.args.axioms.now = subst (IsKnownMember c.args.facts.now c.args.axioms.now) c.in-Axiom.is c.requires.known in
    let at : slice_get c.args.axioms.now c.in-Axiom.k ≡ Some c.index-axioms-k.result = slice_get-get_or c.args.axioms.now c.in-Axiom.k _ within ∙ ap Some (sym c.index-axioms-k.is) in
    subst (λ (x : Member). IfOk c.join_of.result (IsMadeFor m c.args.facts.now c.args.axioms.now x)) (sym c.in-Axiom.is)
    (both_ok c.join_of.result (λ (j : Join). j.what ≡ Axiom c.in-Axiom.k) (IsMade m (g.I.Index.live c.args.index.now) c.index-axioms-k.result.left c.index-axioms-k.result.right) (IsMadeFor m c.args.facts.now c.args.axioms.now (member.Axiom c.in-Axiom.k))
    (λ j e made. record {
      names = subst (Names c.args.facts.now (member.Axiom c.in-Axiom.k)) (sym e) refl;
      left = c.index-axioms-k.result.left;
      right = c.index-axioms-k.result.right;
      sides = of_axiom at;
      made = subst (λ (l : List Live). IsMade m l c.index-axioms-k.result.left c.index-axioms-k.result.right j) c.requires.index made;
    })
    c.join_of.ensures.what c.join_of.ensures.made)
