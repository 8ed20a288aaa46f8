use Rattle.std.proofs.Common.{◌≡◌, Some, length, slice_get, refl}
use Rattle.std.proofs.lemmas.Option.{slice_get_read}
use Rattle.uc_certify.proofs.Lists.{same_test}
use Rattle.uc_certify.proofs.JoinsTested.{axiom_joins, joins_axiom}
use Rattle.uc_certify.proofs.joining.joins_axiom.Goals as goal

pub returns : goal.returns
returns g c =
    let at : slice_get c.args.axioms.now c.args.k ≡ Some c.index-axioms-k.result = slice_get_read c.args.axioms.now (length c.args.axioms.now) c.args.k c.index-axioms-k.result refl c.requires.known c.index-axioms-k.is in
    same_test c.joins.result (axiom_joins (g.O.Order.meaning c.args.order.now) c.args.rules.now.facts.now c.args.axioms.now c.args.join.now c.args.k c.index-axioms-k.result at) (joins_axiom (g.O.Order.meaning c.args.order.now) c.args.rules.now.facts.now c.args.axioms.now c.args.join.now c.args.k c.index-axioms-k.result at) c.joins.ensures
