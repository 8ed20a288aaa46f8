use Rattle.std.proofs.Common.{◌↔◌, sym, subst, Bool, IsTrue, List, false}
use Rattle.uc_term.specs.declared.node.Node.{Node}
use Rattle.uc_kbo.specs.Kbo.{is_it}
use Rattle.uc_kbo.specs.Runs.{HasAll, test_by, read_by}
use Rattle.uc_kbo.proofs.Covering.{read_plain}
use Rattle.uc_kbo.proofs.covers.has_all_nodes.Goals as goal

pub returns-then-under : goal.returns-then-under
returns-then-under c =
    let P : Bool → Type 0 = λ u. IsTrue c.has_all_classes.result ↔ HasAll (test_by u c.args.classes.now) (read_by u c.args.classes.now c.args.s.now) (read_by u c.args.classes.now c.args.t.now) in
    subst P (sym c.if-under.true) c.has_all_classes.ensures

pub returns-else-under : goal.returns-else-under
returns-else-under c =
    let P : Bool → Type 0 = λ u. IsTrue c.has_all_variables.result ↔ HasAll (test_by u c.args.classes.now) (read_by u c.args.classes.now c.args.s.now) (read_by u c.args.classes.now c.args.t.now) in
    let Q : List Node → Type 0 = λ ns. IsTrue c.has_all_variables.result ↔ HasAll is_it ns c.args.t.now in
    let R : List Node → Type 0 = λ ms. IsTrue c.has_all_variables.result ↔ HasAll is_it (read_by false c.args.classes.now c.args.s.now) ms in
    subst P (sym c.if-under.false) (subst R (sym (read_plain c.args.classes.now c.args.t.now)) (subst Q (sym (read_plain c.args.classes.now c.args.s.now)) c.has_all_variables.ensures))
