use Rattle.std.proofs.Common.{◌≡◌, ℕ, ◌<◌, ◌≤◌, ◌+◌, ◌-◌, arith, length, length-drop, drop, take, ◌∙◌, ap, List, get_or, Bool}
use Rattle.uc_term.specs.Tree.{nodes, nodes_all, of_list}
use Rattle.uc_term.specs.Flat.{IsWhole, AreWhole, tree_of, spelled}
use Rattle.uc_term.specs.declared.node.Node.{Node}
use Rattle.uc_term.specs.declared.node.Node.TheVariants.{Var, App}
use Rattle.uc_term.proofs.Terms.{whole_one}
use Rattle.uc_order.specs.VarOrders.{Classes}
use Rattle.uc_order.specs.Renamed.{renamed_node}
use Rattle.uc_order.proofs.Renaming.{length-renamed, renamed_is_whole}
use Rattle.uc_kbo.specs.Runs.{table_weighing, test_by, above_by, slot_by, read_by, image_by}
use Rattle.uc_kbo.proofs.Parts.{run_new, one_term, one_enough}
use Rattle.uc_kbo.proofs.Covering.{agree_by}
use Rattle.uc_order.proofs.Reading.{get_or-renamed, nodes-renamed, nodes_all-renamed, length_spelled_at}
use Rattle.uc_kbo.proofs.Around.{climbed_init, climbed_var, climbed_app, climbed_up, s_around, t_around, climbed_end}
use Rattle.uc_kbo.proofs.climb.climb.Goals as goal

read_long : (under : Bool) (cs : Classes) (ns : List Node) → length (read_by under cs ns) ≡ length ns
read_long under cs ns = length-renamed (image_by under cs) ns

read_whole : (under : Bool) (cs : Classes) (ns : List Node) → IsWhole ns → IsWhole (read_by under cs ns)
read_whole under cs ns w = renamed_is_whole (image_by under cs) ns w

read_wholes : (under : Bool) (cs : Classes) (ns : List Node) → IsWhole ns → AreWhole (read_by under cs ns)
read_wholes under cs ns w = whole_one (read_by under cs ns) (read_whole under cs ns w)

in_read : (under : Bool) (cs : Classes) (ns : List Node) (i : ℕ) → i < length ns → i < length (read_by under cs ns)
in_read under cs ns i h = omega (arith, read_long under cs ns)

end_read : (under : Bool) (cs : Classes) (ns : List Node) (p e : ℕ) → e ≡ p + nodes (tree_of (drop p ns)) → e ≡ p + nodes (tree_of (drop p (read_by under cs ns)))
end_read under cs ns p e h = omega (arith, h, nodes-renamed (image_by under cs) ns p)

ends_read : (under : Bool) (cs : Classes) (ns : List Node) (p k e : ℕ) → e ≡ p + nodes_all (of_list (take k (spelled (drop p ns)))) → e ≡ p + nodes_all (of_list (take k (spelled (drop p (read_by under cs ns)))))
ends_read under cs ns p k e h = omega (arith, h, nodes_all-renamed (image_by under cs) ns p k)

enough_read : (under : Bool) (cs : Classes) (ns : List Node) (p k : ℕ) → k ≤ length (spelled (drop p (read_by under cs ns))) → k ≤ length (spelled (drop p ns))
enough_read under cs ns p k h = omega (arith, h, length_spelled_at (image_by under cs) ns p)

node_read : (under : Bool) (cs : Classes) (ns : List Node) (i : ℕ) (d n : Node) → i < length ns → get_or ns i d ≡ n → get_or (read_by under cs ns) i (Var 0) ≡ renamed_node (image_by under cs) n
node_read under cs ns i d n h e = get_or-renamed (image_by under cs) ns i d (Var 0) h ∙ ap (renamed_node (image_by under cs)) e

pub extend_terms-requires-clause-whole : goal.extend_terms-requires-clause-whole
extend_terms-requires-clause-whole c = whole_one c.args.s.now c.requires.s_whole

pub extend_terms-requires-2-clause-whole : goal.extend_terms-requires-2-clause-whole
extend_terms-requires-2-clause-whole c = whole_one c.args.t.now c.requires.t_whole

pub extend_terms-requires-clause-run : goal.extend_terms-requires-clause-run
extend_terms-requires-clause-run c = let e = c.new-a.ensures in run_new (table_weighing c.args.w.now.w0 c.args.w.now.table.items) (slot_by c.args.under c.args.classes.now) (read_by c.args.under c.args.classes.now c.args.s.now) c.args.at c.new-a.result (omega (arith, (read_long c.args.under c.args.classes.now c.args.s.now), c.requires.in_s)) e.from e.to e.weight e.counts e.large

pub extend_terms-requires-2-clause-run : goal.extend_terms-requires-2-clause-run
extend_terms-requires-2-clause-run c = let e = c.new-b.ensures in run_new (table_weighing c.args.w.now.w0 c.args.w.now.table.items) (slot_by c.args.under c.args.classes.now) (read_by c.args.under c.args.classes.now c.args.t.now) c.args.at c.new-b.result (omega (arith, (read_long c.args.under c.args.classes.now c.args.t.now), c.requires.in_t)) e.from e.to e.weight e.counts e.large

pub loop-from-init : goal.loop-from-init
loop-from-init c =
    let r = c.requires in
    climbed_init (table_weighing c.args.w.now.w0 c.args.w.now.table.items) (test_by c.args.under c.args.classes.now) (above_by c.args.under c.args.classes.now) (agree_by c.args.under c.args.classes.now) (slot_by c.args.under c.args.classes.now) (read_by c.args.under c.args.classes.now c.args.s.now) (read_by c.args.under c.args.classes.now c.args.t.now) c.args.at c.extend_terms.new.self c.extend_terms-2.new.self c.decide-verdict.result c.heads-inner.result (Var 0) (read_wholes c.args.under c.args.classes.now c.args.s.now c.requires.s_whole) (read_wholes c.args.under c.args.classes.now c.args.t.now c.requires.t_whole) r.common (in_read c.args.under c.args.classes.now c.args.s.now c.args.at c.requires.in_s) (in_read c.args.under c.args.classes.now c.args.t.now c.args.at c.requires.in_t) (r.differ (Var 0)) c.extend_terms.ensures.run c.extend_terms-2.ensures.run (c.extend_terms.ensures.from ∙ c.new-a.ensures.from) (c.extend_terms-2.ensures.from ∙ c.new-b.ensures.from) (end_read c.args.under c.args.classes.now c.args.s.now c.args.at c.extend_terms.new.self.to (one_term c.args.s.now c.args.at c.new-a.result.to _ c.requires.in_s c.new-a.ensures.to c.extend_terms.ensures.to)) (end_read c.args.under c.args.classes.now c.args.t.now c.args.at c.extend_terms-2.new.self.to (one_term c.args.t.now c.args.at c.new-b.result.to _ c.requires.in_t c.new-b.ensures.to c.extend_terms-2.ensures.to)) c.heads-inner.ensures.greater c.heads-inner.ensures.less c.decide-verdict.ensures.greater c.decide-verdict.ensures.less c.decide-verdict.ensures.differ

pub loop-from-preserved-in-Var : goal.loop-from-preserved-in-Var
loop-from-preserved-in-Var c =
    let below : c.loop-from.from - 1 < length c.args.s.now = omega (arith, c.loop-from.invariant.begun, c.loop-from.invariant.part_first, c.requires.in_s) in
    climbed_var (table_weighing c.args.w.now.w0 c.args.w.now.table.items) (test_by c.args.under c.args.classes.now) (above_by c.args.under c.args.classes.now) (agree_by c.args.under c.args.classes.now) (slot_by c.args.under c.args.classes.now) (read_by c.args.under c.args.classes.now c.args.s.now) (read_by c.args.under c.args.classes.now c.args.t.now) c.args.at c.loop-from.part c.loop-from.from c.loop-from.done c.loop-from.a c.loop-from.b c.loop-from.verdict c.loop-from.invariant c.requires.common (in_read c.args.under c.args.classes.now c.args.s.now c.args.at c.requires.in_s) (in_read c.args.under c.args.classes.now c.args.t.now c.args.at c.requires.in_t) (c.loop-from.from - 1) (omega arith) (Var 0) _ (node_read c.args.under c.args.classes.now c.args.s.now (c.loop-from.from - 1) _ _ below c.in-Var.is)

pub loop-from-preserved-then-arity-done : goal.loop-from-preserved-then-arity-done
loop-from-preserved-then-arity-done c =
    let below : c.loop-from.from - 1 < length c.args.s.now = omega (arith, c.loop-from.invariant.begun, c.loop-from.invariant.part_first, c.requires.in_s) in
    climbed_app (table_weighing c.args.w.now.w0 c.args.w.now.table.items) (test_by c.args.under c.args.classes.now) (above_by c.args.under c.args.classes.now) (agree_by c.args.under c.args.classes.now) (slot_by c.args.under c.args.classes.now) (read_by c.args.under c.args.classes.now c.args.s.now) (read_by c.args.under c.args.classes.now c.args.t.now) c.args.at c.loop-from.part c.loop-from.from c.loop-from.done c.loop-from.a c.loop-from.b c.loop-from.verdict c.loop-from.invariant c.requires.common (in_read c.args.under c.args.classes.now c.args.s.now c.args.at c.requires.in_s) (in_read c.args.under c.args.classes.now c.args.t.now c.args.at c.requires.in_t) (c.loop-from.from - 1) (omega arith) (Var 0) _ _ (node_read c.args.under c.args.classes.now c.args.s.now (c.loop-from.from - 1) _ (App c.in-App.field-0 c.in-App.n) below c.in-App.is) c.if-arity-done.true

pub extend_terms-requires-else-arity-done-clause-whole : goal.extend_terms-requires-else-arity-done-clause-whole
extend_terms-requires-else-arity-done-clause-whole c = whole_one c.args.s.now c.requires.s_whole

pub extend_terms-requires-else-arity-done-clause-enough : goal.extend_terms-requires-else-arity-done-clause-enough
extend_terms-requires-else-arity-done-clause-enough c =
    let below : c.loop-from.from - 1 < length c.args.s.now = omega (arith, c.loop-from.invariant.begun, c.loop-from.invariant.part_first, c.requires.in_s) in
    enough_read c.args.under c.args.classes.now c.args.s.now c.loop-from.a.to _ (s_around (table_weighing c.args.w.now.w0 c.args.w.now.table.items) (test_by c.args.under c.args.classes.now) (above_by c.args.under c.args.classes.now) (agree_by c.args.under c.args.classes.now) (slot_by c.args.under c.args.classes.now) (read_by c.args.under c.args.classes.now c.args.s.now) (read_by c.args.under c.args.classes.now c.args.t.now) c.args.at c.loop-from.part c.loop-from.from c.loop-from.done c.loop-from.a c.loop-from.b c.loop-from.verdict c.loop-from.invariant c.requires.common (in_read c.args.under c.args.classes.now c.args.s.now c.args.at c.requires.in_s) (in_read c.args.under c.args.classes.now c.args.t.now c.args.at c.requires.in_t) (c.loop-from.from - 1) (omega arith) (Var 0) _ _ (node_read c.args.under c.args.classes.now c.args.s.now (c.loop-from.from - 1) _ (App c.in-App.field-0 c.in-App.n) below c.in-App.is) (read_wholes c.args.under c.args.classes.now c.args.s.now c.requires.s_whole) (read_wholes c.args.under c.args.classes.now c.args.t.now c.requires.t_whole) (omega arith)).enough

pub extend_terms-requires-else-arity-done-2-clause-whole : goal.extend_terms-requires-else-arity-done-2-clause-whole
extend_terms-requires-else-arity-done-2-clause-whole c = whole_one c.args.t.now c.requires.t_whole

pub extend_terms-requires-else-arity-done-2-clause-enough : goal.extend_terms-requires-else-arity-done-2-clause-enough
extend_terms-requires-else-arity-done-2-clause-enough c =
    let below : c.loop-from.from - 1 < length c.args.s.now = omega (arith, c.loop-from.invariant.begun, c.loop-from.invariant.part_first, c.requires.in_s) in
    enough_read c.args.under c.args.classes.now c.args.t.now c.loop-from.b.to _ (t_around (table_weighing c.args.w.now.w0 c.args.w.now.table.items) (test_by c.args.under c.args.classes.now) (above_by c.args.under c.args.classes.now) (agree_by c.args.under c.args.classes.now) (slot_by c.args.under c.args.classes.now) (read_by c.args.under c.args.classes.now c.args.s.now) (read_by c.args.under c.args.classes.now c.args.t.now) c.args.at c.loop-from.part c.loop-from.from c.loop-from.done c.loop-from.a c.loop-from.b c.loop-from.verdict c.loop-from.invariant c.requires.common (in_read c.args.under c.args.classes.now c.args.s.now c.args.at c.requires.in_s) (in_read c.args.under c.args.classes.now c.args.t.now c.args.at c.requires.in_t) (c.loop-from.from - 1) (omega arith) (Var 0) _ _ (node_read c.args.under c.args.classes.now c.args.s.now (c.loop-from.from - 1) _ (App c.in-App.field-0 c.in-App.n) below c.in-App.is) (read_wholes c.args.under c.args.classes.now c.args.s.now c.requires.s_whole) (read_wholes c.args.under c.args.classes.now c.args.t.now c.requires.t_whole) (omega arith)).enough

pub loop-from-preserved : goal.loop-from-preserved
loop-from-preserved c =
    let below : c.loop-from.from - 1 < length c.args.s.now = omega (arith, c.loop-from.invariant.begun, c.loop-from.invariant.part_first, c.requires.in_s) in
    climbed_up (table_weighing c.args.w.now.w0 c.args.w.now.table.items) (test_by c.args.under c.args.classes.now) (above_by c.args.under c.args.classes.now) (agree_by c.args.under c.args.classes.now) (slot_by c.args.under c.args.classes.now) (read_by c.args.under c.args.classes.now c.args.s.now) (read_by c.args.under c.args.classes.now c.args.t.now) c.args.at c.loop-from.part c.loop-from.from c.loop-from.done c.loop-from.a c.loop-from.b c.loop-from.verdict c.loop-from.invariant c.requires.common (in_read c.args.under c.args.classes.now c.args.s.now c.args.at c.requires.in_s) (in_read c.args.under c.args.classes.now c.args.t.now c.args.at c.requires.in_t) (c.loop-from.from - 1) (omega arith) (Var 0) _ _ (node_read c.args.under c.args.classes.now c.args.s.now (c.loop-from.from - 1) _ (App c.in-App.field-0 c.in-App.n) below c.in-App.is) (read_wholes c.args.under c.args.classes.now c.args.s.now c.requires.s_whole) (read_wholes c.args.under c.args.classes.now c.args.t.now c.requires.t_whole) (omega arith) c.extend_terms-else-arity-done.new.self c.extend_terms-else-arity-done-2.new.self c.decide-verdict-else-arity-done.result c.extend_terms-else-arity-done.ensures.run c.extend_terms-else-arity-done-2.ensures.run c.extend_terms-else-arity-done.ensures.from c.extend_terms-else-arity-done-2.ensures.from (ends_read c.args.under c.args.classes.now c.args.s.now c.loop-from.a.to _ _ c.extend_terms-else-arity-done.ensures.to) (ends_read c.args.under c.args.classes.now c.args.t.now c.loop-from.b.to _ _ c.extend_terms-else-arity-done-2.ensures.to) c.decide-verdict-else-arity-done.ensures.greater c.decide-verdict-else-arity-done.ensures.less c.decide-verdict-else-arity-done.ensures.differ

pub returns : goal.returns
returns c = climbed_end (table_weighing c.args.w.now.w0 c.args.w.now.table.items) (test_by c.args.under c.args.classes.now) (above_by c.args.under c.args.classes.now) (agree_by c.args.under c.args.classes.now) (slot_by c.args.under c.args.classes.now) (read_by c.args.under c.args.classes.now c.args.s.now) (read_by c.args.under c.args.classes.now c.args.t.now) c.args.at c.loop-from.part c.loop-from.from c.loop-from.done c.loop-from.a c.loop-from.b c.loop-from.verdict c.loop-from.invariant (omega arith) (read_whole c.args.under c.args.classes.now c.args.s.now c.requires.s_whole) (read_wholes c.args.under c.args.classes.now c.args.s.now c.requires.s_whole) (in_read c.args.under c.args.classes.now c.args.s.now c.args.at c.requires.in_s)

pub extend_terms-requires-clause-enough : goal.extend_terms-requires-clause-enough
extend_terms-requires-clause-enough c = one_enough (drop c.new-a.result.to c.args.s.now) (omega (arith, c.requires.in_s, c.new-a.ensures.to, length-drop c.new-a.result.to c.args.s.now))

pub extend_terms-requires-2-clause-enough : goal.extend_terms-requires-2-clause-enough
extend_terms-requires-2-clause-enough c = one_enough (drop c.new-b.result.to c.args.t.now) (omega (arith, c.requires.in_t, c.new-b.ensures.to, length-drop c.new-b.result.to c.args.t.now))
