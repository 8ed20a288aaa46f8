use Rattle.std.proofs.Common.{refl, ◌≡◌, ℕ, ◌<◌, ◌≤◌, arith, length, ◌∙◌, sym, List, Bool, ◌⊎◌, inl, inr}
use Rattle.uc_term.specs.Flat.{IsWhole, AreWhole}
use Rattle.uc_term.specs.declared.node.Node.{Node}
use Rattle.uc_term.specs.declared.node.Node.TheVariants.{Var}
use Rattle.uc_term.proofs.Terms.{whole_one}
use Rattle.uc_order.specs.VarOrders.{Classes}
use Rattle.uc_order.proofs.Renaming.{length-renamed, renamed_is_whole}
use Rattle.uc_kbo.specs.Runs.{table_weighing, test_by, above_by, slot_by, read_by, image_by}
use Rattle.uc_kbo.proofs.Parts.{run_new}
use Rattle.uc_kbo.proofs.Covering.{agree_by}
use Rattle.uc_order.proofs.Climbing.{same_front, trees_differ}
use Rattle.uc_kbo.proofs.Around.{not_above_itself, heavy}
use Rattle.uc_kbo.proofs.Balancing.{read_as_is, verdict_read}
use Rattle.uc_kbo.proofs.climb.compare_by.Goals as goal
use Rattle.uc_kbo.proofs.climb.compare_by.Goals.{then-at-s-via-then-at-s, then-at-s-via-else-at-s+then-at-t}

read_long : (under : Bool) (cs : Classes) (ns : List Node) → length (read_by under cs ns) ≡ length ns
read_long under cs ns = length-renamed (image_by under cs) ns

read_whole : (under : Bool) (cs : Classes) (ns : List Node) → IsWhole ns → IsWhole (read_by under cs ns)
read_whole under cs ns w = renamed_is_whole (image_by under cs) ns w

read_wholes : (under : Bool) (cs : Classes) (ns : List Node) → IsWhole ns → AreWhole (read_by under cs ns)
read_wholes under cs ns w = whole_one (read_by under cs ns) (read_whole under cs ns w)

in_read : (under : Bool) (cs : Classes) (ns : List Node) (i : ℕ) → i < length ns → i < length (read_by under cs ns)
in_read under cs ns i h = omega (arith, read_long under cs ns)

pub same : goal.returns-then-at-s-clause-equal
same c = (
  λ _. same_front (read_by c.args.under c.args.classes.now c.args.s.now) (read_by c.args.under c.args.classes.now c.args.t.now) c.first_difference-at.result (read_whole c.args.under c.args.classes.now c.args.s.now c.requires.s_whole) (read_whole c.args.under c.args.classes.now c.args.t.now c.requires.t_whole) c.first_difference-at.ensures.common (omega (arith, c.first_difference-at.ensures.in_s, (read_long c.args.under c.args.classes.now c.args.s.now))) (omega (arith, c.first_difference-at.ensures.in_t, (read_long c.args.under c.args.classes.now c.args.t.now))) (elim c.then-at-s.branch as (λ _. (length (read_by c.args.under c.args.classes.now c.args.s.now) ≤ c.first_difference-at.result) ⊎ (length (read_by c.args.under c.args.classes.now c.args.t.now) ≤ c.first_difference-at.result)) [
    | then-at-s-via-then-at-s w ↦ inl (omega (arith, w.if-at-s.true, (read_long c.args.under c.args.classes.now c.args.s.now)))
    | then-at-s-via-else-at-s+then-at-t w ↦ inr (omega (arith, w.if-at-t.true, (read_long c.args.under c.args.classes.now c.args.t.now)))
  ]),
  λ _. refl,
)

pub returns-then-at-s-clause-equal : goal.returns-then-at-s-clause-equal
returns-then-at-s-clause-equal c = same c

pub returns-then-at-s-clause-greater : goal.returns-then-at-s-clause-greater
returns-then-at-s-clause-greater c = (λ e. cc, λ k. absurd (not_above_itself (table_weighing c.args.w.now.w0 c.args.w.now.table.items) (test_by c.args.under c.args.classes.now) (above_by c.args.under c.args.classes.now) (agree_by c.args.under c.args.classes.now) _ _ ((same c).0 refl) k))

pub returns-then-at-s-clause-less : goal.returns-then-at-s-clause-less
returns-then-at-s-clause-less c = (λ e. cc, λ k. absurd (not_above_itself (table_weighing c.args.w.now.w0 c.args.w.now.table.items) (test_by c.args.under c.args.classes.now) (above_by c.args.under c.args.classes.now) (agree_by c.args.under c.args.classes.now) _ _ (sym ((same c).0 refl)) k))

pub extend-requires-clause-run : goal.extend-requires-clause-run
extend-requires-clause-run c = let e = c.new-a.ensures in run_new (table_weighing c.args.w.now.w0 c.args.w.now.table.items) (slot_by c.args.under c.args.classes.now) (read_by c.args.under c.args.classes.now c.args.s.now) c.first_difference-at.result c.new-a.result (omega (arith, c.first_difference-at.ensures.in_s, (read_long c.args.under c.args.classes.now c.args.s.now))) e.from e.to e.weight e.counts e.large

pub extend-requires-2-clause-run : goal.extend-requires-2-clause-run
extend-requires-2-clause-run c = let e = c.new-b.ensures in run_new (table_weighing c.args.w.now.w0 c.args.w.now.table.items) (slot_by c.args.under c.args.classes.now) (read_by c.args.under c.args.classes.now c.args.t.now) c.first_difference-at.result c.new-b.result (omega (arith, c.first_difference-at.ensures.in_t, (read_long c.args.under c.args.classes.now c.args.t.now))) e.from e.to e.weight e.counts e.large

pub compare_wide-requires-clause-common : goal.compare_wide-requires-clause-common
compare_wide-requires-clause-common c = rw (read_as_is c.args.under c.args.classes.now c.args.s.now c.if-not-under.true, read_as_is c.args.under c.args.classes.now c.args.t.now c.if-not-under.true) at c.first_difference-at.ensures.common

pub compare_wide-requires-clause-differ : goal.compare_wide-requires-clause-differ
compare_wide-requires-clause-differ c d = rw (read_as_is c.args.under c.args.classes.now c.args.s.now c.if-not-under.true, read_as_is c.args.under c.args.classes.now c.args.t.now c.if-not-under.true) at (c.first_difference-at.ensures.differ (omega arith) (omega arith) d)

pub returns-then-b-clause-greater : goal.returns-then-b-clause-greater
returns-then-b-clause-greater c = (verdict_read (table_weighing c.args.w.now.w0 c.args.w.now.table.items) c.compare_wide.result c.args.under c.args.classes.now c.args.s.now c.args.t.now c.if-not-under.true c.compare_wide.ensures).greater

pub returns-then-b-clause-less : goal.returns-then-b-clause-less
returns-then-b-clause-less c = (verdict_read (table_weighing c.args.w.now.w0 c.args.w.now.table.items) c.compare_wide.result c.args.under c.args.classes.now c.args.s.now c.args.t.now c.if-not-under.true c.compare_wide.ensures).less

pub returns-then-b-clause-equal : goal.returns-then-b-clause-equal
returns-then-b-clause-equal c = (λ e. absurd (c.compare_wide.ensures.not_equal e), λ e. absurd (trees_differ (read_by c.args.under c.args.classes.now c.args.s.now) (read_by c.args.under c.args.classes.now c.args.t.now) c.first_difference-at.result (Var 0) (read_whole c.args.under c.args.classes.now c.args.s.now c.requires.s_whole) (read_whole c.args.under c.args.classes.now c.args.t.now c.requires.t_whole) (c.first_difference-at.ensures.differ (omega arith) (omega arith) (Var 0)) e))

pub returns-then-a-b-clause-greater : goal.returns-then-a-b-clause-greater
returns-then-a-b-clause-greater c = heavy (table_weighing c.args.w.now.w0 c.args.w.now.table.items) (test_by c.args.under c.args.classes.now) (above_by c.args.under c.args.classes.now) (agree_by c.args.under c.args.classes.now) (slot_by c.args.under c.args.classes.now) (read_by c.args.under c.args.classes.now c.args.s.now) (read_by c.args.under c.args.classes.now c.args.t.now) c.first_difference-at.result c.extend.new.self c.extend-2.new.self _ _ (read_whole c.args.under c.args.classes.now c.args.s.now c.requires.s_whole) (read_whole c.args.under c.args.classes.now c.args.t.now c.requires.t_whole) (in_read c.args.under c.args.classes.now c.args.s.now c.first_difference-at.result (omega arith)) (in_read c.args.under c.args.classes.now c.args.t.now c.first_difference-at.result (omega arith)) c.first_difference-at.ensures.common (c.extend.ensures.from ∙ c.new-a.ensures.from) (c.extend-2.ensures.from ∙ c.new-b.ensures.from) (c.extend.ensures.to ∙ sym (read_long c.args.under c.args.classes.now c.args.s.now)) (c.extend-2.ensures.to ∙ sym (read_long c.args.under c.args.classes.now c.args.t.now)) c.extend.ensures.run c.extend-2.ensures.run c.if-a-b.true c.decide.ensures.greater

pub returns-then-a-b-clause-less : goal.returns-then-a-b-clause-less
returns-then-a-b-clause-less c = heavy (table_weighing c.args.w.now.w0 c.args.w.now.table.items) (test_by c.args.under c.args.classes.now) (above_by c.args.under c.args.classes.now) (agree_by c.args.under c.args.classes.now) (slot_by c.args.under c.args.classes.now) (read_by c.args.under c.args.classes.now c.args.t.now) (read_by c.args.under c.args.classes.now c.args.s.now) c.first_difference-at.result c.extend-2.new.self c.extend.new.self _ _ (read_whole c.args.under c.args.classes.now c.args.t.now c.requires.t_whole) (read_whole c.args.under c.args.classes.now c.args.s.now c.requires.s_whole) (in_read c.args.under c.args.classes.now c.args.t.now c.first_difference-at.result (omega arith)) (in_read c.args.under c.args.classes.now c.args.s.now c.first_difference-at.result (omega arith)) (sym c.first_difference-at.ensures.common) (c.extend-2.ensures.from ∙ c.new-b.ensures.from) (c.extend.ensures.from ∙ c.new-a.ensures.from) (c.extend-2.ensures.to ∙ sym (read_long c.args.under c.args.classes.now c.args.t.now)) (c.extend.ensures.to ∙ sym (read_long c.args.under c.args.classes.now c.args.s.now)) c.extend-2.ensures.run c.extend.ensures.run (λ q. c.if-a-b.true (sym q)) c.decide.ensures.less

pub returns-then-a-b-clause-equal : goal.returns-then-a-b-clause-equal
returns-then-a-b-clause-equal c = (λ e. absurd (c.decide.ensures.differ e), λ e. absurd (trees_differ (read_by c.args.under c.args.classes.now c.args.s.now) (read_by c.args.under c.args.classes.now c.args.t.now) c.first_difference-at.result (Var 0) (read_whole c.args.under c.args.classes.now c.args.s.now c.requires.s_whole) (read_whole c.args.under c.args.classes.now c.args.t.now c.requires.t_whole) (c.first_difference-at.ensures.differ (omega arith) (omega arith) (Var 0)) e))

pub returns-then-s-t-clause-equal : goal.returns-then-s-t-clause-equal
returns-then-s-t-clause-equal c = (λ e. absurd (c.climb.ensures.not_equal e), λ e. absurd (trees_differ (read_by c.args.under c.args.classes.now c.args.s.now) (read_by c.args.under c.args.classes.now c.args.t.now) c.first_difference-at.result (Var 0) (read_whole c.args.under c.args.classes.now c.args.s.now c.requires.s_whole) (read_whole c.args.under c.args.classes.now c.args.t.now c.requires.t_whole) (c.first_difference-at.ensures.differ (omega arith) (omega arith) (Var 0)) e))

pub returns-else-a-b-clause-equal : goal.returns-else-a-b-clause-equal
returns-else-a-b-clause-equal c = (λ e. absurd (c.climb-else-a-b.ensures.not_equal e), λ e. absurd (trees_differ (read_by c.args.under c.args.classes.now c.args.s.now) (read_by c.args.under c.args.classes.now c.args.t.now) c.first_difference-at.result (Var 0) (read_whole c.args.under c.args.classes.now c.args.s.now c.requires.s_whole) (read_whole c.args.under c.args.classes.now c.args.t.now c.requires.t_whole) (c.first_difference-at.ensures.differ (omega arith) (omega arith) (Var 0)) e))
