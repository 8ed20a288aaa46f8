use Rattle.std.proofs.Common.{◌≡◌, ◌↔◌, ℕ, sym, subst, Bool, true, false, IsTrue, List, ◌<◌, ◌≤◌, sum, drop, slice_index}
use Rattle.uc_term.specs.declared.node.Node.{Node}
use Rattle.uc_order.specs.VarOrders.{Classes}
use Rattle.uc_kbo.specs.declared.run.Run.{Run}
use Rattle.uc_kbo.specs.Kbo.{Weighing}
use Rattle.uc_kbo.specs.Runs.{IsRun, HasAll, part, test_by, slot_by, read_by, image_by, table_weighing}
use Rattle.uc_kbo.proofs.Covering.{each_covers, covers_each, from_covers, covers_from, run_rest}
use Rattle.uc_kbo.proofs.Reading.{part-renamed}
use Rattle.uc_kbo.proofs.covers.has_all.Goals as goal

by_parts : (under : Bool) (cs : Classes) (s t : List Node) (i j k l : ℕ) (b : Bool) → IsTrue b ↔ HasAll (test_by under cs) (read_by under cs (part s i j)) (read_by under cs (part t k l)) → IsTrue b ↔ HasAll (test_by under cs) (part (read_by under cs s) i j) (part (read_by under cs t) k l)
by_parts under cs s t i j k l b h =
    let Q : List Node → Type 0 = λ ns. IsTrue b ↔ HasAll (test_by under cs) ns (read_by under cs (part t k l)) in
    let R : List Node → Type 0 = λ ms. IsTrue b ↔ HasAll (test_by under cs) (part (read_by under cs s) i j) ms in
    subst R (sym (part-renamed (image_by under cs) t k l)) (subst Q (sym (part-renamed (image_by under cs) s i j)) h)

by_sums : (w : Weighing) (under : Bool) (cs : Classes) (s t : List Node) (a b : Run) (r : Bool) → under ≡ true → IsRun w (slot_by under cs) (read_by under cs s) a → IsRun w (slot_by under cs) (read_by under cs t) b → a.has_large ≡ false → b.has_large ≡ false → IsTrue r ↔ ((i : ℕ) → i ≤ 32 → sum (drop i b.counts) ≤ sum (drop i a.counts)) → IsTrue r ↔ HasAll (test_by under cs) (part (read_by under cs s) a.from a.to) (part (read_by under cs t) b.from b.to)
by_sums w under cs s t a b r u =
    let P : Bool → Type 0 = λ v. IsRun w (slot_by v cs) (read_by v cs s) a → IsRun w (slot_by v cs) (read_by v cs t) b → a.has_large ≡ false → b.has_large ≡ false → IsTrue r ↔ ((i : ℕ) → i ≤ 32 → sum (drop i b.counts) ≤ sum (drop i a.counts)) → IsTrue r ↔ HasAll (test_by v cs) (part (read_by v cs s) a.from a.to) (part (read_by v cs t) b.from b.to) in
    subst P (sym u) (λ p q la lb h. (λ e. from_covers w cs (read_by true cs s) (read_by true cs t) a b p q la lb (h.0 e), λ k. h.1 (covers_from w cs (read_by true cs s) (read_by true cs t) a b p q la lb k)))

by_each : (w : Weighing) (under : Bool) (cs : Classes) (s t : List Node) (a b : Run) (r : Bool) → under ≡ false → IsRun w (slot_by under cs) (read_by under cs s) a → IsRun w (slot_by under cs) (read_by under cs t) b → b.has_large ≡ false → IsTrue r ↔ ((i : ℕ) → i < 32 → slice_index b.counts i ≤ slice_index a.counts i) → IsTrue r ↔ HasAll (test_by under cs) (part (read_by under cs s) a.from a.to) (part (read_by under cs t) b.from b.to)
by_each w under cs s t a b r u =
    let P : Bool → Type 0 = λ v. IsRun w (slot_by v cs) (read_by v cs s) a → IsRun w (slot_by v cs) (read_by v cs t) b → b.has_large ≡ false → IsTrue r ↔ ((i : ℕ) → i < 32 → slice_index b.counts i ≤ slice_index a.counts i) → IsTrue r ↔ HasAll (test_by v cs) (part (read_by v cs s) a.from a.to) (part (read_by v cs t) b.from b.to) in
    subst P (sym u) (λ p q lb h. (λ e. each_covers w cs (read_by false cs s) (read_by false cs t) a b p q lb (h.0 e), λ k. h.1 (covers_each w cs (read_by false cs s) (read_by false cs t) a b p q k)))

pub has_from-requires-clause-a_rest : goal.has_from-requires-clause-a_rest
has_from-requires-clause-a_rest c i h l = run_rest (table_weighing c.args.w.now.w0 c.args.w.now.table.items) c.args.under c.args.classes.now c.args.s.now c.args.a.now c.if-under.true c.requires.a i l (c.counters.ensures.beyond i h l)

pub has_from-requires-clause-b_rest : goal.has_from-requires-clause-b_rest
has_from-requires-clause-b_rest c i h l = run_rest (table_weighing c.args.w.now.w0 c.args.w.now.table.items) c.args.under c.args.classes.now c.args.t.now c.args.b.now c.if-under.true c.requires.b i l (c.counters.ensures.beyond i h l)

pub returns-then-a : goal.returns-then-a
returns-then-a c = by_parts c.args.under c.args.classes.now c.args.s.now c.args.t.now c.args.a.now.from c.args.a.now.to c.args.b.now.from c.args.b.now.to c.has_all_nodes.result c.has_all_nodes.ensures

pub returns-then-under : goal.returns-then-under
returns-then-under c = by_sums (table_weighing c.args.w.now.w0 c.args.w.now.table.items) c.args.under c.args.classes.now c.args.s.now c.args.t.now c.args.a.now c.args.b.now c.has_from.result c.if-under.true c.requires.a c.requires.b c.if-a.false c.if-b.false c.has_from.ensures

pub returns-else-under : goal.returns-else-under
returns-else-under c = by_each (table_weighing c.args.w.now.w0 c.args.w.now.table.items) c.args.under c.args.classes.now c.args.s.now c.args.t.now c.args.a.now c.args.b.now c.has_each.result c.if-under.false c.requires.a c.requires.b c.if-b.false c.has_each.ensures
