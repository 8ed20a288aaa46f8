use Rattle.std.proofs.Common.{◌≡◌, ℕ, length, arith, refl, ◌∙◌, sym, get_or, List, subst, Bool, ap, ◌+◌}
use Rattle.uc_term.specs.declared.node.Node.{Node}
use Rattle.uc_term.specs.declared.node.Node.TheVariants.{Var}
use Rattle.uc_order.specs.VarOrders.{Classes}
use Rattle.uc_order.proofs.Renaming.{length-renamed}
use Rattle.uc_kbo.specs.Runs.{part, table_weighing, slot_by, read_by, image_by}
use Rattle.uc_kbo.proofs.Parts.{Taken, taken_all, room_weight, room_counts, taken_more}
use Rattle.uc_order.proofs.Reading.{get_or-renamed}
use Rattle.uc_kbo.proofs.Reading.{part-renamed}
use Rattle.uc_kbo.proofs.run.Run.extend.Goals as goal

pub loop-n-init : goal.loop-n-init
loop-n-init c = let r = c.requires.run in record { from = refl; to = refl; weight = omega arith; small = omega (arith, r.small); size = r.size; counts = λ x h. omega arith; large = λ e. (e, λ x h. refl) }

part_length : (under : Bool) (cs : Classes) (ns : List Node) (i j : ℕ) → length (part (read_by under cs ns) i j) ≡ length (part ns i j)
part_length under cs ns i j = ap length (part-renamed (image_by under cs) ns i j) ∙ length-renamed (image_by under cs) (part ns i j)

pub count-requires-clause-weight : goal.count-requires-clause-weight
count-requires-clause-weight c = room_weight (table_weighing c.args.w.now.w0 c.args.w.now.table.items) (slot_by c.args.under c.args.classes.now) (read_by c.args.under c.args.classes.now c.args.list.now) c.args.self.now c.args.to c.requires.run c.requires.ahead (omega (arith, length-renamed (image_by c.args.under c.args.classes.now) c.args.list.now)) (omega (arith, length-renamed (image_by c.args.under c.args.classes.now) c.args.list.now)) c.loop-n.n-index c.loop-n.self (let P : List Node → Type 0 = λ ns. Taken (table_weighing c.args.w.now.w0 c.args.w.now.table.items) (slot_by c.args.under c.args.classes.now) c.args.self.now ns c.loop-n.n-index c.loop-n.self in subst P (sym (part-renamed (image_by c.args.under c.args.classes.now) c.args.list.now c.args.self.now.to c.args.to)) c.loop-n.invariant) (omega (arith, c.loop-n-test.true, part_length c.args.under c.args.classes.now c.args.list.now c.args.self.now.to c.args.to))

pub count-requires-clause-size : goal.count-requires-clause-size
count-requires-clause-size c = c.loop-n.invariant.size

pub count-requires-clause-counts : goal.count-requires-clause-counts
count-requires-clause-counts c x h = room_counts (table_weighing c.args.w.now.w0 c.args.w.now.table.items) (slot_by c.args.under c.args.classes.now) (read_by c.args.under c.args.classes.now c.args.list.now) c.args.self.now c.args.to c.requires.run c.requires.ahead (omega (arith, length-renamed (image_by c.args.under c.args.classes.now) c.args.list.now)) (omega (arith, length-renamed (image_by c.args.under c.args.classes.now) c.args.list.now)) c.loop-n.n-index c.loop-n.self (let P : List Node → Type 0 = λ ns. Taken (table_weighing c.args.w.now.w0 c.args.w.now.table.items) (slot_by c.args.under c.args.classes.now) c.args.self.now ns c.loop-n.n-index c.loop-n.self in subst P (sym (part-renamed (image_by c.args.under c.args.classes.now) c.args.list.now c.args.self.now.to c.args.to)) c.loop-n.invariant) (omega (arith, c.loop-n-test.true, part_length c.args.under c.args.classes.now c.args.list.now c.args.self.now.to c.args.to)) x h

pub loop-n-preserved : goal.loop-n-preserved
loop-n-preserved c =
    let e = c.count.ensures in
    let r = image_by c.args.under c.args.classes.now in
    let P : List Node → Type 0 = λ ns. Taken (table_weighing c.args.w.now.w0 c.args.w.now.table.items) (slot_by c.args.under c.args.classes.now) c.args.self.now ns (c.loop-n.n-index + 1) c.count.new.self in
    let here : c.read.result ≡ get_or (part (read_by c.args.under c.args.classes.now c.args.list.now) c.args.self.now.to c.args.to) c.loop-n.n-index (Var 0) = c.read.ensures ∙ sym (get_or-renamed r (part c.args.list.now c.args.self.now.to c.args.to) c.loop-n.n-index _ (Var 0) c.loop-n-test.true) ∙ ap (λ l. get_or l c.loop-n.n-index (Var 0)) (sym (part-renamed r c.args.list.now c.args.self.now.to c.args.to)) in
    subst P (part-renamed r c.args.list.now c.args.self.now.to c.args.to) (taken_more (table_weighing c.args.w.now.w0 c.args.w.now.table.items) (slot_by c.args.under c.args.classes.now) (read_by c.args.under c.args.classes.now c.args.list.now) c.args.self.now c.args.to c.requires.run c.requires.ahead (omega (arith, length-renamed (image_by c.args.under c.args.classes.now) c.args.list.now)) (omega (arith, length-renamed (image_by c.args.under c.args.classes.now) c.args.list.now)) c.loop-n.n-index c.loop-n.self (let P : List Node → Type 0 = λ ns. Taken (table_weighing c.args.w.now.w0 c.args.w.now.table.items) (slot_by c.args.under c.args.classes.now) c.args.self.now ns c.loop-n.n-index c.loop-n.self in subst P (sym (part-renamed (image_by c.args.under c.args.classes.now) c.args.list.now c.args.self.now.to c.args.to)) c.loop-n.invariant) (omega (arith, c.loop-n-test.true, part_length c.args.under c.args.classes.now c.args.list.now c.args.self.now.to c.args.to)) c.count.new.self (Var 0) c.read.result here e.from e.to e.weight e.small e.size e.counts e.large)

pub returns-clause-run : goal.returns-clause-run
returns-clause-run c =
    taken_all (table_weighing c.args.w.now.w0 c.args.w.now.table.items) (slot_by c.args.under c.args.classes.now) (read_by c.args.under c.args.classes.now c.args.list.now) c.args.self.now c.loop-n.self c.args.to c.loop-n.n-index c.requires.run c.requires.ahead (omega (arith, length-renamed (image_by c.args.under c.args.classes.now) c.args.list.now)) (let P : List Node → Type 0 = λ ns. Taken (table_weighing c.args.w.now.w0 c.args.w.now.table.items) (slot_by c.args.under c.args.classes.now) c.args.self.now ns c.loop-n.n-index c.loop-n.self in subst P (sym (part-renamed (image_by c.args.under c.args.classes.now) c.args.list.now c.args.self.now.to c.args.to)) c.loop-n.invariant) (omega (arith, c.loop-n-test.false, part_length c.args.under c.args.classes.now c.args.list.now c.args.self.now.to c.args.to)) (omega (arith, c.loop-n.auto.n-index-end, part_length c.args.under c.args.classes.now c.args.list.now c.args.self.now.to c.args.to))
