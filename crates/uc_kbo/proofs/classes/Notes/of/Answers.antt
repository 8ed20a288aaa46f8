use Rattle.std.proofs.Common.{◌≡◌, ◌-◌, ◌<◌, drop, slice_index, if◌then◌else◌, subst, arith, List, ℕ}
use Rattle.uc_term.specs.Variables.{is_among}
use Rattle.uc_order.specs.VarOrders.{Classes, first_or}
use Rattle.uc_kbo.specs.Noted.{AreNoted}
use Rattle.uc_kbo.proofs.Noting.{class_more, classes_from}
use Rattle.uc_kbo.proofs.classes.Notes.of.Goals as goal

pub loop-number-preserved : goal.loop-number-preserved
loop-number-preserved c =
    let list = c.args.list.now in
    let number = c.loop-number.number in
    let class = c.index-list-number.result in
    let old = c.loop-number.notes in
    let new = c.add.new.self in
    let P : List ℕ → Type 0 = λ k. ((x : ℕ) → x < 16 → slice_index new.firsts x ≡ (if is_among x k then first_or x k else slice_index old.firsts x)) × ((x : ℕ) → x < 16 → slice_index new.numbers x ≡ (if is_among x k then number - 1 else slice_index old.numbers x)) in
    let p : P class = subst P c.as_slice.ensures (c.add.ensures.first, c.add.ensures.number) in
    (omega arith, subst (λ (l : Classes). AreNoted l (number - 1) new.firsts new.numbers) (classes_from list number class c.loop-number-test.true c.loop-number.invariant.0 c.index-list-number.is) (class_more class (drop number list) (number - 1) number old.firsts old.numbers new.firsts new.numbers (omega (arith, c.loop-number-test.true)) c.loop-number.invariant.1 c.add.ensures.firsts_long c.add.ensures.numbers_long p.0 p.1))
