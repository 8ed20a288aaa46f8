use Rattle.std.proofs.Common.{◌≡◌, ◌∙◌, ap, ℕ, ◌+◌, ◌-◌, ◌<◌, ◌^◌, ◌++◌, ◌∷◌, [], List, take, drop, rules, arith}
use Rattle.uc_table.specs.Tables.{MOST_ASSIGNMENTS}
use Rattle.uc_table.proofs.SearchLayouts.{next_cells}
use Rattle.uc_table.proofs.SearchRows.{one_row, row_bound}
use Rattle.uc_table.proofs.searching.rows_of.Goals as goal

pub returns-in_default-clause-rows : goal.returns-in_default-clause-rows
returns-in_default-clause-rows c =
    let n = next_cells c.args.symbols.now c.args.size c.args.signature.now c.loop-f.f-index c.arity.result (record { 0 = 0 }) c.loop-f-test.true c.arity.ensures in
    let e : MOST_ASSIGNMENTS < c.args.size ^ c.arity.result = c.in_default.ensures in
    absurd (omega (arith, n.1))

pub returns-in_default-clause-cells : goal.returns-in_default-clause-cells
returns-in_default-clause-cells c =
    let n = next_cells c.args.symbols.now c.args.size c.args.signature.now c.loop-f.f-index c.arity.result (record { 0 = 0 }) c.loop-f-test.true c.arity.ensures in
    let e : MOST_ASSIGNMENTS < c.args.size ^ c.arity.result = c.in_default.ensures in
    absurd (omega (arith, n.1))

pub overflow_add-to : goal.overflow_add-to
overflow_add-to c =
    let b = row_bound c.args.symbols.now c.args.size c.args.signature.now c.args.values.now c.loop-f.f-index c.arity.result c.in-Some.count c.loop-f.from (record { 0 = 0 }) c.loop-f-test.true c.arity.ensures c.in-Some.ensures.0 c.loop-f.invariant.from c.requires.long in
    omega arith

pub offset_bounds-values-from : goal.offset_bounds-values-from
offset_bounds-values-from c =
    let b = row_bound c.args.symbols.now c.args.size c.args.signature.now c.args.values.now c.loop-f.f-index c.arity.result c.in-Some.count c.loop-f.from (record { 0 = 0 }) c.loop-f-test.true c.arity.ensures c.in-Some.ensures.0 c.loop-f.invariant.from c.requires.long in
    omega arith

pub slice_bounds-extend_from_slice-end : goal.slice_bounds-extend_from_slice-end
slice_bounds-extend_from_slice-end c =
    let b = row_bound c.args.symbols.now c.args.size c.args.signature.now c.args.values.now c.loop-f.f-index c.arity.result c.in-Some.count c.loop-f.from (record { 0 = 0 }) c.loop-f-test.true c.arity.ensures c.in-Some.ensures.0 c.loop-f.invariant.from c.requires.long in
    search rules

pub loop-f-preserved : goal.loop-f-preserved
loop-f-preserved c =
    let count = c.in-Some.count in
    let m : c.loop-f.from + c.in-Some.count - c.loop-f.from ≡ c.in-Some.count = omega arith in
    let row : List ℕ = c.extend_from_slice.new.self.items in
    let w : row ≡ take count (drop c.loop-f.from c.args.values.now) = c.in_ok-extend_from_slice.ensures.items ∙ ap (λ z. z ++ take (c.loop-f.from + count - c.loop-f.from) (drop c.loop-f.from c.args.values.now)) c.new-row.ensures.items ∙ ap (λ k. take k (drop c.loop-f.from c.args.values.now)) m in
    let x : c.push.new.self.items ≡ c.loop-f.rows.items ++ row ∷ [] = c.in_ok-push.ensures.items ∙ ap (λ z. c.loop-f.rows.items ++ z ∷ []) c.from_vec.ensures in
    let o = one_row c.args.symbols.now c.args.size c.args.signature.now c.args.values.now c.loop-f.f-index c.arity.result count c.loop-f.from (record { 0 = 0 }) c.loop-f.rows.items c.push.new.self.items row c.loop-f-test.true c.arity.ensures c.in-Some.ensures.0 c.loop-f.invariant.from c.loop-f.invariant.rows c.loop-f.invariant.cells c.requires.long c.requires.values w x in
    record { from = o.from_is; rows = o.rows_are; cells = o.cells_are }
