use Rattle.std.proofs.Common.{◌≡◌, ◌+◌, ◌<◌, ◌^◌, ◌++◌, ◌∷◌, [], take, rules, arith}
use Rattle.uc_table.specs.Tables.{cells_for, MOST_ASSIGNMENTS}
use Rattle.uc_table.proofs.SearchLayouts.{next_cells, firsts_more}
use Rattle.uc_table.proofs.search_layout.firsts_of.Goals as goal

pub returns-in_default : goal.returns-in_default
returns-in_default c =
    let n = next_cells c.args.symbols.now c.args.size c.args.signature.now c.loop-f.f-index c.arity.result (record { 0 = 0 }) c.loop-f-test.true c.arity.ensures in
    let e : MOST_ASSIGNMENTS < c.args.size ^ c.arity.result = c.in_default.ensures in
    omega (arith, n.1)

pub returns-then-cells-gt-MAX_CELLS : goal.returns-then-cells-gt-MAX_CELLS
returns-then-cells-gt-MAX_CELLS c =
    let n = next_cells c.args.symbols.now c.args.size c.args.signature.now c.loop-f.f-index c.arity.result (record { 0 = 0 }) c.loop-f-test.true c.arity.ensures in
    let e : c.in-Some.count ≡ c.args.size ^ c.arity.result = c.in-Some.ensures.0 in
    let i : c.loop-f.cells ≡ cells_for c.args.symbols.now c.args.size (take c.loop-f.f-index c.args.signature.now) = c.loop-f.invariant.cells in
    omega (arith, n.1)

pub loop-f-preserved : goal.loop-f-preserved
loop-f-preserved c =
    let n = next_cells c.args.symbols.now c.args.size c.args.signature.now c.loop-f.f-index c.arity.result (record { 0 = 0 }) c.loop-f-test.true c.arity.ensures in
    let e : c.in-Some.count ≡ c.args.size ^ c.arity.result = c.in-Some.ensures.0 in
    let i : c.loop-f.cells ≡ cells_for c.args.symbols.now c.args.size (take c.loop-f.f-index c.args.signature.now) = c.loop-f.invariant.cells in
    let k : c.loop-f.cells + c.in-Some.count ≡ cells_for c.args.symbols.now c.args.size (take (c.loop-f.f-index + 1) c.args.signature.now) = omega (arith, n.0) in
    let p : c.push-in-loop-f.new.self.items ≡ c.loop-f.firsts.items ++ (c.loop-f.cells + c.in-Some.count) ∷ [] = search rules in
    record {
      cells = k;
      few = omega arith;
      as_many = search rules;
      each = firsts_more c.args.symbols.now c.args.size c.args.signature.now c.loop-f.f-index (c.loop-f.cells + c.in-Some.count) c.loop-f.firsts.items c.push-in-loop-f.new.self.items p c.loop-f.invariant.as_many k c.loop-f.invariant.each;
    }
