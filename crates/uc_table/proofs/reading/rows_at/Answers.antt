use Rattle.std.proofs.Common.{◌≡◌, ◌+◌, length, get_or, drop, List, ℕ, [], ◌∷◌, ◌++◌, sym, ap, ◌∙◌, arith}
use Rattle.std.proofs.lemmas.Result.{err_from_is_err_and}
use Rattle.uc_term.specs.declared.node.Sym.{Sym}
use Rattle.uc_table.specs.Reading.{cells_in, row_at, rows_after}
use Rattle.uc_table.proofs.Rows.{cells_push, row_read, row_refused, refused_likewise}
use Rattle.uc_table.proofs.reading.rows_at.Goals as goal

pub returns-in_err-row : goal.returns-in_err-row
returns-in_err-row c =
    let p = err_from_is_err_and c.from_residual.result c.from_residual.ensures.1 in
    let d : Sym = record { 0 = 0 } in
    rw (p.1, p.2) (refused_likewise (row_at c.args.symbols.now c.args.size c.loop-f.cells (get_or c.args.signature.now c.loop-f.f-index (record { 0 = 0 }))) (rows_after c.args.symbols.now c.args.size [] c.args.signature.now) c.args.bytes.now c.loop-f.here c.args.at c.in_err-row.field-0.0
    (λ e. sym c.loop-f.invariant.3 ∙ row_refused c.args.symbols.now c.args.size c.args.signature.now c.loop-f.rows c.loop-f.f-index c.loop-f.cells (record { 0 = 0 }) c.loop-f-test.true c.loop-f.invariant.0 c.loop-f.here.number (drop c.loop-f.here.from c.args.bytes.now) c.in_err-row.field-0.0 e)
    c.in_err-row.ensures.gives)

pub loop-f-preserved : goal.loop-f-preserved
loop-f-preserved c =
    let rows : List (List ℕ) = c.push.new.self in
    let pushed : c.push.new.self ≡ c.loop-f.rows ++ c.in_ok-row.row ∷ [] = c.in_ok-push.ensures.ok in
    let read : rows_after c.args.symbols.now c.args.size c.loop-f.rows (drop c.loop-f.f-index c.args.signature.now) c.loop-f.here.number (drop c.loop-f.here.from c.args.bytes.now) ≡ rows_after c.args.symbols.now c.args.size (c.loop-f.rows ++ c.in_ok-row.row ∷ []) (drop (c.loop-f.f-index + 1) c.args.signature.now) c.in_ok-row.next.number (drop c.in_ok-row.next.from c.args.bytes.now) =
    row_read c.args.symbols.now c.args.size c.args.signature.now c.loop-f.rows c.loop-f.f-index c.loop-f.cells (record { 0 = 0 }) c.loop-f-test.true c.loop-f.invariant.0 c.loop-f.here.number (drop c.loop-f.here.from c.args.bytes.now) c.in_ok-row.row c.in_ok-row.next.number (drop c.in_ok-row.next.from c.args.bytes.now) c.in_ok-row.ensures.gives.0 in
    let count : cells_in c.push.new.self ≡ cells_in c.loop-f.rows + length c.in_ok-row.row = ap cells_in pushed ∙ cells_push c.loop-f.rows c.in_ok-row.row in (
      omega (arith, c.loop-f.invariant.0, c.len-cells.ensures),
      omega (arith, c.len-cells.ensures, c.in_ok-row.ensures.few),
      c.in_ok-row.ensures.gives.1,
      ap (λ (rs : List (List ℕ)). rows_after c.args.symbols.now c.args.size rs (drop (c.loop-f.f-index + 1) c.args.signature.now) c.in_ok-row.next.number (drop c.in_ok-row.next.from c.args.bytes.now)) pushed ∙ sym read ∙ c.loop-f.invariant.3,
    )
