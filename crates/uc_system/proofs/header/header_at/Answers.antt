use Rattle.std.proofs.Common.{sym}
use Rattle.std.proofs.lemmas.Result.{err_from_is_err_and}
use Rattle.uc_system.proofs.Headers.{no_version, no_kind, light_path, right_header}
use Rattle.uc_system.proofs.header.header_at.Goals as goal

pub returns-in_err-light : goal.returns-in_err-light
returns-in_err-light c =
    let p = err_from_is_err_and c.from_residual.result c.from_residual.ensures.1 in
    rw (p.1, p.2) (no_version c.args.bytes.now c.args.at c.in_err-light.field-0.0 c.in_err-light.ensures)

pub returns-in_err-kind : goal.returns-in_err-kind
returns-in_err-kind c =
    let p = err_from_is_err_and c.from_residual-in_err-kind.result c.from_residual-in_err-kind.ensures.1 in
    rw (p.1, p.2) (no_kind c.args.bytes.now c.args.at c.in_ok-light.light c.in_ok-light.at c.in_ok-light.ensures c.in_err-kind.field-0.0 c.in_err-kind.ensures)

pub returns-then-is_light_path : goal.returns-then-is_light_path
returns-then-is_light_path c = rw c.departs.ensures (light_path c.args.bytes.now c.args.at c.in_ok-light.light c.in_ok-light.at c.in_ok-light.ensures c.in_ok-kind.kind c.in_ok-kind.at c.in_ok-kind.ensures (sym c.if-is_light_path.ensures))

pub returns : goal.returns
returns c = right_header c.args.bytes.now c.args.at c.in_ok-light.light c.in_ok-light.at c.in_ok-light.ensures c.in_ok-kind.kind c.in_ok-kind.at c.in_ok-kind.ensures (sym c.if-is_light_path.ensures)
