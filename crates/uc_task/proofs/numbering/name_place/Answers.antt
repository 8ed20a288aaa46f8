use Rattle.std.proofs.Common.{◌≡◌, get_or, arith}
use Rattle.std.proofs.lemmas.Grind.{common_steps}
use Rattle.uc_pair.proofs.Names.{is_name_known, is_name_behind, not_among_more}
use Rattle.uc_task.proofs.numbering.name_place.Goals as goal

pub returns-then-index-x : goal.returns-then-index-x
returns-then-index-x c =
    let e : get_or c.args.names.now.items c.loop-place.place 0 ≡ c.args.x = grind (arith, common_steps, c.index.ensures, c.if-index-x.true) in
    is_name_known c.args.names.now.items c.loop-place.place c.args.x 0 (omega (arith, c.loop-place-test.true, c.len-place-end.ensures)) e c.loop-place.invariant

pub loop-place-preserved : goal.loop-place-preserved
loop-place-preserved c =
    not_among_more c.args.names.now.items c.loop-place.place c.args.x 0 (omega (arith, c.loop-place-test.true, c.len-place-end.ensures)) (λ e. c.if-index-x.false (grind (arith, common_steps, c.index.ensures, e))) c.loop-place.invariant

pub returns : goal.returns
returns c = is_name_behind c.args.names.now.items c.push.new.self.items c.args.x c.loop-place.place c.len-place.result (omega (arith, c.loop-place-test.false, c.len-place-end.ensures)) c.loop-place.invariant c.in_ok-push.ensures.items (omega (arith, c.len-place.ensures))
