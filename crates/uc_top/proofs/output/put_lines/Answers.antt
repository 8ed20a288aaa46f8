use Rattle.std.proofs.Common.{◌≡◌, ◌+◌, [], ◌∷◌, ◌++◌, take, drop, length, refl, ap, ◌∙◌, arith}
use Rattle.std.proofs.Math.Seq.{take-add}
use Rattle.std.proofs.KnownBytes.{Appends-trans, Appends-nil}
use Rattle.std.proofs.lemmas.Result.{err_from_is_err_and}
use Rattle.std.proofs.lemmas.List.{take-take}
use Rattle.uc_edge.specs.Faults.{next}
use Rattle.uc_top.specs.Given.{IsFirstLine, none_before, one_further, took_none, took_line, gives_all, fails_in_line}
use Rattle.uc_top.proofs.output.put_lines.Goals as goal

pub loop-from-init : goal.loop-from-init
loop-from-init g c = record {
  within = omega arith;
  so_far = Appends-nil _;
  counted = refl;
  lines = ([], none_before, took_none);
}

pub loop-from-preserved : goal.loop-from-preserved
loop-from-preserved g c =
    let had = c.loop-from.invariant.lines in
    let line = c.split_at-in-loop-from.ensures in
    let rest = c.split_at.ensures.back in
    let first : IsFirstLine (drop c.loop-from.from c.args.text.now) c.split_at-in-loop-from.result.0.now = rw (line.front, rest) (rw rest at c.line_len.ensures.line) in
    record {
      within = omega (arith, line.front_len, c.line_len.ensures.within, c.split_at.ensures.back_len);
      so_far = rw (line.front_len, take-add c.loop-from.from c.line_len.result c.args.text.now) (Appends-trans _ _ _ _ _ c.loop-from.invariant.so_far (rw (line.front, rest) at c.in_ok-put.ensures.put));
      counted = c.in_ok-put.ensures.counted ∙ c.loop-from.invariant.counted;
      lines = (had.0 ++ c.split_at-in-loop-from.result.0.now ∷ [], one_further had.1 first, took_line had.2 c.in_ok-put.ensures.given);
    }

pub returns-in_err-put-clause-put : goal.returns-in_err-put-clause-put
returns-in_err-put-clause-put g c =
    let p = err_from_is_err_and c.from_residual.result c.from_residual.ensures.1 in
    let part = c.in_err-put.ensures.put in
    let line = c.split_at-in-loop-from.ensures in
    let rest = c.split_at.ensures.back in
    let taken : take part.0 c.split_at-in-loop-from.result.0.now ≡ take part.0 (drop c.loop-from.from c.args.text.now) = ap (take part.0) line.front ∙ take-take part.0 c.line_len.result c.split_at.result.1.now (omega (arith, part.1, line.front_len)) ∙ ap (take part.0) rest in
    rw p.1 (
      c.loop-from.from + part.0,
      omega (arith, part.1, line.front_len, c.line_len.ensures.within, c.split_at.ensures.back_len),
      rw (take-add c.loop-from.from part.0 c.args.text.now) (Appends-trans _ _ _ _ _ c.loop-from.invariant.so_far (rw taken at part.2)),
      rw c.loop-from.invariant.counted at part.3,
    )

pub returns-in_err-put-clause-given : goal.returns-in_err-put-clause-given
returns-in_err-put-clause-given g c =
    let p = err_from_is_err_and c.from_residual.result c.from_residual.ensures.1 in
    let had = c.loop-from.invariant.lines in
    let line = c.split_at-in-loop-from.ensures in
    let rest = c.split_at.ensures.back in
    let first : IsFirstLine (drop c.loop-from.from c.args.text.now) c.split_at-in-loop-from.result.0.now = rw (line.front, rest) (rw rest at c.line_len.ensures.line) in
    rw p.1 (fails_in_line had.1 had.2 first c.in_err-put.ensures.given)

pub returns-in_err-put-clause-counted : goal.returns-in_err-put-clause-counted
returns-in_err-put-clause-counted g c =
    let p = err_from_is_err_and c.from_residual.result c.from_residual.ensures.1 in
    rw p.1 (c.in_err-put.ensures.counted ∙ ap next c.loop-from.invariant.counted)

pub returns-clause-given : goal.returns-clause-given
returns-clause-given g c =
    let had = c.loop-from.invariant.lines in
    let whole : c.loop-from.from ≡ length c.args.text.now = omega (arith, c.loop-from.invariant.within, c.loop-from-test.false) in
    gives_all (rw whole at had.1) had.2
