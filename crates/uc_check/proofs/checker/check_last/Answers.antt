use Rattle.std.proofs.Common.{◌≡◌, ◌-◌, length, refl, slice_get, Some, sym, subst, ◌∙◌, arith}
use Rattle.std.proofs.lemmas.Bool.{eqb-true, eqb-false}
use Rattle.std.proofs.lemmas.Option.{slice_get_read}
use Rattle.uc_check.specs.declared.proof.Line.{Line}
use Rattle.uc_check.specs.Replacements.{IsRefutation}
use Rattle.uc_check.specs.Checks.{accepted, no_line, no_refutation}
use Rattle.uc_unify.proofs.Decided.{not_of, of}
use Rattle.uc_check.proofs.Last.{no_lines, ends, not_ends}
use Rattle.uc_check.proofs.checker.check_last.Goals as goal

pub returns-then-is_empty : goal.returns-then-is_empty
returns-then-is_empty c clauses fresh right = no_line (no_lines c.args.lines.now (eqb-true (length c.args.lines.now) 0 (sym c.is_empty.ensures ∙ c.if-is_empty.true)))

pub returns-then-is_refutation : goal.returns-then-is_refutation
returns-then-is_refutation c clauses fresh right =
    let some = eqb-false (length c.args.lines.now) 0 (sym c.is_empty.ensures ∙ c.if-is_empty.false) in
    let at : slice_get c.args.lines.now (length c.args.lines.now - 1) ≡ Some c.index-lines-last.result = slice_get_read c.args.lines.now (length c.args.lines.now) (length c.args.lines.now - 1) c.index-lines-last.result refl (grind arith) c.index-lines-last.is in
    accepted right (ends c.args.lines.now c.index-lines-last.result at (subst (λ (l : Line). IsRefutation l.source) (sym c.index-lines-last.is) (of c.is_refutation.result c.if-is_refutation.true c.is_refutation.ensures)))

pub returns-else-is_refutation : goal.returns-else-is_refutation
returns-else-is_refutation c clauses fresh right =
    let some = eqb-false (length c.args.lines.now) 0 (sym c.is_empty.ensures ∙ c.if-is_empty.false) in
    let at : slice_get c.args.lines.now (length c.args.lines.now - 1) ≡ Some c.index-lines-last.result = slice_get_read c.args.lines.now (length c.args.lines.now) (length c.args.lines.now - 1) c.index-lines-last.result refl (grind arith) c.index-lines-last.is in
    no_refutation right (omega arith) (not_ends c.args.lines.now c.index-lines-last.result at (λ r. not_of c.is_refutation.result c.if-is_refutation.false c.is_refutation.ensures (subst (λ (l : Line). IsRefutation l.source) c.index-lines-last.is r)))
