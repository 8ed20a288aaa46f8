use Rattle.std.proofs.Common.{◌∙◌, sym}
use Rattle.uc_term.proofs.Grown.{with_constant, with_fresh}
use Rattle.uc_term.proofs.signature.Signature.of.Goals as goal

pub returns-in-Some-clause-ok : goal.returns-in-Some-clause-ok
returns-in-Some-clause-ok c = with_constant c.args.symbols.now c.args.terms.now c.in_ok-seen.seen.items c.from_vec.result c.in-Some.least c.in_ok-seen.ensures.ok (rw c.as_slice.ensures.value at c.in-Some.ensures) c.from_vec.ensures

pub returns-clause-ok : goal.returns-clause-ok
returns-clause-ok c =
    with_fresh c.args.symbols.now c.add_fresh.new.symbols c.args.terms.now c.in_ok-seen.seen.items c.from_vec-2.result c.in_ok-least.least c.requires.of c.in_ok-least.ensures.grows c.in_ok-seen.ensures.ok (sym (rw c.as_slice.ensures.value at c.in_default.ensures)) (rw (c.as_slice-2.ensures.value, c.reserve.ensures.items) at c.in_ok-least.ensures.fresh) (c.from_vec-2.ensures ∙ rw c.reserve.ensures.items at c.in_ok-push.ensures.items)
