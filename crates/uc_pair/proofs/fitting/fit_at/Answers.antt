use Rattle.std.proofs.Common.{inl, refl, arith}
use Rattle.uc_term.proofs.Terms.{whole_one}
use Rattle.uc_pair.proofs.Parts.{part_whole, no_symbol_at, no_fit, fit_here}
use Rattle.uc_pair.proofs.Clashing.{clash_at}
use Rattle.uc_pair.proofs.fitting.fit_at.Goals as goal

pub end_of-end-requires-clause-whole : goal.end_of-end-requires-clause-whole
end_of-end-requires-clause-whole c = whole_one c.args.outer.now c.requires.whole_outer

pub fits-requires-clause-whole_s : goal.fits-requires-clause-whole_s
fits-requires-clause-whole_s c = part_whole c.args.outer.now c.args.place c.end_of-end.result c.requires.whole_outer c.requires.within c.end_of-end.ensures.end

pub returns-in-Var : goal.returns-in-Var
returns-in-Var c = inl (no_symbol_at c.args.outer.now c.args.place c.in-Var.field-0 _ c.requires.whole_outer c.requires.within c.in-Var.is)

pub returns-then-is_other_head : goal.returns-then-is_other_head
returns-then-is_other_head c = clash_at c.args.outer.now c.args.inner.now c.args.place _ c.in-App.f c.in-App.n c.requires.whole_outer c.requires.whole_inner c.requires.within c.in-App.is (c.is_other_head.ensures.not_var c.if-is_other_head.true) (c.is_other_head.ensures.not_head c.if-is_other_head.true)

pub returns-then-fits : goal.returns-then-fits
returns-then-fits c = fit_here c.args.outer.now c.args.place c.end_of-end.result _ _ c.in-App.f c.in-App.n c.requires.whole_outer c.requires.within c.in-App.is c.end_of-end.ensures.end (omega (arith, c.end_of-end.ensures.in_list, c.requires.small_outer)) refl

pub returns-else-fits : goal.returns-else-fits
returns-else-fits c = no_fit c.args.outer.now c.args.inner.now c.args.place c.end_of-end.result c.requires.whole_outer c.requires.within c.end_of-end.ensures.end (c.fits.ensures c.if-fits.false)
