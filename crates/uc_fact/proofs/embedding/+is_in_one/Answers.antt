use Rattle.std.proofs.Common.{◌-◌, subst, sym, arith}
use Rattle.uc_term.proofs.Terms.{whole_one}
use Rattle.uc_unify.specs.Closure.{at, values}
use Rattle.uc_unify.proofs.Fitting.{Fits}
use Rattle.uc_fact.specs.Embedding.{EmbeddedInOne}
use Rattle.uc_fact.proofs.Embedded.{first_embedded, later_embedded, fits_first, fits_behind}
use Rattle.uc_fact.proofs.embedding.+is_in_one.Goals as goal

pub returns-then-table-p : goal.returns-then-table-p
returns-then-table-p t c _ = first_embedded c.args.s.now c.args.t.now c.args.p c.args.q c.args.n (omega arith) (c.requires.marked.marked c.args.p c.args.q c.requires.within (fits_first c.args.t.now c.args.q c.args.n c.requires.whole_t c.requires.fits (omega arith)) c.if-table-p.true)

pub end_of-requires-clause-whole : goal.end_of-requires-clause-whole
end_of-requires-clause-whole t c = whole_one c.args.t.now c.requires.whole_t

pub is_in_one-requires : goal.is_in_one-requires
is_in_one-requires t c = (omega arith, (c.requires.whole_t, (c.requires.small_s, (c.requires.small_t, (c.requires.within, (subst (λ p. Fits c.args.t.now p (c.args.n - 1)) (sym c.end_of.ensures.end) (fits_behind c.args.t.now c.args.q c.args.n c.requires.whole_t c.requires.fits (omega arith)), c.requires.marked))))))

pub returns : goal.returns
returns t c h = later_embedded c.args.s.now c.args.t.now c.args.p c.args.q c.args.n (omega arith) (subst (λ q. EmbeddedInOne (at c.args.s.now c.args.p) (values (at c.args.t.now) c.args.t.now q (c.args.n - 1))) c.end_of.ensures.end (c.is_in_one.ensures h))
