use Rattle.std.proofs.Common.{◌-◌, subst, sym, arith}
use Rattle.uc_term.proofs.Terms.{whole_one}
use Rattle.uc_unify.specs.Closure.{at, next, values}
use Rattle.uc_unify.proofs.Fitting.{Fits}
use Rattle.uc_fact.specs.Embedding.{AreEmbedded}
use Rattle.uc_fact.proofs.Embedded.{none_embedded, all_embedded, fits_first, fits_behind}
use Rattle.uc_fact.proofs.embedding.+are_embedded.Goals as goal

pub returns-then-n-eq0 : goal.returns-then-n-eq0
returns-then-n-eq0 t c _ = none_embedded c.args.s.now c.args.t.now c.args.p c.args.q c.args.n c.if-n-eq0.true

pub end_of-requires-clause-whole : goal.end_of-requires-clause-whole
end_of-requires-clause-whole t c = whole_one c.args.s.now c.requires.whole_s

pub end_of-requires-then-table-p-clause-whole : goal.end_of-requires-then-table-p-clause-whole
end_of-requires-then-table-p-clause-whole t c = whole_one c.args.t.now c.requires.whole_t

pub are_embedded-requires : goal.are_embedded-requires
are_embedded-requires t c = (omega arith, (c.requires.whole_s, (c.requires.whole_t, (c.requires.small_s, (c.requires.small_t, (subst (λ p. Fits c.args.s.now p (c.args.n - 1)) (sym c.end_of.ensures.end) (fits_behind c.args.s.now c.args.p c.args.n c.requires.whole_s c.requires.p_fits (omega arith)), (subst (λ p. Fits c.args.t.now p (c.args.n - 1)) (sym c.end_of-then-table-p.ensures.end) (fits_behind c.args.t.now c.args.q c.args.n c.requires.whole_t c.requires.q_fits (omega arith)), c.requires.marked)))))))

pub returns-then-table-p : goal.returns-then-table-p
returns-then-table-p t c h = all_embedded c.args.s.now c.args.t.now c.args.p c.args.q c.args.n (omega arith) (c.requires.marked.marked c.args.p c.args.q (fits_first c.args.s.now c.args.p c.args.n c.requires.whole_s c.requires.p_fits (omega arith)) (fits_first c.args.t.now c.args.q c.args.n c.requires.whole_t c.requires.q_fits (omega arith)) c.if-table-p.true) (subst (λ p. AreEmbedded (values (at c.args.s.now) c.args.s.now p (c.args.n - 1)) (values (at c.args.t.now) c.args.t.now (next c.args.t.now c.args.q) (c.args.n - 1))) c.end_of.ensures.end (subst (λ q. AreEmbedded (values (at c.args.s.now) c.args.s.now c.end_of.result (c.args.n - 1)) (values (at c.args.t.now) c.args.t.now q (c.args.n - 1))) c.end_of-then-table-p.ensures.end (c.are_embedded.ensures h)))
