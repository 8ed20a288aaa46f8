use Rattle.uc_fact.proofs.Embedded.{fits_arguments, arguments_embedded, get_of}
use Rattle.uc_fact.proofs.embedding.has_embedded_arguments.Goals as goal

pub are_embedded-requires-clause-p_fits : goal.are_embedded-requires-clause-p_fits
are_embedded-requires-clause-p_fits c = fits_arguments c.args.s.now c.args.p c.args.n c.args.f c.requires.whole_s (get_of c.args.s.now c.args.p _ _ c.requires.p_within (c.is_head.ensures.0 c.if-is_head.true))

pub are_embedded-requires-clause-q_fits : goal.are_embedded-requires-clause-q_fits
are_embedded-requires-clause-q_fits c = fits_arguments c.args.t.now c.args.q c.args.n c.args.f c.requires.whole_t c.requires.symbol

pub returns-then-is_head : goal.returns-then-is_head
returns-then-is_head c h = arguments_embedded c.args.s.now c.args.t.now c.requires.whole_s c.requires.whole_t c.args.p c.args.q c.args.n c.args.f c.requires.symbol (get_of c.args.s.now c.args.p _ _ c.requires.p_within (c.is_head.ensures.0 c.if-is_head.true)) (c.are_embedded.ensures h)
