use Rattle.uc_fact.proofs.Embedded.{fits_arguments, same_embedded, argument_embedded, get_of}
use Rattle.uc_fact.proofs.embedding.is_embedded_at.Goals as goal

pub is_in_one-requires-clause-fits : goal.is_in_one-requires-clause-fits
is_in_one-requires-clause-fits c = fits_arguments c.args.t.now c.args.q c.in-App.n c.in-App.f c.requires.whole_t (get_of c.args.t.now c.args.q _ _ c.requires.q_within c.in-App.is)

pub returns-in-Var : goal.returns-in-Var
returns-in-Var c h = same_embedded c.args.s.now c.args.t.now c.args.p c.args.q c.in-Var.x (get_of c.args.s.now c.args.p _ _ c.requires.p_within (c.is_var.ensures.0 h)) (get_of c.args.t.now c.args.q _ _ c.requires.q_within c.in-Var.is)

pub returns-else-has_embedded_arguments : goal.returns-else-has_embedded_arguments
returns-else-has_embedded_arguments c h = argument_embedded c.args.s.now c.args.t.now c.requires.whole_s c.requires.whole_t c.args.p c.args.q c.in-App.n c.in-App.f (get_of c.args.t.now c.args.q _ _ c.requires.q_within c.in-App.is) (c.is_in_one.ensures h)
