use Rattle.std.proofs.lemmas.Result.{IfOk-weaker}
use Rattle.uc_answer.proofs.PairsOver.{pair_over}
use Rattle.uc_answer.proofs.pair_lines.line_of.Goals as goal

pub path-requires : goal.path-requires
path-requires c = rw c.side_of.ensures c.requires.overlaps.inside

pub pair_line-requires : goal.pair_line-requires
pair_line-requires c = pair_over c.args.symbols.now c.args.a.now c.args.b.now c.args.formed.now.overlap c.in_ok-formation.formation c.requires.a c.requires.b c.in_ok-formation.ensures.pair

pub returns : goal.returns
returns c = IfOk-weaker c.pair_line.result _ _ (λ line e. record { path = c.in_ok-path.path; path_is = rw c.side_of.ensures at c.in_ok-path.ensures; formation = c.in_ok-formation.formation; formation_is = c.in_ok-formation.ensures.pair; line_is = e }) (rw c.as_slice.ensures at c.pair_line.ensures)
