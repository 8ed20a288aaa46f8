use Rattle.uc_search.proofs.Finishing.{is_out_alone}
use Rattle.uc_search.proofs.working.put_back.Goals as goal

pub unreachable-requires : goal.unreachable-requires
unreachable-requires g c = is_out_alone c.args.book.now.state c.args.pass.now.worker c.args.ticket c.requires.out.0 c.in-Err.field-0 c.requires.out.1 c.requires.out.2 c.requires.out.3 c.in-Err.ensures.refused
