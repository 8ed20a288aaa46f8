use Rattle.uc_top.proofs.FileAnswering.{is_fetched, not_utf8}
use Rattle.uc_top.proofs.loading.fetch_text.Goals as goal

pub returns-in-Ok-clause-fetched : goal.returns-in-Ok-clause-fetched
returns-in-Ok-clause-fetched g c = is_fetched c.args.most _ _ c.args.name.now _ c.in-Ok.name.now c.fetch.result c.in-Ok.ensures.cases.0 c.in-Ok.ensures.cases.1 c.fetch.ensures.answer c.fetch.ensures.failed

pub returns-in-Err-clause-fetched : goal.returns-in-Err-clause-fetched
returns-in-Err-clause-fetched g c = not_utf8 c.args.most 0 0 c.args.name.now _ c.in-Err.ensures.cases.0
