use Rattle.uc_top.proofs.loading.load_held.Goals as goal

pub returns-in-Ok-clause-held : goal.returns-in-Ok-clause-held
returns-in-Ok-clause-held g c = record {
  distinct = rw c.in-Ok.is at c.load.ensures.distinct;
  agrees = rw c.in-Ok.is at c.load.ensures.agrees;
  filled = rw (c.in-Ok.is, c.bytes_of-root.ensures, c.as_bytes-name.ensures, c.new-symbols.ensures) at c.load.ensures.filled;
  is_problem = rw (c.in-Ok.is, c.bytes_of-root.ensures, c.as_bytes-name.ensures) at c.load.ensures.problem;
}

pub returns-in-Err-clause-unheld : goal.returns-in-Err-clause-unheld
returns-in-Err-clause-unheld g c = record {
  table = c.load.new.symbols;
  refused = rw (c.in-Err.is, c.bytes_of-root.ensures, c.as_bytes-name.ensures) at c.load.ensures.refused;
  stopped = rw (c.in-Err.is, c.bytes_of-root.ensures, c.as_bytes-name.ensures, c.new-symbols.ensures) at c.load.ensures.stopped;
}
