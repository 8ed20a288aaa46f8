use Rattle.std.proofs.Common.{refl}
use Rattle.uc_top.specs.Told.{told, cut_short, no_write_fails, one_write_fails}
use Rattle.uc_top.proofs.output.tell_text.Goals as goal

pub returns-in-Ok-clause-told : goal.returns-in-Ok-clause-told
returns-in-Ok-clause-told g c = told c.in-Ok.ensures.put

pub returns-in-Err-clause-told : goal.returns-in-Err-clause-told
returns-in-Err-clause-told g c = let p = c.in-Err.ensures.put in cut_short p.1 p.2 p.3

pub returns-in-Ok-clause-counted : goal.returns-in-Ok-clause-counted
returns-in-Ok-clause-counted g c = no_write_fails c.in-Ok.ensures.counted

pub returns-in-Err-clause-counted : goal.returns-in-Err-clause-counted
returns-in-Err-clause-counted g c = one_write_fails c.in-Err.ensures.counted

pub returns-in-Ok-clause-given : goal.returns-in-Ok-clause-given
returns-in-Ok-clause-given g c = record { end = _; given = c.in-Ok.ensures.given; put = c.in-Ok.ensures.put; result_is = refl }

pub returns-in-Err-clause-given : goal.returns-in-Err-clause-given
returns-in-Err-clause-given g c = record { end = _; given = c.in-Err.ensures.given; put = c.in-Err.ensures.put; result_is = refl }
