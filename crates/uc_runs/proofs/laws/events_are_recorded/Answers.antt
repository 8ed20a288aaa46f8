use Rattle.uc_runs.proofs.Recording.{is_recorded, later_reaches, history_continues}
use Rattle.uc_runs.proofs.laws.events_are_recorded.Goals as goal

pub returns-clause-recorded : goal.returns-clause-recorded
returns-clause-recorded g c = λ o s k r l. is_recorded (g.O.Order.meaning c.args.order.now) o s k r l

pub returns-clause-reaches : goal.returns-clause-reaches
returns-clause-reaches g c = λ o s u r l. later_reaches (g.O.Order.meaning c.args.order.now) o s u r l

pub returns-clause-history : goal.returns-clause-history
returns-clause-history g c = λ o s u l. history_continues (g.O.Order.meaning c.args.order.now) o s u l
