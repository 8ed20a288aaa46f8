use Rattle.std.proofs.Common.{◌≡◌, ◌∙◌}
use Rattle.uc_order.specs.declared.order.Cmp.TheVariants.{Greater, Less, Equal}
use Rattle.uc_kbo.specs.Weights.{weighing}
use Rattle.uc_kbo.specs.Runs.{table_weighing}
use Rattle.uc_kbo.proofs.Tables.{weighing_tied, under_iff, under_equal}
use Rattle.uc_kbo.proofs.kbo.KboOrder.compare_under.Goals as goal

pub returns-clause-greater : goal.returns-clause-greater
returns-clause-greater c = under_iff (c.compare_by.result ≡ Greater) (table_weighing c.args.self.now.weights.w0 c.args.self.now.weights.table.items) (weighing c.args.self.now.weights.w0 c.args.self.now.entries.items) c.args.cases.now c.args.s.now c.args.t.now (weighing_tied c.args.self.now.weights.w0 c.args.self.now.entries.items c.args.self.now.weights.table.items c.args.self.now.tied) c.requires.s_whole c.requires.t_whole (rw (c.new.ensures ∙ c.classes-list.ensures) at c.compare_by.ensures.greater)

pub returns-clause-less : goal.returns-clause-less
returns-clause-less c = under_iff (c.compare_by.result ≡ Less) (table_weighing c.args.self.now.weights.w0 c.args.self.now.weights.table.items) (weighing c.args.self.now.weights.w0 c.args.self.now.entries.items) c.args.cases.now c.args.t.now c.args.s.now (weighing_tied c.args.self.now.weights.w0 c.args.self.now.entries.items c.args.self.now.weights.table.items c.args.self.now.tied) c.requires.t_whole c.requires.s_whole (rw (c.new.ensures ∙ c.classes-list.ensures) at c.compare_by.ensures.less)

pub returns-clause-equal : goal.returns-clause-equal
returns-clause-equal c = under_equal (c.compare_by.result ≡ Equal) c.args.cases.now c.args.s.now c.args.t.now c.requires.s_whole c.requires.t_whole (rw (c.new.ensures ∙ c.classes-list.ensures) at c.compare_by.ensures.equal)
