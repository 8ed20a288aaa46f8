use Rattle.uc_kbo.specs.Runs.{table_weighing}
use Rattle.uc_kbo.proofs.Parts.{run_new}
use Rattle.uc_kbo.proofs.Balancing.{balance_at}
use Rattle.uc_kbo.proofs.wide.Both.new.Goals as goal

pub returns-clause-both : goal.returns-clause-both
returns-clause-both c =
    let a = c.new.ensures in
    let b = c.new-2.ensures in
    record {
      first = run_new (table_weighing c.args.w.now.w0 c.args.w.now.table.items) (λ x. x) c.args.s.now c.args.at c.new.result c.requires.in_s a.from a.to a.weight a.counts a.large;
      second = run_new (table_weighing c.args.w.now.w0 c.args.w.now.table.items) (λ x. x) c.args.t.now c.args.at c.new-2.result c.requires.in_t b.from b.to b.weight b.counts b.large;
      balance = balance_at c.args.s.now c.args.t.now c.new.result c.new-2.result c.new-3.result c.args.at a.from a.to b.from b.to c.new-3.ensures.balance;
    }
