use Rattle.uc_kbo.specs.Runs.{table_weighing}
use Rattle.uc_kbo.proofs.Balancing.{to_read, from_read, balance_more, balance_ends}
use Rattle.uc_kbo.proofs.wide.Both.extend.Goals as goal

pub extend-requires-clause-run : goal.extend-requires-clause-run
extend-requires-clause-run c = to_read (table_weighing c.args.w.now.w0 c.args.w.now.table.items) c.args.s.now c.args.self.now.first c.requires.both.first

pub extend-requires-2-clause-run : goal.extend-requires-2-clause-run
extend-requires-2-clause-run c = to_read (table_weighing c.args.w.now.w0 c.args.w.now.table.items) c.args.t.now c.args.self.now.second c.requires.both.second

pub returns-clause-both : goal.returns-clause-both
returns-clause-both c =
    let a = c.args.self.now.first in
    let b = c.args.self.now.second in
    let o = c.requires.both in
    let g = c.gain_all.ensures in
    let l = c.lose_all.ensures in
    let e = c.extend.ensures in
    let f = c.extend-2.ensures in
    record {
      first = from_read (table_weighing c.args.w.now.w0 c.args.w.now.table.items) c.args.s.now c.extend.new.self e.run;
      second = from_read (table_weighing c.args.w.now.w0 c.args.w.now.table.items) c.args.t.now c.extend-2.new.self f.run;
      balance = balance_ends c.args.s.now c.args.t.now a c.extend.new.self b c.extend-2.new.self c.lose_all.new.self c.args.s_end c.args.t_end e.from e.to f.from f.to (balance_more c.args.s.now c.args.t.now a.from a.to c.args.s_end b.from b.to c.args.t_end c.args.self.now.balance c.gain_all.new.self c.lose_all.new.self o.first.ordered c.requires.s_ahead o.second.ordered c.requires.t_ahead o.balance g.base g.counts l.tallied l.base l.counts);
    }
