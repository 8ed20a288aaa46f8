use Rattle.uc_table.proofs.search_reads.reads_of.Goals as goal

pub returns-then-steps-gt-MOST_STEPS : goal.returns-then-steps-gt-MOST_STEPS
returns-then-steps-gt-MOST_STEPS c = c.no_reads.ensures c.args.size c.args.steps.now

pub returns-in_default : goal.returns-in_default
returns-in_default c = c.no_reads-in_default.ensures c.args.size c.args.steps.now
