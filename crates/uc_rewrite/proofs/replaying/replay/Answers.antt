use Rattle.uc_rewrite.proofs.Converting.{replacements_convert}
use Rattle.uc_rewrite.proofs.replaying.replay.Goals as goal

pub returns-in_ok-copy-in-Some-2-clause-conversion : goal.returns-in_ok-copy-in-Some-2-clause-conversion
returns-in_ok-copy-in-Some-2-clause-conversion c =
    let replayed = rw c.in-Some.is at c.in_ok-replayed.ensures in
    rw (c.in_ok-copy-in-Some.ensures, c.in_ok-copy-in-Some-2.ensures, replayed.1) (replacements_convert c.args.axioms.now c.args.facts.now c.args.chain.now.start c.as_slice-steps.result.now replayed.0)
