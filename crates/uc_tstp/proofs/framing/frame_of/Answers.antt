use Rattle.std.proofs.Common.{refl, sym}
use Rattle.uc_tstp.specs.Framing.{no_end, framed}
use Rattle.uc_tstp.proofs.Frames.{no_start_at, other_name_at}
use Rattle.uc_tstp.proofs.framing.frame_of.Goals as goal

pub returns-then-text-gt-MAX_PROOF-clause-framed : goal.returns-then-text-gt-MAX_PROOF-clause-framed
returns-then-text-gt-MAX_PROOF-clause-framed c = (c.if-text-gt-MAX_PROOF.true, refl, refl)

pub returns-in_default-clause-framed : goal.returns-in_default-clause-framed
returns-in_default-clause-framed c = (c.if-text-gt-MAX_PROOF.false, no_start_at c.args.text.now c.place_behind.result c.place_behind.ensures c.in_default.ensures.found)

pub returns-in_default-find-clause-framed : goal.returns-in_default-find-clause-framed
returns-in_default-find-clause-framed c = (c.if-text-gt-MAX_PROOF.false, no_end c.in-Some.ensures.found c.in_default-find.ensures.found)

pub returns-then-not-is_same_name-clause-framed : goal.returns-then-not-is_same_name-clause-framed
returns-then-not-is_same_name-clause-framed c =
    (c.if-text-gt-MAX_PROOF.false, other_name_at c.args.text.now _ c.place_behind-then-not-is_same_name.result c.in-Some.start c.in-Some-find.end c.place_behind-then-not-is_same_name.ensures c.split_at.ensures.front c.in-Some.ensures.found c.in-Some-find.ensures.found (sym c.if-not-is_same_name.ensures))

pub returns-clause-framed : goal.returns-clause-framed
returns-clause-framed c = (c.if-text-gt-MAX_PROOF.false, framed c.in-Some.ensures.found c.in-Some-find.ensures.found (sym c.if-not-is_same_name.ensures))
