use Rattle.std.proofs.Common.{◌≤◌, length, drop}
use Rattle.uc_term.specs.Flat.{spelled}
use Rattle.uc_ac.specs.Classes.{IsGrown, Stands}
use Rattle.uc_ac.proofs.numbering.number_of.Given as goal

abbrev pub invariant-loop-place : goal.invariant-loop-place
invariant-loop-place l = record {
  within : l.place ≤ length l.term;
  grown : IsGrown l.fn.classes l.classes;
  stands : Stands l.symbols l.classes l.terms.items (spelled (drop l.place l.term));
}

abbrev pub decreases-loop-place : goal.decreases-loop-place
decreases-loop-place l = l.place
