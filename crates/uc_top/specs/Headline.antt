-- What is promised of the program, as one fact of a run.
use Rattle.std.specs.Prelude.{ℕ, List, Option}
use Rattle.uc_edge.specs.Files.{Files}
use Rattle.uc_top.specs.ProveRuns.{KeepsWord}
use Rattle.uc_top.specs.DecideRuns.{KeepsDecideWord}
use Rattle.uc_top.specs.SystemRuns.{KeepsSystemWord}

-- Whatever the words and the files of a library are, and in whatever order the workers come to the book: where a run of `prove` or of
-- `decide` ends with status 0, 1 or 2, what the sink was given is right.
--
-- * `prove`, by its status: a proof, which, read back, derives a goal of the problem from its axioms by instances and replacement
--   of equals; a system, read back, under which every ground term has exactly one normal form, two terms share it exactly if
--   their equation follows from the axioms (those of the encoding, where a goal has a variable), and no goal follows, with a
--   certificate, read back, that passes all tests, where one is asked for; or a limit, with what was spent or passed.
-- * `decide`: a line for each question, which says that its equation follows only where it does, and that it doesn't only where it
--   doesn't, or says nothing of it, since its steps are spent or a term grew too large; or a limit, with what was spent or passed. By a
--   certificate, nothing is searched: such a line for each question, by a certificate that passes all tests; or, of one that doesn't,
--   the first test that it fails.
pub record Headline (files : Files) (words : List (List ℕ)) (old new : Option (List ℕ)) (result : ℕ) : Type 0 where
  pub prove : KeepsWord files words old new result
  pub decide : KeepsDecideWord files words old new result
  pub system : KeepsSystemWord files words old new result
