-- The order by which a generated problem is completed.
use Rattle.std.specs.Prelude.{false, []}
use Rattle.uc_words.specs.declared.command.OrderWords.{OrderWords}

-- the options on the order where none is given: the Knuth-Bendix order in which each symbol and each variable weighs 1, and no symbol
-- is named
abbrev pub no_options : OrderWords
no_options = record { lpo = false; precedence = []; weights = []; w0 = 1 }
