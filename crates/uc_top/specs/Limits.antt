-- The limits within which the numbers of a command line are.
use Rattle.std.specs.Prelude.{ℕ, ◌≤◌}
use Rattle.uc_words.specs.declared.command.Command.{Command}
use Rattle.uc_words.specs.declared.command.OrderWords.{OrderWords}

abbrev pub IsBetween : ℕ → ℕ → ℕ → Type 0
IsBetween low high n = (low ≤ n) × (n ≤ high)

-- the weight of a variable
abbrev pub WeighsWithin : OrderWords → Type 0
WeighsWithin words = IsBetween 1 1000000 words.w0

-- the size of a model
abbrev pub ModelsWithin : Command → Type 0
ModelsWithin command = IsBetween 1 8 command.size

-- the number of workers
abbrev pub WorksWithin : Command → Type 0
WorksWithin command = IsBetween 1 64 command.workers

-- the budget of a search, its limit on pairs and the number of its workers
abbrev pub SearchesWithin : Command → Type 0
SearchesWithin command = (command.budget ≤ 10000000) × (command.pairs ≤ 8000000) × WorksWithin command
