-- The numbers that a command line names are within their limits.
use Rattle.std.proofs.Common.{ℕ, ◌≡◌, ◌≤◌, nat_le, Bool, true, false, List, Option, Some, None, if◌then◌else◌, refl, subst, arith}
use Rattle.std.proofs.lemmas.Bool.{and_parts, leb-true}
use Rattle.uc_words.specs.declared.command.Command.{Command}
use Rattle.uc_words.specs.declared.table.Key.TheVariants as key
use Rattle.uc_words.specs.Lines.{value}
use Rattle.uc_words.specs.Number.{number_of}
use Rattle.uc_words.specs.Reads.{is_within, limited, Reads}
use Rattle.uc_top.specs.Limits.{IsBetween, WeighsWithin, ModelsWithin, WorksWithin, SearchesWithin}

module _ (low high n : ℕ) where
  number_within : (o : Option ℕ) → (if is_within low high o then o else None) ≡ Some n → IsBetween low high n
  number_within None e = absurd cc
  number_within (Some m) e = go (is_within low high (Some m)) refl e
    where
      go : (b : Bool) → is_within low high (Some m) ≡ b → (if b then Some m else None) ≡ Some n → IsBetween low high n
      go true h k =
          let p = and_parts (nat_le low m) (nat_le m high) h in
          let same : m ≡ n = cc in
          subst (IsBetween low high) same (leb-true low m p.0, leb-true m high p.1)
      go false h k = absurd cc

  limited_within : (default : ℕ) → low ≤ default → default ≤ high → (o : Option (List ℕ)) → limited low high default o ≡ Some n → IsBetween low high n
  limited_within default some most None e = let same : default ≡ n = cc in subst (IsBetween low high) same (some, most)
  limited_within default some most (Some word) e = number_within (number_of word) e

module _ (words : List (List ℕ)) (command : Command) (r : Reads words command) where
  pub weight_within : WeighsWithin command.order
  weight_within = limited_within 1 1000000 command.order.w0 1 (omega arith) (omega arith) (value key.W0 r.said.1.given) r.is.order.w0

  pub size_within : ModelsWithin command
  size_within = limited_within 1 8 command.size 4 (omega arith) (omega arith) (value key.Size r.said.1.given) r.is.size

  pub workers_within : WorksWithin command
  workers_within = limited_within 1 64 command.workers 1 (omega arith) (omega arith) (value key.Workers r.said.1.given) r.is.workers

  pub search_within : SearchesWithin command
  search_within =
      let budget = limited_within 0 10000000 command.budget 100000 (omega arith) (omega arith) (value key.Budget r.said.1.given) r.is.budget in
      let pairs = limited_within 1 8000000 command.pairs 1000000 (omega arith) (omega arith) (value key.Pairs r.said.1.given) r.is.pairs in
      (budget.1, pairs.1, workers_within)
