-- The text of a file comes to one list of items, or is refused for one reason.
use Rattle.std.proofs.Common.{◌≡◌, ℕ, List, [], Result, Ok, Err, ◌⊎◌, inl, inr}
use Rattle.uc_term.specs.Table.{Table, IsDistinct}
use Rattle.uc_clause.specs.declared.fault.ClauseFault.{ClauseFault}
use Rattle.uc_clause.specs.declared.fault.ClauseFault.TheVariants.{NoMemory}
use Rattle.uc_fof.specs.declared.item.FofItem.{FofItem}
use Rattle.uc_fof.specs.Reading.{ReadsFile, RefusesFile}
use Rattle.uc_fof.proofs.Whole.{file_once, file_refuses}
use Rattle.uc_problem.specs.Holds.{ReadsAs}
use Rattle.uc_problem.proofs.Outcomes.{err_once, ok_or_err}

pub nothing_twice : IsDistinct []
nothing_twice i j e p q = absurd cc

-- a file is refused for one reason
pub refused_once : {bytes : List ℕ} {a b : ClauseFault} → RefusesFile bytes a → RefusesFile bytes b → a ≡ b
refused_once {bytes} {a} {b} x y = err_once (file_once bytes [] nothing_twice (Err a) (Err b) x y)

-- and what is read isn't refused, whatever the table is
no_refusal : {items : List FofItem} {why : ClauseFault} → (Path (Result (List FofItem) ClauseFault) (Ok items) (Err why)) ⊎ (Path (Result (List FofItem) ClauseFault) (Ok items) (Err NoMemory)) → ⊥
no_refusal (inl e) = ok_or_err e
no_refusal (inr e) = ok_or_err e

pub read_or_refused : {bytes : List ℕ} {table : Table} {items : List FofItem} {why : ClauseFault} → ReadsFile bytes table items → RefusesFile bytes why → ⊥
read_or_refused {bytes} {table} {items} {why} x y = no_refusal (file_refuses bytes table x.small (Ok items) x.reads tt why y)

module _ (table : Table) (distinct : IsDistinct table) (bytes : List ℕ) where
  pub reads_once : (a b : Result (List FofItem) ClauseFault) → ReadsAs table bytes a → ReadsAs table bytes b → a ≡ b
  reads_once a b x y = file_once bytes table distinct a b x y
