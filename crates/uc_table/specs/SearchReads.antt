-- The cells that an instance of a clause reads, as places to which the values of the cells before them add.
use Rattle.std.specs.Prelude.{ℕ, zero, suc, ◌≡◌, ◌+◌, ◌-◌, ◌*◌, ◌/◌, ◌%◌, ◌^◌, ◌<◌, ◌≤◌, nat_lt, List, [], ◌∷◌, ◌++◌, length, take, drop, get_or, slice_get, Option, Some, None, if◌then◌else◌}
use Rattle.uc_table.specs.declared.search_steps.Step.{Step}
use Rattle.uc_table.specs.declared.search_steps.Step.TheVariants.{Variable, Apply, Foreign}
use Rattle.uc_table.specs.declared.search_reads.Link.{Link}
use Rattle.uc_table.specs.declared.search_reads.Reads.{Reads}
use Rattle.uc_table.specs.declared.search_reads.Way.{Way}
use Rattle.uc_table.specs.declared.search_reads.Way.TheVariants as way
use Rattle.uc_table.specs.Algebras.{place_of}
use Rattle.uc_table.specs.Tables.{AreValues, MOST_CELLS}
use Rattle.uc_table.specs.SearchSteps.{Ran, stops, waits, breaks}

-- one of the numbers is so much more
abbrev pub add_at : List ℕ → ℕ → ℕ → List ℕ
add_at [] i d = []
add_at (x ∷ xs) zero d = (x + d) ∷ xs
add_at (x ∷ xs) (suc i) d = x ∷ add_at xs i d

-- the value goes one place further
abbrev pub one_further : Link → Link
one_further l = record { target = suc l.target; stride = l.stride }

module _ (size : ℕ) where
  -- The places of the cells that steps read on a stack, and then the stack that they leave, where each cell that is read has the
  -- value 0.
  abbrev pub places : ℕ → List Step → List ℕ → List ℕ
  places a [] stack = stack
  places a (Variable unit ∷ ss) stack = places a ss ((a / unit) % size ∷ stack)
  places a (Apply first n ∷ ss) stack = (first + place_of size (take n stack)) ∷ places a ss (0 ∷ drop n stack)
  places a (Foreign ∷ ss) stack = []

  -- where the value that stands so deep on the stack goes: to which of the places behind it, and how many times
  abbrev pub link_of : List Step → ℕ → Link
  link_of [] p = record { target = p; stride = 1 }
  link_of (Variable unit ∷ ss) p = link_of ss (suc p)
  link_of (Apply first n ∷ ss) p = if nat_lt p n then record { target = 0; stride = size ^ (n - 1 - p) } else one_further (link_of ss (suc (p - n)))
  link_of (Foreign ∷ ss) p = record { target = 0; stride = 0 }

  -- where the values go that are read, each of which stands on top of the stack
  abbrev pub links_of : List Step → List Link
  links_of [] = []
  links_of (Variable unit ∷ ss) = links_of ss
  links_of (Apply first n ∷ ss) = link_of ss 0 ∷ links_of ss
  links_of (Foreign ∷ ss) = []

-- on a stack of so many values each step finds its arguments, and two values are left
abbrev pub LeavesTwo : List Step → ℕ → Type 0
LeavesTwo [] h = h ≡ 2
LeavesTwo (Variable unit ∷ ss) h = LeavesTwo ss (suc h)
LeavesTwo (Apply first n ∷ ss) h = (n ≤ h) × LeavesTwo ss (suc (h - n))
LeavesTwo (Foreign ∷ ss) h = ⊥

abbrev pub fill : Option ℕ → ℕ → (ℕ → Ran) → Ran
fill (Some v) cell next = next v
fill None cell next = waits cell

module _ (prefix : List ℕ) where
  -- the cells are read one after another, and each value goes where its link says
  abbrev pub filled : List ℕ → List Link → Ran
  filled row [] = stops row
  filled [] (l ∷ ls) = breaks
  filled (c ∷ row) (l ∷ ls) = fill (slice_get prefix c) c (λ v. filled (add_at row l.target (v * l.stride)) ls)

  -- each place that comes about is that of a cell that there may be, and each number is small
  abbrev pub Fits : List ℕ → List Link → Type 0
  Fits row [] = Unit {0}
  Fits [] (l ∷ ls) = ⊥
  Fits (c ∷ row) (l ∷ ls) = (c < MOST_CELLS) × ((v : ℕ) → slice_get prefix c ≡ Some v → (l.target < length row) × (get_or row l.target 0 + v * l.stride < 4294967296) × Fits (add_at row l.target (v * l.stride)) ls)

-- the rows that are kept are those of the first instances
pub record AreReadsOf (size : ℕ) (steps : List Step) (reads : Reads) : Type 0 where
  pub some : 0 < reads.width
  pub leaves : reads.width ≤ length reads.rows.items → LeavesTwo steps 0
  pub links : reads.width ≤ length reads.rows.items → reads.links.items ≡ links_of size steps
  pub wide : reads.width ≤ length reads.rows.items → reads.width ≡ length reads.links.items + 2
  pub each : (a : ℕ) → a * reads.width + reads.width ≤ length reads.rows.items → take reads.width (drop (a * reads.width) reads.rows.items) ≡ places size a steps []

-- a link that counts from so many places before
abbrev pub further : ℕ → Link → Link
further n l = record { target = n + l.target; stride = l.stride }

-- what a step does to a value so deep on the stack, so many places on
abbrev pub IsWay : ℕ → Step → ℕ → ℕ → Way → Type 0
IsWay size step p n (way.Further q m) = record { is : (ss : List Step) → further n (link_of size (step ∷ ss) p) ≡ further m (link_of size ss q); deep : q ≤ p + 1; far : m ≤ n + 1 }
IsWay size step p n (way.Ends link) = (ss : List Step) → further n (link_of size (step ∷ ss) p) ≡ link
IsWay size step p n way.Never = Unit {0}

-- the step adds to the row what it reads, and leaves a stack
pub record IsAdded (size a : ℕ) (step : Step) (old new stack rest : List ℕ) : Type 0 where
  pub row : (ss : List Step) → old ++ places size a (step ∷ ss) stack ≡ new ++ places size a ss rest
  pub leaves : (ss : List Step) → LeavesTwo ss (length rest) → LeavesTwo (step ∷ ss) (length stack)
  pub live : AreValues size rest
  pub short : length rest ≤ length stack + 1

-- the rows of the first so many instances
pub record AreRowsOf (size : ℕ) (steps : List Step) (width n : ℕ) (rows : List ℕ) : Type 0 where
  pub as_many : length rows ≡ n * width
  pub leaves : 0 < n → LeavesTwo steps 0
  pub each : (a : ℕ) → a < n → take width (drop (a * width) rows) ≡ places size a steps []
