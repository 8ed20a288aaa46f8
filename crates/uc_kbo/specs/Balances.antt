-- The balance of the variables of two runs: how much more often each is in the first than in the second.
use Rattle.std.specs.Prelude.{ℕ, ◌+◌, ◌≡◌, ◌==◌, ◌<◌, ◌&&◌, List, length, slice_index, count_by, Bool, true, false, not, nat_lt, Option, Some, None, if◌then◌else◌}
use Rattle.uc_term.specs.declared.node.Node.{Node}
use Rattle.uc_kbo.specs.declared.balance.Balance.{Balance}
use Rattle.uc_kbo.specs.declared.wide.Both.{Both}
use Rattle.uc_kbo.specs.Kbo.{Weighing, is_it}
use Rattle.uc_kbo.specs.Runs.{IsRun, part, is_counted}

-- a counter stands at 2147483648 where its variable is as often in both runs, and below where the first has fewer
abbrev pub has_fewer : ℕ → Bool
has_fewer count = nat_lt count 2147483648

abbrev pub has_more : ℕ → Bool
has_more count = nat_lt 2147483648 count

-- how many counters stand below, and how many above
pub record IsTallied (r : Balance) : Type 0 where
  pub size : length r.counts ≡ 8192
  pub fewer : r.fewer ≡ count_by has_fewer r.counts
  pub more : r.more ≡ count_by has_more r.counts

-- the balance is that of the nodes ns and ms, for 8,192 variables from the base on
pub record IsBalance (ns ms : List Node) (r : Balance) : Type 0 where
  pub tallied : IsTallied r
  pub counts : (i : ℕ) → i < 8192 → slice_index r.counts i + count_by (is_counted (is_it (r.base + i))) ms ≡ 2147483648 + count_by (is_counted (is_it (r.base + i))) ns

-- a run of each list, and their balance
pub record IsBoth (w : Weighing) (s t : List Node) (r : Both) : Type 0 where
  pub first : IsRun w (λ x. x) s r.first
  pub second : IsRun w (λ x. x) t r.second
  pub balance : IsBalance (part s r.first.from r.first.to) (part t r.second.from r.second.to) r.balance

-- the variable is k, if k is asked for
abbrev pub is_asked : (ℕ → Bool) → ℕ → ℕ → Bool
is_asked asked k x = if asked k then x == k else false

-- the variables that have a counter
abbrev pub has_counter : ℕ → ℕ → Bool
has_counter base k = not (nat_lt k base) && nat_lt k (base + 8192)

-- of the variables of the nodes ns and ms those that pass are asked for, and no others
abbrev pub AsksFor : (ℕ → Bool) → (ℕ → Bool) → List Node → List Node → Type 0
AsksFor passes asked ns ms = (k : ℕ) → 0 < count_by (is_counted (is_it k)) ns + count_by (is_counted (is_it k)) ms → asked k ≡ passes k

-- the number is below the bound, if there is one
abbrev pub is_below : Option ℕ → ℕ → Bool
is_below None k = true
is_below (Some b) k = nat_lt k b
