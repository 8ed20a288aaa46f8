-- Two winner trees over one list of entries. Of n places, node k from n to 2n-1 is the leaf of entry k-n, and node k from 1 to n-1 has the children
-- 2k and 2k+1. A tree's list has the winner of each inner node, which is the number of an entry; a leaf without an entry never wins over one with.
use Rattle.std.specs.Prelude.{◌≡◌, ◌≢◌, ℕ, ◌+◌, ◌-◌, ◌*◌, ◌^◌, ◌<◌, ◌≤◌, ◌==◌, nat_lt, List, Bool, true, false, cond, Option, Some, None, length, slice_index}
use Rattle.std.specs.List.{slice_get}
use Rattle.uc_queue.specs.declared.entry.Entry.{Entry}
use Rattle.uc_queue.specs.declared.entry.Key.{Key}
use Rattle.uc_queue.specs.declared.entry.Key.TheVariants.{Number, Weight}
use Rattle.uc_queue.specs.Queue.{is_earlier, is_lighter}

abbrev pub before : Key → Entry → Entry → Bool
before Number = is_earlier
before Weight = is_lighter

-- the key of the next draw
abbrev pub key_of : ℕ → Key
key_of draws = cond (draws == 4) Number Weight

-- the first loses to the second
abbrev pub loses : Key → Option Entry → Option Entry → Bool
loses key a None = false
loses key None (Some b) = true
loses key (Some a) (Some b) = before key b a

-- of two numbers of entries, the winner's
abbrev pub better : Key → List Entry → ℕ → ℕ → ℕ
better key es a b = cond (loses key (slice_get es a) (slice_get es b)) b a

-- the entry that wins at a node
abbrev pub winner_at : List ℕ → ℕ → ℕ
winner_at ws k = cond (nat_lt k (length ws)) (slice_index ws k) (k - length ws)

-- an inner node's winner is the better of its children's
abbrev pub IsRightAt : Key → List Entry → List ℕ → ℕ → Type 0
IsRightAt key es ws k = winner_at ws k ≡ better key es (winner_at ws (2 * k)) (winner_at ws (2 * k + 1))

abbrev pub IsRight : Key → List Entry → List ℕ → Type 0
IsRight key es ws = (k : ℕ) → 0 < k → k < length ws → IsRightAt key es ws k

-- a tree was right for entries that differ from these at one place alone
pub record WasRight (key : Key) (es : List Entry) (ws : List ℕ) (slot : ℕ) : Type 0 where
  pub former : List Entry
  pub right : IsRight key former ws
  pub others : (k : ℕ) → k ≢ slot → slice_get es k ≡ slice_get former k

-- both trees are right
pub record AreRight (es : List Entry) (lightest earliest : List ℕ) : Type 0 where
  pub few : length lightest ≤ 2 ^ 31
  pub same : length earliest ≡ length lightest
  pub within : length es ≤ length lightest
  pub by_weight : IsRight Weight es lightest
  pub by_number : IsRight Number es earliest
