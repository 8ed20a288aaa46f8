-- The passive queue as contracts see it: what waits, in the order of the numbers, and which entry a draw takes.
use Rattle.std.specs.Prelude.{◌≢◌, ℕ, ◌+◌, ◌≤◌, ◌==◌, ◌||◌, ◌&&◌, nat_lt, List, [], ◌∷◌, Bool, cond, Option, Some, None, count_by}
use Rattle.uc_queue.specs.declared.entry.Entry.{Entry}

-- what waits, by rising numbers; how many draws gave a number, modulo 5; how many more entries there is room for
pub record Queue : Type 0 where
  pub waiting : List Entry
  pub draws : ℕ
  pub spare : ℕ

-- the first has the lower number
abbrev pub is_earlier : Entry → Entry → Bool
is_earlier a b = nat_lt a.number b.number

-- the first has the lower weight, or the same weight and the lower number
abbrev pub is_lighter : Entry → Entry → Bool
is_lighter a b = nat_lt a.weight b.weight || ((a.weight == b.weight) && nat_lt a.number b.number)

abbrev pub lesser : (Entry → Entry → Bool) → Entry → Option Entry → Entry
lesser before a None = a
lesser before a (Some b) = cond (before b a) b a

-- the least entry of a list, by an order of entries
abbrev pub least : (Entry → Entry → Bool) → List Entry → Option Entry
least before [] = None
least before (e ∷ es) = Some (lesser before e (least before es))

-- what the next draw takes: each fifth takes the least number, the others the least by weight and then number
abbrev pub next : Queue → Option Entry
next q = cond (q.draws == 4) (least is_earlier q.waiting) (least is_lighter q.waiting)

-- no entry has this number
abbrev pub IsNew : ℕ → List Entry → Type 0
IsNew n [] = Unit {0}
IsNew n (e ∷ es) = (e.number ≢ n) × IsNew n es

-- how many entries have this number
abbrev pub times : ℕ → List Entry → ℕ
times n es = count_by (λ e. e.number == n) es

-- each number is at least n, and greater than those before it
abbrev pub RisesFrom : ℕ → List Entry → Type 0
RisesFrom n [] = Unit {0}
RisesFrom n (e ∷ es) = (n ≤ e.number) × RisesFrom (e.number + 1) es

-- the list with an entry at its place by number
abbrev pub with_entry : Entry → List Entry → List Entry
with_entry a [] = a ∷ []
with_entry a (e ∷ es) = cond (is_earlier a e) (a ∷ e ∷ es) (e ∷ with_entry a es)

-- the list without the entry of a number
abbrev pub without : ℕ → List Entry → List Entry
without n [] = []
without n (e ∷ es) = cond (e.number == n) es (e ∷ without n es)

-- the entries of a list in any order, by their numbers
abbrev pub by_number : List Entry → List Entry
by_number [] = []
by_number (e ∷ es) = with_entry e (by_number es)
