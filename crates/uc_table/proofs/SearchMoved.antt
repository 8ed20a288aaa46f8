-- What is visited rests only on which prefixes are refuted.
use Rattle.std.proofs.Common.{ℕ, List}
use Rattle.uc_table.specs.SearchPrefixes.{front, IsOpen, IsVisited, AreFirst, AreAll}

module _ (size cells : ℕ) (R S : List ℕ → Type 0) (to : (p : List ℕ) → R p → S p) (from : (p : List ℕ) → S p → R p) where
  pub open_moved : (t : List ℕ) → IsOpen size cells R t → IsOpen size cells S t
  open_moved t o = record { whole = o.whole; below = o.below; open_is = λ h. o.open_is (from t h) }

  pub open_back : (t : List ℕ) → IsOpen size cells S t → IsOpen size cells R t
  open_back t o = record { whole = o.whole; below = o.below; open_is = λ h. o.open_is (to t h) }

  pub visited_moved : (p : List ℕ) → IsVisited size cells R p → IsVisited size cells S p
  visited_moved p v = record { nonempty = v.nonempty; fits = v.fits; below = v.below; open_front = λ h. v.open_front (from (front p) h); is_first = λ t o b. v.is_first t (open_back t o) b }

  pub visited_back : (p : List ℕ) → IsVisited size cells S p → IsVisited size cells R p
  visited_back p v = record { nonempty = v.nonempty; fits = v.fits; below = v.below; open_front = λ h. v.open_front (to (front p) h); is_first = λ t o b. v.is_first t (open_moved t o) b }

  pub all_moved : (ps : List (List ℕ)) → AreAll size cells R ps → AreAll size cells S ps
  all_moved ps a = record { ordered = a.ordered; visited = λ p i. visited_moved p (a.visited p i); all = λ p v. a.all p (visited_back p v) }

  pub first_moved : (ps : List (List ℕ)) → AreFirst size cells R ps → AreFirst size cells S ps
  first_moved ps a = record { ordered = a.ordered; visited = λ p i. visited_moved p (a.visited p i); earlier = λ p q i v b. a.earlier p q i (visited_back q v) b }
