-- Marks of rules, one for each.
use Rattle.std.proofs.Common.{ℕ, zero, suc, ◌≡◌, ◌++◌, Bool, true, false, IsTrue, List, [], ◌∷◌, length, get_or}

-- what holds where a mark stands holds with a further mark, where it holds for that one
pub marked_more : (marks : List Bool) (mark : Bool) (P : ℕ → Type 0) → ((r : ℕ) → IsTrue (get_or marks r false) → P r) → (IsTrue mark → P (length marks)) → (r : ℕ) → IsTrue (get_or (marks ++ mark ∷ []) r false) → P r
marked_more [] mark P h p zero m = p m
marked_more [] mark P h p (suc r) m = absurd (let e : false ≡ true = m in cc)
marked_more (a ∷ marks) mark P h p zero m = h zero m
marked_more (a ∷ marks) mark P h p (suc r) m = marked_more marks mark (λ k. P (suc k)) (λ k. h (suc k)) p r m
