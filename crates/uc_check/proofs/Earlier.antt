-- Whether parents are earlier, one after another.
use Rattle.std.proofs.Common.{ℕ, zero, suc, ◌+◌, ◌<◌, ◌≤◌, List, [], ◌∷◌, length, drop, get_or, sym, subst, arith}
use Rattle.std.proofs.lemmas.List.{drop_more}
use Rattle.uc_check.specs.Lines.{AreEarlier}

pub rest_earlier : (k : ℕ) (ps : List ℕ) (i : ℕ) → i < length ps → get_or ps i 0 < k → (AreEarlier k (drop i ps) → AreEarlier k (drop (i + 1) ps)) × (AreEarlier k (drop (i + 1) ps) → AreEarlier k (drop i ps))
rest_earlier k ps i h l =
    let e = drop_more ps i 0 h in
    (λ a. let b : AreEarlier k (get_or ps i 0 ∷ drop (i + 1) ps) = subst (AreEarlier k) e a in b.1, λ a. let b : AreEarlier k (get_or ps i 0 ∷ drop (i + 1) ps) = (l, a) in subst (AreEarlier k) (sym e) b)

pub none_earlier : (k : ℕ) (ps : List ℕ) (i : ℕ) → i < length ps → k ≤ get_or ps i 0 → AreEarlier k (drop i ps) → ⊥
none_earlier k ps i h l a =
    let b : AreEarlier k (get_or ps i 0 ∷ drop (i + 1) ps) = subst (AreEarlier k) (drop_more ps i 0 h) a in
    let c = b.0 in
    absurd (omega arith)

pub all_earlier : (k : ℕ) (ps : List ℕ) (i : ℕ) → length ps ≤ i → AreEarlier k (drop i ps)
all_earlier k [] zero h = tt
all_earlier k [] (suc i) h = tt
all_earlier k (p ∷ ps) zero h = absurd (omega arith)
all_earlier k (p ∷ ps) (suc i) h = all_earlier k ps i (omega arith)
