-- The list of orders, place by place.
use Rattle.std.proofs.Common.{◌≡◌, ℕ, zero, suc, ◌+◌, ◌-◌, ◌<◌, ◌≤◌, List, [], ◌∷◌, ◌++◌, length, take, drop, get_or, flat_map, refl, sym, ap, ◌∙◌, arith, append_assoc}
use Rattle.std.proofs.lemmas.Grind.{common_steps}
use Rattle.uc_term.proofs.Terms.{take_of_length-le}
use Rattle.uc_order.specs.VarOrders.{Classes, placed, grown}
use Rattle.uc_order.specs.Places.{alone_at, joined_at, placed_from}

more_at : (v : ℕ) (cs : Classes) (i : ℕ) → i < length cs → placed_from v cs i ≡ alone_at cs i v ∷ joined_at cs i v ∷ placed_from v cs (suc i)
more_at v [] i h = absurd (omega arith)
more_at v (c ∷ cs) zero h = refl
more_at v (c ∷ cs) (suc i) h = rw (more_at v cs i (omega arith)) refl

placed_from-end : (v : ℕ) (cs : Classes) (i : ℕ) → length cs ≤ i → i ≤ length cs → placed_from v cs i ≡ alone_at cs i v ∷ []
placed_from-end v [] zero h k = refl
placed_from-end v [] (suc i) h k = absurd (omega arith)
placed_from-end v (c ∷ cs) zero h k = absurd (omega arith)
placed_from-end v (c ∷ cs) (suc i) h k = rw (placed_from-end v cs i (omega arith) (omega arith)) refl

joined_is : (cs : Classes) (i v : ℕ) (d : List ℕ) → i < length cs → joined_at cs i v ≡ take i cs ++ (get_or cs i d ++ v ∷ []) ∷ drop (suc i) cs
joined_is [] i v d h = absurd (omega arith)
joined_is (c ∷ cs) zero v d h = refl
joined_is (c ∷ cs) (suc i) v d h = ap (λ ds. c ∷ ds) (joined_is cs i v d (omega arith))

tail : (cs : Classes) (p : ℕ) → take (length cs - p) (drop p cs) ≡ drop p cs
tail cs p = grind (arith, common_steps)

-- what the three pieces make
pub joined_made : (cs : Classes) (i v : ℕ) (d k w : List ℕ) (a b c e : Classes) → i < length cs → a ≡ [] → b ≡ a ++ take i cs → k ≡ get_or cs i d → w ≡ k ++ v ∷ [] → c ≡ b ++ w ∷ [] → e ≡ c ++ take (length cs - (i + 1)) (drop (i + 1) cs) → e ≡ joined_at cs i v
joined_made cs i v d k w a b c e h ea eb ek ew ec ee =
    let s : i + 1 ≡ suc i = omega arith in
    let j = joined_is cs i v d h in
    rw (j, ee, ec, eb, ea, ew, ek, tail cs (i + 1), s) (append_assoc (take i cs) ((get_or cs i d ++ v ∷ []) ∷ []) (drop (suc i) cs))

pub two_more : (v : ℕ) (cs : Classes) (i : ℕ) (x y : Classes) (all a b target : List Classes) → i < length cs → x ≡ alone_at cs i v → y ≡ joined_at cs i v → a ≡ all ++ x ∷ [] → b ≡ a ++ y ∷ [] → all ++ placed_from v cs i ≡ target → b ++ placed_from v cs (i + 1) ≡ target
two_more v cs i x y all a b target h ex ey ea eb et =
    let s : i + 1 ≡ suc i = omega arith in
    let m = more_at v cs i h in
    rw (eb, ea, ex, ey, s) (append_assoc (all ++ alone_at cs i v ∷ []) (joined_at cs i v ∷ []) (placed_from v cs (suc i)) ∙ append_assoc all (alone_at cs i v ∷ []) (joined_at cs i v ∷ placed_from v cs (suc i)) ∙ ap (λ r. all ++ r) (sym m) ∙ et)

pub one_last : (v : ℕ) (cs : Classes) (i n : ℕ) (x : Classes) (all a target : List Classes) → length cs ≤ i → i ≤ length cs → n ≡ length cs → x ≡ alone_at cs n v → a ≡ all ++ x ∷ [] → all ++ placed_from v cs i ≡ target → a ≡ target
one_last v cs i n x all a target h k en ex ea et =
    let s : n ≡ i = omega arith in
    let m = placed_from-end v cs i h k in
    rw (ea, ex, s) (ap (λ r. all ++ r) (sym m) ∙ et)

-- orders of one more variable, and of one more order
pub grown_more : (os : List Classes) (vs all : List ℕ) (i v d : ℕ) (hs gs : List Classes) → i < length vs → v ≡ get_or vs i d → hs ≡ flat_map (placed v) os → grown os (drop i vs) ≡ gs → grown hs (drop (i + 1) vs) ≡ gs
grown_more os [] all i v d hs gs h ev eh e = absurd (omega arith)
grown_more os (x ∷ vs) all zero v d hs gs h ev eh e = rw (eh, ev) e
grown_more os (x ∷ vs) all (suc i) v d hs gs h ev eh e = let s : suc i + 1 ≡ suc (i + 1) = omega arith in rw s (grown_more os vs all i v d hs gs (omega arith) ev eh e)

pub all_grown : (v : ℕ) (os is hs : List Classes) (n : ℕ) → is ≡ os → length os ≤ n → hs ≡ flat_map (placed v) (take n is) → hs ≡ flat_map (placed v) os
all_grown v os is hs n ei h e = e ∙ ap (flat_map (placed v)) (ap (take n) ei ∙ take_of_length-le os n h)
