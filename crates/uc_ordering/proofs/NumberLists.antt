-- A number put into a map at a name.
use Rattle.std.proofs.Common.{◌≡◌, ℕ, ◌==◌, Bool, true, false, List, [], ◌∷◌, Vec, Some, None, bytes_eq, if◌then◌else◌, refl, sym, ap, ◌∙◌, ◌⊎◌, inl, inr}
use Rattle.std.specs.declared.alloc.Global.{Global}
use Rattle.std.specs.Cmp.Lexicographic.{pointwise, bytes_decides}
use Rattle.indexmap.specs.IndexMap.{insert_entry}
use Rattle.uc_ordering.specs.Numbers.{number_in}

abbrev pub same : Vec ℕ Global → Vec ℕ Global → Bool
same a b = pointwise (λ x y. x == y) a.items b.items

bool_cases : (b : Bool) → (b ≡ true) ⊎ (b ≡ false)
bool_cases true = inl refl
bool_cases false = inr refl

other : (a b : List ℕ) → (a ≡ b → ⊥) → bytes_eq a b ≡ false
other a b n = elim (bool_cases (bytes_eq a b)) [ inl e ↦ absurd (n ((bytes_decides a b).0 e)) | inr e ↦ e ]

differ : (a b : List ℕ) → bytes_eq a b ≡ false → a ≡ b → ⊥
differ a b e q = absurd (let r : true ≡ false = sym ((bytes_decides a b).1 q) ∙ e in cc)

pub turned : (a b : List ℕ) → bytes_eq a b ≡ bytes_eq b a
turned a b = elim (bool_cases (bytes_eq b a)) [
  | inl e ↦ (bytes_decides a b).1 (sym ((bytes_decides b a).0 e)) ∙ sym e
  | inr e ↦ other a b (λ q. differ b a e (sym q)) ∙ sym e
]

put_at : (es : List (Vec ℕ Global × ℕ)) (k : Vec ℕ Global) (v : ℕ) (n : List ℕ) → number_in (insert_entry same es k v) n ≡ (if bytes_eq k.items n then Some v else number_in es n)
put_at [] k v n = ap (λ b. if b then Some v else None) (turned n k.items)
put_at (e ∷ es) k v n = go (same k e.0) refl (put_at es k v n)
  where
    go : (b : Bool) → same k e.0 ≡ b → number_in (insert_entry same es k v) n ≡ (if bytes_eq k.items n then Some v else number_in es n) → number_in (if b then (e.0, v) ∷ es else e ∷ insert_entry same es k v) n ≡ (if bytes_eq k.items n then Some v else number_in (e ∷ es) n)
    go true q later =
        let it : k.items ≡ e.0.items = (bytes_decides k.items e.0.items).0 q in
        elim (bool_cases (bytes_eq k.items n)) [
          | inl y ↦ (let z : bytes_eq n e.0.items ≡ true = (bytes_decides n e.0.items).1 (sym ((bytes_decides k.items n).0 y) ∙ it) in rw (y, z) refl)
          | inr y ↦ (let z : bytes_eq n e.0.items ≡ false = other n e.0.items (λ p. differ k.items n y (it ∙ sym p)) in rw (y, z) refl)
        ]
    go false q later = elim (bool_cases (bytes_eq k.items n)) [
      | inl y ↦ (let z : bytes_eq n e.0.items ≡ false = other n e.0.items (λ p. differ k.items e.0.items q ((bytes_decides k.items n).0 y ∙ p)) in let l : number_in (insert_entry same es k v) n ≡ Some v = rw y at later in rw (y, z) l)
      | inr y ↦ (let l : number_in (insert_entry same es k v) n ≡ number_in es n = rw y at later in rw y (ap (λ o. if bytes_eq n e.0.items then Some e.1 else o) l))
    ]

pub put_is : (es new : List (Vec ℕ Global × ℕ)) (k : Vec ℕ Global) (v : ℕ) (name : List ℕ) → k.items ≡ name → new ≡ insert_entry same es k v → (n : List ℕ) → number_in new n ≡ (if bytes_eq name n then Some v else number_in es n)
put_is es new k v name t e n = ap (λ l. number_in l n) e ∙ put_at es k v n ∙ ap (λ l. if bytes_eq l n then Some v else number_in es n) t
