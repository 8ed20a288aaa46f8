-- Ranks and weights of symbols in a list from which others are left out.
use Rattle.std.proofs.Common.{◌≡◌, ℕ, zero, suc, ◌+◌, ◌<◌, ◌≤◌, ◌==◌, Bool, true, false, cond, List, [], ◌∷◌, filter, refl, sym, ap, ◌∙◌, arith, ◌⊎◌, inl, inr, if◌then◌else◌}
use Rattle.std.proofs.lemmas.Bool.{eqb-true, eq-eqb}
use Rattle.uc_term.specs.declared.node.Sym.{Sym}
use Rattle.uc_order.specs.Members.{In, in_front, in_rest}
use Rattle.uc_order.proofs.Counts.{same_sym}
use Rattle.uc_kbo.specs.declared.weights.Weighed.{Weighed}
use Rattle.uc_kbo.specs.Weights.{is_entry, weight_in, rank_in as place_in}
use Rattle.uc_lpo.specs.Ranks.{moved, rank_in}
use Rattle.uc_lpo.specs.Places.{rank_rest, rank_known}
use Rattle.uc_ordering.proofs.Lists.{In-filter}

if_true : {A : Type 0} {b : Bool} (x y : A) → b ≡ true → (if b then x else y) ≡ x
if_true x y e = rw e refl

if_false : {A : Type 0} {b : Bool} (x y : A) → b ≡ false → (if b then x else y) ≡ y
if_false x y e = rw e refl

-- one number is below another exactly if two others are
abbrev pub AreAlike : ℕ → ℕ → ℕ → ℕ → Type 0
AreAlike m n k l = (m < n → k < l) × (k < l → m < n)

-- WEIGHED SYMBOLS

-- the list has an entry of the symbol with so many arguments
abbrev pub HasEntry : List Weighed → Sym → ℕ → Type 0
HasEntry [] f n = ⊥
HasEntry (e ∷ es) f n = (is_entry e f n ≡ true) ⊎ HasEntry es f n

place_from : (es : List Weighed) (f : Sym) (n k : ℕ) → HasEntry es f n → k ≤ place_in k es f n
place_from [] f n k h = absurd h
place_from (e ∷ es) f n k h = go (is_entry e f n) refl h (place_from es f n (k + 1))
  where
    go : (b : Bool) → is_entry e f n ≡ b → HasEntry (e ∷ es) f n → (HasEntry es f n → k + 1 ≤ place_in (k + 1) es f n) → k ≤ (if b then k else place_in (k + 1) es f n)
    go true q h later = omega arith
    go false q (inl t) later = absurd (let bad : true ≡ false = sym t ∙ q in cc)
    go false q (inr i) later = let le = later i in omega (arith, le)

module _ (keep : Sym → Bool) where
  abbrev pub kept_entries : List Weighed → List Weighed
  kept_entries es = filter (λ e. keep e.symbol) es

  module _ (w0 : ℕ) (f : Sym) (n : ℕ) (kept : (e : Weighed) → is_entry e f n ≡ true → keep e.symbol ≡ true) where
    pub entry_kept : (es : List Weighed) → HasEntry es f n → HasEntry (kept_entries es) f n
    entry_kept [] h = absurd h
    entry_kept (e ∷ es) h = go (keep e.symbol) refl h (entry_kept es)
      where
        go : (b : Bool) → keep e.symbol ≡ b → HasEntry (e ∷ es) f n → (HasEntry es f n → HasEntry (kept_entries es) f n) → HasEntry (cond b (e ∷ kept_entries es) (kept_entries es)) f n
        go true q (inl t) later = inl t
        go true q (inr i) later = inr (later i)
        go false q (inl t) later = absurd (let bad : true ≡ false = sym (kept e t) ∙ q in cc)
        go false q (inr i) later = later i

    pub weight_kept : (es : List Weighed) → weight_in w0 es f n ≡ weight_in w0 (kept_entries es) f n
    weight_kept [] = refl
    weight_kept (e ∷ es) = go (is_entry e f n) refl (keep e.symbol) refl (weight_kept es)
      where
        go : (a : Bool) → is_entry e f n ≡ a → (b : Bool) → keep e.symbol ≡ b → weight_in w0 es f n ≡ weight_in w0 (kept_entries es) f n → (if a then e.weight else weight_in w0 es f n) ≡ weight_in w0 (cond b (e ∷ kept_entries es) (kept_entries es)) f n
        go true p true q later = sym (if_true e.weight (weight_in w0 (kept_entries es) f n) p)
        go true p false q later = absurd (let bad : true ≡ false = sym (kept e p) ∙ q in cc)
        go false p true q later = later ∙ sym (if_false e.weight (weight_in w0 (kept_entries es) f n) p)
        go false p false q later = later

  module _ (f g : Sym) (n m : ℕ) (kept_f : (e : Weighed) → is_entry e f n ≡ true → keep e.symbol ≡ true) (kept_g : (e : Weighed) → is_entry e g m ≡ true → keep e.symbol ≡ true) where
    pub places_alike : (es : List Weighed) (k l : ℕ) → HasEntry es f n → HasEntry es g m → AreAlike (place_in k es g m) (place_in k es f n) (place_in l (kept_entries es) g m) (place_in l (kept_entries es) f n)
    places_alike [] k l hf hg = absurd hf
    places_alike (e ∷ es) k l hf hg = go (is_entry e f n) refl (is_entry e g m) refl (keep e.symbol) refl hf hg (places_alike es)
      where
        here : (h : Sym) (j i : ℕ) → is_entry e h j ≡ true → place_in i (e ∷ kept_entries es) h j ≡ i
        here h j i t = if_true i (place_in (i + 1) (kept_entries es) h j) t

        further : (h : Sym) (j i : ℕ) → is_entry e h j ≡ false → place_in i (e ∷ kept_entries es) h j ≡ place_in (i + 1) (kept_entries es) h j
        further h j i t = if_false i (place_in (i + 1) (kept_entries es) h j) t

        go : (a : Bool) → is_entry e f n ≡ a → (b : Bool) → is_entry e g m ≡ b → (c : Bool) → keep e.symbol ≡ c → HasEntry (e ∷ es) f n → HasEntry (e ∷ es) g m → ((k l : ℕ) → HasEntry es f n → HasEntry es g m → AreAlike (place_in k es g m) (place_in k es f n) (place_in l (kept_entries es) g m) (place_in l (kept_entries es) f n)) → AreAlike (if b then k else place_in (k + 1) es g m) (if a then k else place_in (k + 1) es f n) (place_in l (cond c (e ∷ kept_entries es) (kept_entries es)) g m) (place_in l (cond c (e ∷ kept_entries es) (kept_entries es)) f n)
        go true p b q false r hf hg later = absurd (let bad : true ≡ false = sym (kept_f e p) ∙ r in cc)
        go false p true q false r hf hg later = absurd (let bad : true ≡ false = sym (kept_g e q) ∙ r in cc)
        go true p true q true r hf hg later = let x = here f n l p in let y = here g m l q in ((λ z. absurd (omega (arith, z))), (λ z. absurd (omega (arith, z, x, y))))
        go false p b q c r (inl t) hg later = absurd (let bad : true ≡ false = sym t ∙ p in cc)
        go a p false q c r hf (inl t) later = absurd (let bad : true ≡ false = sym t ∙ q in cc)
        go true p false q true r hf (inr j) later =
            let x = here f n l p in
            let y = further g m l q in
            let low = place_from es g m (k + 1) j in
            let lower = place_from (kept_entries es) g m (l + 1) (entry_kept 0 g m kept_g es j) in
            ((λ z. absurd (omega (arith, z, low))), (λ z. absurd (omega (arith, z, x, y, lower))))
        go false p true q true r (inr i) hg later =
            let x = further f n l p in
            let y = here g m l q in
            let low = place_from es f n (k + 1) i in
            let lower = place_from (kept_entries es) f n (l + 1) (entry_kept 0 f n kept_f es i) in
            ((λ z. omega (arith, x, y, lower)), (λ z. omega (arith, low)))
        go false p false q true r (inr i) (inr j) later =
            let x = further f n l p in
            let y = further g m l q in
            let both = later (k + 1) (l + 1) i j in
            ((λ z. (let w = both.0 z in omega (arith, w, x, y))), (λ z. both.1 (omega (arith, z, x, y))))
        go false p false q false r (inr i) (inr j) later = later (k + 1) l i j

-- SYMBOLS

moved_one : (n : ℕ) → 0 < n → moved n ≡ n + 1
moved_one zero h = absurd (omega arith)
moved_one (suc n) h = omega arith

-- the rank behind a first symbol
behind : (h : Sym) (gs : List Sym) (f : Sym) → (h.0 == f.0) ≡ false → In (h ∷ gs) f → In gs f
behind h gs _ e in_front = absurd (let t = eq-eqb h.0 h.0 refl in let bad : true ≡ false = sym t ∙ e in cc)
behind h gs f e (in_rest i) = i

later_rank : (h : Sym) (gs : List Sym) (f : Sym) → (h.0 == f.0) ≡ false → In gs f → rank_in (h ∷ gs) f ≡ rank_in gs f + 1
later_rank h gs f e i = rank_rest h gs f e ∙ moved_one (rank_in gs f) (rank_known gs f i)

first_rank : (h : Sym) (gs : List Sym) (f : Sym) → (h.0 == f.0) ≡ true → rank_in (h ∷ gs) f ≡ 1
first_rank h gs f e = if_true 1 (moved (rank_in gs f)) e

module _ (keep : Sym → Bool) where
  pub ranks_alike : (gs : List Sym) (f g : Sym) → keep f ≡ true → keep g ≡ true → In gs f → In gs g → AreAlike (rank_in gs g) (rank_in gs f) (rank_in (filter keep gs) g) (rank_in (filter keep gs) f)
  ranks_alike [] f g kf kg i j = elim i [ ]
  ranks_alike (h ∷ gs) f g kf kg i j = go (h.0 == f.0) refl (h.0 == g.0) refl (keep h) refl (ranks_alike gs f g kf kg)
    where
      go : (a : Bool) → (h.0 == f.0) ≡ a → (b : Bool) → (h.0 == g.0) ≡ b → (c : Bool) → keep h ≡ c → (In gs f → In gs g → AreAlike (rank_in gs g) (rank_in gs f) (rank_in (filter keep gs) g) (rank_in (filter keep gs) f)) → AreAlike (rank_in (h ∷ gs) g) (rank_in (h ∷ gs) f) (rank_in (cond c (h ∷ filter keep gs) (filter keep gs)) g) (rank_in (cond c (h ∷ filter keep gs) (filter keep gs)) f)
      go true p b q false r later = absurd (let bad : true ≡ false = sym kf ∙ ap keep (sym (same_sym h f (eqb-true h.0 f.0 p))) ∙ r in cc)
      go false p true q false r later = absurd (let bad : true ≡ false = sym kg ∙ ap keep (sym (same_sym h g (eqb-true h.0 g.0 q))) ∙ r in cc)
      go true p true q true r later =
          let x = first_rank h gs f p in
          let y = first_rank h gs g q in
          let u = first_rank h (filter keep gs) f p in
          let v = first_rank h (filter keep gs) g q in
          ((λ z. absurd (omega (arith, z, x, y))), (λ z. absurd (omega (arith, z, u, v))))
      go true p false q true r later =
          let ig = behind h gs g q j in
          let x = first_rank h gs f p in
          let y = later_rank h gs g q ig in
          let u = first_rank h (filter keep gs) f p in
          let v = later_rank h (filter keep gs) g q (In-filter keep gs g ig kg) in
          ((λ z. absurd (omega (arith, z, x, y))), (λ z. absurd (omega (arith, z, u, v))))
      go false p true q true r later =
          let ig = behind h gs f p i in
          let x = later_rank h gs f p ig in
          let y = first_rank h gs g q in
          let u = later_rank h (filter keep gs) f p (In-filter keep gs f ig kf) in
          let v = first_rank h (filter keep gs) g q in
          let known = rank_known gs f ig in
          let kept = rank_known (filter keep gs) f (In-filter keep gs f ig kf) in
          ((λ z. omega (arith, u, v, kept)), (λ z. omega (arith, x, y, known)))
      go false p false q true r later =
          let ig = behind h gs f p i in
          let jg = behind h gs g q j in
          let x = later_rank h gs f p ig in
          let y = later_rank h gs g q jg in
          let u = later_rank h (filter keep gs) f p (In-filter keep gs f ig kf) in
          let v = later_rank h (filter keep gs) g q (In-filter keep gs g jg kg) in
          let both = later ig jg in
          ((λ z. (let w = both.0 (omega (arith, z, x, y)) in omega (arith, w, u, v))), (λ z. (let w = both.1 (omega (arith, z, u, v)) in omega (arith, w, x, y))))
      go false p false q false r later =
          let ig = behind h gs f p i in
          let jg = behind h gs g q j in
          let x = later_rank h gs f p ig in
          let y = later_rank h gs g q jg in
          let both = later ig jg in
          ((λ z. both.0 (omega (arith, z, x, y))), (λ z. (let w = both.1 z in omega (arith, w, x, y))))
