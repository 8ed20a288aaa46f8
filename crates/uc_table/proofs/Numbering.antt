-- Symbols and the numbers of their cells.
use Rattle.std.proofs.Common.{◌≡◌, ℕ, zero, suc, ◌+◌, ◌<◌, ◌≤◌, Bool, true, false, List, ◌∷◌, length, get_or, set, drop, slice_get, Some, if◌then◌else◌, refl, sym, ◌∙◌, subst, arith}
use Rattle.uc_term.specs.declared.node.Sym.{Sym}
use Rattle.uc_term.specs.Signatures.{same_symbol}
use Rattle.std.proofs.lemmas.Bool.{eqb-true, eqb-false, eq-eqb, false≢true}
use Rattle.std.proofs.lemmas.List.{drop_more, get_or-set_same, get_or-set_other}
use Rattle.uc_table.specs.Evaluating.{number_of}

-- the numbers of the symbols from a place on, counted from there
abbrev pub AreNumbersFrom : ℕ → List Sym → List ℕ → Type 0
AreNumbersFrom at fs numbers = (i : ℕ) (f : Sym) → slice_get fs i ≡ Some f → get_or numbers f.0 0 ≡ at + number_of fs f

numbered_at : (g f : Sym) (gs : List Sym) (numbers : List ℕ) (i : ℕ) (b : Bool) → same_symbol g f ≡ b → g.0 < length numbers → (b ≡ false → get_or numbers f.0 0 ≡ i + 1 + number_of gs f) → get_or (set numbers g.0 i) f.0 0 ≡ i + (if b then 0 else number_of gs f + 1)
numbered_at g f gs numbers i true e h other =
    let same : g.0 ≡ f.0 = eqb-true g.0 f.0 e in
    rw (← same, get_or-set_same numbers g.0 i 0 h) (omega arith)
numbered_at g f gs numbers i false e h other =
    let differ : f.0 ≡ g.0 → ⊥ = λ q. eqb-false g.0 f.0 e (sym q) in
    rw (get_or-set_other numbers g.0 f.0 i 0 differ) (omega (arith, other refl))

-- one symbol more in front
pub numbered_more : (fs : List Sym) (numbers : List ℕ) (i j : ℕ) (d : Sym) → j ≡ i + 1 → j ≤ length fs → AreNumbersFrom j (drop j fs) numbers → (get_or fs i d).0 < length numbers → AreNumbersFrom i (drop i fs) (set numbers (get_or fs i d).0 i)
numbered_more fs numbers i j d e l h within k f is =
    let g : Sym = get_or fs i d in
    let cut : drop i fs ≡ get_or fs i d ∷ drop j fs = subst (λ k. drop i fs ≡ get_or fs i d ∷ drop k fs) (sym e) (drop_more fs i d (omega arith)) in
    let is' : slice_get (get_or fs i d ∷ drop j fs) k ≡ Some f = subst (λ xs. slice_get xs k ≡ Some f) cut is in
    rw cut (numbered_at (get_or fs i d) f (drop j fs) numbers i (same_symbol (get_or fs i d) f) refl within (λ b. go k is' b))
  where
    go : (k : ℕ) → slice_get (get_or fs i d ∷ drop j fs) k ≡ Some f → same_symbol (get_or fs i d) f ≡ false → get_or numbers f.0 0 ≡ i + 1 + number_of (drop j fs) f
    go zero is b =
        let same : get_or fs i d ≡ f = cc in
        let yes : same_symbol f f ≡ true = eq-eqb f.0 f.0 refl in
        absurd (false≢true (sym (subst (λ x. same_symbol x f ≡ false) same b) ∙ yes))
    go (suc k) is b = subst (λ n. get_or numbers f.0 0 ≡ n + number_of (drop j fs) f) e (h k f is)
