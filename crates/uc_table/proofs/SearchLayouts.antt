-- Where the cells of symbols stand.
use Rattle.std.proofs.Common.{◌≡◌, ℕ, zero, suc, ◌+◌, ◌^◌, ◌≤◌, ◌<◌, List, [], ◌∷◌, ◌++◌, length, take, get_or, refl, ap, sym, ◌∙◌, arith, subst, Bool, true, false, add-one, inl, inr, if◌then◌else◌}
use Rattle.std.specs.Prelude.{slice_get, Some, None, Option, ◌⊎◌}
use Rattle.std.proofs.lemmas.Bool.{cases_order, eqb-true, eq-eqb, false≢true}
use Rattle.uc_term.specs.declared.node.Sym.{Sym}
use Rattle.uc_term.specs.Table.{Table as SymbolTable, arity_of}
use Rattle.uc_term.specs.Signatures.{same_symbol}
use Rattle.uc_table.specs.Tables.{cell_count, cells_for}
use Rattle.uc_table.specs.Evaluating.{number_of}
use Rattle.std.proofs.Common.{length-append}
use Rattle.std.proofs.Math.Nat.{pow-le-pow_right}
use Rattle.std.proofs.lemmas.Option.{slice_get_within}
use Rattle.uc_term.specs.declared.node.Node.{Node}
use Rattle.uc_clause.specs.declared.clause.Sourced.{Sourced}
use Rattle.uc_table.specs.declared.search_instances.Form.{Form}
use Rattle.uc_table.specs.Against.{node_variables, nodes_variables}
use Rattle.uc_table.specs.SearchForms.{IsFormOf, AreFormsOf}
use Rattle.uc_table.proofs.SearchSettling.{get_split}
use Rattle.uc_table.proofs.SearchFollowing.{get_before}
use Rattle.std.proofs.lemmas.Option.{get_or_from_slice_get, slice_get-get_or}
use Rattle.uc_table.specs.declared.search_layout.Layout.{Layout}
use Rattle.uc_table.specs.SearchForms.{IsLaidOut}
use Rattle.uc_table.specs.SearchCells.{first_cell, behind_some}

module _ (symbols : SymbolTable) (size : ℕ) where
  pub cells_step : (fs : List Sym) (i : ℕ) (d : Sym) → i < length fs → cells_for symbols size (take (i + 1) fs) ≡ cells_for symbols size (take i fs) + cell_count symbols size (get_or fs i d)
  cells_step [] i d l = absurd (omega arith)
  cells_step (f ∷ fs) zero d l = omega arith
  cells_step (f ∷ fs) (suc i) d l =
      let h : cells_for symbols size (take (i + 1) fs) ≡ cells_for symbols size (take i fs) + cell_count symbols size (get_or fs i d) = cells_step fs i d (omega arith) in
      let e : suc i + 1 ≡ suc (i + 1) = omega arith in
      rw e (omega arith)

  pub cells_part : (fs : List Sym) (i : ℕ) → cells_for symbols size (take i fs) ≤ cells_for symbols size fs
  cells_part fs zero = omega arith
  cells_part [] (suc i) = omega arith
  cells_part (f ∷ fs) (suc i) = let h : cells_for symbols size (take i fs) ≤ cells_for symbols size fs = cells_part fs i in omega arith

  -- the first cell of a symbol stands behind the cells of those before it
  pub first_at : (fs : List Sym) (f : Sym) (i : ℕ) → slice_get fs i ≡ Some f → first_cell symbols size fs f ≡ Some (cells_for symbols size (take (number_of fs f) fs))
  first_at [] f i e = cc
  first_at (g ∷ gs) f i e = go (same_symbol g f) refl i e (λ j. first_at gs f j)
    where
      go : (b : Bool) → same_symbol g f ≡ b → (i : ℕ) → slice_get (g ∷ gs) i ≡ Some f → ((j : ℕ) → slice_get gs j ≡ Some f → first_cell symbols size gs f ≡ Some (cells_for symbols size (take (number_of gs f) gs))) → (if b then Some 0 else behind_some (first_cell symbols size gs f) (λ k. Some (cell_count symbols size g + k))) ≡ Some (cells_for symbols size (take (if b then 0 else number_of gs f + 1) (g ∷ gs)))
      go true b i e h = refl
      go false b zero e h =
          let same : g ≡ f = cc in
          let yes : same_symbol f f ≡ true = eq-eqb f.0 f.0 refl in
          absurd (false≢true (sym (subst (λ x. same_symbol x f ≡ false) same b) ∙ yes))
      go false b (suc j) e h = rw (h j e, add-one) refl

  pub first_none : (fs : List Sym) (f : Sym) → ((i : ℕ) → slice_get fs i ≡ Some f → ⊥) → first_cell symbols size fs f ≡ None
  first_none [] f n = refl
  first_none (g ∷ gs) f n = go (same_symbol g f) refl (first_none gs f (λ i. n (suc i)))
    where
      same_sym : g.0 ≡ f.0 → g ≡ f
      same_sym e = ap (λ (n : ℕ). record { 0 = n }) e

      go : (b : Bool) → same_symbol g f ≡ b → first_cell symbols size gs f ≡ None → (if b then Some 0 else behind_some (first_cell symbols size gs f) (λ k. Some (cell_count symbols size g + k))) ≡ None
      go true b h = absurd (n zero (ap Some (same_sym (eqb-true g.0 f.0 b))))
      go false b h = rw h refl

  -- the cells of a symbol stand within all
  pub first_within : (fs : List Sym) (f : Sym) (k : ℕ) → first_cell symbols size fs f ≡ Some k → k + cell_count symbols size f ≤ cells_for symbols size fs
  first_within [] f k e = cc
  first_within (g ∷ gs) f k e = go (same_symbol g f) refl e (first_cell symbols size gs f) refl (first_within gs f)
    where
      same_count : g.0 ≡ f.0 → cell_count symbols size g ≡ cell_count symbols size f
      same_count e = ap (λ (n : ℕ). cell_count symbols size (record { 0 = n })) e

      go : (b : Bool) → same_symbol g f ≡ b → (if b then Some 0 else behind_some (first_cell symbols size gs f) (λ j. Some (cell_count symbols size g + j))) ≡ Some k → (o : Option ℕ) → first_cell symbols size gs f ≡ o → ((j : ℕ) → first_cell symbols size gs f ≡ Some j → j + cell_count symbols size f ≤ cells_for symbols size gs) → k + cell_count symbols size f ≤ cell_count symbols size g + cells_for symbols size gs
      go true b e o d h = let z : 0 ≡ k = cc in let c : cell_count symbols size g ≡ cell_count symbols size f = same_count (eqb-true g.0 f.0 b) in omega arith
      go false b e None d h = let z : None ≡ Some k = sym (ap (λ o. behind_some o (λ j. Some (cell_count symbols size g + j))) d) ∙ e in cc
      go false b e (Some j) d h =
          let z : Some (cell_count symbols size g + j) ≡ Some k = sym (ap (λ o. behind_some o (λ i. Some (cell_count symbols size g + i))) d) ∙ e in
          let y : cell_count symbols size g + j ≡ k = cc in
          let x : j + cell_count symbols size f ≤ cells_for symbols size gs = h j d in
          omega arith

-- one more place
pub firsts_more : (symbols : SymbolTable) (size : ℕ) (fs : List Sym) (n cells : ℕ) (old new : List ℕ) → new ≡ old ++ cells ∷ [] → length old ≡ n + 1 → cells ≡ cells_for symbols size (take (n + 1) fs) → ((i : ℕ) → i ≤ n → get_or old i 0 ≡ cells_for symbols size (take i fs)) → (i : ℕ) → i ≤ n + 1 → get_or new i 0 ≡ cells_for symbols size (take i fs)
firsts_more symbols size fs n cells old new e l c h i k = rw e (cases (cases_order i (n + 1)))
  where
    seam : (xs : List ℕ) (y : ℕ) → get_or (xs ++ y ∷ []) (length xs) 0 ≡ y
    seam [] y = refl
    seam (x ∷ xs) y = seam xs y

    left : (xs ys : List ℕ) (j : ℕ) → j < length xs → get_or (xs ++ ys) j 0 ≡ get_or xs j 0
    left [] ys j l = absurd (omega arith)
    left (x ∷ xs) ys zero l = refl
    left (x ∷ xs) ys (suc j) l = left xs ys j (omega arith)

    cases : (i ≡ n + 1) ⊎ ((i < n + 1) ⊎ (n + 1 < i)) → get_or (old ++ cells ∷ []) i 0 ≡ cells_for symbols size (take i fs)
    cases (inl z) = let m : i ≡ length old = z ∙ sym l in ap (λ j. get_or (old ++ cells ∷ []) j 0) m ∙ seam old cells ∙ c ∙ ap (λ j. cells_for symbols size (take j fs)) (sym z)
    cases (inr (inl z)) = left old (cells ∷ []) i (omega arith) ∙ h i (omega arith)
    cases (inr (inr z)) = absurd (omega arith)

-- the cells of one symbol more
pub next_cells : (symbols : SymbolTable) (size : ℕ) (fs : List Sym) (i a : ℕ) (d : Sym) → i < length fs → a ≡ arity_of symbols (get_or fs i d) → (cells_for symbols size (take (i + 1) fs) ≡ cells_for symbols size (take i fs) + size ^ a) × (cells_for symbols size (take i fs) + size ^ a ≤ cells_for symbols size fs)
next_cells symbols size fs i a d l e =
    let s : cells_for symbols size (take (i + 1) fs) ≡ cells_for symbols size (take i fs) + size ^ a = cells_step symbols size fs i d l ∙ ap (λ n. cells_for symbols size (take i fs) + size ^ n) (sym e) in
    let p : cells_for symbols size (take (i + 1) fs) ≤ cells_for symbols size fs = cells_part symbols size fs (i + 1) in
    (s, omega arith)

-- the number of a symbol that is there is its first place
pub number_at : (fs : List Sym) (f : Sym) (i : ℕ) → slice_get fs i ≡ Some f → (number_of fs f < length fs) × (slice_get fs (number_of fs f) ≡ Some f)
number_at [] f i e = cc
number_at (g ∷ gs) f i e = go (same_symbol g f) refl i e (λ j. number_at gs f j)
  where
    same_sym : g.0 ≡ f.0 → g ≡ f
    same_sym e = ap (λ (n : ℕ). record { 0 = n }) e

    go : (b : Bool) → same_symbol g f ≡ b → (i : ℕ) → slice_get (g ∷ gs) i ≡ Some f → ((j : ℕ) → slice_get gs j ≡ Some f → (number_of gs f < length gs) × (slice_get gs (number_of gs f) ≡ Some f)) → ((if b then 0 else number_of gs f + 1) < length (g ∷ gs)) × (slice_get (g ∷ gs) (if b then 0 else number_of gs f + 1) ≡ Some f)
    go true b i e h = (omega arith, ap Some (same_sym (eqb-true g.0 f.0 b)))
    go false b zero e h =
        let same : g ≡ f = cc in
        let yes : same_symbol f f ≡ true = eq-eqb f.0 f.0 refl in
        absurd (false≢true (sym (subst (λ x. same_symbol x f ≡ false) same b) ∙ yes))
    go false b (suc j) e h = let r = h j e in (let l : number_of gs f < length gs = r.0 in omega arith, rw add-one r.1)

module _ (symbols : SymbolTable) (signature : List Sym) (layout : Layout) (is : IsLaidOut symbols layout.size signature layout) (f : Sym) where
  pub beyond : length layout.numbers.items ≤ f.0 → None ≡ first_cell symbols layout.size signature f
  beyond l = sym (first_none symbols layout.size signature f (λ i e. (let h : f.0 < length symbols = is.has i f e in let n : length layout.numbers.items ≡ length symbols = is.long in absurd (omega arith))))

  pub no_number : (n : ℕ) → n ≡ get_or layout.numbers.items f.0 0 → length signature ≤ n → None ≡ first_cell symbols layout.size signature f
  no_number n e l = sym (first_none symbols layout.size signature f (λ i g. (let h : get_or layout.numbers.items f.0 0 ≡ number_of signature f = is.numbers i f g in let w : number_of signature f < length signature = (number_at signature f i g).0 in absurd (omega arith))))

  pub other_symbol : (n : ℕ) (d : Sym) → n ≡ get_or layout.numbers.items f.0 0 → ((get_or signature n d).0 ≡ f.0 → ⊥) → None ≡ first_cell symbols layout.size signature f
  other_symbol n d e o = sym (first_none symbols layout.size signature f (λ i g.
      (let m : n ≡ number_of signature f = e ∙ is.numbers i f g in
      let w : slice_get signature n ≡ Some f = subst (λ k. slice_get signature k ≡ Some f) (sym m) (number_at signature f i g).1 in
      absurd (o (ap (λ (x : Sym). x.0) (get_or_from_slice_get signature n f d w))))))

  pub this_symbol : (n : ℕ) (d : Sym) → n ≡ get_or layout.numbers.items f.0 0 → n < length signature → (get_or signature n d).0 ≡ f.0 → Some (get_or layout.firsts.items n 0) ≡ first_cell symbols layout.size signature f
  this_symbol n d e l o =
      let g : get_or signature n d ≡ f = ap (λ (k : ℕ). record { 0 = k }) o in
      let w : slice_get signature n ≡ Some f = slice_get-get_or signature n d l ∙ ap Some g in
      let m : n ≡ number_of signature f = e ∙ is.numbers n f w in
      let c : get_or layout.firsts.items n 0 ≡ cells_for symbols layout.size (take n signature) = is.firsts.each n (omega arith) in
      ap Some (c ∙ ap (λ k. cells_for symbols layout.size (take k signature)) m) ∙ sym (first_at symbols layout.size signature f n w)

-- a symbol that has a first cell is of the signature
pub first_some : (symbols : SymbolTable) (size : ℕ) (fs : List Sym) (f : Sym) (k : ℕ) → first_cell symbols size fs f ≡ Some k → (i : ℕ) × (slice_get fs i ≡ Some f)
first_some symbols size [] f k e = cc
first_some symbols size (g ∷ gs) f k e = go (same_symbol g f) refl e (first_cell symbols size gs f) refl (λ j. first_some symbols size gs f j)
  where
    same_sym : g.0 ≡ f.0 → g ≡ f
    same_sym e = ap (λ (n : ℕ). record { 0 = n }) e

    go : (b : Bool) → same_symbol g f ≡ b → (if b then Some 0 else behind_some (first_cell symbols size gs f) (λ j. Some (cell_count symbols size g + j))) ≡ Some k → (o : Option ℕ) → first_cell symbols size gs f ≡ o → ((j : ℕ) → first_cell symbols size gs f ≡ Some j → (i : ℕ) × (slice_get gs i ≡ Some f)) → (i : ℕ) × (slice_get (g ∷ gs) i ≡ Some f)
    go true b e o d h = (0, ap Some (same_sym (eqb-true g.0 f.0 b)))
    go false b e None d h = let z : None ≡ Some k = sym (ap (λ o. behind_some o (λ j. Some (cell_count symbols size g + j))) d) ∙ e in cc
    go false b e (Some j) d h = let r = h j d in (suc r.0, r.1)

pub part_variables : (ns : List Node) (i : ℕ) (d : Node) → i < length ns → node_variables (get_or ns i d) ≤ nodes_variables ns
part_variables [] i d l = absurd (omega arith)
part_variables (n ∷ ns) zero d l = omega arith
part_variables (n ∷ ns) (suc i) d l = let h : node_variables (get_or ns i d) ≤ nodes_variables ns = part_variables ns i d (omega arith) in omega arith

pub fewer_powers : (size m n most : ℕ) → 1 ≤ size → m ≤ n → size ^ n ≤ most → size ^ m ≤ most
fewer_powers size m n most s l h = let p : size ^ m ≤ size ^ n = pow-le-pow_right s l in omega arith

-- one clause more has its form
pub more_forms : (symbols : SymbolTable) (size : ℕ) (signature : List Sym) (clauses : List Sourced) (s : Sourced) (old new : List Form) (form : Form) → new ≡ old ++ form ∷ [] → AreFormsOf symbols size signature clauses old → IsFormOf symbols size signature s.clause form → AreFormsOf symbols size signature (clauses ++ s ∷ []) new
more_forms symbols size signature clauses s old new form e a h = record {
  as_many = (let n : length new ≡ length old + 1 = ap length e ∙ length-append old (form ∷ []) in let m : length (clauses ++ s ∷ []) ≡ length clauses + 1 = length-append clauses (s ∷ []) in let k : length old ≡ length clauses = a.as_many in omega arith);
  each = λ k t f g i. cases k t f (get_split clauses s k t g) (get_split old form k f (subst (λ z. slice_get z k ≡ Some f) e i)) g i;
}
  where
    cases : (k : ℕ) (t : Sourced) (f : Form) → (slice_get clauses k ≡ Some t) ⊎ (t ≡ s) → (slice_get old k ≡ Some f) ⊎ (f ≡ form) → slice_get (clauses ++ s ∷ []) k ≡ Some t → slice_get new k ≡ Some f → IsFormOf symbols size signature t.clause f
    cases k t f (inl x) (inl y) g i = a.each k t f x y
    cases k t f (inl x) (inr y) g i =
        let w : k < length clauses = slice_get_within clauses k t x in
        let n : length old ≡ length clauses = a.as_many in
        let o : slice_get old k ≡ Some f = get_before old (form ∷ []) k f (omega arith) (subst (λ z. slice_get z k ≡ Some f) e i) in
        a.each k t f x o
    cases k t f (inr x) (inl y) g i =
        let w : k < length old = slice_get_within old k f y in
        let n : length old ≡ length clauses = a.as_many in
        let o : slice_get clauses k ≡ Some t = get_before clauses (s ∷ []) k t (omega arith) g in
        a.each k t f o y
    cases k t f (inr x) (inr y) g i = subst (λ (u : Sourced). IsFormOf symbols size signature u.clause f) (sym x) (subst (IsFormOf symbols size signature s.clause) (sym y) h)
