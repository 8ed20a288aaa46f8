-- Which places the heads of a tree let a walk pass over.
use Rattle.std.proofs.Common.{ℕ, zero, suc, ◌≡◌, ◌+◌, ◌<◌, ◌≤◌, List, [], ◌∷◌, ◌++◌, take, drop, length, Some, refl, sym, ap, ◌∙◌, subst, arith, length-append, ◌⊎◌, inl, inr, get_or}
use Rattle.std.specs.Prelude.{slice_get}
use Rattle.std.proofs.lemmas.Option.{slice_get_within, slice_get-get_or}
use Rattle.uc_term.specs.declared.node.Node.{Node}
use Rattle.uc_term.specs.declared.node.Sym.{Sym}
use Rattle.uc_term.specs.declared.node.Node.TheVariants.{App, Var}
use Rattle.uc_term.specs.Flat.{tree_of, IsWhole}
use Rattle.uc_term.proofs.Gets.{get_pushed}
use Rattle.uc_term.proofs.Terms.{length-flat, nodes_pos}
use Rattle.uc_disc.specs.declared.place.Label.{Label}
use Rattle.uc_disc.specs.declared.place.Label.TheVariants.{Head as AHead, Leaf}
use Rattle.uc_disc.specs.declared.place.Place.{Place}
use Rattle.uc_disc.specs.declared.heads.Head.{Head}
use Rattle.uc_disc.specs.declared.heads.Part.{Part}
use Rattle.uc_disc.specs.Trail.{before, AreSupported, IsMark, AreMarks}
use Rattle.uc_disc.specs.Standing.{Stands, StandsAt, Fails, FailsAt}
use Rattle.uc_disc.specs.Heads.{IsRoot, BeginsWith, AreUnder, start_at, AreHeads, IsNext, IsUnder, found, not_found, AreParts}
use Rattle.uc_disc.proofs.Walks.{take-take-le, get-there, fails_head, fails_longer}
use Rattle.uc_disc.proofs.Preorder.{supported_at, front_below, fails_none, fails_both}

-- where parts begin
pub start_there : (heads : List Head) (k end : ℕ) (h : Head) → slice_get heads k ≡ Some h → start_at heads k end ≡ h.start
start_there [] k end h e = absurd cc
start_there (g ∷ heads) zero end h e = (let same : g ≡ h = cc in ap (λ (z : Head). z.start) same)
start_there (g ∷ heads) (suc k) end h e = start_there heads k end h e

pub start_past : (heads : List Head) (k end : ℕ) → length heads ≤ k → start_at heads k end ≡ end
start_past [] k end h = refl
start_past (g ∷ heads) zero end h = absurd (omega arith)
start_past (g ∷ heads) (suc k) end h = start_past heads k end (omega arith)

start_pushed : (heads : List Head) (x : Head) (k end : ℕ) → k ≤ length heads → start_at (heads ++ x ∷ []) k end ≡ start_at heads k x.start
start_pushed [] x zero end h = refl
start_pushed [] x (suc k) end h = absurd (omega arith)
start_pushed (g ∷ heads) x zero end h = refl
start_pushed (g ∷ heads) x (suc k) end h = start_pushed heads x k end (omega arith)

start_behind : (heads : List Head) (x : Head) (k end : ℕ) → length heads < k → start_at (heads ++ x ∷ []) k end ≡ end
start_behind heads x k end h = start_past (heads ++ x ∷ []) k end (omega (arith, length-append heads (x ∷ [])))

-- the root's branches
pub root_first : (ps : List Place) → AreSupported [] ps → IsRoot ps 0
root_first ps s p e = omega (arith, (supported_at [] ps 0 p s e).0)

pub root_end : (ps : List Place) → IsRoot ps (length ps)
root_end ps p e = absurd (omega (arith, slice_get_within ps (length ps) p e))

pub root_skip : (ps : List Place) (i : ℕ) (p : Place) (m : Place) → slice_get ps i ≡ Some p → IsMark ps i m → IsRoot ps i → IsRoot ps m.skip
root_skip ps i p m here mark root q e = omega (arith, mark.behind p q here e, root p here)

pub stands_root : (ns : List Node) (ps : List Place) (i : ℕ) (at : List ℕ) → Stands ns [] at → IsRoot ps i → StandsAt ns ps i at
stands_root ns ps i at st root p e = rw (root p e) st

begins : (xs : List Label) (s : Label) → take 1 xs ≡ s ∷ [] → xs ≡ s ∷ drop 1 xs
begins [] s e = absurd cc
begins (x ∷ xs) s e = ap (λ z. z ∷ xs) cc

under_branch : (ps : List Place) → AreSupported [] ps → (i f n : ℕ) (p : Place) (m : Place) → slice_get ps i ≡ Some p → IsMark ps i m → p.depth ≡ 0 → p.label ≡ AHead f n → AreUnder ps f i m.skip
under_branch ps supported i f n p m here mark root is j q r a b g leaf = go (let z : (j ≡ i) ⊎ (i < j) = grind arith in z)
  where
    other : (r : ℕ) → p.label ≡ Leaf r → ⊥
    other r e = cc

    go : (j ≡ i) ⊎ (i < j) → BeginsWith f (take q.depth (before ps j))
    go (inl same) = absurd (let g' : slice_get ps i ≡ Some q = subst (λ (z : ℕ). slice_get ps z ≡ Some q) same g in let one : q ≡ p = cc in other r (ap (λ (z : Place). z.label) (sym one) ∙ leaf))
    go (inr after) =
        let front : take (p.depth + 1) (before ps j) ≡ take p.depth (before ps i) ++ p.label ∷ [] = front_below ps supported [] [] i p here m mark j other after b in
        let first : take 1 (before ps j) ≡ AHead f n ∷ [] = subst (λ (z : ℕ). take (z + 1) (before ps j) ≡ take z (before ps i) ++ AHead f n ∷ []) root (subst (λ (z : Label). take (p.depth + 1) (before ps j) ≡ take p.depth (before ps i) ++ z ∷ []) is front) in
        let deep : 0 < q.depth = omega (arith, mark.below j p q here after b g) in
        record { arity = n; rest = drop 1 (take q.depth (before ps j)); is = begins (take q.depth (before ps j)) (AHead f n) (take-take-le 1 q.depth (before ps j) (omega arith) ∙ first) }

-- no heads, and one more
pub no_heads : (ps : List Place) (end : ℕ) → end ≤ length ps → IsRoot ps end → AreHeads ps [] end
no_heads ps end h root = record { rising = λ i j g k l e f. absurd cc; within = λ k. h; roots = λ k. root; under = λ k g e. absurd cc }

pub no_head : (ps : List Place) → AreHeads ps [] (length ps)
no_head ps = no_heads ps (length ps) (omega arith) (root_end ps)

pub more_heads : (ps : List Place) → AreSupported [] ps → (heads : List Head) (i f n : ℕ) (p : Place) (m : Place) → AreHeads ps heads i → slice_get ps i ≡ Some p → IsMark ps i m → p.label ≡ AHead f n → ((k : ℕ) (h : Head) → slice_get heads k ≡ Some h → h.symbol < f) → AreHeads ps (heads ++ record { symbol = f; start = i } ∷ []) m.skip
more_heads ps supported heads i f n p m old here mark is above = record {
  rising = λ a b g h l e k. rising a b g h l (get_pushed heads x a g e) (get_pushed heads x b h k);
  within = λ k. within k (side k);
  roots = λ k. roots k (side k);
  under = λ k h e. under k h (get_pushed heads x k h e);
}
  where
    x : Head
    x = record { symbol = f; start = i }

    end : start_at heads (length heads) i ≡ i
    end = start_past heads (length heads) i (omega arith)

    root : IsRoot ps i
    root = subst (IsRoot ps) end (old.roots (length heads))

    side : (k : ℕ) → (k ≤ length heads) ⊎ (length heads < k)
    side k = grind arith

    rising : (a b : ℕ) (g h : Head) → a < b → (slice_get heads a ≡ Some g) ⊎ ((a ≡ length heads) × (g ≡ x)) → (slice_get heads b ≡ Some h) ⊎ ((b ≡ length heads) × (h ≡ x)) → g.symbol < h.symbol
    rising a b g h l (inl e) (inl k) = old.rising a b g h l e k
    rising a b g h l (inl e) (inr k) = omega (arith, above a g e, ap (λ (z : Head). z.symbol) k.1)
    rising a b g h l (inr e) (inl k) = absurd (omega (arith, slice_get_within heads b h k, e.0))
    rising a b g h l (inr e) (inr k) = absurd (omega (arith, e.0, k.0))

    within : (k : ℕ) → (k ≤ length heads) ⊎ (length heads < k) → start_at (heads ++ x ∷ []) k m.skip ≤ length ps
    within k (inl l) = omega (arith, start_pushed heads x k m.skip l, old.within k)
    within k (inr l) = omega (arith, start_behind heads x k m.skip l, mark.within)

    roots : (k : ℕ) → (k ≤ length heads) ⊎ (length heads < k) → IsRoot ps (start_at (heads ++ x ∷ []) k m.skip)
    roots k (inl l) = subst (IsRoot ps) (sym (start_pushed heads x k m.skip l)) (old.roots k)
    roots k (inr l) = subst (IsRoot ps) (sym (start_behind heads x k m.skip l)) (root_skip ps i p m here mark root)

    under : (k : ℕ) (h : Head) → (slice_get heads k ≡ Some h) ⊎ ((k ≡ length heads) × (h ≡ x)) → AreUnder ps h.symbol (start_at (heads ++ x ∷ []) k m.skip) (start_at (heads ++ x ∷ []) (k + 1) m.skip)
    under k h (inl e) = let l = slice_get_within heads k h e in rw (start_pushed heads x k m.skip (omega arith), start_pushed heads x (k + 1) m.skip (omega arith)) (old.under k h e)
    under k h (inr e) = rw (e.1, e.0, start_pushed heads x (length heads) m.skip (omega arith), start_behind heads x (length heads + 1) m.skip (omega arith), end) (under_branch ps supported i f n p m here mark (root p here) is)

pub heads_end : (ps : List Place) (heads : List Head) (i : ℕ) → AreHeads ps heads i → length ps ≤ i → AreHeads ps heads (length ps)
heads_end ps heads i t h = (let same : i ≡ length ps = omega (arith, t.within (length heads), start_past heads (length heads) i (omega arith)) in subst (AreHeads ps heads) same t)

-- from one branch to the next one
module _ (ps : List Place) (supported : AreSupported [] ps) (marks : AreMarks ps) (i : ℕ) (h : i < length ps) (d : Place) where
  here : slice_get ps i ≡ Some (get_or ps i d)
  here = slice_get-get_or ps i d h

  mark : IsMark ps i (get_or ps i d)
  mark = marks i (get_or ps i d) here

  pub skip_ahead : (i < (get_or ps i d).skip) × ((get_or ps i d).skip ≤ length ps)
  skip_ahead = (mark.ahead, mark.within)

  pub next_root : IsRoot ps i → IsRoot ps (get_or ps i d).skip
  next_root root = root_skip ps i (get_or ps i d) (get_or ps i d) here mark root

  pub next_heads : (heads slice new : List Head) (f : ℕ) → AreHeads ps heads i → slice ≡ heads → IsNext slice (get_or ps i d).label f → new ≡ heads ++ record { symbol = f; start = i } ∷ [] → AreHeads ps new (get_or ps i d).skip
  next_heads heads slice new f t e n g = rw g (more_heads ps supported heads i f n.arity (get_or ps i d) (get_or ps i d) t here mark n.is (λ k x k'. n.above k x (subst (λ (z : List Head). slice_get z k ≡ Some x) (sym e) k')))

-- another symbol
pub other_symbol : (f : Sym) (n g : ℕ) → (g ≡ f.0 → ⊥) → (a : ℕ) → App f n ≡ App (record { 0 = g }) a → ⊥
other_symbol f n g other a e = (let same : f ≡ record { 0 = g } = cc in other (ap (λ (z : Sym). z.0) (sym same)))

-- what fails by its first symbol
module _ (ns : List Node) (w : IsWhole ns) (ps : List Place) (heads : List Head) (table : AreHeads ps heads (length ps)) (first : Node) (is : slice_get ns 0 ≡ Some first) where
  -- the term begins with another symbol
  abbrev pub IsOther : ℕ → Type 0
  IsOther f = (a : ℕ) → first ≡ App (record { 0 = f }) a → ⊥

  fails_under : (f : ℕ) (path : List Label) → IsOther f → BeginsWith f path → Fails ns path
  fails_under f path other b =
      let st : Stands ns [] (0 ∷ []) = record { starts = refl; moves = λ m s e. absurd cc } in
      fails_longer ns (AHead f b.arity ∷ []) path (fails_head ns w [] (0 ∷ []) st f b.arity first is (other b.arity)) (rw b.is refl) (rw b.is (omega arith))

  fails_part : (k bound : ℕ) → ((h : Head) → slice_get heads k ≡ Some h → IsOther h.symbol) → FailsAt ns ps (start_at heads k (length ps)) (start_at heads (k + 1) (length ps)) bound
  fails_part k bound other = go (let z : (k < length heads) ⊎ (length heads ≤ k) = grind arith in z)
    where
      go : (k < length heads) ⊎ (length heads ≤ k) → FailsAt ns ps (start_at heads k (length ps)) (start_at heads (k + 1) (length ps)) bound
      go (inl l) = let h = get-there heads k l in λ j p r a b g leaf v. fails_under h.0.symbol (take p.depth (before ps j)) (other h.0 h.1) (table.under k h.0 h.1 j p r a b g leaf)
      go (inr l) = rw (start_past heads k (length ps) l, start_past heads (k + 1) (length ps) (omega arith)) (fails_none ns ps (length ps) bound)

  fails_parts : (k n l bound : ℕ) → l ≡ k + n → ((j : ℕ) (h : Head) → k ≤ j → j < l → slice_get heads j ≡ Some h → IsOther h.symbol) → FailsAt ns ps (start_at heads k (length ps)) (start_at heads l (length ps)) bound
  fails_parts k zero l bound e other = (let same : l ≡ k = omega arith in rw same (fails_none ns ps (start_at heads k (length ps)) bound))
  fails_parts k (suc n) l bound e other =
      let last : l ≡ k + n + 1 = omega arith in
      rw last (fails_both ns ps (start_at heads k (length ps)) (start_at heads (k + n) (length ps)) (start_at heads (k + n + 1) (length ps)) bound (fails_parts k n (k + n) bound refl (λ j h a b g. other j h a (omega arith) g)) (fails_part (k + n) bound (λ h g. other (k + n) h (omega arith) (omega arith) g)))

  abbrev end : ℕ
  end = length ps

  parts_none : (part : Part) → part.start ≡ end → part.stop ≡ end → ((j : ℕ) (h : Head) → slice_get heads j ≡ Some h → IsOther h.symbol) → AreParts ns ps (record { first = start_at heads 0 end; second = part })
  parts_none part e f other = record {
    first_within = table.within 0;
    start_within = omega (arith, e);
    stop_within = omega (arith, f);
    root = subst (IsRoot ps) (sym e) (root_end ps);
    between = λ bound. subst (λ (z : ℕ). FailsAt ns ps (start_at heads 0 end) z bound) (start_past heads (length heads) end (omega arith) ∙ sym e) (fails_parts 0 (length heads) (length heads) bound (omega arith) (λ j h a b g. other j h g));
    behind = λ bound. subst (λ (z : ℕ). FailsAt ns ps z end bound) (sym f) (fails_none ns ps end bound);
  }

  parts_some : (part : Part) (k : ℕ) → part.start ≡ start_at heads k end → part.stop ≡ start_at heads (k + 1) end → ((j : ℕ) (h : Head) → slice_get heads j ≡ Some h → (j ≡ k → ⊥) → IsOther h.symbol) → AreParts ns ps (record { first = start_at heads 0 end; second = part })
  parts_some part k e f other = record {
    first_within = table.within 0;
    start_within = omega (arith, e, table.within k);
    stop_within = omega (arith, f, table.within (k + 1));
    root = subst (IsRoot ps) (sym e) (table.roots k);
    between = λ bound. subst (λ (z : ℕ). FailsAt ns ps (start_at heads 0 end) z bound) (sym e) (fails_parts 0 k k bound (omega arith) (λ j h a b g. other j h g (λ z. omega arith)));
    behind = λ bound. subst (λ (z : ℕ). FailsAt ns ps z end bound) (sym f) (subst (λ (z : ℕ). FailsAt ns ps (start_at heads (k + 1) end) z bound) (start_past heads (k + 1 + length heads) end (omega arith)) (fails_parts (k + 1) (length heads) (k + 1 + length heads) bound refl (λ j h a b g. other j h g (λ z. omega arith))));
  }

  -- the parts of a term that begins with a symbol, and of a variable
  pub parts_app : (f : Sym) (n : ℕ) (part : Part) → first ≡ App f n → IsUnder heads f.0 end part → AreParts ns ps (record { first = start_at heads 0 end; second = part })
  parts_app f n part e (found k s i j) = parts_some part k i j (λ l h g other a q. other_symbol f n h.symbol (λ z. other (s.1 l h g z)) a (sym e ∙ q))
  parts_app f n part e (not_found s i j) = parts_none part i j (λ l h g a q. other_symbol f n h.symbol (s l h g) a (sym e ∙ q))

  pub parts_var : (x : ℕ) → first ≡ Var x → AreParts ns ps (record { first = start_at heads 0 end; second = record { start = end; stop = end } })
  parts_var x e = parts_none (record { start = length ps; stop = length ps }) refl refl (λ l h g a q. cc)

-- a term has a first node
pub some_node : (ns : List Node) → IsWhole ns → 0 < length ns
some_node ns w = omega (arith, ap length w, length-flat (tree_of ns), nodes_pos (tree_of ns))
