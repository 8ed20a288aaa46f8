-- An order that is restricted to some of its symbols says of ground terms over these what the whole order says.
use Rattle.std.proofs.Common.{◌≡◌, ◌↔◌, ℕ, ◌<◌, ◌==◌, ◌&&◌, Bool, true, false, cond, List, [], ◌∷◌, filter, refl, sym, ap, ◌∙◌, subst, ◌⊎◌, inl, inr, if◌then◌else◌}
use Rattle.std.proofs.lemmas.Bool.{eqb-true, eq-eqb}
use Rattle.uc_term.specs.declared.node.Sym.{Sym}
use Rattle.uc_term.specs.Table.{Table, arity_of}
use Rattle.uc_term.specs.Tree.{Tree}
use Rattle.uc_order.specs.Members.{In, in_front, in_rest}
use Rattle.uc_order.proofs.Counts.{same_sym}
use Rattle.uc_order.specs.Laws.{HasSym, IsGroundOf}
use Rattle.uc_order.specs.declared.spec.OrderSpec.{OrderSpec}
use Rattle.uc_order.specs.declared.spec.OrderSpec.TheVariants.{Kbo, Lpo}
use Rattle.uc_kbo.specs.declared.weights.Weighed.{Weighed}
use Rattle.uc_kbo.specs.Faults.{weighed}
use Rattle.uc_kbo.specs.Kbo.{is_it, None}
use Rattle.uc_kbo.specs.Weights.{symbols_of, is_entry, arity_in, weighing, kbo_meaning}
use Rattle.uc_lpo.specs.PathOrder.{Nothing}
use Rattle.uc_lpo.specs.Ranks.{rank_in}
use Rattle.uc_ordering.specs.Meaning.{meaning_of}
use Rattle.uc_ordering.specs.Restricting.{is_one_of, weights_beside, restricted}
use Rattle.uc_ordering.proofs.AlikeOnGround.{kbo_alike, path_alike}
use Rattle.uc_ordering.proofs.Lists.{filter-In}
use Rattle.uc_ordering.proofs.KeptRanks.{HasEntry, kept_entries, weight_kept, places_alike, ranks_alike}

-- ENTRIES

module _ (keep : Sym → Bool) where
  entry_symbol : (e : Weighed) (f : Sym) (n : ℕ) → is_entry e f n ≡ true → e.symbol ≡ f
  entry_symbol e f n t = go (e.symbol.0 == f.0) refl t
    where
      go : (b : Bool) → (e.symbol.0 == f.0) ≡ b → (b && (e.arity == n)) ≡ true → e.symbol ≡ f
      go true q k = same_sym e.symbol f (eqb-true e.symbol.0 f.0 q)
      go false q k = absurd cc

  kept_entry : (f : Sym) (n : ℕ) → keep f ≡ true → (e : Weighed) → is_entry e f n ≡ true → keep e.symbol ≡ true
  kept_entry f n k e t = ap keep (entry_symbol e f n t) ∙ k

  entry_of : (es : List Weighed) (f : Sym) → In (symbols_of es) f → HasEntry es f (arity_in es f)
  entry_of [] f i = elim i [ ]
  entry_of (e ∷ es) f i = go (e.symbol.0 == f.0) refl i (entry_of es f)
    where
      later_in : {g : Sym} {gs : List Sym} → In (g ∷ gs) f → (g.0 == f.0) ≡ false → In gs f
      later_in {g} in_front q = absurd (let t = eq-eqb f.0 f.0 refl in let bad : true ≡ false = sym t ∙ q in cc)
      later_in (in_rest j) q = j

      go : (b : Bool) → (e.symbol.0 == f.0) ≡ b → In (e.symbol ∷ symbols_of es) f → (In (symbols_of es) f → HasEntry es f (arity_in es f)) → ((b && (e.arity == (if b then e.arity else arity_in es f))) ≡ true) ⊎ HasEntry es f (if b then e.arity else arity_in es f)
      go true q j later = inl (eq-eqb e.arity e.arity refl)
      go false q j later = inr (later (later_in j q))

  entry_from : (es : List Weighed) (f : Sym) (n : ℕ) → HasEntry (kept_entries keep es) f n → HasEntry es f n
  entry_from [] f n h = absurd h
  entry_from (e ∷ es) f n h = go (keep e.symbol) h (entry_from es f n)
    where
      go : (b : Bool) → HasEntry (cond b (e ∷ kept_entries keep es) (kept_entries keep es)) f n → (HasEntry (kept_entries keep es) f n → HasEntry es f n) → HasEntry (e ∷ es) f n
      go true (inl t) later = inl t
      go true (inr i) later = inr (later i)
      go false i later = inr (later i)

  kept_symbols : (es : List Weighed) → symbols_of (kept_entries keep es) ≡ filter keep (symbols_of es)
  kept_symbols [] = refl
  kept_symbols (e ∷ es) = go (keep e.symbol) (kept_symbols es)
    where
      go : (b : Bool) → symbols_of (kept_entries keep es) ≡ filter keep (symbols_of es) → symbols_of (cond b (e ∷ kept_entries keep es) (kept_entries keep es)) ≡ cond b (e.symbol ∷ filter keep (symbols_of es)) (filter keep (symbols_of es))
      go true later = ap (λ l. e.symbol ∷ l) later
      go false later = later

  -- what the whole order says of ground terms over the kept symbols, the order of these says, and the other way round
  module _ (w0 : ℕ) (es : List Weighed) where
    abbrev kept : List Weighed
    kept = kept_entries keep es

    abbrev has : Sym → Type 0
    has = In (symbols_of kept)

    abbrev arity : Sym → ℕ
    arity = arity_in kept

    is_kept : (f : Sym) → has f → keep f ≡ true
    is_kept f h = (filter-In keep (symbols_of es) f (subst (λ (fs : List Sym). In fs f) (kept_symbols es) h)).1

    entry : (f : Sym) → has f → HasEntry es f (arity f)
    entry f h = entry_from es f (arity f) (entry_of kept f h)

    same_weight : (f : Sym) → has f → (weighing w0 es).weight_of f (arity f) ≡ (weighing w0 kept).weight_of f (arity f)
    same_weight f h = weight_kept keep w0 f (arity f) (kept_entry f (arity f) (is_kept f h)) es

    alike_places : (f g : Sym) → has f → has g → ((weighing w0 es).rank g (arity g) < (weighing w0 es).rank f (arity f) → (weighing w0 kept).rank g (arity g) < (weighing w0 kept).rank f (arity f)) × ((weighing w0 kept).rank g (arity g) < (weighing w0 kept).rank f (arity f) → (weighing w0 es).rank g (arity g) < (weighing w0 es).rank f (arity f))
    alike_places f g h i = places_alike keep f g (arity f) (arity g) (kept_entry f (arity f) (is_kept f h)) (kept_entry g (arity g) (is_kept g i)) es 1 1 (entry f h) (entry g i)

-- DESCRIPTIONS

weighed_none : (table : Table) (fs : List Sym) → weighed table fs [] ≡ []
weighed_none table [] = refl
weighed_none table (f ∷ fs) = refl

kept_weighed : (table : Table) (own fs : List Sym) (ws : List ℕ) → weighed table (filter (is_one_of own) fs) (weights_beside own fs ws) ≡ kept_entries (is_one_of own) (weighed table fs ws)
kept_weighed table own [] ws = refl
kept_weighed table own (f ∷ fs) [] = weighed_none table (filter (is_one_of own) (f ∷ fs))
kept_weighed table own (f ∷ fs) (w ∷ ws) = go (is_one_of own f) (kept_weighed table own fs ws)
  where
    go : (b : Bool) → weighed table (filter (is_one_of own) fs) (weights_beside own fs ws) ≡ kept_entries (is_one_of own) (weighed table fs ws) → weighed table (cond b (f ∷ filter (is_one_of own) fs) (filter (is_one_of own) fs)) (if b then w ∷ weights_beside own fs ws else weights_beside own fs ws) ≡ cond b (record { symbol = f; arity = arity_of table f; weight = w } ∷ kept_entries (is_one_of own) (weighed table fs ws)) (kept_entries (is_one_of own) (weighed table fs ws))
    go true later = ap (λ l. record { symbol = f; arity = arity_of table f; weight = w } ∷ l) later
    go false later = later

module _ (table : Table) (own : List Sym) where
  kbo_agrees : (w0 : ℕ) (es ds : List Weighed) → ds ≡ kept_entries (is_one_of own) es → (s t : Tree) → IsGroundOf (kbo_meaning w0 ds) s → IsGroundOf (kbo_meaning w0 ds) t → (kbo_meaning w0 es).greater s t ↔ (kbo_meaning w0 ds).greater s t
  kbo_agrees w0 es ds e s t gs gt =
      let keep = is_one_of own in
      let ks = subst (λ (l : List Weighed). IsGroundOf (kbo_meaning w0 l) s) e gs in
      let kt = subst (λ (l : List Weighed). IsGroundOf (kbo_meaning w0 l) t) e gt in
      let kept = kept_entries keep es in
      let weights = same_weight keep w0 es in
      let places = alike_places keep w0 es in
      subst (λ (l : List Weighed). (kbo_meaning w0 es).greater s t ↔ (kbo_meaning w0 l).greater s t) (sym e) (
        (λ g. kbo_alike (In (symbols_of kept)) (arity_in kept) (weighing w0 es) (weighing w0 kept) weights (λ f h i j. (places f h i j).0) is_it None ks kt g),
        (λ g. kbo_alike (In (symbols_of kept)) (arity_in kept) (weighing w0 kept) (weighing w0 es) (λ f i. sym (weights f i)) (λ f h i j. (places f h i j).1) is_it None ks kt g),
      )

  pub restricted_agrees : (spec : OrderSpec) (s t : Tree) → IsGroundOf (meaning_of table (restricted own spec)) s → IsGroundOf (meaning_of table (restricted own spec)) t → (meaning_of table spec).greater s t ↔ (meaning_of table (restricted own spec)).greater s t
  restricted_agrees (Kbo w0 ws fs) s t gs gt = kbo_agrees w0 (weighed table fs ws) (weighed table (filter (is_one_of own) fs) (weights_beside own fs ws)) (kept_weighed table own fs ws) s t gs gt
  restricted_agrees (Lpo fs) s t gs gt =
      let keep = is_one_of own in
      let kept = filter keep fs in
      let m = meaning_of table (Lpo kept) in
      let ranks : (f g : Sym) → In kept f → In kept g → (rank_in fs g < rank_in fs f → rank_in kept g < rank_in kept f) × (rank_in kept g < rank_in kept f → rank_in fs g < rank_in fs f) = λ f g i j. (let p = filter-In keep fs f i in let q = filter-In keep fs g j in ranks_alike keep fs f g p.1 q.1 p.0 q.0) in (
        (λ g. path_alike (HasSym m) m.arity (rank_in fs) (rank_in kept) Nothing (λ f h i j. (ranks f h i j).0) gs gt g),
        (λ g. path_alike (HasSym m) m.arity (rank_in kept) (rank_in fs) Nothing (λ f h i j. (ranks f h i j).1) gs gt g),
      )
