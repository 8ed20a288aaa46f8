-- The constants of a conjecture are all different, and no clause has them before they take the place of variables.
use Rattle.std.proofs.Common.{◌≡◌, ℕ, zero, suc, ◌+◌, ◌*◌, ◌^◌, ◌<◌, ◌≤◌, ◌==◌, ◌||◌, Bool, true, false, List, [], ◌∷◌, ◌++◌, length, length-append, slice_get, bytes_eq, drop, unwrap_or, Option, Some, None, Result, Ok, if◌then◌else◌, refl, sym, ap, ◌∙◌, subst, arith, ◌⊎◌, inl, inr}
use Rattle.std.specs.List.{list_any}
use Rattle.std.specs.Option.{option_map}
use Rattle.std.specs.Cmp.Lexicographic.{bytes_decides}
use Rattle.std.proofs.lemmas.Bool.{eqb-true, or_parts}
use Rattle.std.proofs.lemmas.Fmt.{decimal_injective}
use Rattle.std.proofs.lemmas.List.Folds.{list_any-append}
use Rattle.std.proofs.lemmas.Option.{slice_get_within}
use Rattle.indexmap.proofs.IndexTableLemmas.Probe.{pigeonhole}
use Rattle.uc_term.specs.declared.node.Sym.{Sym}
use Rattle.uc_term.specs.declared.fault.TermFault.{TermFault}
use Rattle.uc_term.specs.Tree.{Tree, var, app, Trees, none, more, apply, apply_all}
use Rattle.uc_term.specs.Flat.{flat, flat_all}
use Rattle.uc_term.specs.Table.{Table, Entry, name_of, IsSymbol}
use Rattle.uc_term.specs.Signatures.{Occurrence, occurrences_in, occurrences_from, Gathers, all_seen, seen_before, is_new}
use Rattle.uc_term.proofs.Gathered.{occurrences_in-append}
use Rattle.uc_clause.specs.declared.token.Place.{Place}
use Rattle.uc_clause.specs.declared.clause.Clause.{Clause}
use Rattle.uc_fof.specs.Constants.{place_in, AreApart, constant_for, LacksThem, AllLackThem}
use Rattle.uc_problem.specs.declared.flat.FlatClause.{FlatClause}
use Rattle.uc_problem.specs.Conjecture.{flat_terms, constant_name, is_named, has_named, is_taken, AreNamed, no_constant, a_constant, closed_if, closed_all}
use Rattle.uc_problem.specs.Holds.{terms_of}
use Rattle.uc_problem.proofs.FreshMarks.{In, AllIn, parts_in}
use Rattle.uc_problem.proofs.Outcomes.{yes_or_no, some_once}

-- terms all of whose symbols are among these
module _ (fs : List Sym) where
  abbrev mutual
    pub HasOnly : Tree → Type 0
    HasOnly (var x) = Unit {0}
    HasOnly (app f ts) = In f fs × AllHaveOnly ts

    pub AllHaveOnly : Trees → Type 0
    AllHaveOnly none = Unit {0}
    AllHaveOnly (more t ts) = HasOnly t × AllHaveOnly ts

  abbrev pub HaveOnly : List Tree → Type 0
  HaveOnly [] = Unit {0}
  HaveOnly (t ∷ ts) = HasOnly t × HaveOnly ts

  mutual
    only_of : (t : Tree) (term from : ℕ) → AllIn fs (occurrences_in term from (flat t)) → HasOnly t
    only_of (var x) term from a = tt
    only_of (app f ts) term from a = (a.0, all_only_of ts term (from + 1) a.1)

    all_only_of : (ts : Trees) (term from : ℕ) → AllIn fs (occurrences_in term from (flat_all ts)) → AllHaveOnly ts
    all_only_of none term from a = tt
    all_only_of (more t ts) term from a =
        let r = parts_in fs (occurrences_in term from (flat t)) (occurrences_in term (from + length (flat t)) (flat_all ts)) (subst (AllIn fs) (occurrences_in-append term from (flat t) (flat_all ts)) a) in
        (only_of t term from r.0, all_only_of ts term (from + length (flat t)) r.1)

  -- an instance has the symbols of the term
  module _ (σ : ℕ → Tree) where
    mutual
      only_before : (t : Tree) → HasOnly (apply σ t) → HasOnly t
      only_before (var x) h = tt
      only_before (app f ts) h = (h.0, all_only_before ts h.1)

      all_only_before : (ts : Trees) → AllHaveOnly (apply_all σ ts) → AllHaveOnly ts
      all_only_before none h = tt
      all_only_before (more t ts) h = (only_before t h.0, all_only_before ts h.1)

  side_only : (cs : List Sym) (o : Option Place) (c : Clause) → HasOnly (closed_if cs o c).left → HasOnly (closed_if cs o c).right → HasOnly c.left × HasOnly c.right
  side_only cs None c l r = (l, r)
  side_only cs (Some place) c l r = (only_before (constant_for cs) c.left l, only_before (constant_for cs) c.right r)

  pub flats_only : (cs : List Sym) (flats : List FlatClause) (n : ℕ) → AllIn fs (occurrences_from n (terms_of (closed_all cs flats))) → HaveOnly (flat_terms flats)
  flats_only cs [] n a = tt
  flats_only cs (s ∷ ss) n a =
      let left = (closed_if cs s.conjecture s.clause).left in
      let right = (closed_if cs s.conjecture s.clause).right in
      let rest = terms_of (closed_all cs ss) in
      let l = parts_in fs (occurrences_in n 0 (flat left)) (occurrences_from (n + 1) (right ∷ rest)) a in
      let r = parts_in fs (occurrences_in (n + 1) 0 (flat right)) (occurrences_from (n + 1 + 1) rest) l.1 in
      let sides = side_only cs s.conjecture s.clause (only_of left n 0 l.0) (only_of right (n + 1) 0 r.0) in
      (sides.0, (sides.1, flats_only cs ss (n + 1 + 1) r.1))

-- no more symbols are gathered than a signature may have
pub gathered_few : {table : Table} {seen : List Sym} {os : List Occurrence} {r : Result (List Sym) TermFault} → Gathers table seen os r → (fs : List Sym) → r ≡ Ok fs → length seen ≤ 60000 → length fs ≤ 60000
gathered_few {seen = seen} all_seen fs e few = let same : seen ≡ fs = cc in subst (λ gs. length gs ≤ 60000) same few
gathered_few (seen_before k g) fs e few = gathered_few g fs e few
gathered_few {seen = seen} (is_new {o = o} n m g) fs e few = gathered_few g fs e (pushed_few seen m)
  where
    pushed_few : (gs : List Sym) → length gs < 60000 → length (gs ++ o.symbol ∷ []) ≤ 60000
    pushed_few gs h = omega (arith, h, length-append gs (o.symbol ∷ []))
gathered_few v fs e few = absurd cc

constant_name_injective : (m n : ℕ) → m < 2 ^ 64 → n < 2 ^ 64 → constant_name m ≡ constant_name n → m ≡ n
constant_name_injective m n p q e = decimal_injective m n p q (ap (drop 3) e)

bytes_same : (name : List ℕ) → bytes_eq name name ≡ true
bytes_same name = (bytes_decides name name).1 refl

-- where a symbol stands
record IsPlaced (cs : List Sym) (f : Sym) (number : ℕ) : Type 0 where
  symbol : Sym
  at : slice_get cs number ≡ Some symbol
  same : symbol.0 ≡ f.0

placed_at : (cs : List Sym) (f : Sym) (m : ℕ) → place_in cs f ≡ Some m → IsPlaced cs f m
placed_at [] f m e = absurd cc
placed_at (c ∷ cs) f m e = go (c.0 == f.0) refl e (placed_at cs f)
  where
    later : (o : Option ℕ) → place_in cs f ≡ o → option_map (λ n. suc n) o ≡ Some m → ((k : ℕ) → place_in cs f ≡ Some k → IsPlaced cs f k) → IsPlaced (c ∷ cs) f m
    later None p q rest = absurd cc
    later (Some k) p q rest = let r = rest k p in let same : suc k ≡ m = cc in subst (IsPlaced (c ∷ cs) f) same (record { symbol = r.symbol; at = r.at; same = r.same })

    go : (b : Bool) → (c.0 == f.0) ≡ b → (if b then Some 0 else option_map (λ n. suc n) (place_in cs f)) ≡ Some m → ((k : ℕ) → place_in cs f ≡ Some k → IsPlaced cs f k) → IsPlaced (c ∷ cs) f m
    go true p q rest = let same : 0 ≡ m = cc in subst (IsPlaced (c ∷ cs) f) same (record { symbol = c; at = refl; same = eqb-true c.0 f.0 p })
    go false p q rest = later (place_in cs f) refl q rest

module _ (table : Table) where
  -- the number of the first of these symbols that has this name
  abbrev seat : List ℕ → List Sym → ℕ
  seat name [] = 0
  seat name (f ∷ fs) = if bytes_eq (name_of table f) name then 0 else suc (seat name fs)

  -- a symbol of this name stands there
  record IsSeated (name : List ℕ) (fs : List Sym) (number : ℕ) : Type 0 where
    symbol : Sym
    at : slice_get fs number ≡ Some symbol
    named : name_of table symbol ≡ name

  seated : (name : List ℕ) (fs : List Sym) (i : ℕ) (f : Sym) → slice_get fs i ≡ Some f → name_of table f ≡ name → IsSeated name fs (seat name fs)
  seated name [] i f e q = absurd cc
  seated name (g ∷ gs) i f e q = go (bytes_eq (name_of table g) name) refl i e (λ j at. seated name gs j f at q)
    where
      go : (b : Bool) → bytes_eq (name_of table g) name ≡ b → (i : ℕ) → slice_get (g ∷ gs) i ≡ Some f → ((j : ℕ) → slice_get gs j ≡ Some f → IsSeated name gs (seat name gs)) → IsSeated name (g ∷ gs) (if b then 0 else suc (seat name gs))
      go true p i e rest = record { symbol = g; at = refl; named = (bytes_decides (name_of table g) name).0 p }
      go false p zero e rest =
          let same : g ≡ f = cc in
          let yes : bytes_eq (name_of table g) name ≡ true = (bytes_decides (name_of table g) name).1 (ap (name_of table) same ∙ q) in
          absurd (yes_or_no yes p)
      go false p (suc i) e rest = let s = rest i e in record { symbol = s.symbol; at = s.at; named = s.named }

  -- a name that a term has is that of one of its symbols
  module _ (fs : List Sym) (name : List ℕ) where
    record IsAmong : Type 0 where
      symbol : Sym
      among : In symbol fs
      named : name_of table symbol ≡ name

    mutual
      named_among : (t : Tree) → HasOnly fs t → list_any (is_named table name) (flat t) ≡ true → IsAmong
      named_among (var x) only e = absurd cc
      named_among (app f ts) only e = go (bytes_eq (name_of table f) name) refl e (all_named_among ts only.1)
        where
          go : (b : Bool) → bytes_eq (name_of table f) name ≡ b → (b || list_any (is_named table name) (flat_all ts)) ≡ true → (list_any (is_named table name) (flat_all ts) ≡ true → IsAmong) → IsAmong
          go true p e rest = record { symbol = f; among = only.0; named = (bytes_decides (name_of table f) name).0 p }
          go false p e rest = rest e

      all_named_among : (ts : Trees) → AllHaveOnly fs ts → list_any (is_named table name) (flat_all ts) ≡ true → IsAmong
      all_named_among none only e = absurd cc
      all_named_among (more t ts) only e = go (list_any (is_named table name) (flat t)) refl (sym (list_any-append (is_named table name) (flat t) (flat_all ts)) ∙ e) (named_among t only.0) (all_named_among ts only.1)
        where
          go : (b : Bool) → list_any (is_named table name) (flat t) ≡ b → (b || list_any (is_named table name) (flat_all ts)) ≡ true → (list_any (is_named table name) (flat t) ≡ true → IsAmong) → (list_any (is_named table name) (flat_all ts) ≡ true → IsAmong) → IsAmong
          go true p e first rest = first p
          go false p e first rest = rest e

    taken_among : (ts : List Tree) → HaveOnly fs ts → is_taken table ts name ≡ true → IsAmong
    taken_among [] only e = absurd cc
    taken_among (t ∷ ts) only e = go (has_named table name t) refl e (taken_among ts only.1)
      where
        go : (b : Bool) → has_named table name t ≡ b → (b || is_taken table ts name) ≡ true → (is_taken table ts name ≡ true → IsAmong) → IsAmong
        go true p e rest = named_among t only.0 p
        go false p e rest = rest e

  module _ (ts : List Tree) where
    -- names that are taken one after the other are no more than there are symbols
    module _ (fs : List Sym) (only : HaveOnly fs ts) (from n : ℕ) (taken : (k : ℕ) → from ≤ k → k < n → is_taken table ts (constant_name k) ≡ true) where
      abbrev seat_of : ℕ → ℕ
      seat_of i = seat (constant_name (from + i)) fs

      seated_at : (i : ℕ) → from + i < n → IsSeated (constant_name (from + i)) fs (seat_of i)
      seated_at i h = let a = taken_among fs (constant_name (from + i)) ts only (taken (from + i) (omega arith) h) in seated (constant_name (from + i)) fs a.among.0 a.symbol a.among.1 a.named

      seats_differ : (i j : ℕ) → from + i < n → from + j < n → from + i < 2 ^ 64 → from + j < 2 ^ 64 → seat_of i ≡ seat_of j → i ≡ j
      seats_differ i j p q v w e =
          let a = seated_at i p in
          let b = seated_at j q in
          let symbols : a.symbol ≡ b.symbol = some_once (subst (λ s. slice_get fs s ≡ Some a.symbol) e a.at) b.at in
          let names : constant_name (from + i) ≡ constant_name (from + j) = sym a.named ∙ ap (name_of table) symbols ∙ b.named in
          let numbers = constant_name_injective (from + i) (from + j) v w names in
          omega (arith, numbers)

      pub gap_small : length fs ≤ 60000 → from < 2 ^ 63 → n ≤ from + length fs
      gap_small few small = go (order n (from + length fs))
        where
          order : (a b : ℕ) → (a ≤ b) ⊎ (b < a)
          order a b = grind arith

          into : from + length fs < n → (i : ℕ) → i < length fs + 1 → seat_of i < length fs
          into h i l = let s = seated_at i (omega arith) in slice_get_within fs (seat_of i) s.symbol s.at

          one : from + length fs < n → (i j : ℕ) → i < length fs + 1 → j < length fs + 1 → seat_of i ≡ seat_of j → i ≡ j
          one h i j l m e = seats_differ i j (omega arith) (omega arith) (omega arith) (omega arith) e

          go : (n ≤ from + length fs) ⊎ (from + length fs < n) → n ≤ from + length fs
          go (inl h) = h
          go (inr h) = let many = pigeonhole (length fs + 1) (length fs) seat_of (into h) (one h) in absurd (omega (arith, many))

    -- a constant with the number of its name
    pub record IsNumbered (from : ℕ) (c : Sym) : Type 0 where
      pub number : ℕ
      pub later : from ≤ number
      pub small : number < 2 ^ 64
      pub symbol : IsSymbol table c (constant_name number) 0

    module _ (fs : List Sym) (only : HaveOnly fs ts) (few : length fs ≤ 60000) where
      numbered : {from : ℕ} {cs : List Sym} → AreNamed table ts from cs → from + length cs * 60001 < 2 ^ 63 → (i : ℕ) (c : Sym) → slice_get cs i ≡ Some c → IsNumbered from c
      numbered no_constant small i c e = absurd cc
      numbered {from} (a_constant {n = n} {c = d} l t f s rest) small zero c e =
          let same : d ≡ c = cc in
          let gap = gap_small fs only from n t few (omega arith) in
          record { number = n; later = l; small = omega (arith, gap); symbol = subst (λ x. IsSymbol table x (constant_name n) 0) same s }
      numbered {from} (a_constant {n = n} {cs = cs} l t f s rest) small (suc i) c e =
          let gap = gap_small fs only from n t few (omega arith) in
          let below : n + 1 + length cs * 60001 < 2 ^ 63 = omega (arith, gap) in
          let r = numbered rest below i c e in
          record { number = r.number; later = omega (arith, r.later); small = r.small; symbol = r.symbol }

      names_once : (c d : Sym) (m n : ℕ) → IsSymbol table c (constant_name m) 0 → IsSymbol table d (constant_name n) 0 → m < 2 ^ 64 → n < 2 ^ 64 → c.0 ≡ d.0 → m ≡ n
      names_once c d m n p q v w e =
          let entries = sym p ∙ ap (slice_get table) e ∙ q in
          constant_name_injective m n v w (ap (λ (o : Option Entry). (unwrap_or o (record { name = []; arity = 0 })).name) entries)

      pub apart : {from : ℕ} {cs : List Sym} → AreNamed table ts from cs → from + length cs * 60001 < 2 ^ 63 → AreApart cs
      apart no_constant small = tt
      apart {from} (a_constant {n = n} {c = c} {cs = cs} l t f s rest) small = (go (place_in cs c) refl, apart rest below)
        where
          gap : n ≤ from + length fs
          gap = gap_small fs only from n t few (omega (arith, small))

          below : n + 1 + length cs * 60001 < 2 ^ 63
          below = omega (arith, gap, small, few)

          go : (o : Option ℕ) → place_in cs c ≡ o → o ≡ None
          go None e = refl
          go (Some m) e =
              let p = placed_at cs c m e in
              let r = numbered rest below m p.symbol p.at in
              let later : n + 1 ≤ r.number = r.later in
              let same : n ≡ r.number = names_once c p.symbol n r.number s r.symbol (omega (arith, gap, small, few)) r.small (sym p.same) in
              absurd (omega (arith, later, same))

    -- a constant has no name of the terms
    named_free : {from : ℕ} {cs : List Sym} → AreNamed table ts from cs → (i : ℕ) (c : Sym) → slice_get cs i ≡ Some c → is_taken table ts (name_of table c) ≡ false
    named_free no_constant i c e = absurd cc
    named_free (a_constant {n = n} {c = d} l t f s rest) zero c e =
        let same : d ≡ c = cc in
        let named : name_of table d ≡ constant_name n = ap (λ (o : Option Entry). (unwrap_or o (record { name = []; arity = 0 })).name) s in
        subst (λ x. is_taken table ts (name_of table x) ≡ false) same (ap (is_taken table ts) named ∙ f)
    named_free (a_constant l t f s rest) (suc i) c e = named_free rest i c e

  -- terms without the names of these symbols don't have them
  module _ (cs : List Sym) where
    lacks_it : (f : Sym) → ((i : ℕ) (d : Sym) → slice_get cs i ≡ Some d → bytes_eq (name_of table f) (name_of table d) ≡ false) → place_in cs f ≡ None
    lacks_it f free = go (place_in cs f) refl
      where
        go : (o : Option ℕ) → place_in cs f ≡ o → o ≡ None
        go None e = refl
        go (Some m) e =
            let p = placed_at cs f m e in
            let same : p.symbol ≡ f = ap (λ (i : ℕ). let s : Sym = record { 0 = i } in s) p.same in
            let differs = subst (λ d. bytes_eq (name_of table f) (name_of table d) ≡ false) same (free m p.symbol p.at) in
            absurd (yes_or_no (bytes_same (name_of table f)) differs)

    mutual
      lacks : (t : Tree) → ((i : ℕ) (d : Sym) → slice_get cs i ≡ Some d → list_any (is_named table (name_of table d)) (flat t) ≡ false) → LacksThem cs t
      lacks (var x) free = tt
      lacks (app f ts) free = (
        lacks_it f (λ i d e. (or_parts (bytes_eq (name_of table f) (name_of table d)) (list_any (is_named table (name_of table d)) (flat_all ts)) (free i d e)).0),
        all_lack ts (λ i d e. (or_parts (bytes_eq (name_of table f) (name_of table d)) (list_any (is_named table (name_of table d)) (flat_all ts)) (free i d e)).1),
      )

      all_lack : (ts : Trees) → ((i : ℕ) (d : Sym) → slice_get cs i ≡ Some d → list_any (is_named table (name_of table d)) (flat_all ts) ≡ false) → AllLackThem cs ts
      all_lack none free = tt
      all_lack (more t ts) free =
          let parts = λ (i : ℕ) (d : Sym) (e : slice_get cs i ≡ Some d). or_parts (list_any (is_named table (name_of table d)) (flat t)) (list_any (is_named table (name_of table d)) (flat_all ts)) (sym (list_any-append (is_named table (name_of table d)) (flat t) (flat_all ts)) ∙ free i d e) in
          (lacks t (λ i d e. (parts i d e).0), all_lack ts (λ i d e. (parts i d e).1))

  none_taken : (ts : List Tree) (name : List ℕ) → is_taken table ts name ≡ false → (i : ℕ) (t : Tree) → slice_get ts i ≡ Some t → has_named table name t ≡ false
  none_taken [] name free i t e = absurd cc
  none_taken (u ∷ ts) name free zero t e = let same : u ≡ t = cc in subst (λ x. has_named table name x ≡ false) same (or_parts (has_named table name u) (is_taken table ts name) free).0
  none_taken (u ∷ ts) name free (suc i) t e = none_taken ts name (or_parts (has_named table name u) (is_taken table ts name) free).1 i t e

  pub terms_lack : (ts : List Tree) {from : ℕ} {cs : List Sym} → AreNamed table ts from cs → (i : ℕ) (t : Tree) → slice_get ts i ≡ Some t → LacksThem cs t
  terms_lack ts {cs = cs} named i t e = lacks cs t (λ j d at. none_taken ts (name_of table d) (named_free ts named j d at) i t e)
