-- Files and items come to one thing, where a text does and no fetch fails.
use Rattle.std.proofs.Common.{◌≡◌, ℕ, List, Option, Some, None, Result, Ok, Err, refl, sym, ap, subst}
use Rattle.uc_edge.specs.Files.{Files}
use Rattle.uc_clause.specs.declared.token.Place.{Place}
use Rattle.uc_clause.specs.declared.clause.Name.{Name}
use Rattle.uc_clause.specs.declared.fault.ClauseFault.{ClauseFault}
use Rattle.uc_fof.specs.declared.item.FofItem.{FofItem}
use Rattle.uc_problem.specs.declared.fault.LoadFault.{LoadFault}
use Rattle.uc_problem.specs.declared.fault.LoadFault.TheVariants.{Clause}
use Rattle.uc_problem.specs.declared.counts.Counts.{Counts}
use Rattle.uc_problem.specs.declared.flat.FlatClause.{FlatClause}
use Rattle.uc_problem.specs.Loading.{Loaded, LoadsFile, LoadsItems, LoadsProblem, reads, refused, no_item, before, all_before, first_held, place_if, selected, no_fetch, no_problem, loads}
use Rattle.uc_problem.specs.Loading as loading
use Rattle.uc_problem.proofs.Outcomes.{less_or_not, some_once, some_or_none, ok_once, err_once, ok_or_err, is_err_once, is_ok_once, is_ok_or_err, first_once, second_once}

pub given_once : {a b : List FlatClause} {m n : Counts} → Path Loaded (Ok (a, m)) (Ok (b, n)) → (a ≡ b) × (m ≡ n)
given_once e = let both = ok_once e in (first_once both, second_once both)

found_once : {o : Option (List ℕ × List ℕ)} {a b c d : List ℕ} → o ≡ Some (a, b) → o ≡ Some (c, d) → (c ≡ a) × (d ≡ b)
found_once e f = let both = some_once f e in (first_once both, second_once both)

-- where no fetch fails, none fails at a name
none_fails : {name : List ℕ} → Path (Option (List ℕ)) None (Some name) → ⊥
none_fails e = absurd cc

module _ (Reads : List ℕ → Result (List FofItem) ClauseFault → Type 0) (reads_once : (bytes : List ℕ) (a b : Result (List FofItem) ClauseFault) → Reads bytes a → Reads bytes b → a ≡ b) (files : Files) (folder : List ℕ) (root : Option (List ℕ)) where
  abbrev File : ℕ → List ℕ → List ℕ → Counts → Loaded → Type 0
  File = LoadsFile Reads files None folder root

  abbrev Items : ℕ → List ℕ → Counts → List FofItem → Loaded → Type 0
  Items = LoadsItems Reads files None folder root

  -- an included file is one
  moved : {o : Option (List ℕ × List ℕ)} {depth : ℕ} {counts : Counts} {found bytes other others : List ℕ} {loaded : Loaded} → o ≡ Some (found, bytes) → o ≡ Some (other, others) → File depth other others counts loaded → File depth found bytes counts loaded
  moved {depth = depth} {counts = counts} {found = found} {others = others} {loaded = loaded} e f x =
      let same = found_once e f in
      subst (λ b. File depth found b counts loaded) same.1 (subst (λ n. File depth n others counts loaded) same.0 x)

  -- what is given of an included file is one
  chosen : (name : List ℕ) (names : Option (List (Name × Place))) {a b : List FlatClause} {r : Result (List FlatClause) LoadFault} → a ≡ b → selected name names b ≡ r → selected name names a ≡ r
  chosen name names {r = r} e f = subst (λ g. selected name names g ≡ r) (sym e) f

  mutual
    pub file_once : {depth : ℕ} {name bytes : List ℕ} {counts : Counts} {a b : Loaded} → File depth name bytes counts a → File depth name bytes counts b → a ≡ b
    file_once {depth} {name} {bytes} {counts} {b = b} (reads {items = is} r l) (reads {items = js} s m) = items_once l (subst (λ ks. Items depth name counts ks b) (ok_once (reads_once bytes (Ok js) (Ok is) s r)) m)
    file_once {bytes = bytes} (reads {items = is} r l) (refused {why = why} s) = absurd (ok_or_err (reads_once bytes (Ok is) (Err why) r s))
    file_once {bytes = bytes} (refused {why = why} r) (reads {items = js} s m) = absurd (ok_or_err (reads_once bytes (Ok js) (Err why) s r))
    file_once {name = name} {bytes = bytes} (refused {why = why} r) (refused {why = other} s) = ap (λ w. Err (Clause name w)) (err_once (reads_once bytes (Err why) (Err other) r s))

    pub items_once : {depth : ℕ} {name : List ℕ} {counts : Counts} {items : List FofItem} {a b : Loaded} → Items depth name counts items a → Items depth name counts items b → a ≡ b
    items_once no_item no_item = refl
    items_once {name = name} (loading.clause {c = c} h l) (loading.clause k m) = ap (before (record { file = name; clause = c; conjecture = None })) (items_once l m)
    items_once (loading.clause h l) (loading.too_many_clauses k) = absurd (less_or_not h k)
    items_once (loading.too_many_clauses k) (loading.clause h l) = absurd (less_or_not h k)
    items_once (loading.too_many_clauses h) (loading.too_many_clauses k) = refl
    items_once {name = name} (loading.formula {c = c} {conjecture = conjecture} {place = place} h l) (loading.formula k m) = ap (before (record { file = name; clause = c; conjecture = place_if conjecture place })) (items_once l m)
    items_once (loading.formula h l) (loading.too_many_formulas k) = absurd (less_or_not h k)
    items_once (loading.too_many_formulas k) (loading.formula h l) = absurd (less_or_not h k)
    items_once (loading.too_many_formulas h) (loading.too_many_formulas k) = refl
    items_once (loading.fetch_fails da na ta fa) y = absurd (none_fails fa)
    items_once (loading.too_deep da) (loading.fetch_fails db nb tb fb) = absurd (none_fails fb)
    items_once (loading.too_deep da) (loading.too_deep db) = refl
    items_once (loading.too_deep da) (loading.too_many_files db nb) = absurd (less_or_not db da)
    items_once (loading.too_deep da) (loading.absent db nb eb) = absurd (less_or_not db da)
    items_once (loading.too_deep da) (loading.stops_inside db nb eb xb) = absurd (less_or_not db da)
    items_once (loading.too_deep da) (loading.misses_name db nb eb xb sb) = absurd (less_or_not db da)
    items_once (loading.too_deep da) (loading.includes db nb eb xb sb lb) = absurd (less_or_not db da)
    items_once (loading.too_many_files da na) (loading.fetch_fails db nb tb fb) = absurd (none_fails fb)
    items_once (loading.too_many_files da na) (loading.too_deep db) = absurd (less_or_not da db)
    items_once (loading.too_many_files da na) (loading.too_many_files db nb) = refl
    items_once (loading.too_many_files da na) (loading.absent db nb eb) = absurd (less_or_not nb na)
    items_once (loading.too_many_files da na) (loading.stops_inside db nb eb xb) = absurd (less_or_not nb na)
    items_once (loading.too_many_files da na) (loading.misses_name db nb eb xb sb) = absurd (less_or_not nb na)
    items_once (loading.too_many_files da na) (loading.includes db nb eb xb sb lb) = absurd (less_or_not nb na)
    items_once (loading.absent da na ea) (loading.fetch_fails db nb tb fb) = absurd (none_fails fb)
    items_once (loading.absent da na ea) (loading.too_deep db) = absurd (less_or_not da db)
    items_once (loading.absent da na ea) (loading.too_many_files db nb) = absurd (less_or_not na nb)
    items_once (loading.absent da na ea) (loading.absent db nb eb) = refl
    items_once (loading.absent da na ea) (loading.stops_inside db nb eb xb) = absurd (some_or_none eb ea)
    items_once (loading.absent da na ea) (loading.misses_name db nb eb xb sb) = absurd (some_or_none eb ea)
    items_once (loading.absent da na ea) (loading.includes db nb eb xb sb lb) = absurd (some_or_none eb ea)
    items_once (loading.stops_inside da na ea xa) (loading.fetch_fails db nb tb fb) = absurd (none_fails fb)
    items_once (loading.stops_inside da na ea xa) (loading.too_deep db) = absurd (less_or_not da db)
    items_once (loading.stops_inside da na ea xa) (loading.too_many_files db nb) = absurd (less_or_not na nb)
    items_once (loading.stops_inside da na ea xa) (loading.absent db nb eb) = absurd (some_or_none ea eb)
    items_once (loading.stops_inside da na ea xa) (loading.stops_inside db nb eb xb) = file_once xa (moved ea eb xb)
    items_once (loading.stops_inside da na ea xa) (loading.misses_name db nb eb xb sb) = absurd (ok_or_err (sym (file_once xa (moved ea eb xb))))
    items_once (loading.stops_inside da na ea xa) (loading.includes db nb eb xb sb lb) = absurd (ok_or_err (sym (file_once xa (moved ea eb xb))))
    items_once (loading.misses_name da na ea xa sa) (loading.fetch_fails db nb tb fb) = absurd (none_fails fb)
    items_once (loading.misses_name da na ea xa sa) (loading.too_deep db) = absurd (less_or_not da db)
    items_once (loading.misses_name da na ea xa sa) (loading.too_many_files db nb) = absurd (less_or_not na nb)
    items_once (loading.misses_name da na ea xa sa) (loading.absent db nb eb) = absurd (some_or_none ea eb)
    items_once (loading.misses_name da na ea xa sa) (loading.stops_inside db nb eb xb) = absurd (ok_or_err (file_once xa (moved ea eb xb)))
    items_once {name = name} (loading.misses_name {i = i} da na ea xa sa) (loading.misses_name db nb eb xb sb) = let same = given_once (file_once xa (moved ea eb xb)) in ap Err (is_err_once sa (chosen name i.names same.0 sb))
    items_once {name = name} (loading.misses_name {i = i} da na ea xa sa) (loading.includes db nb eb xb sb lb) = let same = given_once (file_once xa (moved ea eb xb)) in absurd (is_ok_or_err (chosen name i.names same.0 sb) sa)
    items_once (loading.includes da na ea xa sa la) (loading.fetch_fails db nb tb fb) = absurd (none_fails fb)
    items_once (loading.includes da na ea xa sa la) (loading.too_deep db) = absurd (less_or_not da db)
    items_once (loading.includes da na ea xa sa la) (loading.too_many_files db nb) = absurd (less_or_not na nb)
    items_once (loading.includes da na ea xa sa la) (loading.absent db nb eb) = absurd (some_or_none ea eb)
    items_once (loading.includes da na ea xa sa la) (loading.stops_inside db nb eb xb) = absurd (ok_or_err (file_once xa (moved ea eb xb)))
    items_once {name = name} (loading.includes {i = i} da na ea xa sa la) (loading.misses_name db nb eb xb sb) = let same = given_once (file_once xa (moved ea eb xb)) in absurd (is_ok_or_err sa (chosen name i.names same.0 sb))
    items_once {depth} {name} (loading.includes {i = i} {kept = ka} {loaded = ra} da na ea xa sa la) (loading.includes {items = is} {kept = kb} {loaded = rb} db nb eb xb sb lb) =
        let same = given_once (file_once xa (moved ea eb xb)) in
        let kepts : ka ≡ kb = is_ok_once sa (chosen name i.names same.0 sb) in
        let rests : ra ≡ rb = items_once la (subst (λ c. Items depth name c is rb) (sym same.1) lb) in
        rw (kepts, rests) refl

  pub problem_once : {name : List ℕ} {a b : Loaded} → LoadsProblem Reads files None folder root name a → LoadsProblem Reads files None folder root name b → a ≡ b
  problem_once (no_fetch e) y = absurd (none_fails e)
  problem_once (no_problem e) (no_fetch f) = absurd (none_fails f)
  problem_once (no_problem e) (no_problem f) = refl
  problem_once (no_problem e) (loads f x) = absurd (some_or_none f e)
  problem_once (loads e x) (no_fetch f) = absurd (none_fails f)
  problem_once (loads e x) (no_problem f) = absurd (some_or_none e f)
  problem_once {name} {b = b} (loads {bytes = bs} e x) (loads {bytes = cs} f y) = file_once x (subst (λ c. File 0 name c (record { clauses = 0; files = 0 }) b) (some_once f e) y)
