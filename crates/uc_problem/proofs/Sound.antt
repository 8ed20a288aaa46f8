-- The clauses that are read are sound, and stay so in every later table.
use Rattle.std.proofs.Common.{◌≡◌, ℕ, zero, suc, ◌+◌, ◌≤◌, Bool, true, false, List, [], ◌∷◌, ◌++◌, map, filter, length, length-append, unwrap_or, Option, Some, None, Result, Ok, Err, IfOk, cond, refl, sym, ap, ◌∙◌, subst, arith}
use Rattle.std.proofs.lemmas.Option.{slice_get_within}
use Rattle.uc_term.specs.declared.node.Sym.{Sym}
use Rattle.uc_term.specs.Tree.{Tree, var, app, Trees, none, more, count, nodes, nodes_all}
use Rattle.uc_term.specs.Over.{AreOver}
use Rattle.uc_term.specs.Table.{Table, Entry, Has, IsSymbol, IsOf, Grows, arity_of}
use Rattle.uc_term.specs.Gathering.{AreOf}
use Rattle.uc_term.proofs.Grown.{arity-grows}
use Rattle.uc_clause.specs.declared.token.Token.{Token}
use Rattle.uc_clause.specs.declared.clause.Name.{Name}
use Rattle.uc_clause.specs.declared.clause.Clause.{Clause}
use Rattle.uc_clause.specs.declared.clause.Item.{Item as ClauseItem}
use Rattle.uc_clause.specs.declared.clause.Item.TheVariants as item
use Rattle.uc_clause.specs.declared.clause.Sourced.{Sourced}
use Rattle.uc_clause.specs.Terminals.{place_at}
use Rattle.uc_clause.specs.Parse.{Parse, Parses, leaves, leaves_all, Sides, Entry as Part, formula, inclusion}
use Rattle.uc_clause.specs.Meaning.{Variables, Means, variable_means, functor_means, MeanAll, none_mean, more_mean, MeansSides, MeansItem, places_of}
use Rattle.uc_fof.specs.declared.item.FofItem.{FofItem}
use Rattle.uc_fof.specs.declared.item.FofItem.TheVariants.{Item, Formula}
use Rattle.uc_fof.specs.Parse.{Entry as FofEntry, item as of_clauses, stated}
use Rattle.uc_fof.specs.Meaning as fof
use Rattle.uc_fof.specs.Reading.{ReadsFile}
use Rattle.uc_clause.specs.declared.token.Place.{Place}
use Rattle.uc_clause.specs.declared.clause.Include.{Include}
use Rattle.uc_problem.specs.declared.counts.Counts.{Counts}
use Rattle.uc_problem.specs.declared.flat.FlatClause.{FlatClause}
use Rattle.uc_problem.specs.declared.fault.LoadFault.{LoadFault}
use Rattle.uc_problem.specs.Loading.{lists_name, listed_or, selected, first_missing}
use Rattle.uc_problem.specs.Parts.{IsTaken, IsSelection}
use Rattle.uc_problem.specs.Conjecture.{flat_terms}
use Rattle.uc_problem.specs.Holds.{terms_of}
use Rattle.uc_problem.specs.Sound.{IsSound, AreSound, AreSoundFlats, IsSoundItem, AreSoundItems, IsSoundPart}

-- terms in a later table
pub has_later : (t u : Table) → Grows t u → (f : Sym) → Has t f → Has u f
has_later t u g f h = omega (arith, h, ap length g.1, length-append t g.0)

module _ (t u : Table) (g : Grows t u) where
  mutual
    pub term_later : (tree : Tree) → IsOf t tree → IsOf u tree
    term_later (var x) h = tt
    term_later (app f ts) h = (has_later t u g f h.0, h.1 ∙ sym (arity-grows t u g f h.0), terms_later ts h.2)

    terms_later : (ts : Trees) → AreOver (Has t) (arity_of t) (λ _. Unit {0}) ts → AreOver (Has u) (arity_of u) (λ _. Unit {0}) ts
    terms_later none h = tt
    terms_later (more x xs) h = (term_later x h.0, terms_later xs h.1)

  pub sound_later : (c : Clause) → IsSound t c → IsSound u c
  sound_later c h = record { left = term_later c.left h.left; right = term_later c.right h.right; places = h.places }

  pub are_sound_later : (ss : List Sourced) → AreSound t ss → AreSound u ss
  are_sound_later [] h = tt
  are_sound_later (s ∷ ss) h = (sound_later s.clause h.0, are_sound_later ss h.1)

  pub flats_sound_later : (ss : List FlatClause) → AreSoundFlats t ss → AreSoundFlats u ss
  flats_sound_later [] h = tt
  flats_sound_later (s ∷ ss) h = (sound_later s.clause h.0, flats_sound_later ss h.1)

  pub item_later : (i : FofItem) → IsSoundItem t i → IsSoundItem u i
  item_later (Item (item.Clause c)) h = sound_later c h
  item_later (Item (item.Include i)) h = tt
  item_later (Formula c conjecture place) h = sound_later c h

  pub items_later : (is : List FofItem) → AreSoundItems t is → AreSoundItems u is
  items_later [] h = tt
  items_later (i ∷ is) h = (item_later i h.0, items_later is h.1)

-- what is read
module _ (bytes : List ℕ) (tokens : List Token) (table : Table) where
  arity_is : (f : Sym) (name : List ℕ) (n : ℕ) → IsSymbol table f name n → n ≡ arity_of table f
  arity_is f name n s = sym (ap (λ (o : Option Entry). (unwrap_or o (record { name = []; arity = 0 })).arity) s)

  mutual
    means_of : {seen : Variables} {p : Parse} {tree : Tree} → Means bytes tokens table seen p tree → IsOf table tree
    means_of (variable_means e) = tt
    means_of (functor_means {f = f} {ts = ts} s ms) = (slice_get_within table f.0 _ s, arity_is f _ (count ts) s, mean_all_of ms)

    mean_all_of : {seen : Variables} {ps : Parses} {trees : Trees} → MeanAll bytes tokens table seen ps trees → AreOver (Has table) (arity_of table) (λ _. Unit {0}) trees
    mean_all_of none_mean = tt
    mean_all_of (more_mean m ms) = (means_of m, mean_all_of ms)

  mutual
    leaves_are : {seen : Variables} {p : Parse} {tree : Tree} → Means bytes tokens table seen p tree → length (leaves p) ≡ nodes tree
    leaves_are (variable_means e) = refl
    leaves_are (functor_means s ms) = omega (arith, leaves_all_are ms)

    leaves_all_are : {seen : Variables} {ps : Parses} {trees : Trees} → MeanAll bytes tokens table seen ps trees → length (leaves_all ps) ≡ nodes_all trees
    leaves_all_are none_mean = refl
    leaves_all_are (more_mean {p = p} {ps = ps} m ms) = omega (arith, leaves_are m, leaves_all_are ms, length-append (leaves p) (leaves_all ps))

  length_map : {A B : Type 0} (f : A → B) (xs : List A) → length (map f xs) ≡ length xs
  length_map f [] = refl
  length_map f (x ∷ xs) = ap suc (length_map f xs)

  sides_sound : (sides : Sides) (c : Clause) → MeansSides bytes tokens table sides c.left c.right → c.places ≡ places_of bytes tokens sides → IsSound table c
  sides_sound sides c m e = record {
    left = means_of m.means_left;
    right = means_of m.means_right;
    places = ap length e ∙ length_map (place_at bytes tokens) (leaves sides.left ++ leaves sides.right) ∙ omega (arith, length-append (leaves sides.left) (leaves sides.right), leaves_are m.means_left, leaves_are m.means_right);
  }

  item_sound : (e : Part) (i : ClauseItem) → MeansItem bytes tokens table e i → IsSoundItem table (Item i)
  item_sound (formula f) (item.Clause c) m = sides_sound f.literal.sides c m.sides m.places
  item_sound (inclusion j) (item.Include i) m = tt
  item_sound (formula f) (item.Include i) m = tt
  item_sound (inclusion j) (item.Clause c) m = absurd m

  entry_sound : (e : FofEntry) (i : FofItem) → fof.MeansItem bytes tokens table e i → IsSoundItem table i
  entry_sound (of_clauses e) (Item i) m = item_sound e i m
  entry_sound (stated s) (Formula c conjecture place) m = sides_sound s.literal.sides c m.sides m.places
  entry_sound (of_clauses e) (Formula c conjecture place) m = absurd m
  entry_sound (stated s) (Item i) m = absurd m

  items_sound : {es : List FofEntry} {is : List FofItem} → fof.MeanItems bytes tokens table es is → AreSoundItems table is
  items_sound fof.no_items = tt
  items_sound (fof.one_item {entry = e} {i = i} m ms) = (entry_sound e i m, items_sound ms)

pub file_sound : (bytes : List ℕ) (table : Table) (is : List FofItem) → ReadsFile bytes table is → AreSoundItems table is
file_sound bytes table is r = items_sound bytes r.reads.tokens table r.reads.means

-- parts of lists
pub sound_both : (t : Table) (xs ys : List FlatClause) → AreSoundFlats t xs → AreSoundFlats t ys → AreSoundFlats t (xs ++ ys)
sound_both t [] ys h k = k
sound_both t (x ∷ xs) ys h k = (h.0, sound_both t xs ys h.1 k)

module _ (t : Table) (keep : FlatClause → Bool) where
  kept : (b : Bool) (x : FlatClause) (xs : List FlatClause) → IsSound t x.clause → AreSoundFlats t xs → AreSoundFlats t (cond b (x ∷ xs) xs)
  kept true x xs h k = (h, k)
  kept false x xs h k = k

  pub sound_filter : (xs : List FlatClause) → AreSoundFlats t xs → AreSoundFlats t (filter keep xs)
  sound_filter [] h = tt
  sound_filter (x ∷ xs) h = kept (keep x) x (filter keep xs) h.0 (sound_filter xs h.1)

pub terms_sound : (t : Table) (ss : List Sourced) → AreSound t ss → AreOf t (terms_of ss)
terms_sound t [] h i tree e = absurd cc
terms_sound t (s ∷ ss) h zero tree e = let same : s.clause.left ≡ tree = cc in subst (IsOf t) same h.0.left
terms_sound t (s ∷ ss) h (suc zero) tree e = let same : s.clause.right ≡ tree = cc in subst (IsOf t) same h.0.right
terms_sound t (s ∷ ss) h (suc (suc i)) tree e = terms_sound t ss h.1 i tree e

pub flat_terms_sound : (t : Table) (ss : List FlatClause) → AreSoundFlats t ss → AreOf t (flat_terms ss)
flat_terms_sound t [] h i tree e = absurd cc
flat_terms_sound t (s ∷ ss) h zero tree e = let same : s.clause.left ≡ tree = cc in subst (IsOf t) same h.0.left
flat_terms_sound t (s ∷ ss) h (suc zero) tree e = let same : s.clause.right ≡ tree = cc in subst (IsOf t) same h.0.right
flat_terms_sound t (s ∷ ss) h (suc (suc i)) tree e = flat_terms_sound t ss h.1 i tree e

-- parts
module _ (t : Table) (old new : Counts) where
  pub taken_sound : (name : List ℕ) (c : Clause) (conjecture : Option Place) (r : Result (List FlatClause) LoadFault) → IsSound t c → IsTaken name c conjecture old new r → IfOk r (IsSoundPart t old new)
  taken_sound name c conjecture (Ok ss) s h = rw (h.1, h.2) (record { sound = (s, tt); few = omega arith; within = λ _. omega (arith, h.0) })
  taken_sound name c conjecture (Err e) s h = tt

  pub none_sound : old ≡ new → IsSoundPart t old new []
  none_sound e = rw e (record { sound = tt; few = omega arith; within = λ h. h })

  short_filter : (keep : FlatClause → Bool) (ss : List FlatClause) → length (filter keep ss) ≤ length ss
  short_filter keep [] = omega arith
  short_filter keep (s ∷ ss) = go (keep s) (short_filter keep ss)
    where
      go : (b : Bool) → length (filter keep ss) ≤ length ss → length (cond b (s ∷ filter keep ss) (filter keep ss)) ≤ suc (length ss)
      go true h = omega (arith, h)
      go false h = omega (arith, h)

  abbrev OfFile : List FlatClause → Type 0
  OfFile = IsSoundPart t (record { clauses = old.clauses; files = old.files + 1 }) new

  listed_sound : (file : List ℕ) (names : List (Name × Place)) (given ss : List FlatClause) (m : Option (Name × Place)) → OfFile given → Ok ss ≡ listed_or file names given m → IsSoundPart t old new ss
  listed_sound file names given ss None p e =
      let keep = λ (s : FlatClause). lists_name names s.clause.name in
      let same : ss ≡ filter keep given = cc in
      rw same (record { sound = sound_filter t keep given p.sound; few = omega (arith, p.few, short_filter keep given); within = p.within })
  listed_sound file names given ss (Some m) p e = absurd cc

  chosen_sound : (file : List ℕ) (names : Option (List (Name × Place))) (given ss : List FlatClause) → OfFile given → Ok ss ≡ selected file names given → IsSoundPart t old new ss
  chosen_sound file None given ss p e = let same : ss ≡ given = cc in rw same (record { sound = p.sound; few = p.few; within = p.within })
  chosen_sound file (Some names) given ss p e = listed_sound file names given ss (first_missing given names) p e

  pub selected_sound : (name : List ℕ) (i : Include) (given : List FlatClause) (r : Result (List FlatClause) LoadFault) → OfFile given → IsSelection name i given r → IfOk r (IsSoundPart t old new)
  selected_sound name i given (Ok ss) p e = chosen_sound name i.names given ss p e
  selected_sound name i given (Err e) p h = tt

pub go_on_sound : (t u : Table) (a b d : Counts) (xs ys : List FlatClause) → Grows t u → IsSoundPart t a b xs → IsSoundPart u b d ys → IsSoundPart u a d (xs ++ ys)
go_on_sound t u a b d xs ys g p q = record {
  sound = sound_both u xs ys (flats_sound_later t u g xs p.sound) q.sound;
  few = omega (arith, p.few, q.few, length-append xs ys);
  within = λ h. q.within (p.within h);
}
