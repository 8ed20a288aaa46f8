-- The table that a fresh symbol makes of another is one, and so is the table that the encoding's symbols make.
use Rattle.std.proofs.Common.{◌≡◌, ℕ, zero, suc, ◌<◌, List, [], ◌∷◌, ◌++◌, length, slice_get, unwrap_or, append-nil, codes, Option, Some, None, Ok, refl, sym, ap, ◌∙◌, subst, arith, ◌⊎◌, inl, inr}
use Rattle.std.proofs.lemmas.Option.{slice_get_within}
use Rattle.uc_term.specs.declared.node.Sym.{Sym}
use Rattle.uc_term.specs.declared.fresh.Fresh.{Fresh}
use Rattle.uc_term.specs.Table.{Table, Entry, entry_of, Has, IsDistinct, Grows, AddsAtMost}
use Rattle.uc_term.specs.Gathering.{HasAll}
use Rattle.uc_term.specs.Signatures.{tried_name, IsFree, IsFreshFor}
use Rattle.uc_term.proofs.Gets.{get-append_left}
use Rattle.uc_term.proofs.Grown.{entry-grows, first_named-grows}
use Rattle.uc_problem.specs.declared.problem.Problem.{Problem}
use Rattle.uc_problem.specs.Marks.{Marks}
use Rattle.uc_problem.specs.Filling.{AddsOne, AddsMarks}
use Rattle.uc_problem.proofs.Later.{Grows-refl, Grows-trans}
use Rattle.uc_problem.proofs.FreshMarks.{all_later}
use Rattle.uc_problem.proofs.Outcomes.{yes_or_no}

get_last : (table : Table) (e : Entry) → slice_get (table ++ e ∷ []) (length table) ≡ Some e
get_last [] e = refl
get_last (x ∷ table) e = get_last table e

pub get_entry : (table : Table) (f : Sym) → Has table f → slice_get table f.0 ≡ Some (entry_of table f)
get_entry table f h = go table f.0 h
  where
    go : (t : Table) (i : ℕ) → i < length t → slice_get t i ≡ Some (unwrap_or (slice_get t i) (record { name = []; arity = 0 }))
    go [] i h = absurd (omega arith)
    go (e ∷ t) zero h = refl
    go (e ∷ t) (suc i) h = go t i (omega arith)

-- an entry that the table has isn't put behind it
pub twice : (table : Table) (e : Entry) (i : ℕ) → slice_get table i ≡ Some e → IsDistinct (table ++ e ∷ []) → ⊥
twice table e i at distinct =
    let same : i ≡ length table = distinct i (length table) e (get-append_left table (e ∷ []) i e at) (get_last table e) in
    let within : i < length table = slice_get_within table i e at in
    absurd (omega (arith, same, within))

pub distinct_earlier : (old new : Table) → Grows old new → IsDistinct new → IsDistinct old
distinct_earlier old new g distinct i j e p q = subst IsDistinct g.1 distinct i j e (get-append_left old g.0 i e p) (get-append_left old g.0 j e q)

pub adds_grows : (old new : Table) (f : Sym) → AddsOne old new f → Grows old new
adds_grows old new f x = go x.adds
  where
    go : AddsAtMost old new f → Grows old new
    go (inl e) = ([], e ∙ sym (append-nil old))
    go (inr e) = (entry_of new f ∷ [], e)

-- a symbol that the old table has adds nothing
pub known_adds_nothing : (old new : Table) (f : Sym) → IsDistinct new → Has old f → AddsOne old new f → new ≡ old
known_adds_nothing old new f distinct h x = go x.adds
  where
    there : slice_get old f.0 ≡ Some (entry_of new f)
    there = get_entry old f h ∙ ap Some (sym (entry-grows old new (adds_grows old new f x) f h))

    go : AddsAtMost old new f → new ≡ old
    go (inl e) = e
    go (inr e) = absurd (twice old (entry_of new f) f.0 there (subst IsDistinct e distinct))

-- the entry of a fresh symbol, in a table that is older than the one in which it is fresh
fresh_entry : (table new : Table) (word : List ℕ) (arity : ℕ) (fs : List Sym) (f : Sym) → Grows table new → Has table f → (x : IsFreshFor new word arity fs f) → entry_of table f ≡ record { name = tried_name word x.number; arity = arity }
fresh_entry table new word arity fs f g h x = sym (entry-grows table new g f h) ∙ ap (λ o. unwrap_or o (record { name = []; arity = 0 })) x.symbol

module _ (old N M : Table) (fs : List Sym) (has : HasAll old fs) (to_N : Grows old N) (to_M : Grows old M) where
  free_there : (name : List ℕ) → IsFree N fs name → IsFree M fs name
  free_there name e = first_named-grows old M to_M fs name has ∙ sym (first_named-grows old N to_N fs name has) ∙ e

  free_here : (name : List ℕ) → IsFree M fs name → IsFree N fs name
  free_here name e = first_named-grows old N to_N fs name has ∙ sym (first_named-grows old M to_M fs name has) ∙ e

  -- the first number whose name is free is one
  number_once : {word : List ℕ} {arity : ℕ} {f g : Sym} (p : IsFreshFor N word arity fs f) (q : IsFreshFor M word arity fs g) → p.number ≡ q.number
  number_once {word} p q = go order
    where
      order : (p.number ≡ q.number) ⊎ ((p.number < q.number) ⊎ (q.number < p.number))
      order = grind arith

      go : (p.number ≡ q.number) ⊎ ((p.number < q.number) ⊎ (q.number < p.number)) → p.number ≡ q.number
      go (inl e) = e
      go (inr (inl l)) = absurd (q.first p.number l (free_there (tried_name word p.number) p.free))
      go (inr (inr l)) = absurd (p.first q.number l (free_here (tried_name word q.number) q.free))

-- one entry makes one table
pub one_adds_once : (old a b : Table) (f g : Sym) → IsDistinct a → IsDistinct b → AddsOne old a f → AddsOne old b g → entry_of a f ≡ entry_of b g → a ≡ b
one_adds_once old a b f g distinct others x y same = go x.adds y.adds
  where
    go : AddsAtMost old a f → AddsAtMost old b g → a ≡ b
    go (inl d) (inl e) = d ∙ sym e
    go (inl d) (inr e) = absurd (twice old (entry_of b g) f.0 (ap (λ t. slice_get t f.0) (sym d) ∙ get_entry a f x.has ∙ ap Some same) (subst IsDistinct e others))
    go (inr d) (inl e) = absurd (twice old (entry_of a f) g.0 (ap (λ t. slice_get t g.0) (sym e) ∙ get_entry b g y.has ∙ ap Some (sym same)) (subst IsDistinct d distinct))
    go (inr d) (inr e) = d ∙ ap (λ z. old ++ z ∷ []) same ∙ sym e

pub adds_once : (old a b N M : Table) (word : List ℕ) (arity : ℕ) (fs : List Sym) (f g : Sym) → HasAll old fs → Grows a N → Grows b M → IsDistinct N → IsDistinct M → AddsOne old a f → AddsOne old b g → IsFreshFor N word arity fs f → IsFreshFor M word arity fs g → a ≡ b
adds_once old a b N M word arity fs f g has to_N to_M distinct others x y p q = one_adds_once old a b f g (distinct_earlier a N to_N distinct) (distinct_earlier b M to_M others) x y same
  where
    from_a : Grows old N
    from_a = Grows-trans old a N (adds_grows old a f x) to_N

    from_b : Grows old M
    from_b = Grows-trans old b M (adds_grows old b g y) to_M

    numbers : p.number ≡ q.number
    numbers = number_once old N M fs has from_a from_b p q

    named : (n : ℕ) → Entry
    named n = record { name = tried_name word n; arity = arity }

    same : entry_of a f ≡ entry_of b g
    same = fresh_entry a N word arity fs f to_N x.has p ∙ ap named numbers ∙ sym (fresh_entry b M word arity fs g to_M y.has q)

-- the symbols of an encoding, or none, are added to one table
module _ (problem : Problem) (old new other : Table) (distinct : IsDistinct new) (others : IsDistinct other) (has : HasAll old problem.signature.symbols) where
  pub marks_add_once : (fresh again : Option Fresh) → AddsMarks old new fresh → AddsMarks old other again → Marks new problem (Ok fresh) → Marks other problem (Ok again) → new ≡ other
  marks_add_once None None x y p q = x ∙ sym y
  marks_add_once None (Some again) x y p q = absurd (yes_or_no q.0 p)
  marks_add_once (Some fresh) None x y p q = absurd (yes_or_no p.0 q)
  marks_add_once (Some fresh) (Some again) x y p q =
      let fs = problem.signature.symbols in
      let first : Table = x.0 in
      let second : Table = x.1 in
      let one : Table = y.0 in
      let two : Table = y.1 in
      let a_eq : AddsOne old first fresh.eq = x.2 in
      let a_yes : AddsOne first second fresh.yes = x.3 in
      let a_no : AddsOne second new fresh.no = x.4 in
      let b_eq : AddsOne old one again.eq = y.2 in
      let b_yes : AddsOne one two again.yes = y.3 in
      let b_no : AddsOne two other again.no = y.4 in
      let second_new = adds_grows second new fresh.no a_no in
      let first_new = Grows-trans first second new (adds_grows first second fresh.yes a_yes) second_new in
      let two_other = adds_grows two other again.no b_no in
      let one_other = Grows-trans one two other (adds_grows one two again.yes b_yes) two_other in
      let eqs : first ≡ one = adds_once old first one new other (codes "eq") 2 fs fresh.eq again.eq has first_new one_other distinct others a_eq b_eq p.2.eq q.2.eq in
      let has_first : HasAll first fs = all_later old first fs (adds_grows old first fresh.eq a_eq) has in
      let b_yes_first : AddsOne first two again.yes = subst (λ t. AddsOne t two again.yes) (sym eqs) b_yes in
      let yeses : second ≡ two = adds_once first second two new other (codes "true") 0 fs fresh.yes again.yes has_first second_new two_other distinct others a_yes b_yes_first p.2.yes q.2.yes in
      let has_second : HasAll second fs = all_later first second fs (adds_grows first second fresh.yes a_yes) has_first in
      let b_no_second : AddsOne second other again.no = subst (λ t. AddsOne t other again.no) (sym yeses) b_no in
      adds_once second new other new other (codes "false") 0 fs fresh.no again.no has_second (Grows-refl new) (Grows-refl other) distinct others a_no b_no_second p.2.no q.2.no
