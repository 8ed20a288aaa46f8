-- The facts of trees that live, listed one by one.
use Rattle.std.proofs.Common.{◌≡◌, ℕ, ◌+◌, ◌<◌, ◌≤◌, true, false, List, [], ◌∷◌, ◌++◌, length, take, get_or, refl, sym, ap, ◌∙◌, append_assoc, append-nil, arith}
use Rattle.std.specs.Prelude.{not}
use Rattle.std.specs.declared.sync.Arc.{Arc}
use Rattle.std.proofs.lemmas.List.{take_more}
use Rattle.uc_term.specs.declared.equation.Equation.{Equation}
use Rattle.uc_fact.specs.Live.{Live}
use Rattle.uc_disc.specs.Numbered.{lives, live_of}
use Rattle.uc_shelf.specs.declared.entry.Entry.{Entry}
use Rattle.uc_shelf.specs.Entries.{born, is_dead, living}
use Rattle.uc_shelf.specs.Segments.{Stretch, AreBased, entries_of}
use Rattle.uc_shelf.specs.Viewing.{still_living}
use Rattle.uc_shelf.proofs.Listing.{lives_append}
use Rattle.uc_shelf.proofs.Runs.{living_append, living_own}
use Rattle.uc_shelf.proofs.Segmented.{ahead, base_here, run_here, whole}
use Rattle.uc_shelf.proofs.Viewed.{filtered}

module _ (all : List Entry) (fs : List (ℕ × Equation)) (k : ℕ) (f : ℕ × Equation) (base list : List Live) (inside : k < length fs) (is : f ≡ get_or fs k f) (so : list ≡ base ++ still_living all (lives (take k fs))) where
  one_more : still_living all (lives (take (k + 1) fs)) ≡ still_living all (lives (take k fs)) ++ still_living all (live_of f ∷ [])
  one_more = ap (λ z. still_living all (lives z)) (take_more fs k f inside ∙ ap (λ z. take k fs ++ z ∷ []) (sym is)) ∙ ap (still_living all) (lives_append (take k fs) (f ∷ [])) ∙ filtered (λ (x : Live). not (is_dead all x.number)) (lives (take k fs)) (live_of f ∷ [])

  -- the next one is listed, if it lives
  pub lent_next : (new : List Live) → new ≡ list ++ still_living all (live_of f ∷ []) → new ≡ base ++ still_living all (lives (take (k + 1) fs))
  lent_next new h =
      h ∙ ap (λ z. z ++ still_living all (live_of f ∷ [])) so ∙ append_assoc base (still_living all (lives (take k fs))) (still_living all (live_of f ∷ [])) ∙ ap (λ z. base ++ z) (sym one_more)

-- the whole list
pub lent_all : (all : List Entry) (fs : List (ℕ × Equation)) (k : ℕ) (base list : List Live) → length fs ≤ k → list ≡ base ++ still_living all (lives (take k fs)) → list ≡ base ++ still_living all (lives fs)
lent_all all fs k base list h so = so ∙ ap (λ z. base ++ still_living all (lives z)) (whole k fs h)

-- one that lives, and one that is dead
pub one_lent : (all : List Entry) (f : ℕ × Equation) (old new : List Live) → is_dead all f.0 ≡ false → new ≡ old ++ live_of f ∷ [] → new ≡ old ++ still_living all (live_of f ∷ [])
one_lent all f old new h e =
    let one : still_living all (live_of f ∷ []) ≡ live_of f ∷ [] = rw h refl in
    e ∙ ap (λ z. old ++ z) (sym one)

pub none_lent : (all : List Entry) (f : ℕ × Equation) (old : List Live) → is_dead all f.0 ≡ true → old ≡ old ++ still_living all (live_of f ∷ [])
none_lent all f old h =
    let none : still_living all (live_of f ∷ []) ≡ [] = rw h refl in
    sym (append-nil old) ∙ ap (λ z. old ++ z) (sym none)

zero_more : (n : ℕ) → n ≡ 0 + n
zero_more n = omega arith

module _ {Z : Type 0} where
  -- those of one segment more
  pub segment_lent : (ps : List (Arc Stretch Z)) (k : ℕ) (p : Arc Stretch Z) (fs : List (ℕ × Equation)) (old new : List Live) → AreBased 0 ps → k < length ps → p ≡ get_or ps k p
      → lives fs ≡ living p.value.entries p.value.base p.value.entries → old ≡ living (entries_of ps) 0 (entries_of (take k ps)) → new ≡ old ++ still_living (entries_of ps) (lives fs)
      → new ≡ living (entries_of ps) 0 (entries_of (take (k + 1) ps))
  segment_lent ps k p fs old new b inside is of so more =
      let es = entries_of ps in
      let own = living_own es p.value (run_here ps k p b inside is) in
      more ∙ ap (λ z. z ++ still_living es (lives fs)) so ∙ ap (λ z. living es 0 (entries_of (take k ps)) ++ z) (ap (still_living es) of ∙ sym own ∙ ap (λ n. living es n p.value.entries) (base_here ps k p b inside is ∙ zero_more (length (born (entries_of (take k ps))))))
      ∙ sym (ap (living es 0) (ahead ps k p inside is) ∙ living_append es 0 (entries_of (take k ps)) p.value.entries)
