-- The facts' line is taken apart in one way.
use Rattle.std.proofs.Common.{◌≡◌, ℕ, zero, suc, ◌+◌, ◌-◌, ◌<◌, ◌≤◌, Bool, true, false, List, [], ◌∷◌, ◌++◌, length, take, drop, append_assoc, append-nil, length-append, refl, sym, ap, ap₂, ◌∙◌, subst, arith, Option, Some, None, Ok, Err}
use Rattle.std.specs.Prelude.{◌≢◌, ◌==◌, not, ◌||◌, cond, bytes_eq, slice_get}
use Rattle.std.specs.List.{list_any, list_all, prefix_len, position, position_from}
use Rattle.std.specs.Cmp.Lexicographic.{bytes_decides}
use Rattle.std.proofs.Math.Seq.{take-append_seam}
use Rattle.std.proofs.lemmas.Bool.Decides.{nat_tests}
use Rattle.std.proofs.lemmas.List.{append_cancel_left, take-append-drop}
use Rattle.std.proofs.lemmas.List.Folds.{length-prefix_len}
use Rattle.std.proofs.lemmas.Grind.{flat_map-append}
use Rattle.std.proofs.lemmas.Iterator.Adapters.{position_from-zero}
use Rattle.uc_term.proofs.Finds.{any_none}
use Rattle.uc_term.proofs.NameLists.{name_found}
use Rattle.uc_clause.specs.Bytes.{is_lower, is_word, is_name}
use Rattle.uc_clause.specs.Distinct.{AreDistinct}
use Rattle.uc_clause.specs.Meaning.{with_name}
use Rattle.uc_clause.specs.declared.token.Place.{Place}
use Rattle.uc_clause.specs.Tokens.{place_of}
use Rattle.uc_tstp.proofs.Outcomes.{some_once, some_or_none}
use Rattle.uc_system.specs.Lines.{Cut, first_line}
use Rattle.uc_system.proofs.Splits.{and_left, and_right, and_both}
use Rattle.uc_certificate.specs.Headings.{facts_words, spaced, facts_line, AreNames, first_unknown, AreNumbered, none_numbered, one_numbered, word_start, departs, FactsAt, no_facts, unknown_fact, are_facts, facts}
use Rattle.uc_certificate.specs.declared.fault.CertFault.{CertFault}
use Rattle.uc_certificate.specs.declared.fault.CertFault.TheVariants.{UnknownName, NoMemory}
use Rattle.uc_certificate.specs.Parts.{gets, fails}
use Rattle.uc_certificate.specs.Reads.{IsLine, Gives}
use Rattle.uc_certificate.specs.FactNames.{in_name, IsNoSplit, IsSplit, HasNoNames, HasNames, NumbersOf, NoNumbersOf}
use Rattle.uc_certificate.proofs.FactNames.{name_in_name, stops, long, same_split, facts_line_once, known}
use Rattle.uc_certificate.proofs.VariableNames.{found}

-- what stands in front of the rest of names
pub record Begins (more : List (List ℕ)) (name rest : List ℕ) : Type 0 where
  pub later : List (List ℕ)
  pub is : more ≡ name ∷ later
  pub names : AreNames later
  pub rest_is : rest ≡ spaced later

split_first : (more : List (List ℕ)) (text name rest : List ℕ) → AreNames more → text ≡ spaced more → IsSplit text name rest → Begins more name rest
split_first [] text name rest all t s = absurd (let bad : [] ≡ 32 ∷ name ++ rest = sym t ∙ s.is in cc)
split_first (w ∷ ws) text name rest all t s =
    let whole : 32 ∷ w ++ spaced ws ≡ 32 ∷ name ++ rest = sym t ∙ s.is in
    let same : w ++ spaced ws ≡ name ++ rest = cc in
    let many : length w ≡ length name = sym (long w (spaced ws) (name_in_name w all.0) (stops ws)) ∙ ap (prefix_len in_name) same ∙ sym s.longest in
    let r = same_split w name (spaced ws) rest many same in
    record { later = ws; is = ap (λ n. n ∷ ws) r.0; names = all.1; rest_is = sym r.1 }

names_snoc : (words : List (List ℕ)) (w : List ℕ) → AreNames words → is_name w ≡ true → AreNames (words ++ w ∷ [])
names_snoc [] w all h = (h, tt)
names_snoc (v ∷ words) w all h = (all.0, names_snoc words w all.1 h)

more_line : (done : List (List ℕ)) (name rest : List ℕ) → facts_line done ++ (32 ∷ (name ++ rest)) ≡ facts_line (done ++ name ∷ []) ++ rest
more_line done name rest =
    let behind : spaced (done ++ name ∷ []) ≡ spaced done ++ (32 ∷ (name ++ [])) = flat_map-append (λ (n : List ℕ). 32 ∷ n) done (name ∷ []) in
    sym (ap (λ s. (facts_words ++ s) ++ rest) behind ∙ append_assoc (facts_line done) (32 ∷ (name ++ [])) rest ∙ ap (λ n. facts_line done ++ (32 ∷ (n ++ rest))) (append-nil name))

pub behind_words : (line rest : List ℕ) → (bytes_eq (take 7 line) facts_words ≡ true) × (rest ≡ drop 7 line) × (length rest + 7 ≡ length line) → line ≡ facts_words ++ rest
behind_words line rest h = sym (take-append-drop 7 line) ∙ ap₂ (λ a b. a ++ b) ((bytes_decides (take 7 line) facts_words).0 h.0) (sym h.1)

pub not_empty : (n : ℕ) → false ≡ (n == 0) → 0 < n
not_empty zero h = absurd (let bad : false ≡ true = h in cc)
not_empty (suc n) h = omega arith

-- THE NAMES COUNTED

-- names that the rest of a line is
pub record Left (rest : List ℕ) : Type 0 where
  pub more : List (List ℕ)
  pub names : AreNames more
  pub is : rest ≡ spaced more

pub record Counted (line rest : List ℕ) (count : ℕ) : Type 0 where
  pub done : List (List ℕ)
  pub names : AreNames done
  pub is : line ≡ facts_line done ++ rest
  pub many : length done ≡ count
  pub left : (words : List (List ℕ)) → AreNames words → line ≡ facts_line words → Left rest

pub counted_none : (line rest : List ℕ) → line ≡ facts_words ++ rest → Counted line rest 0
counted_none line rest e = record {
  done = [];
  names = tt;
  is = e;
  many = refl;
  left = λ words all h. record { more = words; names = all; is = append_cancel_left facts_words rest (spaced words) (sym e ∙ h) };
}

module _ (line rest : List ℕ) (count : ℕ) (k : Counted line rest count) where
  module _ (name behind : List ℕ) (s : IsSplit rest name behind) where
    first_of : (words : List (List ℕ)) → AreNames words → line ≡ facts_line words → (l : Left rest) × Begins l.more name behind
    first_of words all h = let l = k.left words all h in (l, split_first l.more rest name behind l.names l.is s)

    pub counted_more : is_name name ≡ true → Counted line behind (count + 1)
    counted_more n = record {
      done = k.done ++ name ∷ [];
      names = names_snoc k.done name k.names n;
      is = k.is ∙ ap (λ t. facts_line k.done ++ t) s.is ∙ more_line k.done name behind;
      many = omega (arith, length-append k.done (name ∷ []), k.many);
      left = λ words all h. (let f = first_of words all h in record { more = f.1.later; names = f.1.names; is = f.1.rest_is });
    }

    pub no_name : is_name name ≡ false → HasNoNames line
    no_name n words all h =
        let f = first_of words all h in
        let named : AreNames (name ∷ f.1.later) = subst AreNames f.1.is f.0.names in
        absurd (let bad : true ≡ false = sym named.0 ∙ n in cc)

  pub counted_all : length rest ≡ 0 → HasNames line count
  counted_all e = record { words = k.done; names = k.names; is = k.is ∙ ends rest e; many = k.many }
    where
      ends : (r : List ℕ) → length r ≡ 0 → facts_line k.done ++ r ≡ facts_line k.done
      ends [] e = append-nil (facts_line k.done)
      ends (b ∷ r) e = absurd (omega arith)

  pub counted_stuck : IsNoSplit rest → 0 < length rest → HasNoNames line
  counted_stuck n some words all h = let l = k.left words all h in go l.more l.is
    where
      go : (more : List (List ℕ)) → rest ≡ spaced more → ⊥
      go [] e = omega (arith, ap length e)
      go (w ∷ ws) e = n (w ++ spaced ws) e

-- THE NUMBERS TAKEN

module _ (names : List (List ℕ)) where
  numbered_snoc : {words : List (List ℕ)} {numbers : List ℕ} (w : List ℕ) (n : ℕ) → slice_get names n ≡ Some w → AreNumbered names words numbers → AreNumbered names (words ++ w ∷ []) (numbers ++ n ∷ [])
  numbered_snoc w n g none_numbered = one_numbered g none_numbered
  numbered_snoc w n g (one_numbered h all) = one_numbered h (numbered_snoc w n g all)

  -- the names so far have lines, and these are the names of the rest
  pub record Taken (words : List (List ℕ)) (rest : List ℕ) (numbers : List ℕ) : Type 0 where
    pub done : List (List ℕ)
    pub more : List (List ℕ)
    pub is : words ≡ done ++ more
    pub named : AreNames more
    pub rest_is : rest ≡ spaced more
    pub numbered : AreNumbered names done numbers

  pub taken_none : (line rest : List ℕ) → line ≡ facts_words ++ rest → (words : List (List ℕ)) → AreNames words → line ≡ facts_line words → Taken words rest []
  taken_none line rest e words all h = record { done = []; more = words; is = refl; named = all; rest_is = append_cancel_left facts_words rest (spaced words) (sym e ∙ h); numbered = none_numbered }

  abbrev Unknown : List ℕ → Bool
  Unknown word = not (list_any (bytes_eq word) names)

  first_from : {done : List (List ℕ)} {numbers : List ℕ} (w : List ℕ) (ws : List (List ℕ)) (n : ℕ) → AreNumbered names done numbers → list_any (bytes_eq w) names ≡ false → position_from Unknown n (done ++ w ∷ ws) ≡ Some (n + length done)
  first_from w ws n none_numbered h = rw h (ap Some (omega arith))
  first_from w ws n (one_numbered {word = v} {words = vs} {number = i} g all) h =
      let there : list_any (bytes_eq v) names ≡ true = known names v i g in
      rw there (first_from w ws (n + 1) all h ∙ ap Some (omega arith))

none_any : (p : List ℕ → Bool) (n : ℕ) (names : List (List ℕ)) → position_from p n names ≡ None → list_any p names ≡ false
none_any p n [] e = refl
none_any p n (x ∷ xs) e = go (p x) refl e (none_any p (n + 1) xs)
  where
    go : (b : Bool) → p x ≡ b → cond b (Some n) (position_from p (n + 1) xs) ≡ None → (position_from p (n + 1) xs ≡ None → list_any p xs ≡ false) → (p x || list_any p xs) ≡ false
    go true h e later = absurd cc
    go false h e later = rw h (later e)

module _ (names words : List (List ℕ)) (rest : List ℕ) (numbers : List ℕ) (t : Taken names words rest numbers) where
  pub taken_all : IsNoSplit rest → AreNumbered names words numbers
  taken_all n = go t.more t.rest_is t.is
    where
      go : (more : List (List ℕ)) → rest ≡ spaced more → words ≡ t.done ++ more → AreNumbered names words numbers
      go [] e h = subst (λ ws. AreNumbered names ws numbers) (sym (h ∙ append-nil t.done)) t.numbered
      go (w ∷ ws) e h = absurd (n (w ++ spaced ws) e)

  module _ (name behind : List ℕ) (s : IsSplit rest name behind) where
    first : Begins t.more name behind
    first = split_first t.more rest name behind t.named t.rest_is s

    pub taken_more : (number : ℕ) → position (bytes_eq name) names ≡ Some number → Taken names words behind (numbers ++ number ∷ [])
    taken_more number e = record {
      done = t.done ++ name ∷ [];
      more = first.later;
      is = t.is ∙ ap (λ l. t.done ++ l) first.is ∙ sym (append_assoc t.done (name ∷ []) first.later);
      named = first.names;
      rest_is = first.rest_is;
      numbered = numbered_snoc names name number (name_found name names number e) t.numbered;
    }

    module _ (missing : position (bytes_eq name) names ≡ None) where
      absent : list_any (bytes_eq name) names ≡ false
      absent = none_any (bytes_eq name) 0 names (sym (position_from-zero (bytes_eq name) names) ∙ missing)

      words_are : words ≡ t.done ++ name ∷ first.later
      words_are = t.is ∙ ap (λ l. t.done ++ l) first.is

      pub unknown_is : first_unknown names words ≡ Some (length t.done)
      unknown_is =
          let same : 0 + length t.done ≡ length t.done = omega arith in
          ap (first_unknown names) words_are ∙ position_from-zero (Unknown names) (t.done ++ name ∷ first.later) ∙ first_from names name first.later 0 t.numbered absent ∙ ap Some same

      pub unknown_at : (text line : List ℕ) (at : ℕ) → line ≡ facts_line words → at + (length line - length rest) + 1 ≡ word_start text at words (length t.done)
      unknown_at text line at h =
          let front : take (length t.done) words ≡ t.done = ap (take (length t.done)) t.is ∙ take-append_seam t.done t.more in
          let whole : spaced words ≡ spaced t.done ++ spaced t.more = ap spaced t.is ∙ flat_map-append (λ (n : List ℕ). 32 ∷ n) t.done t.more in
          let starts : word_start text at words (length t.done) ≡ at + length (facts_line t.done) + 1 = ap (λ l. at + length (facts_line l) + 1) front in
          let lines : line ≡ facts_line t.done ++ rest = h ∙ ap (λ s. facts_words ++ s) whole ∙ ap (λ r. facts_line t.done ++ r) (sym t.rest_is) in
          omega (arith, starts, ap length lines, length-append (facts_line t.done) rest)

numbered_many : {names words : List (List ℕ)} {numbers : List ℕ} → AreNumbered names words numbers → length words ≡ length numbers
numbered_many none_numbered = refl
numbered_many (one_numbered g all) = omega (arith, numbered_many all)

-- THE LINE READ

pub split_is : (text names : List ℕ) (n : ℕ) (name rest : List ℕ) → text ≡ 32 ∷ names → n ≡ prefix_len in_name names → name ≡ take n names → rest ≡ drop n names → IsSplit text name rest
split_is text names n name rest e m a b =
    let whole : name ++ rest ≡ names = ap₂ (λ x y. x ++ y) a b ∙ take-append-drop n names in
    record {
      is = e ∙ ap (λ x. 32 ∷ x) (sym whole);
      longest = ap length a ∙ ap (λ k. length (take k names)) m ∙ length-prefix_len in_name names ∙ ap (prefix_len in_name) (sym whole);
    }

module _ (text : List ℕ) (at : ℕ) (names : List (List ℕ)) (count : ℕ) where
  line_is : {line : List ℕ} (words : List (List ℕ)) {rest : List ℕ} → IsLine text at line → first_line (drop at text) ≡ Some (record { line = facts_line words; rest = rest }) → line ≡ facts_line words
  line_is words l e = ap (λ (c : Cut). c.line) (some_once l.is e)

  pub no_line_here : first_line (drop at text) ≡ None → FactsAt text names count at (fails (departs text at))
  no_line_here none = no_facts (λ rest words e a l. some_or_none e none)

  module _ (line : List ℕ) (here : IsLine text at line) where
    pub no_facts_line : HasNoNames line → FactsAt text names count at (fails (departs text at))
    no_facts_line h = no_facts (λ rest words e a l. h words a (line_is words here e))

    pub other_many : (n : ℕ) → HasNames line n → (n ≡ count → ⊥) → FactsAt text names count at (fails (departs text at))
    other_many n h d = no_facts (λ rest words e a l. d (sym h.many ∙ ap length (facts_line_once h.words words h.names a (sym h.is ∙ line_is words here e)) ∙ l))

    module _ (h : HasNames line count) where
      there : first_line (drop at text) ≡ Some (record { line = facts_line h.words; rest = drop (at + length line + 1) text })
      there = subst (λ x. first_line (drop at text) ≡ Some (record { line = x; rest = drop (at + length line + 1) text })) h.is here.is

      unknown_named : (place : Place) → (k : ℕ) × (first_unknown names h.words ≡ Some k) × (place ≡ place_of text (word_start text at h.words k)) → FactsAt text names count at (fails (UnknownName place))
      unknown_named place u = subst (λ p. FactsAt text names count at (fails (UnknownName p))) (sym u.2) (unknown_fact h.words there h.names h.many u.1)

      pub names_fail : (fault : CertFault) → NoNumbersOf text at names line fault → Gives (facts text names count) text at (Err fault)
      names_fail (UnknownName place) u = unknown_named place (u h.words h.names h.is)
      names_fail NoMemory u = tt
      names_fail fault u = elim u [ ]

      pub names_give : (numbers : List ℕ) → NumbersOf names line numbers → Gives (facts text names count) text at (Ok (numbers, at + length line + 1))
      names_give numbers g = (subst (λ x. FactsAt text names count at (gets numbers (at + length x + 1))) (sym h.is) (are_facts h.words there h.names h.many (g h.words h.names h.is)), omega (arith, here.within))

-- THE NAMES GATHERED

from_take : (names : List (List ℕ)) (i k : ℕ) (x : List ℕ) → slice_get (take i names) k ≡ Some x → slice_get names k ≡ Some x
from_take names zero k x e = absurd cc
from_take [] (suc i) k x e = absurd cc
from_take (y ∷ names) (suc i) zero x e = e
from_take (y ∷ names) (suc i) (suc k) x e = from_take names i k x e

take_next : (names : List (List ℕ)) (i : ℕ) (x : List ℕ) → slice_get names i ≡ Some x → take (suc i) names ≡ take i names ++ x ∷ []
take_next [] i x e = absurd cc
take_next (y ∷ names) zero x e = let same : y ≡ x = cc in ap (λ z. z ∷ []) same
take_next (y ∷ names) (suc i) x e = ap (λ l. y ∷ l) (take_next names i x e)

length-take-most : (i : ℕ) (names : List (List ℕ)) → length (take i names) ≤ i
length-take-most zero names = omega arith
length-take-most (suc i) [] = omega arith
length-take-most (suc i) (y ∷ names) = omega (arith, length-take-most i names)

not_yet : (names : List (List ℕ)) (i : ℕ) (x : List ℕ) → AreDistinct names → slice_get names i ≡ Some x → list_any (bytes_eq x) (take i names) ≡ false
not_yet names i x d e = go (list_any (bytes_eq x) (take i names)) refl
  where
    go : (b : Bool) → list_any (bytes_eq x) (take i names) ≡ b → b ≡ false
    go false h = refl
    go true h = let f = found x (take i names) h in absurd (omega (arith, f.1, d f.0 i x (from_take names i f.0 x f.2) e, length-take-most i names))

pub gathered_more : (names : List (List ℕ)) (i : ℕ) (x : List ℕ) (set new : List (List ℕ)) → AreDistinct names → slice_get names i ≡ Some x → set ≡ take i names → new ≡ with_name set x → new ≡ take (i + 1) names
gathered_more names i x set new d e h n =
    let fresh : list_any (bytes_eq x) set ≡ false = subst (λ s. list_any (bytes_eq x) s ≡ false) (sym h) (not_yet names i x d e) in
    let next : suc i ≡ i + 1 = omega arith in
    let added : with_name set x ≡ set ++ x ∷ [] = rw fresh refl in
    n ∙ added ∙ ap (λ s. s ++ x ∷ []) h ∙ sym (take_next names i x e) ∙ ap (λ k. take k names) next
