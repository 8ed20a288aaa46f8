-- The first token that names no line.
use Rattle.std.proofs.Common.{◌≡◌, ℕ, zero, suc, ◌+◌, Bool, true, false, List, [], ◌∷◌, ◌++◌, append_assoc, append-nil, refl, sym, ap, ◌∙◌, subst}
use Rattle.std.specs.Prelude.{Option, Some, None, slice_get, bytes_eq, cond, ◌||◌, position, if◌then◌else◌}
use Rattle.std.specs.List.{list_any, position_from}
use Rattle.std.specs.Cmp.Lexicographic.{bytes_decides}
use Rattle.std.proofs.lemmas.Iterator.Adapters.{position_from-zero}
use Rattle.std.proofs.lemmas.List.Quantifiers.{position-Some}
use Rattle.std.proofs.lemmas.Option.{slice_get-get_or}
use Rattle.uc_clause.specs.declared.token.Token.{Token}
use Rattle.uc_clause.specs.Terminals.{bytes_at}
use Rattle.uc_tstp.specs.declared.resolving.Unresolved.{Unresolved}
use Rattle.uc_tstp.specs.declared.resolving.Unresolved.TheVariants.{Unknown, NoMemory}
use Rattle.uc_tstp.specs.Meaning.{IsNamed, AreNamed, none_named, one_named}
use Rattle.uc_tstp.specs.Reading.{first_unknown}
use Rattle.uc_tstp.specs.Resolving.{Lacks}

pub name_found : (b : List ℕ) (names : List (List ℕ)) (i : ℕ) → position (bytes_eq b) names ≡ Some i → slice_get names i ≡ Some b
name_found b names i e =
    let p = position-Some (bytes_eq b) names i [] e in
    slice_get-get_or names i [] p.0 ∙ ap Some (sym ((bytes_decides b _).0 p.1))

none_from : (b : List ℕ) (n : ℕ) (names : List (List ℕ)) → position_from (bytes_eq b) n names ≡ None → list_any (bytes_eq b) names ≡ false
none_from b n [] e = refl
none_from b n (x ∷ names) e = go (λ f. none_from b (n + 1) names f) (bytes_eq b x) e
  where
    go : (position_from (bytes_eq b) (n + 1) names ≡ None → list_any (bytes_eq b) names ≡ false) → (r : Bool) → cond r (Some n) (position_from (bytes_eq b) (n + 1) names) ≡ None → (r || list_any (bytes_eq b) names) ≡ false
    go rest true f = absurd cc
    go rest false f = rest f

pub name_not_found : (b : List ℕ) (names : List (List ℕ)) → position (bytes_eq b) names ≡ None → list_any (bytes_eq b) names ≡ false
name_not_found b names e = none_from b 0 names (sym (position_from-zero (bytes_eq b) names) ∙ e)

pub name_among : (b : List ℕ) (names : List (List ℕ)) (i : ℕ) → slice_get names i ≡ Some b → list_any (bytes_eq b) names ≡ true
name_among b [] i e = absurd cc
name_among b (x ∷ names) zero e = let same : x ≡ b = cc in rw (same, (bytes_decides b b).1 refl) refl
name_among b (x ∷ names) (suc i) e = go (name_among b names i e) (bytes_eq b x)
  where
    go : list_any (bytes_eq b) names ≡ true → (r : Bool) → (r || list_any (bytes_eq b) names) ≡ true
    go rest true = refl
    go rest false = rest

module _ (bytes : List ℕ) (tokens : List Token) (names : List (List ℕ)) where
  abbrev unknown : List ℕ → Option ℕ
  unknown ks = first_unknown bytes tokens names ks

  pub unknown_one : (k : ℕ) → list_any (bytes_eq (bytes_at bytes tokens k)) names ≡ false → unknown (k ∷ []) ≡ Some k
  unknown_one k e = rw e refl

  pub known_one : (k n : ℕ) → IsNamed bytes tokens names k n → unknown (k ∷ []) ≡ None
  known_one k n h = rw (name_among (bytes_at bytes tokens k) names n h) refl

  pub unknown_more : (ks ls : List ℕ) → unknown ks ≡ None → unknown (ks ++ ls) ≡ unknown ls
  unknown_more [] ls e = refl
  unknown_more (k ∷ ks) ls e = go (λ f. unknown_more ks ls f) (list_any (bytes_eq (bytes_at bytes tokens k)) names) e
    where
      go : (unknown ks ≡ None → unknown (ks ++ ls) ≡ unknown ls) → (r : Bool) → (if r then unknown ks else Some k) ≡ None → (if r then unknown (ks ++ ls) else Some k) ≡ unknown ls
      go rest true f = rest f
      go rest false f = absurd cc

  unknown_first : (ks ls : List ℕ) (j : ℕ) → unknown ks ≡ Some j → unknown (ks ++ ls) ≡ Some j
  unknown_first [] ls j e = absurd cc
  unknown_first (k ∷ ks) ls j e = go (λ f. unknown_first ks ls j f) (list_any (bytes_eq (bytes_at bytes tokens k)) names) e
    where
      go : (unknown ks ≡ Some j → unknown (ks ++ ls) ≡ Some j) → (r : Bool) → (if r then unknown ks else Some k) ≡ Some j → (if r then unknown (ks ++ ls) else Some k) ≡ Some j
      go rest true f = rest f
      go rest false f = f

  pub known_all : {ks numbers : List ℕ} → AreNamed bytes tokens names ks numbers → unknown ks ≡ None
  known_all none_named = refl
  known_all (one_named {k = k} {number = n} {ks = ks} h all) = unknown_more (k ∷ []) ks (known_one k n h) ∙ known_all all

  pub lacks_first : (ks ls : List ℕ) (e : Unresolved) → Lacks bytes tokens names ks e → Lacks bytes tokens names (ks ++ ls) e
  lacks_first ks ls (Unknown j) h = unknown_first ks ls j h
  lacks_first ks ls NoMemory h = tt

  pub lacks_more : (ks ls : List ℕ) (e : Unresolved) → unknown ks ≡ None → Lacks bytes tokens names ls e → Lacks bytes tokens names (ks ++ ls) e
  lacks_more ks ls (Unknown j) none h = unknown_more ks ls none ∙ h
  lacks_more ks ls NoMemory none h = tt

  -- whatever the rest is resolved to, with what is done all is resolved to; and what the rest lacks all lack
  pub record Ahead {D S : Type 0} (Resolves : List D → List S → Type 0) (mention : List D → List ℕ) (all : List D) (done : List S) (rest : List D) : Type 0 where
    pub comes_to : (more : List S) → Resolves rest more → Resolves all (done ++ more)
    pub lacks : (e : Unresolved) → Lacks bytes tokens names (mention rest) e → Lacks bytes tokens names (mention all) e

  module _ {D S : Type 0} (Resolves : List D → List S → Type 0) (mention : List D → List ℕ) (all : List D) where
    pub ahead_all : (done : List S) → Ahead Resolves mention all done [] → Resolves [] [] → Resolves all done
    ahead_all done ahead h = subst (Resolves all) (append-nil done) (ahead.comes_to [] h)

    pub ahead_more : (done : List S) (d : D) (rest : List D) (s : S) → Ahead Resolves mention all done (d ∷ rest) → ((more : List S) → Resolves rest more → Resolves (d ∷ rest) (s ∷ more)) → ((e : Unresolved) → Lacks bytes tokens names (mention rest) e → Lacks bytes tokens names (mention (d ∷ rest)) e) → Ahead Resolves mention all (done ++ s ∷ []) rest
    ahead_more done d rest s ahead one known = record {
      comes_to = λ more h. subst (Resolves all) (sym (append_assoc done (s ∷ []) more)) (ahead.comes_to (s ∷ more) (one more h));
      lacks = λ e h. ahead.lacks e (known e h);
    }
