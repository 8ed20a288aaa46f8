-- What a parse says stays the same when the table or the list of variables grows.
use Rattle.std.proofs.Common.{◌≡◌, ℕ, ◌+◌, List, [], ◌∷◌, ◌++◌, length, length-append, refl, sym, ap, ◌∙◌, arith, append-nil, append_assoc, Bool, true, false}
use Rattle.std.specs.Prelude.{bytes_eq, if◌then◌else◌}
use Rattle.std.specs.List.{list_any}
use Rattle.uc_term.specs.Tree.{Tree, Trees, none, more, count}
use Rattle.uc_term.specs.Flat.{flat, flat_all}
use Rattle.uc_term.specs.Table.{Table, Grows}
use Rattle.uc_clause.specs.declared.token.Token.{Token}
use Rattle.uc_clause.specs.Terminals.{word_at}
use Rattle.uc_clause.specs.Parse.{Parse, Parses, no_more, also, leaves, leaves_all, variables, variables_all, count_all, size, size_all}
use Rattle.uc_clause.specs.Meaning.{Variables, with_name, with_names, Means, MeanAll, variable_means, functor_means, none_mean, more_mean}
use Rattle.uc_clause.proofs.Tables.{get_within, symbol_grows}

-- the old names stand in front of the new ones
abbrev pub Extends : Variables → Variables → Type 0
Extends old new = (tail : Variables) × (new ≡ old ++ tail)

pub extends_not : (seen : Variables) → Extends seen seen
extends_not seen = ([], sym (append-nil seen))

pub extends_twice : (a b c : Variables) → Extends a b → Extends b c → Extends a c
extends_twice a b c g h = (g.0 ++ h.0, h.1 ∙ ap (λ t. t ++ h.0) g.1 ∙ append_assoc a g.0 h.0)

pub with_name_extends : (seen : Variables) (x : List ℕ) → Extends seen (with_name seen x)
with_name_extends seen x = go (list_any (bytes_eq x) seen)
  where
    go : (b : Bool) → Extends seen (if b then seen else seen ++ x ∷ [])
    go true = extends_not seen
    go false = (x ∷ [], refl)

pub with_names_extends : (seen : Variables) (xs : List (List ℕ)) → Extends seen (with_names seen xs)
with_names_extends seen [] = extends_not seen
with_names_extends seen (x ∷ xs) = extends_twice seen (with_name seen x) (with_names (with_name seen x) xs) (with_name_extends seen x) (with_names_extends (with_name seen x) xs)

pub with_names_both : (seen : Variables) (xs ys : List (List ℕ)) → with_names seen (xs ++ ys) ≡ with_names (with_names seen xs) ys
with_names_both seen [] ys = refl
with_names_both seen (x ∷ xs) ys = with_names_both (with_name seen x) xs ys

module _ (bytes : List ℕ) (tokens : List Token) (old new : Table) (seen more_seen : Variables) (grows : Grows old new) (extends : Extends seen more_seen) where
  mutual
    pub means_grows : {p : Parse} {t : Tree} → Means bytes tokens old seen p t → Means bytes tokens new more_seen p t
    means_grows (variable_means {k = k} {n = n} at) = variable_means (rw extends.1 (get_within seen extends.0 n _ at))
    means_grows (functor_means {k = k} {f = f} {ts = ts} s all) = functor_means (symbol_grows old new f (word_at bytes tokens k) (count ts) grows s) (mean_all_grows all)

    pub mean_all_grows : {ps : Parses} {ts : Trees} → MeanAll bytes tokens old seen ps ts → MeanAll bytes tokens new more_seen ps ts
    mean_all_grows none_mean = none_mean
    mean_all_grows (more_mean m all) = more_mean (means_grows m) (mean_all_grows all)

-- as many nodes
mutual
  pub size_means : {bytes : List ℕ} {tokens : List Token} {table : Table} {seen : Variables} {p : Parse} {t : Tree} → Means bytes tokens table seen p t → length (flat t) ≡ size p
  size_means (variable_means at) = refl
  size_means (functor_means s all) = omega (arith, size_mean_all all)

  pub size_mean_all : {bytes : List ℕ} {tokens : List Token} {table : Table} {seen : Variables} {ps : Parses} {ts : Trees} → MeanAll bytes tokens table seen ps ts → length (flat_all ts) ≡ size_all ps
  size_mean_all none_mean = refl
  size_mean_all (more_mean {t = t} {ts = ts} m all) = omega (arith, size_means m, size_mean_all all, length-append (flat t) (flat_all ts))

pub count_mean_all : {bytes : List ℕ} {tokens : List Token} {table : Table} {seen : Variables} {ps : Parses} {ts : Trees} → MeanAll bytes tokens table seen ps ts → count ts ≡ count_all ps
count_mean_all none_mean = refl
count_mean_all (more_mean m all) = omega (arith, count_mean_all all)

-- the parses, and then the others
abbrev pub append : Parses → Parses → Parses
append no_more qs = qs
append (also p ps) qs = also p (append ps qs)

abbrev pub append_trees : Trees → Trees → Trees
append_trees none us = us
append_trees (more t ts) us = more t (append_trees ts us)

pub append_also : (ps qs : Parses) (p : Parse) → append (append ps (also p no_more)) qs ≡ append ps (also p qs)
append_also no_more qs p = refl
append_also (also q ps) qs p = ap (also q) (append_also ps qs p)

pub count_append : (ps qs : Parses) → count_all (append ps qs) ≡ count_all ps + count_all qs
count_append no_more qs = omega arith
count_append (also p ps) qs = omega (arith, count_append ps qs)

pub count_trees_append : (ts us : Trees) → count (append_trees ts us) ≡ count ts + count us
count_trees_append none us = omega arith
count_trees_append (more t ts) us = omega (arith, count_trees_append ts us)

pub leaves_append : (ps qs : Parses) → leaves_all (append ps qs) ≡ leaves_all ps ++ leaves_all qs
leaves_append no_more qs = refl
leaves_append (also p ps) qs = ap (λ ks. leaves p ++ ks) (leaves_append ps qs) ∙ sym (append_assoc (leaves p) (leaves_all ps) (leaves_all qs))

pub variables_append : (ps qs : Parses) → variables_all (append ps qs) ≡ variables_all ps ++ variables_all qs
variables_append no_more qs = refl
variables_append (also p ps) qs = ap (λ ks. variables p ++ ks) (variables_append ps qs) ∙ sym (append_assoc (variables p) (variables_all ps) (variables_all qs))

pub flat_append : (ts us : Trees) → flat_all (append_trees ts us) ≡ flat_all ts ++ flat_all us
flat_append none us = refl
flat_append (more t ts) us = ap (λ ns. flat t ++ ns) (flat_append ts us) ∙ sym (append_assoc (flat t) (flat_all ts) (flat_all us))

pub mean_append : {bytes : List ℕ} {tokens : List Token} {table : Table} {seen : Variables} {ps qs : Parses} {ts us : Trees} → MeanAll bytes tokens table seen ps ts → MeanAll bytes tokens table seen qs us → MeanAll bytes tokens table seen (append ps qs) (append_trees ts us)
mean_append none_mean others = others
mean_append (more_mean m all) others = more_mean m (mean_append all others)
