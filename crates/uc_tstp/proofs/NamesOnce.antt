-- The names of the lines that are read are all different.
use Rattle.std.proofs.Common.{◌≡◌, ℕ, zero, suc, List, [], ◌∷◌, refl, sym, ap, subst, false}
use Rattle.std.specs.Prelude.{bytes_eq, slice_get, Some}
use Rattle.std.specs.List.{list_any}
use Rattle.std.specs.Cmp.Lexicographic.{bytes_decides}
use Rattle.std.proofs.lemmas.Bool.{or_parts}
use Rattle.uc_clause.specs.declared.token.Token.{Token}
use Rattle.uc_clause.specs.Terminals.{bytes_at}
use Rattle.uc_clause.specs.Rules.{Outcome, read, stop, Rule, Then, goes_on, stops_first, gives}
use Rattle.uc_clause.specs.Distinct.{AreDistinct}
use Rattle.uc_clause.proofs.MeansOnce.{none_distinct}
use Rattle.uc_tstp.specs.Parse.{Line}
use Rattle.uc_tstp.specs.Lines as lines
use Rattle.uc_tstp.specs.declared.scope.Scope.{Scope}
use Rattle.uc_tstp.specs.Lines.{LineName, is_new, is_repeated, is_no_line_name, LinesAt, is_no_line, has_line, has_foreign_line, stops_in_line}
use Rattle.uc_tstp.specs.Meaning.{names_of}
use Rattle.uc_tstp.proofs.Outcomes.{yes_or_no}

-- what holds of the value, if one is read
abbrev IfRead : {V : Type 0} → (V → Type 0) → Outcome V → Type 0
IfRead P (read v end) = P v
IfRead P (stop why k) = Unit {0}

-- what holds of each value that a rule reads
abbrev Always : {V : Type 0} → Rule V → (V → Type 0) → Type 0
Always {V} rule P = (at : ℕ) (o : Outcome V) → rule at o → IfRead P o

always_after : {V W : Type 0} (first : Rule V) (next : V → Rule W) (Q : V → Type 0) (P : W → Type 0) → Always first Q → ((v : V) → Q v → Always (next v) P) → Always (Then first next) P
always_after first next Q P one two at o (goes_on {v = v} {middle = m} x n) = two v (one at (read v m) x) m o n
always_after first next Q P one two at o (stops_first x) = tt

always_then : {V W : Type 0} (first : Rule V) (next : V → Rule W) (P : W → Type 0) → ((v : V) → Always (next v) P) → Always (Then first next) P
always_then first next P two at o (goes_on {v = v} {middle = m} x n) = two v m o n
always_then first next P two at o (stops_first x) = tt

always_gives : {V : Type 0} (v : V) (P : V → Type 0) → P v → Always (gives v) P
always_gives v P p at o e = subst (IfRead P) (sym e) p

module _ (bytes : List ℕ) (tokens : List Token) where
  -- a name that none of these is
  abbrev IsNew : List (List ℕ) → ℕ → Type 0
  IsNew earlier k = list_any (bytes_eq (bytes_at bytes tokens k)) earlier ≡ false

  name_is_new : (earlier : List (List ℕ)) → Always (lines.line_name bytes tokens earlier) (IsNew earlier)
  name_is_new earlier at o (is_new e x) = x
  name_is_new earlier at o (is_repeated e x) = tt
  name_is_new earlier at o (is_no_line_name n) = tt

  rest_has_name : (earlier : List (List ℕ)) (name : ℕ) → IsNew earlier name → Always (lines.rest_of_line bytes tokens name) (λ l. IsNew earlier l.name)
  rest_has_name earlier name new = always_then _ _ _ (λ first. always_then _ _ _ (λ body. always_then _ _ _ (λ a. always_then _ _ _ (λ source. always_then _ _ _ (λ b. always_then _ _ _ (λ c. always_gives _ (λ (l : Line). IsNew earlier l.name) new))))))

  line_is_new : (earlier : List (List ℕ)) → Always (lines.line bytes tokens earlier) (λ l. IsNew earlier l.name)
  line_is_new earlier = always_then _ _ _ (λ a. always_then _ _ _ (λ b. always_after (lines.line_name bytes tokens earlier) _ (IsNew earlier) _ (name_is_new earlier) (λ name new. always_then _ _ _ (λ c. always_then _ _ _ (λ d. always_then _ _ _ (λ e. rest_has_name earlier name new))))))

  -- names that are all different, and none of these
  record AreNew (earlier names : List (List ℕ)) : Type 0 where
    new : (i : ℕ) (x : List ℕ) → slice_get names i ≡ Some x → list_any (bytes_eq x) earlier ≡ false
    different : AreDistinct names

  none_new : (earlier : List (List ℕ)) → AreNew earlier []
  none_new earlier = record { new = λ i x e. absurd cc; different = none_distinct }

  one_more : (earlier names : List (List ℕ)) (name : List ℕ) → list_any (bytes_eq name) earlier ≡ false → AreNew (name ∷ earlier) names → AreNew earlier (name ∷ names)
  one_more earlier names name first rest = record { new = new; different = different }
    where
      new : (i : ℕ) (x : List ℕ) → slice_get (name ∷ names) i ≡ Some x → list_any (bytes_eq x) earlier ≡ false
      new zero x e = let same : name ≡ x = cc in subst (λ n. list_any (bytes_eq n) earlier ≡ false) same first
      new (suc i) x e = (or_parts (bytes_eq x name) (list_any (bytes_eq x) earlier) (rest.new i x e)).1

      apart : (i : ℕ) (x : List ℕ) → name ≡ x → slice_get names i ≡ Some x → ⊥
      apart i x same e = yes_or_no ((bytes_decides x name).1 (sym same)) (or_parts (bytes_eq x name) (list_any (bytes_eq x) earlier) (rest.new i x e)).0

      different : AreDistinct (name ∷ names)
      different zero zero x e f = refl
      different zero (suc j) x e f = absurd (apart j x (let same : name ≡ x = cc in same) f)
      different (suc i) zero x e f = absurd (apart i x (let same : name ≡ x = cc in same) e)
      different (suc i) (suc j) x e f = ap suc (rest.different i j x e f)

  lines_are_new : (which : Scope) {earlier : List (List ℕ)} {at : ℕ} {o : Outcome (List Line)} → LinesAt bytes tokens which earlier at o → IfRead (λ ls. AreNew earlier (names_of bytes tokens ls)) o
  lines_are_new which {earlier} (is_no_line e) = none_new earlier
  lines_are_new which {earlier} {at} (has_line {middle = m} {l = l} {outcome = read ls end} n x b r) = one_more earlier (names_of bytes tokens ls) (bytes_at bytes tokens l.name) (line_is_new earlier at (read l m) x) (lines_are_new which r)
  lines_are_new which (has_line {outcome = stop why k} n x b r) = tt
  lines_are_new which (has_foreign_line n x b) = tt
  lines_are_new which (stops_in_line n x) = tt

  pub names_different : (which : Scope) {at end : ℕ} {ls : List Line} → LinesAt bytes tokens which [] at (read ls end) → AreDistinct (names_of bytes tokens ls)
  names_different which x = (lines_are_new which x).different
