-- The words of a text's tokens can be spelled.
use Rattle.std.proofs.Common.{ℕ, zero, suc, ◌≡◌, ◌<◌, ◌+◌, ◌-◌, ◌==◌, ◌&&◌, ◌||◌, not, Bool, true, false, List, [], ◌∷◌, length, take, drop, slice_get, Option, Some, None, Result, Ok, Err, if◌then◌else◌, refl, sym, ap, subst, arith}
use Rattle.std.specs.Prelude.{slice_range, ◌↔◌, MatchBool}
use Rattle.std.specs.List.{list_all}
use Rattle.std.proofs.lemmas.Bool.{and_parts, and_from}
use Rattle.std.proofs.lemmas.Bool.Decides.{nat_tests}
use Rattle.uc_clause.specs.declared.token.Token.{Token}
use Rattle.uc_clause.specs.declared.token.Kind.{Kind}
use Rattle.uc_clause.specs.declared.token.Kind.TheVariants as kind
use Rattle.uc_clause.specs.declared.terminal.Terminal.{Terminal}
use Rattle.uc_clause.specs.declared.terminal.Terminal.TheVariants.{Lower, Quoted, Integer, Open, Close, OpenSquare, CloseSquare, Comma, Dot, Equal, Bar, Tilde, Star, OtherMark}
use Rattle.uc_clause.specs.declared.clause.Name.{Name}
use Rattle.uc_clause.specs.Bytes.{between, is_lower, is_word, is_plain, closes}
use Rattle.uc_clause.specs.Tokens.{spells, Cut, end, gap, token, stuck, token_at, AreTokens, bytes_of}
use Rattle.uc_clause.specs.Names.{unescaped, stands_for, IsSpellable, IsSpellableName}
use Rattle.uc_clause.specs.Terminals.{terminal_of_mark, terminal_of_kind, terminal_or_end, terminal_at, word_or_none, word_at}
use Rattle.uc_clause.specs.Meaning.{IsName}

-- BYTES

lower_byte : (b : ℕ) → is_lower b ≡ true → between 32 126 b ≡ true
lower_byte b e = grind (arith, nat_tests)

word_byte : (b : ℕ) → is_word b ≡ true → between 32 126 b ≡ true
word_byte b e = grind (arith, nat_tests)

escaped_byte : (b : ℕ) → (b == 92 || b == 39) ≡ true → between 32 126 b ≡ true
escaped_byte b e = grind (arith, nat_tests)

-- WORDS

all_word : (bs : List ℕ) → list_all is_word bs ≡ true → list_all (between 32 126) bs ≡ true
all_word [] e = refl
all_word (b ∷ bs) e =
    let p = and_parts (is_word b) (list_all is_word bs) e in
    and_from (between 32 126 b) (list_all (between 32 126) bs) (word_byte b p.0) (all_word bs p.1)

lower_spellable : (word : List ℕ) → spells kind.Lower word ≡ true → IsSpellable word
lower_spellable [] e = absurd cc
lower_spellable (b ∷ bs) e =
    let p = and_parts (is_lower b) (list_all is_word bs) e in
    (omega arith, and_from (between 32 126 b) (list_all (between 32 126) bs) (lower_byte b p.0) (all_word bs p.1))

closed_bytes : (bs : List ℕ) → closes 39 bs ≡ true → list_all (between 32 126) (unescaped bs) ≡ true
closed_bytes [] e = refl
closed_bytes (b ∷ []) e = refl
closed_bytes (b ∷ c ∷ bs) e = go (b == 92) e (closed_bytes bs) (closed_bytes (c ∷ bs))
  where
    go : (t : Bool) → (if t then (c == 92 || c == 39) && closes 39 bs else is_plain 39 b && closes 39 (c ∷ bs)) ≡ true → (closes 39 bs ≡ true → list_all (between 32 126) (unescaped bs) ≡ true) → (closes 39 (c ∷ bs) ≡ true → list_all (between 32 126) (unescaped (c ∷ bs)) ≡ true) → list_all (between 32 126) (if t then c ∷ unescaped bs else b ∷ unescaped (c ∷ bs)) ≡ true
    go true q f g =
        let p = and_parts (c == 92 || c == 39) (closes 39 bs) q in
        and_from (between 32 126 c) (list_all (between 32 126) (unescaped bs)) (escaped_byte c p.0) (f p.1)
    go false q f g =
        let p = and_parts (is_plain 39 b) (closes 39 (c ∷ bs)) q in
        and_from (between 32 126 b) (list_all (between 32 126) (unescaped (c ∷ bs))) (and_parts (between 32 126 b) (not (b == 39) && not (b == 92)) p.0).0 (g p.1)

some_bytes : (c : ℕ) (bs : List ℕ) → not (c == 39) ≡ true → closes 39 (c ∷ bs) ≡ true → 0 < length (unescaped (c ∷ bs))
some_bytes c [] n e = go (c == 39) n e
  where
    go : (t : Bool) → not t ≡ true → t ≡ true → 0 < 0
    go true p q = absurd cc
    go false p q = absurd cc
some_bytes c (d ∷ ds) n e = go (c == 92)
  where
    go : (t : Bool) → 0 < length (if t then d ∷ unescaped ds else c ∷ unescaped (d ∷ ds))
    go true = omega arith
    go false = omega arith

quoted_spellable : (word : List ℕ) → spells kind.Quoted word ≡ true → IsSpellable (stands_for kind.Quoted word)
quoted_spellable [] e = absurd cc
quoted_spellable (b ∷ []) e = absurd cc
quoted_spellable (b ∷ c ∷ bs) e =
    let p = and_parts (b == 39) (not (c == 39) && closes 39 (c ∷ bs)) e in
    let q = and_parts (not (c == 39)) (closes 39 (c ∷ bs)) p.1 in
    (some_bytes c bs q.0 q.1, closed_bytes (c ∷ bs) q.1)

-- TOKENS

abbrev IsSpelled : List ℕ → Token → Type 0
IsSpelled text t = spells t.kind (bytes_of text t) ≡ true

spelled_cons : (text : List ℕ) (t : Token) (rest : List Token) → IsSpelled text t → ((k : ℕ) (u : Token) → slice_get rest k ≡ Some u → IsSpelled text u) → (k : ℕ) (u : Token) → slice_get (t ∷ rest) k ≡ Some u → IsSpelled text u
spelled_cons text t rest h all zero u at = let same : t ≡ u = cc in subst (IsSpelled text) same h
spelled_cons text t rest h all (suc k) u at = all k u at

range_is : (text : List ℕ) (from n : ℕ) → take n (drop from text) ≡ slice_range text from (from + n)
range_is text from n = let e : n ≡ from + n - from = omega arith in ap (λ k. take k (drop from text)) e

all_spelled : {text : List ℕ} {at : ℕ} {r : Result (List Token) ℕ} → Cut text at r → (ts : List Token) → r ≡ Ok ts → (k : ℕ) (u : Token) → slice_get ts k ≡ Some u → IsSpelled text u
all_spelled {text} (end h) ts e k u at = let none : ts ≡ [] = cc in absurd (let bad : slice_get {X = Token} [] k ≡ Some u = subst (λ l. slice_get l k ≡ Some u) none at in cc)
all_spelled (gap h s cut) ts e k u at = all_spelled cut ts e k u at
all_spelled {text} {at = from} (token {n = n} {kind = which} {rest = Ok rest} h s cut) ts e k u at =
    let same : ts ≡ token_at text which from n ∷ rest = cc in
    spelled_cons text (token_at text which from n) rest (subst (λ w. spells which w ≡ true) (range_is text from n) s.spelled) (λ j v got. all_spelled cut rest refl j v got) k u (subst (λ l. slice_get l k ≡ Some u) same at)
all_spelled (token {rest = Err j} h s cut) ts e k u at = absurd cc
all_spelled (stuck h s) ts e k u at = absurd cc

-- TERMINALS

-- what can stand for a word: a functor or a file
abbrev pub IsWordTerminal : Terminal → Type 0
IsWordTerminal Lower = Unit {0}
IsWordTerminal Quoted = Unit {0}
IsWordTerminal other = ⊥

-- what can stand for the name of a clause
abbrev pub IsNameTerminal : Terminal → Type 0
IsNameTerminal Lower = Unit {0}
IsNameTerminal Quoted = Unit {0}
IsNameTerminal Integer = Unit {0}
IsNameTerminal other = ⊥

-- none of the marks is so
module _ (P : Terminal → Type 0) (opened : P Open → ⊥) (closing : P Close → ⊥) (open_square : P OpenSquare → ⊥) (close_square : P CloseSquare → ⊥) (comma : P Comma → ⊥) (dot : P Dot → ⊥) (equal : P Equal → ⊥) (bar : P Bar → ⊥) (tilde : P Tilde → ⊥) (star : P Star → ⊥) (other : P OtherMark → ⊥) where
  no_mark : (b : ℕ) → P (terminal_of_mark b) → ⊥
  no_mark b = go (b == 40) (b == 41) (b == 91) (b == 93) (b == 44) (b == 46) (b == 61) (b == 124) (b == 126) (b == 42)
    where
      go : (c d e f g h i j k l : Bool) → P (if c then Open else (if d then Close else (if e then OpenSquare else (if f then CloseSquare else (if g then Comma else (if h then Dot else (if i then Equal else (if j then Bar else (if k then Tilde else (if l then Star else OtherMark)))))))))) → ⊥
      go true d e f g h i j k l p = opened p
      go false true e f g h i j k l p = closing p
      go false false true f g h i j k l p = open_square p
      go false false false true g h i j k l p = close_square p
      go false false false false true h i j k l p = comma p
      go false false false false false true i j k l p = dot p
      go false false false false false false true j k l p = equal p
      go false false false false false false false true k l p = bar p
      go false false false false false false false false true l p = tilde p
      go false false false false false false false false false true p = star p
      go false false false false false false false false false false p = other p

word_mark : (b : ℕ) → IsWordTerminal (terminal_of_mark b) → ⊥
word_mark = no_mark IsWordTerminal (λ p. p) (λ p. p) (λ p. p) (λ p. p) (λ p. p) (λ p. p) (λ p. p) (λ p. p) (λ p. p) (λ p. p) (λ p. p)

name_mark : (b : ℕ) → IsNameTerminal (terminal_of_mark b) → ⊥
name_mark = no_mark IsNameTerminal (λ p. p) (λ p. p) (λ p. p) (λ p. p) (λ p. p) (λ p. p) (λ p. p) (λ p. p) (λ p. p) (λ p. p) (λ p. p)

word_of_kind : (k : Kind) (b : ℕ) (word : List ℕ) → spells k word ≡ true → IsWordTerminal (terminal_of_kind k b) → IsSpellable (stands_for k word)
word_of_kind kind.Lower b word s w = lower_spellable word s
word_of_kind kind.Upper b word s w = absurd w
word_of_kind kind.Quoted b word s w = quoted_spellable word s
word_of_kind kind.Distinct b word s w = absurd w
word_of_kind kind.Integer b word s w = absurd w
word_of_kind kind.Dollar b word s w = absurd w
word_of_kind kind.Unequal b word s w = absurd w
word_of_kind kind.Mark b word s w = absurd (word_mark b w)

-- a name of a token of this kind: an Integer as it is written, any other by a word
name_of_kind : (k : Kind) (b : ℕ) (word : List ℕ) (integer : Bool) → spells k word ≡ true → (integer ≡ true) ↔ (terminal_of_kind k b ≡ Integer) → IsNameTerminal (terminal_of_kind k b) → MatchBool integer (spells kind.Integer (stands_for k word) ≡ true) (IsSpellable (stands_for k word))
name_of_kind kind.Lower b word true s i n = absurd (let bad : Lower ≡ Integer = i.0 refl in cc)
name_of_kind kind.Lower b word false s i n = lower_spellable word s
name_of_kind kind.Upper b word integer s i n = absurd n
name_of_kind kind.Quoted b word true s i n = absurd (let bad : Quoted ≡ Integer = i.0 refl in cc)
name_of_kind kind.Quoted b word false s i n = quoted_spellable word s
name_of_kind kind.Distinct b word integer s i n = absurd n
name_of_kind kind.Integer b word true s i n = s
name_of_kind kind.Integer b word false s i n = absurd (let bad : false ≡ true = i.1 refl in cc)
name_of_kind kind.Dollar b word integer s i n = absurd n
name_of_kind kind.Unequal b word integer s i n = absurd n
name_of_kind kind.Mark b word integer s i n = absurd (name_mark b n)

module _ (text : List ℕ) (tokens : List Token) (are : AreTokens text tokens) where
  -- the word at a token
  pub word_spellable : (k : ℕ) → IsWordTerminal (terminal_at text tokens k) → IsSpellable (word_at text tokens k)
  word_spellable k = go (slice_get tokens k) refl
    where
      go : (o : Option Token) → slice_get tokens k ≡ o → IsWordTerminal (terminal_or_end text o) → IsSpellable (word_or_none text o)
      go None e w = absurd w
      go (Some t) e w = word_of_kind t.kind _ (bytes_of text t) (all_spelled are tokens refl k t e) w

  -- the name at a token
  pub name_spellable : (k : ℕ) (name : Name) → IsName text tokens k name → IsNameTerminal (terminal_at text tokens k) → IsSpellableName name
  name_spellable k name is n = subst (λ w. MatchBool name.integer (spells kind.Integer w ≡ true) (IsSpellable w)) (sym is.text) (go (slice_get tokens k) refl is.integer n)
    where
      go : (o : Option Token) → slice_get tokens k ≡ o → (name.integer ≡ true) ↔ (terminal_or_end text o ≡ Integer) → IsNameTerminal (terminal_or_end text o) → MatchBool name.integer (spells kind.Integer (word_or_none text o) ≡ true) (IsSpellable (word_or_none text o))
      go None e i m = absurd m
      go (Some t) e i m = name_of_kind t.kind _ (bytes_of text t) name.integer (all_spelled are tokens refl k t e) i m
