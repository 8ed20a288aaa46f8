-- What a token stands for, and how a name is spelled.
use Rattle.std.specs.Prelude.{◌≡◌, ℕ, ◌<◌, ◌==◌, ◌||◌, true, List, [], ◌∷◌, ◌++◌, length, if◌then◌else◌, MatchBool}
use Rattle.std.specs.List.{list_all}
use Rattle.uc_clause.specs.declared.token.Kind.{Kind}
use Rattle.uc_clause.specs.declared.token.Kind.TheVariants.{Lower, Quoted, Integer}
use Rattle.uc_clause.specs.declared.token.Token.{Token}
use Rattle.uc_clause.specs.declared.clause.Name.{Name}
use Rattle.uc_clause.specs.Bytes.{between, is_name}
use Rattle.uc_clause.specs.Tokens.{spells, bytes_of}

-- the bytes that pieces stand for, which the closing quote ends: behind a `\` the next byte stands for itself
abbrev pub unescaped : List ℕ → List ℕ
unescaped [] = []
unescaped (b ∷ []) = []
unescaped (b ∷ c ∷ bs) = if b == 92 then c ∷ unescaped bs else b ∷ unescaped (c ∷ bs)

-- what a spelling of this kind stands for: a quoted one for its pieces without quotes, any other for itself
abbrev pub stands_for : Kind → List ℕ → List ℕ
stands_for Quoted (q ∷ bs) = unescaped bs
stands_for kind bytes = bytes

-- the word that this token of the text stands for
abbrev pub word_of : List ℕ → Token → List ℕ
word_of text t = stands_for t.kind (bytes_of text t)

-- a word that a token can spell, quoted or not: one or more bytes 32 to 126
abbrev pub IsSpellable : List ℕ → Type 0
IsSpellable word = (0 < length word) × (list_all (between 32 126) word ≡ true)

-- the pieces that stand for these bytes: a `'` or `\` with a `\` before it
abbrev pub escaped : List ℕ → List ℕ
escaped [] = []
escaped (b ∷ bs) = if b == 92 || b == 39 then 92 ∷ b ∷ escaped bs else b ∷ escaped bs

abbrev pub quoted : List ℕ → List ℕ
quoted word = 39 ∷ escaped word ++ 39 ∷ []

-- a word as it is printed: bare where that is a Lower, else in quotes
abbrev pub spelling : List ℕ → List ℕ
spelling word = if is_name word then word else quoted word

-- the kind of the token that a word is printed as
abbrev pub kind_of_word : List ℕ → Kind
kind_of_word word = if is_name word then Lower else Quoted

-- a name that a token can spell
abbrev pub IsSpellableName : Name → Type 0
IsSpellableName name = MatchBool name.integer (spells Integer name.text ≡ true) (IsSpellable name.text)

-- a name as it is printed: an integer as it was written, any other as a word
abbrev pub name_spelling : Name → List ℕ
name_spelling name = if name.integer then name.text else spelling name.text
