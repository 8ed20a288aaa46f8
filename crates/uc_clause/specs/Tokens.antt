-- What a text is as tokens with white space and comments between them.
use Rattle.std.specs.Prelude.{◌≡◌, ℕ, ◌+◌, ◌≤◌, ◌<◌, ◌==◌, ◌&&◌, ◌||◌, not, Bool, true, false, List, [], ◌∷◌, length, take, drop, count_by, slice_range, Result, Ok, Err}
use Rattle.std.specs.List.{list_all, suffix_len}
use Rattle.uc_clause.specs.declared.token.Kind.{Kind}
use Rattle.uc_clause.specs.declared.token.Kind.TheVariants.{Lower, Upper, Quoted, Distinct, Integer, Dollar, Unequal, Mark}
use Rattle.uc_clause.specs.declared.token.Place.{Place}
use Rattle.uc_clause.specs.declared.token.Token.{Token}
use Rattle.uc_clause.specs.declared.fault.TokenFault.{TokenFault}
use Rattle.uc_clause.specs.declared.fault.TokenFault.TheVariants.{Syntax, NoMemory}
use Rattle.uc_clause.specs.Bytes.{is_upper, is_sign, is_word, is_name, is_digits, is_mark, closes, is_gap, opens_block, in_line}

-- how a token of each kind is spelled
abbrev pub spells : Kind → List ℕ → Bool
spells Lower (b ∷ bs) = is_name (b ∷ bs)
spells Upper (b ∷ bs) = is_upper b && list_all is_word bs
spells Quoted (b ∷ c ∷ bs) = (b == 39) && (not (c == 39) && closes 39 (c ∷ bs))
spells Distinct (b ∷ bs) = (b == 34) && closes 34 bs
spells Integer (b ∷ bs) = (is_sign b && is_digits bs) || is_digits (b ∷ bs)
spells Dollar (b ∷ c ∷ bs) = (b == 36) && (is_name (c ∷ bs) || ((c == 36) && is_name bs))
spells Unequal (b ∷ c ∷ []) = (b == 33) && (c == 61)
spells Mark (b ∷ []) = is_mark b
spells kind text = false

-- the first n bytes of the text are a token of this kind, no token that begins there is longer, and no comment begins there
pub record Stands (text : List ℕ) (kind : Kind) (n : ℕ) : Type 0 where
  pub within : n ≤ length text
  pub spelled : spells kind (take n text) ≡ true
  pub longest : (other : Kind) (m : ℕ) → m ≤ length text → spells other (take m text) ≡ true → m ≤ n
  pub no_block : opens_block text ≡ false

-- the first n bytes of the text are white space or a comment, and none that begins there is longer
pub record Skips (text : List ℕ) (n : ℕ) : Type 0 where
  pub within : n ≤ length text
  pub spelled : is_gap (take n text) ≡ true
  pub longest : (m : ℕ) → m ≤ length text → is_gap (take m text) ≡ true → m ≤ n

-- neither white space nor a comment begins the text, nor, if `/*` doesn't begin it, a token
pub record Stuck (text : List ℕ) : Type 0 where
  pub no_gap : (n : ℕ) → n ≤ length text → is_gap (take n text) ≡ false
  pub no_token : opens_block text ≡ false → (kind : Kind) (n : ℕ) → n ≤ length text → spells kind (take n text) ≡ false

-- the place behind these bytes: lines and columns are counted from 1, a line ends at a line feed, a column is a byte
abbrev pub place_behind : List ℕ → Place
place_behind front = record { line = 1 + count_by (λ b. b == 10) front; column = 1 + suffix_len in_line front }

-- the place of the byte at this index of the text
abbrev pub place_of : List ℕ → ℕ → Place
place_of text at = place_behind (take at text)

-- the token of this kind at these bytes of the text
abbrev pub token_at : List ℕ → Kind → ℕ → ℕ → Token
token_at text kind from n = record { kind = kind; from = from; to = from + n; place = place_of text from }

-- a token before the others, where there are others
abbrev pub onto : Token → Result (List Token) ℕ → Result (List Token) ℕ
onto t (Ok ts) = Ok (t ∷ ts)
onto t (Err k) = Err k

-- From this byte on the text is these tokens, with white space and comments between, or it is so up to byte k, where
-- neither begins.
pub data Cut (text : List ℕ) : ℕ → Result (List Token) ℕ → Type 0 where
  end : {at : ℕ} → length text ≤ at → Cut text at (Ok [])
  gap : {at n : ℕ} {rest : Result (List Token) ℕ} → at < length text → Skips (drop at text) n → Cut text (at + n) rest → Cut text at rest
  token : {at n : ℕ} {kind : Kind} {rest : Result (List Token) ℕ} → at < length text → Stands (drop at text) kind n → Cut text (at + n) rest → Cut text at (onto (token_at text kind at n) rest)
  stuck : {at : ℕ} → at < length text → Stuck (drop at text) → Cut text at (Err at)

-- the text is these tokens
abbrev pub AreTokens : List ℕ → List Token → Type 0
AreTokens text ts = Cut text 0 (Ok ts)

-- the text is no tokens, and this is the place of the first byte that begins none
abbrev pub StopsAt : List ℕ → Place → Type 0
StopsAt text place = (k : ℕ) × Cut text 0 (Err k) × (place ≡ place_of text k)

-- A text is refused at the first byte that begins no token.
abbrev pub IsRefused : List ℕ → TokenFault → Type 0
IsRefused text (Syntax place) = StopsAt text place
IsRefused text NoMemory = Unit {0}

-- the token's bytes
abbrev pub bytes_of : List ℕ → Token → List ℕ
bytes_of text t = slice_range text t.from t.to

-- the token is one or more bytes of the text
abbrev pub IsWithin : List ℕ → Token → Type 0
IsWithin text t = (t.from < t.to) × (t.to ≤ length text)

-- From this byte on the tokens stand one behind the other in the text, each with its kind's spelling, in its place.
abbrev pub Spans : List ℕ → ℕ → List Token → Type 0
Spans text at [] = Unit {0}
Spans text at (t ∷ ts) = (at ≤ t.from) × (t.from < t.to) × (t.to ≤ length text) × (spells t.kind (bytes_of text t) ≡ true) × (t.place ≡ place_of text t.from) × Spans text t.to ts
